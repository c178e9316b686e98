-- The vectors of terms: the ids of their values at the tests of a signature's pools.
use Rattle.std.specs.Prelude.{◌≡◌, ℕ, ◌+◌, ◌<◌, List, [], length, map, Option, Some, None, Vec, slice_get, slice_index_or}
use Rattle.std.specs.declared.alloc.Global.{Global}
use Rattle.law_sig.specs.Lists.{In, Each}
use Rattle.law_sig.specs.Signature.{sort_of}
use Rattle.law_sig.specs.declared.tree.SortId.{SortId}
use Rattle.law_sig.specs.declared.tree.SymId.{SymId}
use Rattle.law_sig.specs.declared.tree.Tree.{Tree}
use Rattle.law_sig.specs.declared.tree.Tree.TheVariants.{App}
use Rattle.law_sig.specs.declared.parts.Equation.{Equation}
use Rattle.law_sig.specs.declared.parts.SigParts.{SigParts}
use Rattle.law_ids.specs.declared.ids.ValueId.{ValueId}
use Rattle.law_ids.specs.Values.{IsOf, tree_of}
use Rattle.law_testing.specs.Values.{IsValue, Both, tests_by, val_by}
use Rattle.law_explore.specs.Refusals.{Refusal}
use Rattle.law_explore.specs.Refusals.Refusal.{Over}

-- the term has no value at the test
abbrev pub IsLacking : SigParts → Tree → ℕ → Refusal → Type 0
IsLacking parts t test r = (r ≡ Over t test) × (val_by parts test t ≡ None)

-- both sides have a value at the test, and the same one
pub record HoldsAt (parts : SigParts) (e : Equation) (test : ℕ) : Type 0 where
  pub value : Tree
  pub left : val_by parts test e.left ≡ Some value
  pub right : val_by parts test e.right ≡ Some value

-- a value of the bank that is this one
pub record IsMadeIn (value : Option Tree) (bank : List Tree) (v : ValueId) : Type 0 where
  pub held : IsOf bank v
  pub is : value ≡ Some (tree_of bank v)

-- Vectors

abbrev pub id_of : ℕ → ValueId
id_of number = record { 0 = number }

abbrev pub id_in : List ℕ → ℕ → ValueId
id_in numbers at = id_of (slice_index_or numbers at 0)

-- the ids of the term's values at the first so many tests
pub record AreIds (parts : SigParts) (bank : List Tree) (t : Tree) (tests : ℕ) (ids : List ℕ) : Type 0 where
  pub one_each : length ids ≡ tests
  pub values : (test : ℕ) → test < tests → IsValue parts bank test t (id_in ids test)

-- the ids of its values at all tests, and then its sort
pub record IsVector (parts : SigParts) (bank : List Tree) (t : Tree) (vector : List ℕ) : Type 0 where
  pub long : length vector ≡ tests_by parts + 1
  pub values : (test : ℕ) → test < tests_by parts → IsValue parts bank test t (id_in vector test)
  pub sort : SortId
  pub sorted : sort_of parts t ≡ Some sort
  pub last : slice_index_or vector (tests_by parts) 0 ≡ sort.0

abbrev pub items_of : List (Vec ℕ Global) → List (List ℕ)
items_of vectors = map (λ v. v.items) vectors

-- Classes of terms: each is known by the place of its vector

-- the vector at the place is the term's
pub record HasVector (parts : SigParts) (bank : List Tree) (vectors : List (Vec ℕ Global)) (t : Tree) (class : ℕ) : Type 0 where
  pub vector : Vec ℕ Global
  pub there : slice_get vectors class ≡ Some vector
  pub is : IsVector parts bank t vector.items

-- the arguments of the term have these classes
abbrev pub HasArgVectors : SigParts → List Tree → List (Vec ℕ Global) → Tree → List ℕ → Type 0
HasArgVectors parts bank vectors t classes = (f : SymId) (args : List Tree) → t ≡ App f args → Both (HasVector parts bank vectors) args classes

-- Classes in a list of terms, the first of which have one each

abbrev pub StandsAt : List Tree → Tree → ℕ → Type 0
StandsAt terms t place = slice_get terms place ≡ Some t

-- the term stands in the list, where terms have a class
pub record IsPlaced (terms : List Tree) (classes : List ℕ) (t : Tree) : Type 0 where
  pub there : In t terms
  pub within : (place : ℕ) → StandsAt terms t place → place < length classes

-- the class at a place of the term
pub record HasClass (terms : List Tree) (classes : List ℕ) (t : Tree) (class : ℕ) : Type 0 where
  pub place : ℕ
  pub stands : StandsAt terms t place
  pub is : slice_get classes place ≡ Some class

-- the same for the arguments of a term
abbrev pub AreArgsPlaced : List Tree → List ℕ → Tree → Type 0
AreArgsPlaced terms classes t = (f : SymId) (args : List Tree) → t ≡ App f args → Each (IsPlaced terms classes) args

abbrev pub HasArgClasses : List Tree → List ℕ → Tree → List ℕ → Type 0
HasArgClasses terms classes t found = (f : SymId) (args : List Tree) → t ≡ App f args → Both (HasClass terms classes) args found

-- Values of classes

-- the ids of these classes at a test
abbrev pub id_at : List (Vec ℕ Global) → ℕ → ℕ → ValueId
id_at vectors test class = id_in (slice_index_or (items_of vectors) class []) test

abbrev pub ids_at : List (Vec ℕ Global) → ℕ → List ℕ → List ValueId
ids_at vectors test classes = map (id_at vectors test) classes

-- a class and a test that there are
pub record IsRead (vectors : List (Vec ℕ Global)) (test class : ℕ) : Type 0 where
  pub vector : Vec ℕ Global
  pub there : slice_get vectors class ≡ Some vector
  pub within : test < length vector.items
