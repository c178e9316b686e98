-- The trees of a certificate.
use Rattle.std.specs.Prelude.{◌≡◌, ℕ, ◌<◌, ◌↔◌, List, map, Option, Some, option_and_then}
use Rattle.law_sig.specs.Lists.{In, Each, Rising, AreDistinct, numbered}
use Rattle.law_sig.specs.Trees.{schema_of, joined}
use Rattle.law_sig.specs.Signature.{sort_of}
use Rattle.law_sig.specs.Tests.{Pools, test_count, IsFlat, val}
use Rattle.law_sig.specs.declared.tree.SortId.{SortId}
use Rattle.law_sig.specs.declared.tree.Tree.{Tree}
use Rattle.law_sig.specs.declared.parts.SigParts.{SigParts}
use Rattle.law_valid.specs.declared.certificate.Class.{Class}
use Rattle.law_valid.specs.declared.certificate.Entry.{Entry}
use Rattle.law_valid.specs.declared.certificate.SortTree.{SortTree}
use Rattle.law_valid.specs.Stated.{stated, spread_at, live_at}
use Rattle.law_valid.specs.Splits.{Cut, leaves_of, cuts_of, tests_of, Tells}

-- Numbers of spread schemas and of live terms

-- the number of an item with the property
abbrev pub IsNumberOf : {A : Type 0} → List A → (A → Type 0) → ℕ → Type 0
IsNumberOf {A} xs P n = (x : A) × (numbered xs n ≡ Some x) × P x

-- exactly the numbers of the items with the property, each once
pub record AreNumbersOf {A : Type 0} (xs : List A) (P : A → Type 0) (ns : List ℕ) : Type 0 where
  pub once : AreDistinct ns
  pub exact : (n : ℕ) → In n ns ↔ IsNumberOf xs P n

-- the value of the term with a number at a test
abbrev pub value_of : SigParts → Pools → List Tree → ℕ → ℕ → Option Tree
value_of parts pools ts test n = option_and_then (val parts pools test) (numbered ts n)

abbrev pub IsTest : SigParts → Pools → ℕ → Type 0
IsTest parts pools test = test < test_count parts pools

abbrev pub IsFlatTest : SigParts → Pools → ℕ → Type 0
IsFlatTest parts pools test = IsTest parts pools test × IsFlat parts test

-- The lines of a tree: what is asked of it apart from values

-- the schemas of a class, and of classes one after another
abbrev pub schemas_of : Class → List ℕ
schemas_of class = class.schemas

abbrev pub schemas_in : List Class → List ℕ
schemas_in classes = joined (map schemas_of classes)

-- numbers rise
abbrev pub AreRising : List ℕ → Type 0
AreRising ns = Rising (λ n m. n < m) ns

-- each spread schema of the sort is in one class, their numbers rise in each class, and the splits above the classes are at
-- flat tests
pub record HasSchemas (parts : SigParts) (pools : Pools) (all : List Entry) (tree : SortTree) : Type 0 where
  pub schemas : AreNumbersOf (stated spread_at all) (λ c. sort_of parts c ≡ Some tree.sort) (schemas_in (leaves_of tree.tree))
  pub rising : Each (λ (class : Class). AreRising class.schemas) (leaves_of tree.tree)
  pub flat : Each (IsFlatTest parts pools) (tests_of tree.tree)

-- a term of one of these spread schemas
abbrev pub IsOfClass : List Entry → List ℕ → Tree → Type 0
IsOfClass all schemas t = (k : ℕ) × In k schemas × (numbered (stated spread_at all) k ≡ Some (schema_of t))

-- each live term of a class has a leaf of its own below it, and the splits there are at tests
pub record HasTerms (parts : SigParts) (pools : Pools) (all : List Entry) (class : Class) : Type 0 where
  pub terms : AreNumbersOf (stated live_at all) (IsOfClass all class.schemas) (leaves_of class.terms)
  pub tests : Each (IsTest parts pools) (tests_of class.terms)

-- The splits of a tree: what is asked of values

-- a split above classes, as one of schemas
abbrev pub of_schemas : Cut Class → Cut ℕ
of_schemas cut = record { test = cut.test; kids = map schemas_in cut.kids }

-- a tree of a sort: splits tell its spread schemas apart class by class, and the live terms of a class term by term
pub record IsTree (parts : SigParts) (pools : Pools) (all : List Entry) (tree : SortTree) : Type 0 where
  pub schemas : HasSchemas parts pools all tree
  pub terms : Each (HasTerms parts pools all) (leaves_of tree.tree)
  pub schemas_told : Each (λ cut. Tells (value_of parts pools (stated spread_at all)) (of_schemas cut)) (cuts_of tree.tree)
  pub terms_told : Each (λ (class : Class). Each (Tells (value_of parts pools (stated live_at all))) (cuts_of class.terms)) (leaves_of tree.tree)

-- a sort that has a spread schema
abbrev pub HasSpread : SigParts → List Entry → SortId → Type 0
HasSpread parts all sort = (c : Tree) × In c (stated spread_at all) × (sort_of parts c ≡ Some sort)

abbrev pub sorts_in : List SortTree → List SortId
sorts_in trees = map (λ (tree : SortTree). tree.sort) trees

abbrev pub IsEarlierSort : SortId → SortId → Type 0
IsEarlierSort s u = s.0 < u.0

-- a tree for each sort that has a spread schema, in the order of the sorts
pub record AreTrees (parts : SigParts) (pools : Pools) (all : List Entry) (trees : List SortTree) : Type 0 where
  pub rising : Rising IsEarlierSort (sorts_in trees)
  pub sorts : (sort : SortId) → In sort (sorts_in trees) ↔ HasSpread parts all sort
  pub each : Each (IsTree parts pools all) trees
