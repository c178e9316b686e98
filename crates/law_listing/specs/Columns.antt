-- What is spread and what is live, as properties: over them schemas are considered, and terms are instances.
use Rattle.std.specs.Prelude.{◌≡◌, ◌↔◌, ℕ, ◌<◌, ◌≤◌, List, [], ◌∷◌, true, Some, IsTrue}
use Rattle.law_sig.specs.Lists.{In, Each, Rising}
use Rattle.law_sig.specs.Trees.{schema_of}
use Rattle.law_sig.specs.Signature.{is_declared_sort, vars_at, sort_of}
use Rattle.law_sig.specs.Tests.{weight, is_explored, is_bounded, InU}
use Rattle.law_sig.specs.Order.{rank}
use Rattle.law_sig.specs.Schemas.{arguments_of}
use Rattle.law_sig.specs.declared.tree.SortId.{SortId}
use Rattle.law_sig.specs.declared.tree.SymId.{SymId}
use Rattle.law_sig.specs.declared.tree.Tree.{Tree}
use Rattle.law_sig.specs.declared.tree.Tree.TheVariants.{Var, App}
use Rattle.law_sig.specs.declared.tree.Tree.TheViews.{out-Tree}
use Rattle.law_sig.specs.declared.parts.SigParts.{SigParts}
use Rattle.law_laws.proofs.Ranks.{Below}

-- the order K
abbrev pub IsBelow : SigParts → Tree → Tree → Type 0
IsBelow parts s t = Below (rank parts s) (rank parts t)

-- Schemas

-- considered over the spread schemas, whatever it weighs
pub data IsOver (parts : SigParts) (Spread : Tree → Type 0) : Tree → Type 0 where
  variable : (sort : SortId) → IsTrue (is_declared_sort parts sort) → 1 ≤ vars_at parts sort → IsOver parts Spread (Var sort 0)
  application : (f : SymId) (cs : List Tree) (sort : SortId) → IsTrue (is_explored parts f) → Each Spread cs
      → sort_of parts (App f cs) ≡ Some sort → IsOver parts Spread (App f cs)

-- of the spread schemas those of each weight and sort, in order: no other, and all that weigh less than a bound
pub record AreColumns (parts : SigParts) (Spread : Tree → Type 0) (bound : ℕ) (items : ℕ → SortId → List Tree) : Type 0 where
  pub sound : (k : ℕ) (sort : SortId) (c : Tree) → In c (items k sort) → Spread c × (weight parts c ≡ k) × (sort_of parts c ≡ Some sort)
  pub full : (k : ℕ) (sort : SortId) (c : Tree) → k < bound → IsTrue (is_declared_sort parts sort) → Spread c → weight parts c ≡ k → sort_of parts c ≡ Some sort
      → In c (items k sort)
  pub rising : (k : ℕ) (sort : SortId) → Rising (IsBelow parts) (items k sort)

-- Instances

-- of the live terms exactly those with a schema, in order
pub record AreLiveOf (parts : SigParts) (Live : Tree → Type 0) (c : Tree) (ts : List Tree) : Type 0 where
  pub members : (t : Tree) → In t ts ↔ (Live t × (schema_of t ≡ c))
  pub rising : Rising (IsBelow parts) ts

-- each list has those of the schema at its place
abbrev pub AreLists : SigParts → (Tree → Type 0) → List Tree → List (List Tree) → Type 0
AreLists parts Live [] [] = Unit {0}
AreLists parts Live [] (ts ∷ lists) = ⊥
AreLists parts Live (c ∷ cs) [] = ⊥
AreLists parts Live (c ∷ cs) (ts ∷ lists) = AreLiveOf parts Live c ts × AreLists parts Live cs lists

-- a schema over live terms: what is asked of it for going through its instances
pub record IsOpenOver (parts : SigParts) (Live : Tree → Type 0) (f : SymId) (cs : List Tree) (lists : List (List Tree)) : Type 0 where
  pub lists_are : AreLists parts Live cs lists
  pub explored : IsTrue (is_explored parts f)
  pub sort : SortId
  pub sorted : sort_of parts (App f cs) ≡ Some sort
  pub small : weight parts (App f cs) ≤ parts.settings.size
  pub bounded : (t : Tree) → Live t → is_bounded parts t ≡ true

-- a term of the universe with a schema, whose arguments are all live
pub record IsInstanceOver (parts : SigParts) (Live : Tree → Type 0) (c t : Tree) : Type 0 where
  pub sort : SortId
  pub bounded : InU parts sort t
  pub schema : schema_of t ≡ c
  pub args : Each Live (arguments_of (out-Tree t))
