-- The own tests of a set of variables, and their laws.
use Rattle.std.specs.Prelude.{◌≡◌, ℕ, ◌/◌, ◌<◌, ◌≤◌, ◌↔◌, Bool, true, false, ◌&&◌, ◌||◌, ◌==◌, Some, slice_index_or}
use Rattle.std.specs.List.{list_all, list_any}
use Rattle.law_sig.specs.Trees.{same_sort}
use Rattle.law_sig.specs.Signature.{vars_at}
use Rattle.law_sig.specs.Tests.{Pools, radices, per_variable, assignments, digit, test_count, IsFlat, val, Same, IsDefined, Agrees}
use Rattle.law_sig.specs.declared.tree.SortId.{SortId}
use Rattle.law_sig.specs.declared.tree.Tree.{Tree}
use Rattle.law_sig.specs.declared.tree.Tree.TheOpen.{Tree-F}
use Rattle.law_sig.specs.declared.tree.Tree.TheOpen as o
use Rattle.law_sig.specs.declared.tree.Tree.TheFolds.{fold-Tree}
use Rattle.law_sig.specs.declared.parts.SigParts.{SigParts}
use Rattle.law_laws.specs.Renaming.{HasWidth, has_vars}
use Rattle.law_own.specs.Kept.{kept, IsNextKept}

-- a set of variables
abbrev pub VarSet : Type 0
VarSet = SortId → ℕ → Bool

-- the same by the numbers of the variables
abbrev pub by_number : SigParts → VarSet → ℕ → Bool
by_number parts vars number = slice_index_or (per_variable 0 parts.settings.vars (λ sort index. vars (record { 0 = sort }) index)) number false

-- the own test of a test: in the same pool, each variable of the set reads the place that it reads there, and all others
-- read place 0
abbrev pub own : SigParts → VarSet → ℕ → ℕ
own parts vars test = kept (by_number parts vars) (radices parts) test

-- an own test
abbrev pub IsOwn : SigParts → VarSet → ℕ → Type 0
IsOwn parts vars test = own parts vars test ≡ test

-- whether a term has variables of the set alone
abbrev pub within_step : VarSet → Tree-F Bool → Bool
within_step vars (o.Var sort index) = vars sort index
within_step vars (o.App head below) = list_all (λ v. v) below

abbrev pub has_within : VarSet → Tree → Bool
has_within vars = fold-Tree Bool (within_step vars)

-- whether a variable stands in a term
abbrev pub stands_step : SortId → ℕ → Tree-F Bool → Bool
stands_step sort index (o.Var s i) = same_sort s sort && (i == index)
stands_step sort index (o.App head below) = list_any (λ b. b) below

abbrev pub stands : SortId → ℕ → Tree → Bool
stands sort index = fold-Tree Bool (stands_step sort index)

-- the variables of two terms
abbrev pub vars_of : Tree → Tree → VarSet
vars_of s t sort index = stands sort index s || stands sort index t

-- what an own test is
pub record IsOwnOf (parts : SigParts) (vars : VarSet) (test : ℕ) : Type 0 where
  pub pool : own parts vars test / assignments parts ≡ test / assignments parts
  pub inside : (sort : SortId) (index : ℕ) → index < vars_at parts sort → vars sort index ≡ true
      → digit parts (own parts vars test) sort index ≡ digit parts test sort index
  pub outside : (sort : SortId) (index : ℕ) → index < vars_at parts sort → vars sort index ≡ false
      → digit parts (own parts vars test) sort index ≡ 0
  pub below : own parts vars test ≤ test
  pub again : IsOwn parts vars (own parts vars test)

abbrev pub HasBothTerms : Type 0
HasBothTerms = (s t : Tree) → (has_within (vars_of s t) s ≡ true) × (has_within (vars_of s t) t ≡ true)

abbrev pub OwnTestsAre : Type 0
OwnTestsAre = (parts : SigParts) → HasWidth parts → (vars : VarSet) (test : ℕ) → IsOwnOf parts vars test

-- a term with variables of the set alone has at a test the value that it has at the own test, or none at both
abbrev pub OwnTestsTell : Type 0
OwnTestsTell = (parts : SigParts) (pools : Pools) → HasWidth parts → (vars : VarSet) (t : Tree) → has_vars parts t ≡ true → has_within vars t ≡ true
    → (test : ℕ) → val parts pools (own parts vars test) t ≡ val parts pools test t

-- a set that has all variables of a sort or none
abbrev pub IsBySorts : SigParts → VarSet → Type 0
IsBySorts parts vars = (sort : SortId) (i j : ℕ) → i < vars_at parts sort → j < vars_at parts sort → vars sort i ≡ vars sort j

abbrev pub OwnTestsStayFlat : Type 0
OwnTestsStayFlat = (parts : SigParts) → HasWidth parts → (vars : VarSet) → IsBySorts parts vars
    → (test : ℕ) → IsFlat parts test → IsFlat parts (own parts vars test)

-- what holds at the own tests. Here both terms have variables of the set alone

pub record IsToldBy (parts : SigParts) (vars : VarSet) (t : Tree) : Type 0 where
  pub variables : has_vars parts t ≡ true
  pub inside : has_within vars t ≡ true

-- at a test both have a value, and the same one
abbrev pub AgreeAt : SigParts → Pools → Tree → Tree → ℕ → Type 0
AgreeAt parts pools s t test = (v : Tree) × (val parts pools test s ≡ Some v) × (val parts pools test t ≡ Some v)

-- both have a value, and the same one, at every own test
abbrev pub AgreeAtOwn : SigParts → Pools → VarSet → Tree → Tree → Type 0
AgreeAtOwn parts pools vars s t = (test : ℕ) → test < test_count parts pools → IsOwn parts vars test → AgreeAt parts pools s t test

abbrev pub OwnTestsDecide : Type 0
OwnTestsDecide = (parts : SigParts) (pools : Pools) → HasWidth parts → (vars : VarSet) (s t : Tree) → IsToldBy parts vars s → IsToldBy parts vars t
    → Agrees parts pools s t ↔ AgreeAtOwn parts pools vars s t

-- the first test at which they don't agree is an own test
abbrev pub FirstIsOwn : Type 0
FirstIsOwn = (parts : SigParts) (pools : Pools) → HasWidth parts → (vars : VarSet) (s t : Tree) → IsToldBy parts vars s → IsToldBy parts vars t
    → (test : ℕ) → (AgreeAt parts pools s t test → ⊥) → ((before : ℕ) → before < test → AgreeAt parts pools s t before) → IsOwn parts vars test

-- The next own test: there is none between, since an own test before it is no later than this one

abbrev pub IsNextOwn : SigParts → VarSet → ℕ → ℕ → Type 0
IsNextOwn parts vars test next = IsNextKept (by_number parts vars) (radices parts) test next

-- each own test has a next one
abbrev pub OwnTestsGoOn : Type 0
OwnTestsGoOn = (parts : SigParts) → HasWidth parts → (vars : VarSet) (test : ℕ) → IsOwn parts vars test → (next : ℕ) × IsNextOwn parts vars test next
