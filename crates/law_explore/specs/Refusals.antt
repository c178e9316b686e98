-- Why a signature has no law list, and which cause is told.
use Rattle.std.specs.Prelude.{◌≡◌, ◌≢◌, ℕ, ◌+◌, ◌<◌, ◌⊎◌, length, Some, None, IsSome, slice_get}
use Rattle.law_sig.specs.Lists.{Each}
use Rattle.law_sig.specs.Tests.{InU, Pools, assignments, test_count, val, IsDefined}
use Rattle.law_sig.specs.Counts.{term_count}
use Rattle.law_sig.specs.Order.{IsBefore}
use Rattle.law_sig.specs.declared.tree.SortId.{SortId}
use Rattle.law_sig.specs.declared.tree.Tree.{Tree}
use Rattle.law_sig.specs.declared.parts.Equation.{Equation}
use Rattle.law_sig.specs.declared.parts.SigParts.{SigParts}
use Rattle.law_typing.specs.Naming.{named_term}
use Rattle.law_draws.specs.Draws.{pools_by}
use Rattle.law_draws.specs.Sizes.{AreSmall, IsFirst}
use Rattle.law_explore.specs.declared.refusal.ExploreErr.{ExploreErr}
use Rattle.law_explore.specs.declared.refusal.ExploreErr.TheVariants as err

-- A cause: too many ways to give the variables places; too many terms; a generated value that is too large, by its pool and
-- sort; a term without a value at a test; a background equation, by its number from 1, whose sides differ at a test
pub data Refusal : Type 0 where
  Assignments : Refusal
  TooManyTerms : Refusal
  ValueTooLarge : ℕ → SortId → Refusal
  Over : Tree → ℕ → Refusal
  BackgroundFails : ℕ → ℕ → Refusal

-- Questions that have an answer or none

-- the answer of the first question, and where it has none that of the second
abbrev pub OrElse : {A : Type 0} → (A → Type 0) → (A → Type 0) → A → Type 0
OrElse {A} First Second a = First a ⊎ (((b : A) → First b → ⊥) × Second a)

-- of so many questions, numbered from 0, the answer of the first that has one
pub record IsFirstAnswer {A : Type 0} (Answers : ℕ → A → Type 0) (count : ℕ) (a : A) : Type 0 where
  pub at : ℕ
  pub within : at < count
  pub answer : Answers at a
  pub before : (k : ℕ) → k < at → (b : A) → Answers k b → ⊥

-- The five questions

-- more than 4,096 ways to give the variables places
abbrev pub HasManyAssignments : SigParts → Refusal → Type 0
HasManyAssignments parts r = (r ≡ Assignments) × (4096 < assignments parts)

-- more terms in the universe than are allowed
abbrev pub HasManyTerms : SigParts → ℕ → Refusal → Type 0
HasManyTerms parts terms r = (r ≡ TooManyTerms) × (terms < term_count parts)

-- a value of more than 4,096 nodes, in the first such pool and of its first such sort
abbrev pub HasLargeValue : SigParts → Refusal → Type 0
HasLargeValue parts r = (pool : ℕ) × (sort : SortId) × (r ≡ ValueTooLarge pool sort) × IsFirst (pools_by parts) pool sort

-- there is none
abbrev pub HasSmallValues : SigParts → Type 0
HasSmallValues parts = Each (Each AreSmall) (pools_by parts)

-- what breaks an equation at a test: its left side has no value; its right side has none; or they have two values
pub data Breaks (parts : SigParts) (pools : Pools) (number : ℕ) (e : Equation) (test : ℕ) : Refusal → Type 0 where
  left_over : val parts pools test e.left ≡ None → Breaks parts pools number e test (Over e.left test)
  right_over : (v : Tree) → val parts pools test e.left ≡ Some v → val parts pools test e.right ≡ None → Breaks parts pools number e test (Over e.right test)
  differs : (v w : Tree) → val parts pools test e.left ≡ Some v → val parts pools test e.right ≡ Some w → v ≢ w
      → Breaks parts pools number e test (BackgroundFails number test)

-- what breaks the background equation at a place, at the first test at which it breaks
pub record BreaksAt (parts : SigParts) (pools : Pools) (at : ℕ) (r : Refusal) : Type 0 where
  pub equation : Equation
  pub there : slice_get parts.settings.background at ≡ Some equation
  pub breaks : IsFirstAnswer (Breaks parts pools (at + 1) equation) (test_count parts pools) r

-- what breaks the first background equation that breaks
abbrev pub HasBrokenBackground : SigParts → Pools → Refusal → Type 0
HasBrokenBackground parts pools = IsFirstAnswer (BreaksAt parts pools) (length parts.settings.background)

-- a term's first test at which it has no value
pub record LacksValue (parts : SigParts) (pools : Pools) (term : Tree) (r : Refusal) : Type 0 where
  pub test : ℕ
  pub is : r ≡ Over term test
  pub within : test < test_count parts pools
  pub lacks : val parts pools test term ≡ None
  pub before : (earlier : ℕ) → earlier < test → IsSome (val parts pools earlier term)

-- the first term of the universe, in the order of exploring, that has no value at some test, with its first such test
pub record HasLackingTerm (parts : SigParts) (pools : Pools) (r : Refusal) : Type 0 where
  pub term : Tree
  pub sort : SortId
  pub bounded : InU parts sort term
  pub lacks : LacksValue parts pools term r
  pub before : (own : SortId) (t : Tree) → InU parts own t → IsBefore parts t term → IsDefined parts pools t

-- the first cause, where at most so many terms are allowed
abbrev pub IsRefusal : SigParts → ℕ → Refusal → Type 0
IsRefusal parts terms =
    OrElse (HasManyAssignments parts)
    (OrElse (HasManyTerms parts terms)
    (OrElse (HasLargeValue parts)
    (OrElse (HasBrokenBackground parts (pools_by parts))
    (HasLackingTerm parts (pools_by parts)))))

-- what an error tells: such a refusal, with the term by its names. Want of memory tells nothing
abbrev pub IsTold : SigParts → (Refusal → Type 0) → ExploreErr → Type 0
IsTold parts P (err.Over term test) = (t : Tree) × (term ≡ named_term parts t) × P (Over t test)
IsTold parts P (err.BackgroundFails law test) = P (BackgroundFails law test)
IsTold parts P err.Assignments = P Assignments
IsTold parts P err.TooManyTerms = P TooManyTerms
IsTold parts P (err.ValueTooLarge pool sort) = P (ValueTooLarge pool sort)
IsTold parts P err.NoMemory = Unit {0}

-- the error that tells that a term has no value at a test
abbrev pub IsOver : SigParts → Tree → ℕ → ExploreErr → Type 0
IsOver parts t test e = IsTold parts (λ r. r ≡ Over t test) e
