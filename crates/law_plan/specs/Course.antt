-- The laws and lemmas of a search: what is stated before each entry of the plan, by completion as a state that goes from goal
-- to goal. The plan itself knows nothing of it.
use Rattle.std.specs.Prelude.{◌≡◌, ℕ, List, [], ◌∷◌, ◌++◌, map, length, drop, None}
use Rattle.law_sig.specs.Tests.{Pools}
use Rattle.law_sig.specs.WellFormed.{IsWellFormed}
use Rattle.law_sig.specs.declared.chain.Step.{Step}
use Rattle.law_sig.specs.declared.parts.Equation.{Equation}
use Rattle.law_sig.specs.declared.parts.SigParts.{SigParts}
use Rattle.law_rewriting.specs.Completion.{equations_of, IsJoin, State, Halt, Advances}
use Rattle.law_rewriting.specs.Completion as completion
use Rattle.law_plan.specs.Plan.{Entry, IsPlan}
use Rattle.law_plan.specs.Goals.{goal_at}

-- what stands in a search's list, in order: a law with its mark, which is how completion halted, a lemma, and an entry of the plan
pub data Line : Type 0 where
  law : Equation → Halt → Line
  lemma : Equation → Line
  entry : Entry → Line

-- the background is kept, and no pair was taken
abbrev pub begun : SigParts → State
begun parts = record { kept = map completion.stated parts.settings.background; taken = 0; aside = None }

-- both sides are joined by what is kept
abbrev pub IsJoined : SigParts → State → Equation → Type 0
IsJoined parts s q = (steps : List Step) × IsJoin parts s.kept q.left q.right steps

abbrev pub with_law : State → Equation → State
with_law s q = record { kept = s.kept ++ completion.stated q ∷ []; taken = s.taken; aside = s.aside }

-- the lemmas that were found on the way from one state to another
abbrev pub lemmas_between : State → State → List Line
lemmas_between s t = map lemma (equations_of (drop (length s.kept) t.kept))

-- what is stated for a goal. Nothing, where it is joined. Else completion goes on, by the setting's number of pairs, and its
-- lemmas are stated; and where the goal isn't joined then either, so is the goal, as a law
pub data Answers (parts : SigParts) (q : Equation) (s : State) : List Line → State → Type 0 where
  known : IsJoined parts s q → Answers parts q s [] s
  by_lemmas : (t : State) (h : Halt) → (IsJoined parts s q → ⊥) → Advances parts s parts.settings.pairs t h → IsJoined parts t q
      → Answers parts q s (lemmas_between s t) t
  as_law : (t : State) (h : Halt) → (IsJoined parts s q → ⊥) → Advances parts s parts.settings.pairs t h → (IsJoined parts t q → ⊥)
      → Answers parts q s (lemmas_between s t ++ law q h ∷ []) (with_law t q)

-- entry by entry: what is stated for a goal stands directly before its entry
pub data Goes (parts : SigParts) : State → List Entry → List Line → State → Type 0 where
  ends : (s : State) → Goes parts s [] [] s
  past : (s t : State) (e : Entry) (es : List Entry) (lines : List Line) → goal_at e ≡ [] → Goes parts s es lines t → Goes parts s (e ∷ es) (entry e ∷ lines) t
  through : (s t u : State) (q : Equation) (e : Entry) (es : List Entry) (new lines : List Line) → goal_at e ≡ q ∷ [] → Answers parts q s new t
      → Goes parts t es lines u → Goes parts s (e ∷ es) (new ++ entry e ∷ lines) u

-- the search of a signature over its pools: the plan with its laws and lemmas, from the background on
pub record IsSearch (parts : SigParts) (pools : Pools) (lines : List Line) : Type 0 where
  pub plan : List Entry
  pub is_plan : IsPlan parts pools plan
  pub last : State
  pub goes : Goes parts (begun parts) plan lines last

-- there is one at most
abbrev pub OneSearch : Type 0
OneSearch = (parts : SigParts) (pools : Pools) → IsWellFormed parts → (lines others : List Line) → IsSearch parts pools lines → IsSearch parts pools others → lines ≡ others

-- completion keeps what it has, and adds lemmas alone
abbrev pub LemmasAreAdded : Type 0
LemmasAreAdded = (parts : SigParts) (s t : State) (n : ℕ) (h : Halt) → Advances parts s n t h
    → (new : List Equation) × (t.kept ≡ s.kept ++ map completion.lemma new) × (lemmas_between s t ≡ map lemma new)
