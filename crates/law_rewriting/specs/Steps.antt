-- Ordered rewriting: a step by an equation that makes a term smaller in K, the step that is taken first, the normal form, and
-- joined terms.
use Rattle.std.specs.Prelude.{◌≡◌, ℕ, zero, suc, ◌<◌, ◌⊎◌, ◌↔◌, List, [], ◌∷◌, ◌++◌, map, Option, Some}
use Rattle.std.specs.declared.cmp.Ordering.TheVariants.{Less}
use Rattle.law_sig.specs.Lists.{In, Each, Rising}
use Rattle.law_sig.specs.Trees.{holes, substituted}
use Rattle.law_sig.specs.Order.{compare_k}
use Rattle.law_sig.specs.declared.tree.SortId.{SortId}
use Rattle.law_sig.specs.declared.tree.Tree.{Tree}
use Rattle.law_sig.specs.declared.tree.Tree.TheVariants.{Var}
use Rattle.law_sig.specs.declared.parts.Equation.{Equation}
use Rattle.law_sig.specs.declared.parts.SigParts.{SigParts}
use Rattle.law_sig.specs.declared.chain.Dir.{Dir}
use Rattle.law_sig.specs.declared.chain.Dir.TheVariants as dir
use Rattle.law_sig.specs.declared.chain.Bind.{Bind}
use Rattle.law_sig.specs.declared.chain.Step.{Step}
use Rattle.law_sig.specs.Chains.{StandsBefore, bound_in, start_side, end_side, Rewrites}
use Rattle.law_rewriting.specs.Heads.{Sorts, head_sort, sorts_in}

-- the equations to rewrite by, each under its number
abbrev pub Rules : Type 0
Rules = ℕ → Option Equation

-- A step

-- exactly the variables of both sides, in order, each with a term that has its sort by its head
pub record AreBindsByHead (r : Sorts) (q : Equation) (binds : List Bind) : Type 0 where
  pub sorted : Each (λ (b : Bind). head_sort r b.term ≡ b.sort) binds
  pub rising : Rising StandsBefore binds
  pub exact : (sort : SortId) (index : ℕ)
      → In {A = SortId × ℕ} (sort, index) (map (λ (b : Bind). (b.sort, b.index)) binds) ↔ (In index (holes sort q.left) ⊎ In index (holes sort q.right))

-- a variable that stands on the reached side alone is bound to index 0 of its sort
abbrev pub IsFilled : Equation → Dir → List Bind → Type 0
IsFilled q d binds = (sort : SortId) (index : ℕ) → In index (holes sort (end_side d q)) → (In index (holes sort (start_side d q)) → ⊥)
    → bound_in binds sort index ≡ Var sort 0

-- an equation applies as a step says: the instance of the starting side stands at the place, the instance of the reached side
-- takes it, and is smaller in K, where the variables of the term are constants
pub record Applies (parts : SigParts) (q : Equation) (step : Step) (s t : Tree) : Type 0 where
  pub binds : AreBindsByHead (sorts_in parts) q step.binds
  pub filled : IsFilled q step.dir step.binds
  pub rewrites : Rewrites (substituted (bound_in step.binds) (start_side step.dir q)) (substituted (bound_in step.binds) (end_side step.dir q)) step.place s t
  pub smaller : compare_k parts (substituted (bound_in step.binds) (end_side step.dir q)) (substituted (bound_in step.binds) (start_side step.dir q)) ≡ Less

-- the step's equation applies
pub record Reduces (parts : SigParts) (rules : Rules) (step : Step) (s t : Tree) : Type 0 where
  pub equation : Equation
  pub is_rule : rules step.number ≡ Some equation
  pub applies : Applies parts equation step s t

-- The step that is taken: leftmost innermost, by the least number, and from left to right where both directions apply

-- places in order: arguments from left to right, and then the node
abbrev pub Sooner : List ℕ → List ℕ → Type 0
Sooner [] q = ⊥
Sooner (m ∷ p) [] = Unit {0}
Sooner (m ∷ p) (n ∷ q) = (m < n) ⊎ ((m ≡ n) × Sooner p q)

-- left to right comes before right to left
abbrev pub Forward : Dir → Dir → Type 0
Forward dir.LeftToRight dir.RightToLeft = Unit {0}
Forward dir.LeftToRight dir.LeftToRight = ⊥
Forward dir.RightToLeft d = ⊥

-- at one place: by a lesser number, or by the same one from left to right
abbrev pub Earlier : ℕ → Dir → ℕ → Dir → Type 0
Earlier m d n e = (m < n) ⊎ ((m ≡ n) × Forward d e)

abbrev pub Precedes : Step → Step → Type 0
Precedes a b = Sooner a.place b.place ⊎ ((a.place ≡ b.place) × Earlier a.number a.dir b.number b.dir)

-- the ordered step: no other step from this term comes before it
pub record IsOrderedStep (parts : SigParts) (rules : Rules) (step : Step) (s t : Tree) : Type 0 where
  pub reduces : Reduces parts rules step s t
  pub first : (other : Step) (u : Tree) → Reduces parts rules other s u → Precedes other step → ⊥

-- Normal forms

-- no step leads from this term
abbrev pub IsNormal : SigParts → Rules → Tree → Type 0
IsNormal parts rules t = (step : Step) (u : Tree) → Reduces parts rules step t u → ⊥

-- ordered steps, until none is left or so many were taken
pub data Normalises (parts : SigParts) (rules : Rules) : ℕ → List Step → Tree → Tree → Type 0 where
  spent : (t : Tree) → Normalises parts rules zero [] t t
  normal : (n : ℕ) (t : Tree) → IsNormal parts rules t → Normalises parts rules (suc n) [] t t
  further : (n : ℕ) (step : Step) (steps : List Step) (s m t : Tree) → IsOrderedStep parts rules step s m → Normalises parts rules n steps m t
      → Normalises parts rules (suc n) (step ∷ steps) s t

-- the second term is the normal form of the first, after these steps: a term that still reduces after 200 is taken as it is
abbrev pub IsNf : SigParts → Rules → List Step → Tree → Tree → Type 0
IsNf parts rules steps t u = Normalises parts rules 200 steps t u

-- Joined terms

-- both terms have one normal form
pub record Meets (parts : SigParts) (rules : Rules) (s t : Tree) : Type 0 where
  pub form : Tree
  pub left_steps : List Step
  pub right_steps : List Step
  pub left : IsNf parts rules left_steps s form
  pub right : IsNf parts rules right_steps t form

-- the same step the other way
abbrev pub turned_dir : Dir → Dir
turned_dir dir.LeftToRight = dir.RightToLeft
turned_dir dir.RightToLeft = dir.LeftToRight

abbrev pub turned : Step → Step
turned step = record { place = step.place; number = step.number; dir = turned_dir step.dir; binds = step.binds }

abbrev pub backwards : List Step → List Step
backwards [] = []
backwards (step ∷ steps) = backwards steps ++ turned step ∷ []

-- the steps of the one, and then those of the other backwards
abbrev pub meeting_chain : {parts : SigParts} {rules : Rules} {s t : Tree} → Meets parts rules s t → List Step
meeting_chain m = m.left_steps ++ backwards m.right_steps
