-- Laws of ordered steps, normal forms and joined terms.
use Rattle.std.specs.Prelude.{◌≡◌, ℕ, ◌≤◌, ◌⊎◌, ◌↔◌, List, ◌∷◌, ◌++◌, length, Some}
use Rattle.std.specs.declared.cmp.Ordering.TheVariants.{Less}
use Rattle.law_sig.specs.Lists.{Each}
use Rattle.law_sig.specs.Signature.{sort_of}
use Rattle.law_sig.specs.Tests.{weight}
use Rattle.law_sig.specs.Order.{compare_k}
use Rattle.law_sig.specs.declared.tree.SortId.{SortId}
use Rattle.law_sig.specs.declared.tree.SymId.{SymId}
use Rattle.law_sig.specs.declared.tree.Tree.{Tree}
use Rattle.law_sig.specs.declared.tree.Tree.TheVariants.{Var, App}
use Rattle.law_sig.specs.declared.parts.Equation.{Equation}
use Rattle.law_sig.specs.declared.parts.SigParts.{SigParts}
use Rattle.law_laws.specs.Derivation.{HasOneSort}
use Rattle.law_sig.specs.declared.chain.Step.{Step}
use Rattle.law_sig.specs.Lists.{numbered}
use Rattle.law_sig.specs.Chains.{Replays}
use Rattle.law_rewriting.specs.Heads.{sorts_in}
use Rattle.law_rewriting.specs.HeadChains.{ReplaysWith, HasItsSort, HasItsHead}
use Rattle.law_rewriting.specs.Steps.{Rules, Reduces, IsOrderedStep, IsNormal, IsNf}
use Rattle.law_rewriting.specs.Roots.{IsRootStep, HasNoRootStep, in_argument}
use Rattle.law_rewriting.specs.Completion.{Kept, equations_of, IsJoin}

-- a term has at most one ordered step
abbrev pub OneOrderedStep : Type 0
OneOrderedStep = (parts : SigParts) (rules : Rules) (a b : Step) (s t u : Tree) → IsOrderedStep parts rules a s t → IsOrderedStep parts rules b s u
    → (a ≡ b) × (t ≡ u)

-- a term has at most one normal form, reached in one way
abbrev pub OneNormalForm : Type 0
OneNormalForm = (parts : SigParts) (rules : Rules) (steps others : List Step) (s t u : Tree) → IsNf parts rules steps s t → IsNf parts rules others s u
    → (steps ≡ others) × (t ≡ u)

-- the second term stands before the first in K, and weighs no more
pub record IsSmaller (parts : SigParts) (s t : Tree) : Type 0 where
  pub before : compare_k parts t s ≡ Less
  pub weight : weight parts t ≤ weight parts s

-- a step makes a term smaller, so a normal form is the term or smaller
pub record StepsFallIn (parts : SigParts) (rules : Rules) : Type 0 where
  pub step : (step : Step) (s t : Tree) → Reduces parts rules step s t → IsSmaller parts s t
  pub form : (steps : List Step) (s t : Tree) → IsNf parts rules steps s t → (s ≡ t) ⊎ IsSmaller parts s t

abbrev pub StepsFall : Type 0
StepsFall = (parts : SigParts) (rules : Rules) → StepsFallIn parts rules

-- The steps of a term, from those of its arguments and those at its root

-- the ordered step of the first argument that has one is that of the whole; where no argument has one it is the step at the
-- root, and where there is none either the term is normal. A variable has no arguments
pub record StepsComposeIn (parts : SigParts) (rules : Rules) : Type 0 where
  pub argument : (f : SymId) (before after : List Tree) (s t : Tree) (step : Step) → Each (IsNormal parts rules) before → IsOrderedStep parts rules step s t
      → IsOrderedStep parts rules (in_argument (length before) step) (App f (before ++ s ∷ after)) (App f (before ++ t ∷ after))
  pub root : (f : SymId) (args : List Tree) (step : Step) (t : Tree) → Each (IsNormal parts rules) args → IsRootStep parts rules step (App f args) t
      → IsOrderedStep parts rules step (App f args) t
  pub normal : (f : SymId) (args : List Tree) → Each (IsNormal parts rules) args → HasNoRootStep parts rules (App f args) → IsNormal parts rules (App f args)
  pub variable_root : (sort : SortId) (index : ℕ) (step : Step) (t : Tree) → IsRootStep parts rules step (Var sort index) t → IsOrderedStep parts rules step (Var sort index) t
  pub variable_normal : (sort : SortId) (index : ℕ) → HasNoRootStep parts rules (Var sort index) → IsNormal parts rules (Var sort index)

abbrev pub StepsCompose : Type 0
StepsCompose = (parts : SigParts) (rules : Rules) → StepsComposeIn parts rules

-- Chains

-- the rules are some or all of these equations, under their numbers
abbrev pub AreAmong : Rules → List Equation → Type 0
AreAmong rules equations = (n : ℕ) (q : Equation) → rules n ≡ Some q → numbered equations n ≡ Some q

-- the chain replays, and its end has the sort of its start
pub record IsReplayed (parts : SigParts) (equations : List Equation) (steps : List Step) (s t : Tree) (sort : SortId) : Type 0 where
  pub chain : Replays parts equations steps s t
  pub sorted : sort_of parts t ≡ Some sort

-- the chain from a well-sorted term to its normal form replays by equations whose sides have one sort each
abbrev pub NormalFormsReplay : Type 0
NormalFormsReplay = (parts : SigParts) (equations : List Equation) (rules : Rules) → Each (HasOneSort parts) equations → AreAmong rules equations
    → (steps : List Step) (s t : Tree) (sort : SortId) → sort_of parts s ≡ Some sort → IsNf parts rules steps s t → IsReplayed parts equations steps s t sort

-- a chain that replays is one whose bindings have their variables' sorts in full
abbrev pub ReplaysAreSorted : Type 0
ReplaysAreSorted = (parts : SigParts) (equations : List Equation) (steps : List Step) (s t : Tree) → Replays parts equations steps s t ↔ ReplaysWith (HasItsSort parts) equations steps s t

-- by heads alone the chain to a normal form replays whatever the equations are
abbrev pub NormalFormsReplayByHead : Type 0
NormalFormsReplayByHead = (parts : SigParts) (equations : List Equation) (rules : Rules) → AreAmong rules equations
    → (steps : List Step) (s t : Tree) → IsNf parts rules steps s t → ReplaysWith (HasItsHead (sorts_in parts)) equations steps s t

-- joined terms have one chain, and it replays by the equations that are kept
abbrev pub OneJoin : Type 0
OneJoin = (parts : SigParts) (kept : List Kept) (s t : Tree) (steps others : List Step) → IsJoin parts kept s t steps → IsJoin parts kept s t others → steps ≡ others

abbrev pub JoinsReplay : Type 0
JoinsReplay = (parts : SigParts) (kept : List Kept) → Each (HasOneSort parts) (equations_of kept) → (steps : List Step) (s t : Tree) (left right : SortId)
    → sort_of parts s ≡ Some left → sort_of parts t ≡ Some right → IsJoin parts kept s t steps → Replays parts (equations_of kept) steps s t

abbrev pub JoinsReplayByHead : Type 0
JoinsReplayByHead = (parts : SigParts) (kept : List Kept) (steps : List Step) (s t : Tree) → IsJoin parts kept s t steps
    → ReplaysWith (HasItsHead (sorts_in parts)) (equations_of kept) steps s t
