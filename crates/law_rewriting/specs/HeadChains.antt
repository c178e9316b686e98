-- Chains of steps whose bindings have a property: that they have their variables' sorts, in full or by heads alone.
use Rattle.std.specs.Prelude.{◌≡◌, ℕ, ◌⊎◌, ◌↔◌, List, [], ◌∷◌, map, Some}
use Rattle.law_sig.specs.Lists.{In, Each, Rising, numbered}
use Rattle.law_sig.specs.Trees.{holes, substituted}
use Rattle.law_sig.specs.Signature.{sort_of}
use Rattle.law_sig.specs.declared.tree.SortId.{SortId}
use Rattle.law_sig.specs.declared.tree.Tree.{Tree}
use Rattle.law_sig.specs.declared.parts.Equation.{Equation}
use Rattle.law_sig.specs.declared.parts.SigParts.{SigParts}
use Rattle.law_sig.specs.declared.chain.Bind.{Bind}
use Rattle.law_sig.specs.declared.chain.Step.{Step}
use Rattle.law_sig.specs.Chains.{StandsBefore, bound_in, start_side, end_side, Rewrites}
use Rattle.law_rewriting.specs.Heads.{Sorts, head_sort}

-- a step by one of these equations, as in a chain that replays, whose bindings have the property
pub record IsStepWith (Q : Bind → Type 0) (equations : List Equation) (step : Step) (s t : Tree) : Type 0 where
  pub equation : Equation
  pub named : numbered equations step.number ≡ Some equation
  pub each : Each Q step.binds
  pub rising : Rising StandsBefore step.binds
  pub exact : (sort : SortId) (index : ℕ)
      → In {A = SortId × ℕ} (sort, index) (map (λ (b : Bind). (b.sort, b.index)) step.binds) ↔ (In index (holes sort equation.left) ⊎ In index (holes sort equation.right))
  pub rewrites : Rewrites (substituted (bound_in step.binds) (start_side step.dir equation)) (substituted (bound_in step.binds) (end_side step.dir equation)) step.place s t

pub data ReplaysWith (Q : Bind → Type 0) (equations : List Equation) : List Step → Tree → Tree → Type 0 where
  done : (s : Tree) → ReplaysWith Q equations [] s s
  next : (step : Step) (steps : List Step) (s m t : Tree) → IsStepWith Q equations step s m → ReplaysWith Q equations steps m t
      → ReplaysWith Q equations (step ∷ steps) s t

-- the term has the variable's sort: in full, with which a chain replays, and by its head
abbrev pub HasItsSort : SigParts → Bind → Type 0
HasItsSort parts b = sort_of parts b.term ≡ Some b.sort

abbrev pub HasItsHead : Sorts → Bind → Type 0
HasItsHead r b = head_sort r b.term ≡ b.sort
