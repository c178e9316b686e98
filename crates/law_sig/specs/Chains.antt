-- Chains of steps by equations.
use Rattle.std.specs.Prelude.{◌≡◌, ℕ, ◌<◌, ◌⊎◌, ◌↔◌, List, [], ◌∷◌, ◌++◌, length, map, Bool, ◌&&◌, ◌==◌, if◌then◌else◌, Some}
use Rattle.law_sig.specs.Lists.{In, Each, Rising, numbered}
use Rattle.law_sig.specs.Trees.{same_sort, holes, Subst, substituted}
use Rattle.law_sig.specs.Signature.{sort_of}
use Rattle.law_sig.specs.declared.tree.SortId.{SortId}
use Rattle.law_sig.specs.declared.tree.SymId.{SymId}
use Rattle.law_sig.specs.declared.tree.Tree.{Tree}
use Rattle.law_sig.specs.declared.tree.Tree.TheVariants.{Var, App}
use Rattle.law_sig.specs.declared.parts.Equation.{Equation}
use Rattle.law_sig.specs.declared.parts.SigParts.{SigParts}
use Rattle.law_sig.specs.declared.chain.Bind.{Bind}
use Rattle.law_sig.specs.declared.chain.Step.{Step}
use Rattle.law_sig.specs.declared.chain.Dir.{Dir}
use Rattle.law_sig.specs.declared.chain.Dir.TheVariants as dir

-- Terms for variables

-- variables stand in order by the number of the sort, and then by index
abbrev pub StandsBefore : Bind → Bind → Type 0
StandsBefore b d = (b.sort.0 < d.sort.0) ⊎ ((b.sort ≡ d.sort) × (b.index < d.index))

-- exactly the variables of both sides, in order, each with a term of its sort
pub record AreBinds (parts : SigParts) (q : Equation) (binds : List Bind) : Type 0 where
  pub sorted : Each (λ (b : Bind). sort_of parts b.term ≡ Some b.sort) binds
  pub rising : Rising StandsBefore binds
  pub exact : (sort : SortId) (index : ℕ)
      → In {A = SortId × ℕ} (sort, index) (map (λ (b : Bind). (b.sort, b.index)) binds) ↔ (In index (holes sort q.left) ⊎ In index (holes sort q.right))

-- whether a variable has this sort and index
abbrev pub is_bound : SortId → ℕ → Bind → Bool
is_bound sort index b = same_sort b.sort sort && (b.index == index)

-- the substitution that they are: a variable that isn't among them stands for itself
abbrev pub bound_in : List Bind → Subst
bound_in [] sort index = Var sort index
bound_in (b ∷ binds) sort index = if is_bound sort index b then b.term else bound_in binds sort index

-- Steps

-- the side that a step starts from, and the side that it leads to
abbrev pub start_side : Dir → Equation → Tree
start_side dir.LeftToRight q = q.left
start_side dir.RightToLeft q = q.right

abbrev pub end_side : Dir → Equation → Tree
end_side dir.LeftToRight q = q.right
end_side dir.RightToLeft q = q.left

-- the second term is the first one with `to` in the place of `from`
pub data Rewrites (from to : Tree) : List ℕ → Tree → Tree → Type 0 where
  root : Rewrites from to [] from to
  below : (f : SymId) (before after : List Tree) (place : List ℕ) (s t : Tree) → Rewrites from to place s t
      → Rewrites from to (length before ∷ place) (App f (before ++ s ∷ after)) (App f (before ++ t ∷ after))

-- a step by one of these equations, which are numbered from 1: the instance of the side that it starts from stands at
-- its place, and the instance of the other side takes that place
pub record IsStep (parts : SigParts) (equations : List Equation) (step : Step) (s t : Tree) : Type 0 where
  pub equation : Equation
  pub named : numbered equations step.number ≡ Some equation
  pub binds : AreBinds parts equation step.binds
  pub rewrites : Rewrites (substituted (bound_in step.binds) (start_side step.dir equation)) (substituted (bound_in step.binds) (end_side step.dir equation)) step.place s t

-- a chain that replays: its steps lead from the first term to the second
pub data Replays (parts : SigParts) (equations : List Equation) : List Step → Tree → Tree → Type 0 where
  done : (s : Tree) → Replays parts equations [] s s
  next : (step : Step) (steps : List Step) (s m t : Tree) → IsStep parts equations step s m → Replays parts equations steps m t
      → Replays parts equations (step ∷ steps) s t
