-- The step at the root of a term, and how matching finds it.
use Rattle.std.specs.Prelude.{◌≡◌, ℕ, ◌⊎◌, ◌↔◌, List, [], ◌∷◌, map, Some}
use Rattle.std.specs.declared.cmp.Ordering.TheVariants.{Less}
use Rattle.law_sig.specs.Lists.{In, Each, Rising}
use Rattle.law_sig.specs.Trees.{holes, substituted}
use Rattle.law_sig.specs.Order.{compare_k}
use Rattle.law_sig.specs.declared.tree.SortId.{SortId}
use Rattle.law_sig.specs.declared.tree.Tree.{Tree}
use Rattle.law_sig.specs.declared.parts.Equation.{Equation}
use Rattle.law_sig.specs.declared.parts.SigParts.{SigParts}
use Rattle.law_sig.specs.declared.chain.Dir.{Dir}
use Rattle.law_sig.specs.declared.chain.Bind.{Bind}
use Rattle.law_sig.specs.declared.chain.Step.{Step}
use Rattle.law_sig.specs.Chains.{StandsBefore, bound_in, start_side, end_side}
use Rattle.law_rewriting.specs.Heads.{sorts_in}
use Rattle.law_rewriting.specs.Unifiers.{IsMatch, HasNoMatch}
use Rattle.law_rewriting.specs.Steps.{Rules, IsFilled, Applies, Earlier, Reduces}

-- a step at the root, by the equation with this number
abbrev pub at_root : ℕ → Dir → List Bind → Step
at_root number d binds = record { place = []; number = number; dir = d; binds = binds }

-- the same step in an argument
abbrev pub in_argument : ℕ → Step → Step
in_argument n step = record { place = n ∷ step.place; number = step.number; dir = step.dir; binds = step.binds }

-- the step that is taken at the root: no other step there comes before it
pub record IsRootStep (parts : SigParts) (rules : Rules) (step : Step) (s t : Tree) : Type 0 where
  pub reduces : Reduces parts rules step s t
  pub root : step.place ≡ []
  pub first : (other : Step) (u : Tree) → Reduces parts rules other s u → other.place ≡ [] → Earlier other.number other.dir step.number step.dir → ⊥

abbrev pub HasNoRootStep : SigParts → Rules → Tree → Type 0
HasNoRootStep parts rules s = (step : Step) (t : Tree) → Reduces parts rules step s t → step.place ≡ [] → ⊥

-- One equation in one direction

-- the bindings of a step by these of a match: exactly the variables of both sides in order, those of the starting side as
-- matched, and those of the reached side alone at index 0
pub record IsFilling (q : Equation) (d : Dir) (matched binds : List Bind) : Type 0 where
  pub rising : Rising StandsBefore binds
  pub exact : (sort : SortId) (index : ℕ)
      → In {A = SortId × ℕ} (sort, index) (map (λ (b : Bind). (b.sort, b.index)) binds) ↔ (In index (holes sort q.left) ⊎ In index (holes sort q.right))
  pub kept : (sort : SortId) (index : ℕ) → In index (holes sort (start_side d q)) → bound_in binds sort index ≡ bound_in matched sort index
  pub filled : IsFilled q d binds

-- the equation doesn't apply at the root in this direction
abbrev pub AppliesNot : SigParts → Equation → Dir → Tree → Type 0
AppliesNot parts q d t = (step : Step) (u : Tree) → step.place ≡ [] → step.dir ≡ d → Applies parts q step t u → ⊥

-- a match decides: with its bindings filled the equation applies where the reached instance is smaller, and else not; and
-- without a match it doesn't apply
pub record MatchesDecideOf (parts : SigParts) (q : Equation) (d : Dir) (t : Tree) : Type 0 where
  pub applies : (n : ℕ) (matched binds : List Bind) → IsMatch (sorts_in parts) (start_side d q) t matched → IsFilling q d matched binds
      → compare_k parts (substituted (bound_in binds) (end_side d q)) t ≡ Less
      → Applies parts q (at_root n d binds) t (substituted (bound_in binds) (end_side d q))
  pub falls_not : (matched binds : List Bind) → IsMatch (sorts_in parts) (start_side d q) t matched → IsFilling q d matched binds
      → (compare_k parts (substituted (bound_in binds) (end_side d q)) t ≡ Less → ⊥) → AppliesNot parts q d t
  pub matches_not : HasNoMatch (sorts_in parts) (start_side d q) t → AppliesNot parts q d t

abbrev pub MatchesDecide : Type 0
MatchesDecide = (parts : SigParts) (q : Equation) (d : Dir) (t : Tree) → MatchesDecideOf parts q d t

-- All equations

-- numbers with directions, among which is each of a rule that applies
abbrev pub AreCandidates : SigParts → Rules → Tree → List (ℕ × Dir) → Type 0
AreCandidates parts rules t cs = (n : ℕ) (q : Equation) (d : Dir) → rules n ≡ Some q → In {A = ℕ × Dir} (n, d) cs ⊎ AppliesNot parts q d t

-- the rule of a candidate doesn't apply
abbrev pub FailsAt : SigParts → Rules → Tree → ℕ × Dir → Type 0
FailsAt parts rules t c = (q : Equation) → rules c.0 ≡ Some q → AppliesNot parts q c.1 t

-- so any candidates will do: the root step is one that applies, where each that comes before it doesn't; and there is none
-- where no candidate applies
pub record CandidatesDecideOf (parts : SigParts) (rules : Rules) (t : Tree) (cs : List (ℕ × Dir)) : Type 0 where
  pub first : (n : ℕ) (q : Equation) (d : Dir) (binds : List Bind) (u : Tree) → rules n ≡ Some q → Applies parts q (at_root n d binds) t u
      → Each (λ (c : ℕ × Dir). Earlier c.0 c.1 n d → FailsAt parts rules t c) cs → IsRootStep parts rules (at_root n d binds) t u
  pub none : Each (FailsAt parts rules t) cs → HasNoRootStep parts rules t

abbrev pub CandidatesDecide : Type 0
CandidatesDecide = (parts : SigParts) (rules : Rules) (t : Tree) (cs : List (ℕ × Dir)) → AreCandidates parts rules t cs → CandidatesDecideOf parts rules t cs
