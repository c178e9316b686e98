-- Laws of completion.
use Rattle.std.specs.Prelude.{◌≡◌, ℕ, ◌+◌, ◌≤◌, List}
use Rattle.law_sig.specs.Lists.{Each}
use Rattle.law_sig.specs.Trees.{node_count}
use Rattle.law_sig.specs.Signature.{weight_at}
use Rattle.law_sig.specs.Tests.{weight}
use Rattle.law_sig.specs.declared.tree.SymId.{SymId}
use Rattle.law_sig.specs.declared.tree.Tree.{Tree}
use Rattle.law_sig.specs.declared.parts.Equation.{Equation}
use Rattle.law_sig.specs.declared.parts.SigParts.{SigParts}
use Rattle.law_laws.specs.Derivation.{HasOneSort}
use Rattle.law_sig.specs.declared.chain.Step.{Step}
use Rattle.law_sig.specs.Chains.{Replays}
use Rattle.law_rewriting.specs.Steps.{IsNf}
use Rattle.law_rewriting.specs.Pairs.{Exceeds, NamedPair, IsPair}
use Rattle.law_rewriting.specs.Completion.{Kept, equations_of, all_rules, lemma_of, State, Halt, Spent, Advances}

-- taking so many pairs ends in one way
abbrev pub OneCourse : Type 0
OneCourse = (parts : SigParts) (s t u : State) (q : ℕ) (g h : Halt) → Advances parts s q t g → Advances parts s q u h → (t ≡ u) × (g ≡ h)

-- and taking so many, and then so many more, is taking them all
abbrev pub CoursesJoin : Type 0
CoursesJoin = (parts : SigParts) (s t u : State) (m n : ℕ) (h : Halt) → Advances parts s m t Spent → Advances parts t n u h → Advances parts s (m + n) u h

-- a lemma has sides of one sort, and a chain from its left side to its right side that replays by the equations before it
pub record IsProvable (parts : SigParts) (equations : List Equation) (q : Equation) : Type 0 where
  pub sorted : HasOneSort parts q
  pub steps : List Step
  pub chain : Replays parts equations steps q.left q.right

-- the lemma of a pair has such a chain, through the peak
abbrev pub LemmasAreProvable : Type 0
LemmasAreProvable = (parts : SigParts) (kept : List Kept) → Each (HasOneSort parts) (equations_of kept) → (x : NamedPair) → IsPair parts (equations_of kept) x
    → (left_steps right_steps : List Step) (u v : Tree) → IsNf parts (all_rules kept) left_steps x.pair.left u
    → IsNf parts (all_rules kept) right_steps x.pair.right v → IsProvable parts (equations_of kept) (lemma_of parts u v)

-- no symbol weighs more than 4
abbrev pub WeighsAtMostFour : SigParts → Type 0
WeighsAtMostFour parts = (f : SymId) → weight_at parts f ≤ 4

pub record IsLight (parts : SigParts) (bound : ℕ) (q : Equation) : Type 0 where
  pub left : weight parts q.left ≤ bound
  pub right : weight parts q.right ≤ bound

-- the lemma of a pair of at most 64 nodes a term is light, since normal forms weigh no more than their terms
abbrev pub LemmasAreLight : Type 0
LemmasAreLight = (parts : SigParts) (kept : List Kept) (x : NamedPair) → WeighsAtMostFour parts → (Exceeds node_count 64 x.pair → ⊥)
    → (left_steps right_steps : List Step) (u v : Tree) → IsNf parts (all_rules kept) left_steps x.pair.left u
    → IsNf parts (all_rules kept) right_steps x.pair.right v → IsLight parts 256 (lemma_of parts u v)
