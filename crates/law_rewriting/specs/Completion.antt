-- Bounded completion: equations are kept, critical pairs are taken in order, and those that aren't joined become lemmas.
use Rattle.std.specs.Prelude.{◌≡◌, ◌≢◌, ℕ, zero, suc, List, [], ◌∷◌, ◌++◌, map, Option, Some, None, option_and_then}
use Rattle.std.specs.declared.cmp.Ordering.{Ordering}
use Rattle.std.specs.declared.cmp.Ordering.TheVariants.{Less, Equal, Greater}
use Rattle.law_sig.specs.Trees.{holes, node_count, substituted}
use Rattle.law_sig.specs.Order.{compare_k}
use Rattle.law_sig.specs.declared.tree.Tree.{Tree}
use Rattle.law_sig.specs.declared.parts.Equation.{Equation}
use Rattle.law_sig.specs.declared.parts.SigParts.{SigParts}
use Rattle.law_sig.specs.declared.chain.Step.{Step}
use Rattle.law_sig.specs.Lists.{numbered}
use Rattle.law_rewriting.specs.Steps.{Rules, IsNf, Meets, meeting_chain}
use Rattle.law_rewriting.specs.Pairs.{renumbering, Exceeds, PairName, NamedPair, IsItem, IsEnd}

-- Kept equations

-- stated, as the background and the laws are, or a lemma
pub data Kept : Type 0 where
  stated : Equation → Kept
  lemma : Equation → Kept

abbrev pub equation_of : Kept → Equation
equation_of (stated q) = q
equation_of (lemma q) = q

abbrev pub stated_of : Kept → Option Equation
stated_of (stated q) = Some q
stated_of (lemma q) = None

abbrev pub equations_of : List Kept → List Equation
equations_of kept = map equation_of kept

-- all of them by their numbers from 1; and the background and the laws alone, by the same numbers
abbrev pub all_rules : List Kept → Rules
all_rules kept n = numbered (equations_of kept) n

abbrev pub base_rules : List Kept → Rules
base_rules kept n = option_and_then stated_of (numbered kept n)

-- joined by this chain: under background and laws alone, or else under all
pub data IsJoin (parts : SigParts) (kept : List Kept) (s t : Tree) : List Step → Type 0 where
  by_base : (m : Meets parts (base_rules kept) s t) → IsJoin parts kept s t (meeting_chain m)
  by_all : (Meets parts (base_rules kept) s t → ⊥) → (m : Meets parts (all_rules kept) s t) → IsJoin parts kept s t (meeting_chain m)

-- The lemma of two terms: the greater in K stands left, and then the variables are renumbered, left side first

abbrev pub tidied : Tree → Tree → Equation
tidied s t = record {
  left = substituted (renumbering (λ sort. holes sort s ++ holes sort t)) s;
  right = substituted (renumbering (λ sort. holes sort s ++ holes sort t)) t;
}

abbrev pub lemma_by : Ordering → Tree → Tree → Equation
lemma_by Less s t = tidied t s
lemma_by Equal s t = tidied s t
lemma_by Greater s t = tidied s t

abbrev pub lemma_of : SigParts → Tree → Tree → Equation
lemma_of parts s t = lemma_by (compare_k parts s t) s t

-- Completion

-- the equations that are kept, how many pairs were taken, and the first that was set aside
pub record State : Type 0 where
  pub kept : List Kept
  pub taken : ℕ
  pub aside : Option PairName

abbrev pub or_else : Option PairName → PairName → Option PairName
or_else None name = Some name
or_else (Some first) name = Some first

-- what becomes of a state that takes this pair. One with more than 64 nodes is set aside; of any other both sides are
-- normalised under all equations, and where the results differ they become a lemma
pub data Becomes (parts : SigParts) (s : State) (x : NamedPair) : State → Type 0 where
  set_aside : Exceeds node_count 64 x.pair → Becomes parts s x (record { kept = s.kept; taken = suc s.taken; aside = or_else s.aside x.name })
  joined : (Exceeds node_count 64 x.pair → ⊥) → Meets parts (all_rules s.kept) x.pair.left x.pair.right
      → Becomes parts s x (record { kept = s.kept; taken = suc s.taken; aside = s.aside })
  learnt : (Exceeds node_count 64 x.pair → ⊥) → (u v : Tree) (left_steps right_steps : List Step) → IsNf parts (all_rules s.kept) left_steps x.pair.left u
      → IsNf parts (all_rules s.kept) right_steps x.pair.right v → u ≢ v
      → Becomes parts s x (record { kept = s.kept ++ lemma (lemma_of parts u v) ∷ []; taken = suc s.taken; aside = s.aside })

-- the next pair is the item of the number of pairs taken
pub record Takes (parts : SigParts) (s t : State) : Type 0 where
  pub pair : NamedPair
  pub item : IsItem parts (equations_of s.kept) s.taken pair
  pub becomes : Becomes parts s pair t

pub data Halt : Type 0 where
  Saturated : Halt
  Spent : Halt
  Aside : PairName → Halt

-- taking so many pairs, or all that there are, leads from one state to another and halts so: spent where so many were taken
-- and one is left; else aside where some pair was ever set aside, with the first of these; else saturated
pub data Advances (parts : SigParts) : State → ℕ → State → Halt → Type 0 where
  spent : (s : State) (x : NamedPair) → IsItem parts (equations_of s.kept) s.taken x → Advances parts s zero s Spent
  saturated : (s : State) (q : ℕ) → IsEnd parts (equations_of s.kept) s.taken → s.aside ≡ None → Advances parts s q s Saturated
  aside : (s : State) (q : ℕ) (name : PairName) → IsEnd parts (equations_of s.kept) s.taken → s.aside ≡ Some name → Advances parts s q s (Aside name)
  takes : (s t e : State) (q : ℕ) (h : Halt) → Takes parts s t → Advances parts t q e h → Advances parts s (suc q) e h
