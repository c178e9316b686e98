-- The lemma of a pair that isn't large weighs little.
use Rattle.std.proofs.Common.{◌≡◌, ℕ, ◌+◌, ◌*◌, ◌≤◌, ◌<◌, ◌⊎◌, inl, inr, List, [], ◌∷◌, ◌++◌, map, ap, ap₂, sym, ◌∙◌, refl, arith}
use Rattle.std.specs.declared.cmp.Ordering.{Ordering}
use Rattle.std.specs.declared.cmp.Ordering.TheVariants.{Less, Equal, Greater}
use Rattle.law_sig.specs.Lists.{Each, total}
use Rattle.law_sig.specs.Trees.{node_count, holes, substituted}
use Rattle.law_sig.specs.Signature.{weight_at}
use Rattle.law_sig.specs.Tests.{weight}
use Rattle.law_sig.specs.Order.{compare_k}
use Rattle.law_sig.specs.declared.tree.SortId.{SortId}
use Rattle.law_sig.specs.declared.tree.Tree.{Tree}
use Rattle.law_sig.specs.declared.parts.SigParts.{SigParts}
use Rattle.law_laws.specs.Renaming.{renamed}
use Rattle.law_laws.proofs.TreeFacts.{tree_induct, nodes-Var, nodes-App, weight-Var, weight-App, substituted-Var, substituted-App}
use Rattle.law_sig.specs.declared.chain.Step.{Step}
use Rattle.law_rewriting.specs.Steps.{IsNf}
use Rattle.law_rewriting.specs.Pairs.{firsts, place_of, Exceeds, NamedPair}
use Rattle.law_rewriting.specs.Completion.{Kept, all_rules, tidied, lemma_by, lemma_of}
use Rattle.law_rewriting.specs.CompletionLaws.{WeighsAtMostFour, IsLight}
use Rattle.law_rewriting.proofs.Places.{numbers_decided}
use Rattle.law_rewriting.proofs.Smaller.{form_weight}

weight_by_nodes : (parts : SigParts) → WeighsAtMostFour parts → (t : Tree) → weight parts t ≤ 4 * node_count t
weight_by_nodes parts four = tree_induct (λ t. weight parts t ≤ 4 * node_count t)
    (λ s i. let a = weight-Var parts s i in let b = nodes-Var s i in omega (arith, a, b))
    (λ f args have. let a = weight-App parts f args in let b = nodes-App f args in let c = all args have in let d = four f in omega (arith, a, b, c, d))
  where
    all : (ts : List Tree) → Each (λ t. weight parts t ≤ 4 * node_count t) ts → total (map (weight parts) ts) ≤ 4 * total (map node_count ts)
    all [] have = omega arith
    all (t ∷ ts) have = let a = have.0 in let b = all ts have.1 in omega (arith, a, b)

-- renamed variables weigh the same
pub renamed_weight : (parts : SigParts) (f : SortId → ℕ → ℕ) (t : Tree) → weight parts (substituted (renamed f) t) ≡ weight parts t
renamed_weight parts f = tree_induct (λ t. weight parts (substituted (renamed f) t) ≡ weight parts t)
    (λ s i. ap (weight parts) (substituted-Var (renamed f) s i) ∙ weight-Var parts s (f s i) ∙ sym (weight-Var parts s i))
    (λ g args have. ap (weight parts) (substituted-App (renamed f) g args) ∙ weight-App parts g (map (substituted (renamed f)) args)
    ∙ ap (λ n. weight_at parts g + n) (all args have) ∙ sym (weight-App parts g args))
  where
    all : (ts : List Tree) → Each (λ t. weight parts (substituted (renamed f) t) ≡ weight parts t) ts
        → total (map (weight parts) (map (substituted (renamed f)) ts)) ≡ total (map (weight parts) ts)
    all [] have = refl
    all (t ∷ ts) have = ap₂ ◌+◌ have.0 (all ts have.1)

tidied_light : (parts : SigParts) (bound : ℕ) (u v : Tree) → weight parts u ≤ bound → weight parts v ≤ bound → IsLight parts bound (tidied u v)
tidied_light parts bound u v h k =
    let f : SortId → ℕ → ℕ = λ s i. place_of i (firsts (holes s u ++ holes s v)) in
    let a = renamed_weight parts f u in let b = renamed_weight parts f v in record { left = omega (arith, a, h); right = omega (arith, b, k) }

pub lemma_light : (parts : SigParts) (kept : List Kept) (x : NamedPair) → WeighsAtMostFour parts → (Exceeds node_count 64 x.pair → ⊥)
    → (left_steps right_steps : List Step) (u v : Tree) → IsNf parts (all_rules kept) left_steps x.pair.left u
    → IsNf parts (all_rules kept) right_steps x.pair.right v → IsLight parts 256 (lemma_of parts u v)
lemma_light parts kept x four small left_steps right_steps u v h k = by (compare_k parts u v)
  where
    bounded : (t w : Tree) → ((64 < node_count t) → ⊥) → weight parts w ≤ weight parts t → weight parts w ≤ 256
    bounded t w few less = at (numbers_decided 64 (node_count t))
      where
        at : (64 < node_count t) ⊎ ((64 ≡ node_count t) ⊎ (node_count t < 64)) → weight parts w ≤ 256
        at (inl more) = absurd (few more)
        at (inr (inl e)) = let a = weight_by_nodes parts four t in omega (arith, a, e, less)
        at (inr (inr l)) = let a = weight_by_nodes parts four t in omega (arith, a, l, less)

    left : weight parts u ≤ 256
    left = bounded x.pair.left u (λ m. small (inr (inl m))) (form_weight parts (all_rules kept) h)

    right : weight parts v ≤ 256
    right = bounded x.pair.right v (λ m. small (inr (inr m))) (form_weight parts (all_rules kept) k)

    by : (o : Ordering) → IsLight parts 256 (lemma_by o u v)
    by Less = tidied_light parts 256 v u right left
    by Equal = tidied_light parts 256 u v left right
    by Greater = tidied_light parts 256 u v left right
