-- The chain of a lemma goes through the peak of its pair, and replays.
use Rattle.std.proofs.Common.{◌≡◌, ℕ, ◌⊎◌, inl, inr, Some, List, [], ◌∷◌, ◌++◌, map, sym, ap, ◌∙◌, subst, subst₂}
use Rattle.std.specs.declared.cmp.Ordering.{Ordering}
use Rattle.std.specs.declared.cmp.Ordering.TheVariants.{Less, Equal, Greater}
use Rattle.law_sig.specs.Lists.{In, Each}
use Rattle.law_sig.specs.Trees.{holes, Subst, substituted}
use Rattle.law_sig.specs.Signature.{sort_of}
use Rattle.law_sig.specs.Order.{compare_k}
use Rattle.law_sig.specs.Derive.{KeepsSorts}
use Rattle.law_sig.specs.declared.tree.SortId.{SortId}
use Rattle.law_sig.specs.declared.tree.Tree.{Tree}
use Rattle.law_sig.specs.declared.parts.Equation.{Equation}
use Rattle.law_sig.specs.declared.parts.SigParts.{SigParts}
use Rattle.law_sig.specs.declared.chain.Bind.{Bind}
use Rattle.law_sig.specs.declared.chain.Step.{Step}
use Rattle.law_sig.specs.Chains.{start_side, end_side, Rewrites}
use Rattle.law_sig.specs.Chains.Rewrites.{root}
use Rattle.law_laws.specs.Derivation.{HasOneSort}
use Rattle.law_laws.proofs.TreeFacts.{substituted-Var}
use Rattle.law_laws.proofs.Sorts.{substituted_sort}
use Rattle.law_laws.proofs.Renaming.{renaming_keeps}
use Rattle.law_laws.proofs.Derivation.{then as after, substituted_twice}
use Rattle.law_rewriting.specs.Heads.{head_sort, sorts_in, KeepsHeads}
use Rattle.law_rewriting.specs.HeadChains.{ReplaysWith, HasItsSort, HasItsHead}
use Rattle.law_rewriting.specs.HeadChains.ReplaysWith.{done, next}
use Rattle.law_rewriting.specs.Steps.{IsNf, turned}
use Rattle.law_rewriting.specs.Pairs.{firsts, place_of, renumbering, Pair, pair_holes, NamedPair, shifted, IsPair}
use Rattle.law_rewriting.specs.Completion.{Kept, equations_of, all_rules, tidied, lemma_by, lemma_of}
use Rattle.law_rewriting.specs.PairLaws.{IsSortedPair}
use Rattle.law_rewriting.specs.CompletionLaws.{IsProvable}
use Rattle.law_rewriting.proofs.Heads.{head-Var, head_kept, sorted_head}
use Rattle.law_rewriting.proofs.Sorting.{HasSort, inside_sorted, replaced_sorted}
use Rattle.law_rewriting.proofs.SortedPairs.{pair_sorted}
use Rattle.law_rewriting.proofs.OneStep.{in_sides}
use Rattle.law_rewriting.proofs.OnePair.{rewrites_instance}
use Rattle.law_rewriting.proofs.Vars.{Variable}
use Rattle.law_rewriting.proofs.Keys.{keys_of, binds_by, by_keys, rising_by, bound_by}
use Rattle.law_rewriting.proofs.Chains.{AreBindsBy, Binds, step_by, sorted_replays, then_replays, back_replays, turned_rewrites, turned_step, instance_of, chain_instance}
use Rattle.law_rewriting.proofs.Replaying.{form_sorted}

-- there are such bindings
pub binds_for : (q : Equation) (σ : Subst) → (binds : List Bind) × AreBindsBy q σ binds
binds_for q σ = let k = keys_of q in (
  binds_by σ k.0,
  record {
    rising = rising_by σ k.0 k.1.rising;
    exact = λ w i. ((λ at. (k.1.exact w i).0 (subst (In {A = Variable} (w, i)) (by_keys σ k.0) at)), (λ at. subst (In {A = Variable} (w, i)) (sym (by_keys σ k.0)) ((k.1.exact w i).1 at)));
    is = λ w i at. bound_by σ k.0 k.1.rising w i ((k.1.exact w i).1 at);
  },
)

-- The two steps of a pair

sort_by_head : (parts : SigParts) (t : Tree) (s : SortId) → HasSort parts t → head_sort (sorts_in parts) t ≡ s → sort_of parts t ≡ Some s
sort_by_head parts t s h e = h.is ∙ ap Some (sym (sorted_head parts t h.sort h.is) ∙ e)

renumbering_keeps : (parts : SigParts) (seen : SortId → List ℕ) → KeepsHeads (sorts_in parts) (renumbering seen)
renumbering_keeps parts seen s i = head-Var (sorts_in parts) s _

module _ (parts : SigParts) (equations : List Equation) (x : NamedPair) (p : IsPair parts equations x) where
  abbrev pub ρ : Subst
  ρ = renumbering (pair_holes p.raw)

  abbrev pub outer_subst : Subst
  outer_subst = after p.overlaps.σ ρ

  abbrev pub inner_subst : Subst
  inner_subst = after (shifted p.overlaps.by) outer_subst

  outer_head : (s : SortId) (i : ℕ) → head_sort (sorts_in parts) (outer_subst s i) ≡ s
  outer_head s i = head_kept (sorts_in parts) ρ (renumbering_keeps parts (pair_holes p.raw)) (p.overlaps.σ s i) ∙ p.overlaps.general.unifies.keeps s i

  inner_head : (s : SortId) (i : ℕ) → head_sort (sorts_in parts) (inner_subst s i) ≡ s
  inner_head s i = ap (head_sort (sorts_in parts)) (substituted-Var outer_subst s _) ∙ outer_head s _

  peak_is : x.pair.peak ≡ substituted outer_subst (start_side x.name.outer_dir p.overlaps.outer)
  peak_is = ap (λ (z : Pair). z.peak) p.is ∙ ap (substituted ρ) p.overlaps.peak ∙ substituted_twice p.overlaps.σ ρ (start_side x.name.outer_dir p.overlaps.outer)

  right_is : x.pair.right ≡ substituted outer_subst (end_side x.name.outer_dir p.overlaps.outer)
  right_is = ap (λ (z : Pair). z.right) p.is ∙ ap (substituted ρ) p.overlaps.right ∙ substituted_twice p.overlaps.σ ρ (end_side x.name.outer_dir p.overlaps.outer)

  inner_is : (t : Tree) → substituted ρ (substituted p.overlaps.σ (substituted (shifted p.overlaps.by) t)) ≡ substituted inner_subst t
  inner_is t = substituted_twice p.overlaps.σ ρ (substituted (shifted p.overlaps.by) t) ∙ substituted_twice (shifted p.overlaps.by) outer_subst t

  inner_rewrites : Rewrites (substituted inner_subst (start_side x.name.inner_dir p.overlaps.inner)) (substituted inner_subst (end_side x.name.inner_dir p.overlaps.inner)) x.name.place x.pair.peak x.pair.left
  inner_rewrites = subst₂ (λ a b. Rewrites (substituted inner_subst (start_side x.name.inner_dir p.overlaps.inner)) (substituted inner_subst (end_side x.name.inner_dir p.overlaps.inner)) x.name.place a b)
      (sym (ap (λ (z : Pair). z.peak) p.is)) (sym (ap (λ (z : Pair). z.left) p.is))
      (subst₂ (λ a b. Rewrites a b x.name.place (substituted ρ p.raw.peak) (substituted ρ p.raw.left))
      (ap (substituted ρ) p.overlaps.general.unifies.same ∙ inner_is (start_side x.name.inner_dir p.overlaps.inner)) (inner_is (end_side x.name.inner_dir p.overlaps.inner))
      (rewrites_instance ρ p.overlaps.left))

  -- The two steps from the peak, where what they bind has a property

  abbrev pub inner_step : List Bind → Step
  inner_step binds = record { place = x.name.place; number = x.name.inner; dir = x.name.inner_dir; binds = binds }

  abbrev pub outer_step : List Bind → Step
  outer_step binds = record { place = []; number = x.name.outer; dir = x.name.outer_dir; binds = binds }

  -- so from the left to the right, over the peak
  pub pair_chain : (Q : Bind → Type 0) → Binds Q inner_subst p.overlaps.inner → Binds Q outer_subst p.overlaps.outer → (inner_binds outer_binds : List Bind)
      → AreBindsBy p.overlaps.inner inner_subst inner_binds → AreBindsBy p.overlaps.outer outer_subst outer_binds
      → ReplaysWith Q equations (turned (inner_step inner_binds) ∷ outer_step outer_binds ∷ []) x.pair.left x.pair.right
  pair_chain Q inner_has outer_has inner_binds outer_binds h k =
      next (turned (inner_step inner_binds)) (outer_step outer_binds ∷ []) x.pair.left x.pair.peak x.pair.right
      (turned_step Q equations (inner_step inner_binds) x.pair.peak x.pair.left
      (step_by Q equations (inner_step inner_binds) p.overlaps.inner p.overlaps.inner_is inner_subst inner_has h x.pair.peak x.pair.left inner_rewrites))
      (next (outer_step outer_binds) [] x.pair.peak x.pair.right x.pair.right
      (step_by Q equations (outer_step outer_binds) p.overlaps.outer p.overlaps.outer_is outer_subst outer_has k x.pair.peak x.pair.right
      (subst₂ (λ a b. Rewrites (substituted outer_subst (start_side x.name.outer_dir p.overlaps.outer)) (substituted outer_subst (end_side x.name.outer_dir p.overlaps.outer)) [] a b)
      (sym peak_is) (sym right_is) root))
      (done x.pair.right))

  -- by heads it does
  pub outer_by_head : Binds (HasItsHead (sorts_in parts)) outer_subst p.overlaps.outer
  outer_by_head b at e = ap (head_sort (sorts_in parts)) e ∙ outer_head b.sort b.index

  pub inner_by_head : Binds (HasItsHead (sorts_in parts)) inner_subst p.overlaps.inner
  inner_by_head b at e = ap (head_sort (sorts_in parts)) e ∙ inner_head b.sort b.index

-- and in full, where the pair is well-sorted
module _ (parts : SigParts) (equations : List Equation) (x : NamedPair) (p : IsPair parts equations x) (sorted : IsSortedPair parts x.pair) where
  abbrev outer : Subst
  outer = outer_subst parts equations x p

  abbrev inner : Subst
  inner = inner_subst parts equations x p

  pub outer_sorted : Binds (HasItsSort parts) outer p.overlaps.outer
  outer_sorted b at e = ap (sort_of parts) e ∙ by (in_sides x.name.outer_dir p.overlaps.outer b.sort b.index at)
    where
      by : In b.index (holes b.sort (start_side x.name.outer_dir p.overlaps.outer)) ⊎ In b.index (holes b.sort (end_side x.name.outer_dir p.overlaps.outer)) → sort_of parts (outer b.sort b.index) ≡ Some b.sort
      by (inl k) = sort_by_head parts (outer b.sort b.index) b.sort (inside_sorted parts outer (start_side x.name.outer_dir p.overlaps.outer) sorted.sort
          (ap (sort_of parts) (sym (peak_is parts equations x p)) ∙ sorted.peak) b.sort b.index k) (outer_head parts equations x p b.sort b.index)
      by (inr k) = sort_by_head parts (outer b.sort b.index) b.sort (inside_sorted parts outer (end_side x.name.outer_dir p.overlaps.outer) sorted.sort
          (ap (sort_of parts) (sym (right_is parts equations x p)) ∙ sorted.right) b.sort b.index k) (outer_head parts equations x p b.sort b.index)

  pub inner_sorted : Binds (HasItsSort parts) inner p.overlaps.inner
  inner_sorted b at e = ap (sort_of parts) e ∙ by (in_sides x.name.inner_dir p.overlaps.inner b.sort b.index at)
    where
      by : In b.index (holes b.sort (start_side x.name.inner_dir p.overlaps.inner)) ⊎ In b.index (holes b.sort (end_side x.name.inner_dir p.overlaps.inner)) → sort_of parts (inner b.sort b.index) ≡ Some b.sort
      by (inl k) = let h = replaced_sorted parts (inner_rewrites parts equations x p) sorted.sort sorted.peak in
          sort_by_head parts (inner b.sort b.index) b.sort (inside_sorted parts inner (start_side x.name.inner_dir p.overlaps.inner) h.sort h.is b.sort b.index k) (inner_head parts equations x p b.sort b.index)
      by (inr k) = let h = replaced_sorted parts (turned_rewrites (inner_rewrites parts equations x p)) sorted.sort sorted.left in
          sort_by_head parts (inner b.sort b.index) b.sort (inside_sorted parts inner (end_side x.name.inner_dir p.overlaps.inner) h.sort h.is b.sort b.index k) (inner_head parts equations x p b.sort b.index)

-- Lemmas

tidied_chain : (parts : SigParts) (equations : List Equation) (u v : Tree) (w : SortId) → sort_of parts u ≡ Some w → sort_of parts v ≡ Some w → {steps : List Step}
    → ReplaysWith (HasItsSort parts) equations steps u v → IsProvable parts equations (tidied u v)
tidied_chain parts equations u v w e d {steps = steps} chain =
    let ρ : Subst = renumbering (λ s. holes s u ++ holes s v) in
    let keeps : KeepsSorts parts ρ = renaming_keeps parts (λ s i. place_of i (firsts (holes s u ++ holes s v))) in
    record {
      steps = map (instance_of ρ) steps;
      chain = sorted_replays parts equations (chain_instance (HasItsSort parts) (HasItsSort parts) equations ρ (λ b h. substituted_sort parts ρ keeps b.term b.sort h) chain);
      sorted = record { sort = w; left = substituted_sort parts ρ keeps u w e; right = substituted_sort parts ρ keeps v w d };
    }

pub lemma_chain : (parts : SigParts) (kept : List Kept) → Each (HasOneSort parts) (equations_of kept) → (x : NamedPair) → IsPair parts (equations_of kept) x
    → (left_steps right_steps : List Step) (u v : Tree) → IsNf parts (all_rules kept) left_steps x.pair.left u → IsNf parts (all_rules kept) right_steps x.pair.right v
    → IsProvable parts (equations_of kept) (lemma_of parts u v)
lemma_chain parts kept sides x p left_steps right_steps u v h k =
    let sorted = pair_sorted parts (equations_of kept) sides x p in
    let l = form_sorted parts (equations_of kept) (all_rules kept) sides (λ n q e. e) h sorted.sort sorted.left in
    let r = form_sorted parts (equations_of kept) (all_rules kept) sides (λ n q e. e) k sorted.sort sorted.right in
    let i = binds_for p.overlaps.inner (inner_subst parts (equations_of kept) x p) in
    let o = binds_for p.overlaps.outer (outer_subst parts (equations_of kept) x p) in
    let c = pair_chain parts (equations_of kept) x p (HasItsSort parts) (inner_sorted parts (equations_of kept) x p sorted) (outer_sorted parts (equations_of kept) x p sorted) i.0 o.0 i.1 o.1 in
    let whole = then_replays (HasItsSort parts) (equations_of kept) (back_replays (HasItsSort parts) (equations_of kept) l.chain) (then_replays (HasItsSort parts) (equations_of kept) c r.chain) in
    by (compare_k parts u v) (tidied_chain parts (equations_of kept) u v sorted.sort l.sorted r.sorted whole)
    (tidied_chain parts (equations_of kept) v u sorted.sort r.sorted l.sorted (back_replays (HasItsSort parts) (equations_of kept) whole))
  where
    by : (o : Ordering) → IsProvable parts (equations_of kept) (tidied u v) → IsProvable parts (equations_of kept) (tidied v u) → IsProvable parts (equations_of kept) (lemma_by o u v)
    by Less onward back = back
    by Equal onward back = onward
    by Greater onward back = onward
