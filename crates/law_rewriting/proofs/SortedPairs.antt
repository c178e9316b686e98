-- A pair of well-sorted equations is well-sorted.
use Rattle.std.proofs.Common.{◌≡◌, inl, inr, Some, List, sym, refl, ap, ◌∙◌}
use Rattle.law_sig.specs.Lists.{Each}
use Rattle.law_sig.specs.Trees.{Subst, substituted}
use Rattle.law_sig.specs.Signature.{sort_of}
use Rattle.law_sig.specs.declared.tree.SortId.{SortId}
use Rattle.law_sig.specs.declared.tree.Tree.{Tree}
use Rattle.law_sig.specs.declared.tree.Tree.TheVariants.{App}
use Rattle.law_sig.specs.declared.parts.Equation.{Equation}
use Rattle.law_sig.specs.declared.parts.SigParts.{SigParts}
use Rattle.law_laws.specs.Renaming.{renamed}
use Rattle.law_laws.specs.Derivation.{HasOneSort}
use Rattle.law_laws.proofs.ListFacts.{of_each, numbered_in}
use Rattle.law_laws.proofs.Sorts.{substituted_sort, var_sorted}
use Rattle.law_laws.proofs.Renaming.{renaming_keeps}
use Rattle.law_sig.specs.Chains.{bound_in, start_side, end_side}
use Rattle.law_rewriting.specs.Heads.{head_sort, sorts_in}
use Rattle.law_rewriting.specs.Unifiers.{IsMostGeneral}
use Rattle.law_rewriting.specs.UnifyingState.{HaveOneSort}
use Rattle.law_rewriting.specs.Pairs.{firsts, place_of, renumbering, Pair, pair_holes, NamedPair, shifted, IsPair}
use Rattle.law_rewriting.specs.PairLaws.{IsSortedPair}
use Rattle.law_rewriting.proofs.Solving.{Solved, solved}
use Rattle.law_rewriting.proofs.Unifiers.{one_renamed}
use Rattle.law_rewriting.proofs.Heads.{binds_keep_sorts}
use Rattle.law_rewriting.proofs.Heads.{head_kept}
use Rattle.law_rewriting.proofs.Sorting.{HasSort, start_sort, end_sort, replaced_sorted, result_sort}
use Rattle.law_rewriting.proofs.Heads.{sorted_head}
use Rattle.law_rewriting.proofs.Renumbering.{moves}

-- a most general unifier of well-sorted terms keeps the sorts of all terms: it is a renaming of the one that is found
pub unifier_sorted : (parts : SigParts) (a b : Tree) → HaveOneSort parts a b → (σ : Subst) → IsMostGeneral (sorts_in parts) σ a b
    → (t : Tree) (w : SortId) → sort_of parts t ≡ Some w → sort_of parts (substituted σ t) ≡ Some w
unifier_sorted parts a b one σ general t w e = by (solved (sorts_in parts) a b)
  where
    by : Solved (sorts_in parts) a b → sort_of parts (substituted σ t) ≡ Some w
    by (inr none) = absurd (none σ general.unifies)
    by (inl (bs, h)) =
        let there = h.unifier.general.general σ general.unifies in
        let back = general.general (bound_in bs) h.unifier.general.unifies in
        ap (sort_of parts) (one_renamed (sorts_in parts) (bound_in bs) σ there back t)
        ∙ substituted_sort parts (renamed (moves there.rest)) (renaming_keeps parts (moves there.rest)) (substituted (bound_in bs) t) w
        (substituted_sort parts (bound_in bs) (binds_keep_sorts parts bs (h.well parts (λ f. refl) one)) t w e)

module _ (parts : SigParts) (equations : List Equation) (sides : Each (HasOneSort parts) equations) (x : NamedPair) (p : IsPair parts equations x) where
  outer_one : HasOneSort parts p.overlaps.outer
  outer_one = of_each (HasOneSort parts) (numbered_in equations x.name.outer p.overlaps.outer p.overlaps.outer_is) sides

  inner_one : HasOneSort parts p.overlaps.inner
  inner_one = of_each (HasOneSort parts) (numbered_in equations x.name.inner p.overlaps.inner p.overlaps.inner_is) sides

  apart_sorted : (t : Tree) (w : SortId) → sort_of parts t ≡ Some w → sort_of parts (substituted (shifted p.overlaps.by) t) ≡ Some w
  apart_sorted t w e = substituted_sort parts (shifted p.overlaps.by) (λ s i declared. var_sorted parts s _ declared) t w e

  found_sorted : HasSort parts (App p.overlaps.head p.overlaps.args)
  found_sorted = replaced_sorted parts p.overlaps.found outer_one.sort (start_sort parts x.name.outer_dir p.overlaps.outer outer_one)

  same_sort : found_sorted.sort ≡ inner_one.sort
  same_sort =
      let a = sorted_head parts (App p.overlaps.head p.overlaps.args) found_sorted.sort found_sorted.is in
      let b = sorted_head parts (substituted (shifted p.overlaps.by) (start_side x.name.inner_dir p.overlaps.inner)) inner_one.sort
      (apart_sorted (start_side x.name.inner_dir p.overlaps.inner) inner_one.sort (start_sort parts x.name.inner_dir p.overlaps.inner inner_one)) in
      let u = p.overlaps.general.unifies in
      sym a ∙ sym (head_kept (sorts_in parts) p.overlaps.σ u.keeps (App p.overlaps.head p.overlaps.args)) ∙ ap (head_sort (sorts_in parts)) u.same
      ∙ head_kept (sorts_in parts) p.overlaps.σ u.keeps (substituted (shifted p.overlaps.by) (start_side x.name.inner_dir p.overlaps.inner)) ∙ b

  unified : (t : Tree) (w : SortId) → sort_of parts t ≡ Some w → sort_of parts (substituted p.overlaps.σ t) ≡ Some w
  unified = unifier_sorted parts (App p.overlaps.head p.overlaps.args) (substituted (shifted p.overlaps.by) (start_side x.name.inner_dir p.overlaps.inner))
      (record {
        sort = inner_one.sort;
        left = found_sorted.is ∙ ap Some same_sort;
        right = apart_sorted (start_side x.name.inner_dir p.overlaps.inner) inner_one.sort (start_sort parts x.name.inner_dir p.overlaps.inner inner_one);
      })
      p.overlaps.σ p.overlaps.general

  peak_sorted : sort_of parts p.raw.peak ≡ Some outer_one.sort
  peak_sorted = ap (sort_of parts) p.overlaps.peak ∙ unified (start_side x.name.outer_dir p.overlaps.outer) outer_one.sort (start_sort parts x.name.outer_dir p.overlaps.outer outer_one)

  right_sorted : sort_of parts p.raw.right ≡ Some outer_one.sort
  right_sorted = ap (sort_of parts) p.overlaps.right ∙ unified (end_side x.name.outer_dir p.overlaps.outer) outer_one.sort (end_sort parts x.name.outer_dir p.overlaps.outer outer_one)

  left_sorted : sort_of parts p.raw.left ≡ Some outer_one.sort
  left_sorted = sym (result_sort parts p.overlaps.left
      (unified (App p.overlaps.head p.overlaps.args) inner_one.sort (found_sorted.is ∙ ap Some same_sort)
      ∙ sym (unified (substituted (shifted p.overlaps.by) (end_side x.name.inner_dir p.overlaps.inner)) inner_one.sort
      (apart_sorted (end_side x.name.inner_dir p.overlaps.inner) inner_one.sort (end_sort parts x.name.inner_dir p.overlaps.inner inner_one))))) ∙ peak_sorted

  tidied_sorted : (t : Tree) → sort_of parts t ≡ Some outer_one.sort → sort_of parts (substituted (renumbering (pair_holes p.raw)) t) ≡ Some outer_one.sort
  tidied_sorted t e = substituted_sort parts (renumbering (pair_holes p.raw)) (renaming_keeps parts (λ s i. place_of i (firsts (pair_holes p.raw s)))) t outer_one.sort e

  pub pair_sorted : IsSortedPair parts x.pair
  pair_sorted = record {
    sort = outer_one.sort;
    peak = ap (λ (z : Pair). sort_of parts z.peak) p.is ∙ tidied_sorted p.raw.peak peak_sorted;
    left = ap (λ (z : Pair). sort_of parts z.left) p.is ∙ tidied_sorted p.raw.left left_sorted;
    right = ap (λ (z : Pair). sort_of parts z.right) p.is ∙ tidied_sorted p.raw.right right_sorted;
  }
