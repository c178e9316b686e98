-- Each item has one leaf.
use Rattle.std.proofs.Common.{◌≡◌, ◌≢◌, ℕ, ◌⊎◌, inl, inr, List, [], ◌∷◌, ◌++◌, subst}
use Rattle.law_sig.specs.Lists.{In, AreDistinct}
use Rattle.law_sig.specs.Lists.In.{here, there}
use Rattle.law_laws.proofs.ListFacts.{in_rest, in_left, in_right, in_split, each_of, of_each}
use Rattle.law_splits.specs.Splits.{Split, Kids, leaves, leaves_in}
use Rattle.law_splits.specs.Agree.{HasOneValue}
use Rattle.law_splits.specs.Rule.{IsSplitTree, AreSplitKids}
use Rattle.law_splits.specs.Rule.IsSplitTree.{alone, apart}
use Rattle.law_splits.specs.Rule.AreSplitKids.{no_more, next}
use Rattle.law_splits.specs.Laws.{AreLeaves}
use Rattle.law_splits.proofs.Parting.{same_there, other_there, in_part, first_has, other_has}

module _ {A V : Type 0} (allowed : ℕ → Type 0) (M : A → ℕ → V → Type 0) where
  mutual
    pub leaf_is_item : {xs : List A} {tree : Split A V} → IsSplitTree allowed M xs tree → (y : A) → In y (leaves tree) → In y xs
    leaf_is_item (alone x) y at = at
    leaf_is_item (apart x z others test kids d ks) y at = leaves_are_items ks y at

    pub leaves_are_items : {test : ℕ} {xs : List A} {kids : Kids A V} → AreSplitKids allowed M test xs kids → (y : A) → In y (leaves_in kids) → In y xs
    leaves_are_items (no_more test) y at = at
    leaves_are_items (next test x xs ys zs v tree kids m p t ks) y at = by (leaf_is_item t y) (leaves_are_items ks y) (in_split (leaves tree) (leaves_in kids) at)
      where
        same : (y ≡ x) ⊎ In y ys → In y (x ∷ xs)
        same (inl e) = subst (λ z. In y (z ∷ xs)) e here
        same (inr h) = there (same_there M test p y h)

        by : (In y (leaves tree) → In y (x ∷ ys)) → (In y (leaves_in kids) → In y zs) → In y (leaves tree) ⊎ In y (leaves_in kids) → In y (x ∷ xs)
        by here_is there_are (inl h) = same (in_rest (here_is h))
        by here_is there_are (inr h) = there (other_there M test p y (there_are h))

  mutual
    pub item_has_leaf : {xs : List A} {tree : Split A V} → IsSplitTree allowed M xs tree → (y : A) → In y xs → In y (leaves tree)
    item_has_leaf (alone x) y at = at
    item_has_leaf (apart x z others test kids d ks) y at = items_have_leaves ks y at

    pub items_have_leaves : {test : ℕ} {xs : List A} {kids : Kids A V} → AreSplitKids allowed M test xs kids → (y : A) → In y xs → In y (leaves_in kids)
    items_have_leaves (no_more test) y at = at
    items_have_leaves (next test x xs ys zs v tree kids m p t ks) y at = by (item_has_leaf t y) (items_have_leaves ks y) (in_rest at)
      where
        part : (In y (x ∷ ys) → In y (leaves tree)) → (In y zs → In y (leaves_in kids)) → In y ys ⊎ In y zs → In y (leaves tree ++ leaves_in kids)
        part here_is there_are (inl h) = in_left (leaves_in kids) (here_is (there h))
        part here_is there_are (inr h) = in_right (leaves tree) (there_are h)

        by : (In y (x ∷ ys) → In y (leaves tree)) → (In y zs → In y (leaves_in kids)) → (y ≡ x) ⊎ In y xs → In y (leaves tree ++ leaves_in kids)
        by here_is there_are (inl e) = in_left (leaves_in kids) (here_is (subst (λ z. In y (z ∷ ys)) e here))
        by here_is there_are (inr h) = part here_is there_are (in_part M test p y h)

-- two lists without repetition that have nothing in common
pub distinct_joined : {A : Type 0} (xs ys : List A) → AreDistinct xs → AreDistinct ys → ((x y : A) → In x xs → In y ys → x ≢ y) → AreDistinct (xs ++ ys)
distinct_joined [] ys d e f = e
distinct_joined {A} (x ∷ xs) ys d e f = (each_of (λ y. x ≢ y) (xs ++ ys) (λ y at. by y (in_split xs ys at)), distinct_joined xs ys d.1 e (λ a b at bt. f a b (there at) bt))
  where
    by : (y : A) → In y xs ⊎ In y ys → x ≢ y
    by y (inl h) = of_each (λ y. x ≢ y) h d.0
    by y (inr h) = f x y here h

module _ {A V : Type 0} (allowed : ℕ → Type 0) (M : A → ℕ → V → Type 0) (one : HasOneValue M) where
  mutual
    leaf_once : {xs : List A} {tree : Split A V} → IsSplitTree allowed M xs tree → AreDistinct (leaves tree)
    leaf_once (alone x) = (tt, tt)
    leaf_once (apart x z others test kids d ks) = leaves_once ks

    leaves_once : {test : ℕ} {xs : List A} {kids : Kids A V} → AreSplitKids allowed M test xs kids → AreDistinct (leaves_in kids)
    leaves_once (no_more test) = tt
    leaves_once (next test x xs ys zs v tree kids m p t ks) = distinct_joined (leaves tree) (leaves_in kids) (leaf_once t) (leaves_once ks) differ
      where
        differ : (a b : A) → In a (leaves tree) → In b (leaves_in kids) → a ≢ b
        differ a b at bt e =
            let has = first_has M test m p a (leaf_is_item allowed M t a at) in
            let other = other_has M test p b (leaves_are_items allowed M ks b bt) in
            other.2 (one b test other.0 v other.1 (subst (λ z. M z test v) e has))

  pub each_one_leaf : (xs : List A) (tree : Split A V) → IsSplitTree allowed M xs tree → AreLeaves allowed M xs tree
  each_one_leaf xs tree t = record { exact = λ x. (leaf_is_item allowed M t x, item_has_leaf allowed M t x); once = leaf_once t }
