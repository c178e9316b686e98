-- Splits tell the items below them apart.
use Rattle.std.proofs.Common.{◌≡◌, ◌≢◌, ℕ, zero, suc, List, [], ◌∷◌, ◌++◌, Some, refl, sym, ap, subst}
use Rattle.std.specs.List.{slice_get}
use Rattle.law_sig.specs.Lists.{In, Each}
use Rattle.law_laws.proofs.ListFacts.{in_left, in_right}
use Rattle.law_splits.specs.Splits.{Split, Kids, leaves, leaves_in, by_child, cuts, cuts_in}
use Rattle.law_splits.specs.Splits.Kids.{none, kid}
use Rattle.law_splits.specs.Agree.{AgreeAt, DifferAt}
use Rattle.law_splits.specs.Rule.{IsSplitTree, AreSplitKids}
use Rattle.law_splits.specs.Rule.IsSplitTree.{alone, apart}
use Rattle.law_splits.specs.Rule.AreSplitKids.{no_more, next}
use Rattle.law_splits.specs.Laws.{Tells}
use Rattle.law_splits.proofs.Parting.{first_has, other_has}
use Rattle.law_splits.proofs.Members.{leaf_is_item, leaves_are_items}

pub in_child : {A V : Type 0} (kids : Kids A V) (i : ℕ) (xs : List A) (x : A) → slice_get (by_child kids) i ≡ Some xs → In x xs → In x (leaves_in kids)
in_child none i xs x e at = cc
in_child (kid v tree others) zero xs x e at = in_left (leaves_in others) (let same : leaves tree ≡ xs = cc in subst (λ z. In x z) (sym same) at)
in_child (kid v tree others) (suc i) xs x e at = in_right (leaves tree) (in_child others i xs x e at)

pub each_joined : {A : Type 0} (P : A → Type 0) (xs ys : List A) → Each P xs → Each P ys → Each P (xs ++ ys)
each_joined P [] ys h k = k
each_joined P (x ∷ xs) ys h k = (h.0, each_joined P xs ys h.1 k)

module _ {A V : Type 0} (allowed : ℕ → Type 0) (M : A → ℕ → V → Type 0) where
  agree_below : {test : ℕ} {all : List A} {kids : Kids A V} → AreSplitKids allowed M test all kids
      → (i : ℕ) (xs : List A) (x y : A) → slice_get (by_child kids) i ≡ Some xs → In x xs → In y xs → AgreeAt M x y test
  agree_below (no_more test) i xs x y e at bt = cc
  agree_below (next test z zs same others v tree kids m p t ks) zero xs x y e at bt =
      let is : leaves tree ≡ xs = cc in
      (v, first_has M test m p x (leaf_is_item allowed M t x (subst (λ z. In x z) (sym is) at)), first_has M test m p y (leaf_is_item allowed M t y (subst (λ z. In y z) (sym is) bt)))
  agree_below (next test z zs same others v tree kids m p t ks) (suc i) xs x y e at bt = agree_below ks i xs x y e at bt

  differ_below : {test : ℕ} {all : List A} {kids : Kids A V} → AreSplitKids allowed M test all kids
      → (i j : ℕ) (xs ys : List A) (x y : A) → i ≢ j → slice_get (by_child kids) i ≡ Some xs → slice_get (by_child kids) j ≡ Some ys → In x xs → In y ys → DifferAt M x y test
  differ_below (no_more test) i j xs ys x y ne e f at bt = cc
  differ_below (next test z zs same others v tree kids m p t ks) zero zero xs ys x y ne e f at bt = absurd (ne refl)
  differ_below (next test z zs same others v tree kids m p t ks) zero (suc j) xs ys x y ne e f at bt =
      let is : leaves tree ≡ xs = cc in
      let has = first_has M test m p x (leaf_is_item allowed M t x (subst (λ z. In x z) (sym is) at)) in
      let other = other_has M test p y (leaves_are_items allowed M ks y (in_child kids j ys y f bt)) in
      (v, other.0, has, other.1, λ q. other.2 (sym q))
  differ_below (next test z zs same others v tree kids m p t ks) (suc i) zero xs ys x y ne e f at bt =
      let is : leaves tree ≡ ys = cc in
      let has = first_has M test m p y (leaf_is_item allowed M t y (subst (λ z. In y z) (sym is) bt)) in
      let other = other_has M test p x (leaves_are_items allowed M ks x (in_child kids i xs x e at)) in
      (other.0, v, other.1, has, other.2)
  differ_below (next test z zs same others v tree kids m p t ks) (suc i) (suc j) xs ys x y ne e f at bt =
      differ_below ks i j xs ys x y (λ q. ne (ap suc q)) e f at bt

  mutual
    pub tells : {xs : List A} {tree : Split A V} → IsSplitTree allowed M xs tree → Each (Tells allowed M) (cuts tree)
    tells (alone x) = tt
    tells (apart x y others test kids d ks) = (record { is_allowed = d.is_allowed; agree = agree_below ks; differ = differ_below ks }, tell_in ks)

    tell_in : {test : ℕ} {xs : List A} {kids : Kids A V} → AreSplitKids allowed M test xs kids → Each (Tells allowed M) (cuts_in kids)
    tell_in (no_more test) = tt
    tell_in (next test x xs ys zs v tree kids m p t ks) = each_joined (Tells allowed M) (cuts tree) (cuts_in kids) (tells t) (tell_in ks)
