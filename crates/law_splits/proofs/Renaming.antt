-- A tree stays that of the rule where items and values get other names, and where more is meant.
use Rattle.std.proofs.Common.{◌≡◌, ℕ, List, [], ◌∷◌, map, refl, ap, subst}
use Rattle.law_splits.specs.Splits.{Split, Kids, renamed, renamed_in}
use Rattle.law_splits.specs.Splits.Split.{leaf, split}
use Rattle.law_splits.specs.Splits.Kids.{none, kid}
use Rattle.law_splits.specs.Agree.{IsFirstDifference}
use Rattle.law_splits.specs.Rule.{IsParted, IsSplitTree, AreSplitKids}
use Rattle.law_splits.specs.Rule.IsParted.{done, same, other}
use Rattle.law_splits.specs.Rule.IsSplitTree.{alone, apart}
use Rattle.law_splits.specs.Rule.AreSplitKids.{no_more, next}

module _ {A B V W : Type 0} (allowed : ℕ → Type 0) (M : A → ℕ → V → Type 0) (N : B → ℕ → W → Type 0) (f : A → B) (g : V → W)
    (means : (x : A) (test : ℕ) (v : V) → M x test v → N (f x) test (g v))
    (keeps : (x y : A) (test : ℕ) (v w : V) → M x test v → M y test w → g v ≡ g w → v ≡ w) where
  renamed_difference : (x y : A) (test : ℕ) → IsFirstDifference allowed M x y test → IsFirstDifference allowed N (f x) (f y) test
  renamed_difference x y test d = record {
    is_allowed = d.is_allowed;
    agree = λ k lt a. let r = d.agree k lt a in (g r.0, means x k r.0 r.1, means y k r.0 r.2);
    differ = (g d.differ.0, g d.differ.1, means x test d.differ.0 d.differ.2, means y test d.differ.1 d.differ.3, λ e. d.differ.4 (keeps x y test d.differ.0 d.differ.1 d.differ.2 d.differ.3 e));
  }

  -- an item with the value is at hand, so that another value stays another one
  renamed_parts : {test : ℕ} {v : V} {xs ys zs : List A} (z : A) → M z test v → IsParted M test v xs ys zs → IsParted N test (g v) (map f xs) (map f ys) (map f zs)
  renamed_parts z has done = done
  renamed_parts {test} {v} z has (same x xs ys zs m p) = same (f x) _ _ _ (means x test v m) (renamed_parts z has p)
  renamed_parts {test} {v} z has (other x xs ys zs w m d p) =
      other (f x) _ _ _ (g w) (means x test w m) (λ e. d (keeps x z test w v m has e)) (renamed_parts z has p)

  mutual
    pub renamed_tree : {xs : List A} {tree : Split A V} → IsSplitTree allowed M xs tree → IsSplitTree allowed N (map f xs) (renamed f g tree)
    renamed_tree (alone x) = alone (f x)
    renamed_tree (apart x y others test kids d ks) = apart (f x) (f y) (map f others) test (renamed_in f g kids) (renamed_difference x y test d) (renamed_kids ks)

    renamed_kids : {test : ℕ} {xs : List A} {kids : Kids A V} → AreSplitKids allowed M test xs kids → AreSplitKids allowed N test (map f xs) (renamed_in f g kids)
    renamed_kids (no_more test) = no_more test
    renamed_kids (next test x xs ys zs v tree kids m p t ks) =
        next test (f x) (map f xs) (map f ys) (map f zs) (g v) (renamed f g tree) (renamed_in f g kids) (means x test v m) (renamed_parts x m p) (renamed_tree t) (renamed_kids ks)

mutual
  same_names : {A V : Type 0} (tree : Split A V) → renamed (λ x. x) (λ v. v) tree ≡ tree
  same_names (leaf x) = refl
  same_names (split test kids) = ap (split test) (same_names_in kids)

  same_names_in : {A V : Type 0} (kids : Kids A V) → renamed_in (λ x. x) (λ v. v) kids ≡ kids
  same_names_in none = refl
  same_names_in (kid v tree others) = let a = same_names tree in let b = same_names_in others in cc

same_items : {A : Type 0} (xs : List A) → map (λ x. x) xs ≡ xs
same_items [] = refl
same_items (x ∷ xs) = ap (λ z. x ∷ z) (same_items xs)

-- where more is meant
pub tree_stays : {A V : Type 0} (allowed : ℕ → Type 0) (M N : A → ℕ → V → Type 0) → ((x : A) (test : ℕ) (v : V) → M x test v → N x test v)
    → (xs : List A) (tree : Split A V) → IsSplitTree allowed M xs tree → IsSplitTree allowed N xs tree
tree_stays allowed M N more xs tree t =
    subst (λ z. IsSplitTree allowed N z tree) (same_items xs) (subst (λ z. IsSplitTree allowed N (map (λ x. x) xs) z) (same_names tree)
    (renamed_tree allowed M N (λ x. x) (λ v. v) more (λ x y test v w h k e. e) t))
