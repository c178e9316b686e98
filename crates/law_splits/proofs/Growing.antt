-- The tree in which an item was placed is that of the rule, and there is a way to place an item that differs from all others.
use Rattle.std.proofs.Common.{◌≡◌, ◌≢◌, ℕ, ◌⊎◌, inl, inr, List, [], ◌∷◌, ◌++◌, sym, subst}
use Rattle.law_sig.specs.Lists.{In}
use Rattle.law_sig.specs.Lists.In.{here, there}
use Rattle.law_laws.proofs.ListFacts.{in_rest}
use Rattle.law_splits.specs.Splits.{Split, Kids}
use Rattle.law_splits.specs.Splits.Split.{leaf}
use Rattle.law_splits.specs.Splits.Kids.{none, kid}
use Rattle.law_splits.specs.Agree.{IsFirstDifference}
use Rattle.law_splits.specs.Rule.{IsSplitTree, AreSplitKids}
use Rattle.law_splits.specs.Rule.IsParted.{done, other}
use Rattle.law_splits.specs.Rule.IsSplitTree.{alone, apart}
use Rattle.law_splits.specs.Rule.AreSplitKids.{no_more, next}
use Rattle.law_splits.specs.Placing.{Placed, PlacedAmong}
use Rattle.law_splits.specs.Placing.Placed.{apart as split_leaf, below}
use Rattle.law_splits.specs.Placing.PlacedAmong.{at_last, at_kid, past_kid}
use Rattle.law_splits.proofs.Parting.{same_there, other_there, same_last, other_last}

module _ {A V : Type 0} (allowed : ℕ → Type 0) (M : A → ℕ → V → Type 0) (x : A) where
  mutual
    grows : {xs : List A} {tree more : Split A V} → IsSplitTree allowed M xs tree → Placed allowed M x tree more → IsSplitTree allowed M (xs ++ x ∷ []) more
    grows (alone y) (split_leaf _ test d) =
        apart y x [] test _ d (next test y (x ∷ []) [] (x ∷ []) d.differ.0 (leaf y) _ d.differ.2 (other x [] [] [] d.differ.1 d.differ.3 (λ e. d.differ.4 (sym e)) done) (alone y)
        (next test x [] [] [] d.differ.1 (leaf x) none d.differ.3 done (alone x) (no_more test)))
    grows (apart y z others test kids d ks) (below _ _ more among) = apart y z (others ++ x ∷ []) test more d (grow ks among)

    grow : {test : ℕ} {xs : List A} {kids more : Kids A V} → AreSplitKids allowed M test xs kids → PlacedAmong allowed M x test kids more
        → AreSplitKids allowed M test (xs ++ x ∷ []) more
    grow (no_more test) (at_last _ v m) = next test x [] [] [] v (leaf x) none m done (alone x) (no_more test)
    grow (next test y xs ys zs v tree kids m p t ks) (at_kid _ _ _ more _ has placed) =
        next test y (xs ++ x ∷ []) (ys ++ x ∷ []) zs v more kids m (same_last M test x has p) (grows t placed) ks
    grow (next test y xs ys zs v tree kids m p t ks) (past_kid _ _ w _ _ more has ne among) =
        next test y (xs ++ x ∷ []) ys (zs ++ x ∷ []) v tree more m (other_last M test x w has ne p) t (grow ks among)

  pub placing_grows : (xs : List A) (tree more : Split A V) → IsSplitTree allowed M xs tree → Placed allowed M x tree more → IsSplitTree allowed M (xs ++ x ∷ []) more
  placing_grows xs tree more t placed = grows t placed

module _ {A V : Type 0} (allowed : ℕ → Type 0) (M : A → ℕ → V → Type 0) (x : A) (decide : (v w : V) → (v ≡ w) ⊎ (v ≢ w))
    (value : (test : ℕ) → allowed test → (v : V) × M x test v) where
  mutual
    others_placed : {xs : List A} {tree : Split A V} → IsSplitTree allowed M xs tree → ((y : A) → In y xs → (test : ℕ) × IsFirstDifference allowed M y x test)
        → (more : Split A V) × Placed allowed M x tree more
    others_placed (alone y) first = let d = first y here in (_, split_leaf y d.0 d.1)
    others_placed (apart y z others test kids d ks) first = let r = place ks d.is_allowed first in (_, below test kids r.0 r.1)

    place : {test : ℕ} {xs : List A} {kids : Kids A V} → AreSplitKids allowed M test xs kids → allowed test → ((y : A) → In y xs → (t : ℕ) × IsFirstDifference allowed M y x t)
        → (more : Kids A V) × PlacedAmong allowed M x test kids more
    place (no_more test) is first = let v = value test is in (_, at_last test v.0 v.1)
    place (next test y xs ys zs v tree kids m p t ks) is first = by (value test is)
        (others_placed t (λ z at. first z (first_there z (in_rest at)))) (place ks is (λ z at. first z (there (other_there M test p z at))))
      where
        first_there : (z : A) → (z ≡ y) ⊎ In z ys → In z (y ∷ xs)
        first_there z (inl e) = subst (λ q. In z (q ∷ xs)) e here
        first_there z (inr h) = there (same_there M test p z h)

        by : (w : V) × M x test w → (more : Split A V) × Placed allowed M x tree more → (more : Kids A V) × PlacedAmong allowed M x test kids more
            → (more : Kids A V) × PlacedAmong allowed M x test (kid v tree kids) more
        by has in_tree in_kids = at (decide has.0 v)
          where
            at : (has.0 ≡ v) ⊎ (has.0 ≢ v) → (more : Kids A V) × PlacedAmong allowed M x test (kid v tree kids) more
            at (inl e) = (_, at_kid test v tree in_tree.0 kids (subst (λ z. M x test z) e has.1) in_tree.1)
            at (inr ne) = (_, past_kid test v has.0 tree kids in_kids.0 has.1 ne in_kids.1)

  pub other_placed : (xs : List A) (tree : Split A V) → IsSplitTree allowed M xs tree → ((y : A) → In y xs → (test : ℕ) × IsFirstDifference allowed M y x test)
      → (more : Split A V) × Placed allowed M x tree more
  other_placed xs tree t first = others_placed t first
