-- Where the values of an item lead it: all items elsewhere differ from it.
use Rattle.std.proofs.Common.{◌≡◌, ◌≢◌, ℕ, ◌⊎◌, inl, inr, List, [], ◌∷◌, refl, sym, ◌∙◌, subst}
use Rattle.law_sig.specs.Lists.{In}
use Rattle.law_sig.specs.Lists.In.{here, there}
use Rattle.law_laws.proofs.ListFacts.{in_none, in_rest}
use Rattle.law_splits.specs.Splits.{Split, Kids}
use Rattle.law_splits.specs.Splits.Split.{leaf, split}
use Rattle.law_splits.specs.Splits.Kids.{kid}
use Rattle.law_splits.specs.Agree.{HasOneValue, Differ}
use Rattle.law_splits.specs.Rule.{IsSplitTree, AreSplitKids}
use Rattle.law_splits.specs.Rule.IsSplitTree.{alone, apart}
use Rattle.law_splits.specs.Rule.AreSplitKids.{no_more, next}
use Rattle.law_splits.specs.Placing.{IsKid, LeadsTo}
use Rattle.law_splits.specs.Placing.IsKid.{first, later}
use Rattle.law_splits.specs.Placing.LeadsTo.{start, down}
use Rattle.law_splits.proofs.Parting.{HasOther, same_there, other_there, other_has, in_part, first_has}

module _ {A V : Type 0} (allowed : ℕ → Type 0) (M : A → ℕ → V → Type 0) where
  -- the items below a child: those with its value
  pub record HasItems (test : ℕ) (xs : List A) (v : V) (part : Split A V) : Type 0 where
    pub items : List A
    pub tree : IsSplitTree allowed M items part
    pub are : (y : A) → In y items → In y xs
    pub others : (y : A) → In y xs → In y items ⊎ HasOther M test v y
    pub one : A
    pub is : In one xs
    pub has : M one test v

  -- each item is below a child with its value
  pub record IsBelow (test : ℕ) (kids : Kids A V) (y : A) : Type 0 where
    pub value : V
    pub has : M y test value
    pub part : Split A V
    pub is_kid : IsKid value part kids

  pub below_kid : {test : ℕ} {xs : List A} {kids : Kids A V} → AreSplitKids allowed M test xs kids → (y : A) → In y xs → IsBelow test kids y
  below_kid (no_more test) y at = in_none at
  below_kid (next test x xs ys zs v tree kids m p t ks) y at = by (below_kid ks y) (in_rest at)
    where
      part : (In y zs → IsBelow test kids y) → In y ys ⊎ In y zs → IsBelow test (kid v tree kids) y
      part rest (inl h) = record { value = v; has = first_has M test m p y (there h); part = tree; is_kid = first kids }
      part rest (inr h) = let r = rest h in record { value = r.value; has = r.has; part = r.part; is_kid = later v tree kids r.is_kid }

      by : (In y zs → IsBelow test kids y) → (y ≡ x) ⊎ In y xs → IsBelow test (kid v tree kids) y
      by rest (inl e) = record { value = v; has = subst (λ z. M z test v) (sym e) m; part = tree; is_kid = first kids }
      by rest (inr h) = part rest (in_part M test p y h)

module _ {A V : Type 0} (allowed : ℕ → Type 0) (M : A → ℕ → V → Type 0) (one : HasOneValue M) where
  kid_items : {test : ℕ} {v : V} {part : Split A V} {kids : Kids A V} {xs : List A} → IsKid v part kids → AreSplitKids allowed M test xs kids → HasItems allowed M test xs v part
  kid_items {v = v} {part = part} (first _) (next test x xs ys zs _ tree kids m p t ks) = record {
    items = x ∷ ys;
    tree = t;
    are = λ y at. here_too y (in_rest at);
    others = λ y at. by y (in_rest at);
    one = x;
    is = here;
    has = m;
  }
    where
      here_too : (y : A) → (y ≡ x) ⊎ In y ys → In y (x ∷ xs)
      here_too y (inl e) = subst (λ z. In y (z ∷ xs)) e here
      here_too y (inr h) = there (same_there M test p y h)

      in_rest_of : (y : A) → In y ys ⊎ In y zs → In y (x ∷ ys) ⊎ HasOther M test v y
      in_rest_of y (inl h) = inl (there h)
      in_rest_of y (inr h) = inr (other_has M test p y h)

      by : (y : A) → (y ≡ x) ⊎ In y xs → In y (x ∷ ys) ⊎ HasOther M test v y
      by y (inl e) = inl (subst (λ z. In y (z ∷ ys)) e here)
      by y (inr h) = in_rest_of y (in_part M test p y h)
  kid_items {v = v} {part = part} (later _ _ _ k) (next test x xs ys zs w tree kids m p t ks) = after (kid_items k ks)
    where
      after : HasItems allowed M test zs v part → HasItems allowed M test (x ∷ xs) v part
      after r = record {
        items = r.items;
        tree = r.tree;
        are = λ y at. there (other_there M test p y (r.are y at));
        others = λ y at. by y (in_rest at);
        one = r.one;
        is = there (other_there M test p r.one r.is);
        has = r.has;
      }
        where
          -- the value of the first child is another one
          ne : w ≢ v
          ne e = let o = other_has M test p r.one r.is in o.2 (one r.one test o.0 v o.1 r.has ∙ sym e)

          in_rest_of : (y : A) → In y ys ⊎ In y zs → In y r.items ⊎ HasOther M test v y
          in_rest_of y (inl h) = inr (w, first_has M test m p y (there h), ne)
          in_rest_of y (inr h) = r.others y h

          by : (y : A) → (y ≡ x) ⊎ In y xs → In y r.items ⊎ HasOther M test v y
          by y (inl e) = inr (w, subst (λ z. M z test w) (sym e) m, ne)
          by y (inr h) = in_rest_of y (in_part M test p y h)

  module _ (x : A) where
    -- what is left of a list of items where x is led to a part of their tree
    pub record IsLed (xs : List A) (part : Split A V) : Type 0 where
      pub items : List A
      pub tree : IsSplitTree allowed M items part
      pub are : (y : A) → In y items → In y xs
      pub others : (y : A) → In y xs → In y items ⊎ Differ allowed M x y

    -- a part that is a split
    pub record IsCut (xs : List A) (test : ℕ) (kids : Kids A V) : Type 0 where
      pub is_allowed : allowed test
      pub kids_are : AreSplitKids allowed M test xs kids

    pub cut_of : {xs : List A} {test : ℕ} {kids : Kids A V} → IsSplitTree allowed M xs (split test kids) → IsCut xs test kids
    cut_of (apart y z others test kids d ks) = record { is_allowed = d.is_allowed; kids_are = ks }

    pub only_item : {xs : List A} {y : A} → IsSplitTree allowed M xs (leaf y) → xs ≡ y ∷ []
    only_item (alone y) = refl

    pub led : {xs : List A} {tree part : Split A V} {splits : ℕ} → IsSplitTree allowed M xs tree → LeadsTo (M x) tree splits part → IsLed xs part
    led {xs} t start = record { items = xs; tree = t; are = λ y at. at; others = λ y at. inl at }
    led {xs} t (down splits test kids v part way has k) = after (led t way)
      where
        after : IsLed xs (split test kids) → IsLed xs part
        after r = go (cut_of r.tree)
          where
            go : IsCut r.items test kids → IsLed xs part
            go c = record { items = q.items; tree = q.tree; are = λ y at. r.are y (q.are y at); others = λ y at. by y (r.others y at) }
              where
                q : HasItems allowed M test r.items v part
                q = kid_items k c.kids_are

                of : (y : A) → In y q.items ⊎ HasOther M test v y → In y q.items ⊎ Differ allowed M x y
                of y (inl h) = inl h
                of y (inr h) = inr (record { test = test; is_allowed = c.is_allowed; differ = (v, h.0, has, h.1, λ e. h.2 (sym e)) })

                by : (y : A) → In y r.items ⊎ Differ allowed M x y → In y q.items ⊎ Differ allowed M x y
                by y (inl h) = of y (q.others y h)
                by y (inr d) = inr d

    pub leaf_exact : (xs : List A) (tree : Split A V) → IsSplitTree allowed M xs tree → (y : A) (splits : ℕ) → LeadsTo (M x) tree splits (leaf y)
        → In y xs × ((z : A) → In z xs → (z ≡ y) ⊎ Differ allowed M x z)
    leaf_exact xs tree t y splits way = after (led t way)
      where
        after : IsLed xs (leaf y) → In y xs × ((z : A) → In z xs → (z ≡ y) ⊎ Differ allowed M x z)
        after r = (r.are y (subst (λ q. In y q) (sym (only_item r.tree)) here), λ z at. by z (r.others z at))
          where
            last : (z : A) → (z ≡ y) ⊎ In z [] → (z ≡ y) ⊎ Differ allowed M x z
            last z (inl e) = inl e
            last z (inr h) = in_none h

            by : (z : A) → In z r.items ⊎ Differ allowed M x z → (z ≡ y) ⊎ Differ allowed M x z
            by z (inl h) = last z (in_rest (subst (λ q. In z q) (only_item r.tree) h))
            by z (inr d) = inr d

    pub new_child_exact : (xs : List A) (tree : Split A V) → IsSplitTree allowed M xs tree
        → (v : V) (splits test : ℕ) (kids : Kids A V) → LeadsTo (M x) tree splits (split test kids) → M x test v → ((part : Split A V) → IsKid v part kids → ⊥)
        → (z : A) → In z xs → Differ allowed M x z
    new_child_exact xs tree t v splits test kids way has nowhere z at = after (led t way)
      where
        after : IsLed xs (split test kids) → Differ allowed M x z
        after r = by (r.others z at)
          where
            by : In z r.items ⊎ Differ allowed M x z → Differ allowed M x z
            by (inl h) =
                let c = cut_of r.tree in
                let b = below_kid allowed M c.kids_are z h in
                record { test = test; is_allowed = c.is_allowed; differ = (v, b.value, has, b.has, λ e. nowhere b.part (subst (λ u. IsKid u b.part kids) (sym e) b.is_kid)) }
            by (inr d) = d

-- one is led as far where more values are given
pub leads_stay : {A V : Type 0} (P Q : ℕ → V → Type 0) → ((test : ℕ) (v : V) → P test v → Q test v) → {tree part : Split A V} {splits : ℕ} → LeadsTo P tree splits part → LeadsTo Q tree splits part
leads_stay P Q means start = start
leads_stay P Q means (down splits test kids v part way has k) = down splits test kids v part (leads_stay P Q means way) (means test v has) k
