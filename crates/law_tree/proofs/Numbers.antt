-- Numbers of items.
use Rattle.std.proofs.Common.{◌≡◌, ◌≢◌, ℕ, zero, suc, ◌<◌, ◌⊎◌, inl, inr, List, [], ◌∷◌, ◌++◌, length, Some, ap, ◌∙◌, subst, arith, length-append}
use Rattle.std.specs.List.{slice_get}
use Rattle.std.proofs.lemmas.Option.{slice_get_within}
use Rattle.law_sig.specs.Lists.{In}
use Rattle.law_sig.specs.Lists.In.{here}
use Rattle.law_laws.proofs.ListFacts.{in_none, in_rest, in_left, in_right, in_split}
use Rattle.law_splits.specs.Agree.{HasOneValue, Differ}
use Rattle.law_ids.specs.declared.ids.ValueId.{ValueId}
use Rattle.law_tree.specs.Grown.{numbered, numbers_below}
use Rattle.law_tree.proofs.ListFacts.{same_or, one_item, get_left, get_right}

pub number_in : (n k : ℕ) → k < n → In k (numbers_below n)
number_in zero k lt = absurd (omega arith)
number_in (suc n) k lt = by (same_or k n) (λ le. number_in n k le)
  where
    by : (k ≡ n) ⊎ (k ≢ n) → (k < n → In k (numbers_below n)) → In k (numbers_below n ++ n ∷ [])
    by (inl e) rest = in_right (numbers_below n) (subst (λ z. In k (z ∷ [])) e here)
    by (inr ne) rest = in_left (n ∷ []) (rest (omega arith))

pub in_number : (n k : ℕ) → In k (numbers_below n) → k < n
in_number zero k at = in_none at
in_number (suc n) k at = by (in_split (numbers_below n) (n ∷ []) at) (λ h. in_number n k h)
  where
    last : (k ≡ n) ⊎ In k [] → k < suc n
    last (inl e) = omega arith
    last (inr h) = in_none h

    by : In k (numbers_below n) ⊎ In k (n ∷ []) → (In k (numbers_below n) → k < n) → k < suc n
    by (inl h) rest = let lt = rest h in omega arith
    by (inr h) rest = last (in_rest h)

pub one_more_number : {T : Type 0} (items : List T) (item : T) → numbers_below (length (items ++ item ∷ [])) ≡ numbers_below (length items) ++ length items ∷ []
one_more_number items item = ap numbers_below (let e : length (items ++ item ∷ []) ≡ suc (length items) = omega (arith, length-append items (item ∷ [])) in e)

module _ {T : Type 0} (M : T → ℕ → ValueId → Type 0) where
  pub numbered_one : ((x : T) (test : ℕ) (v w : ValueId) → M x test v → M x test w → v ≡ w) → (items : List T) → HasOneValue (numbered M items)
  numbered_one one items n test v w (x, at, h) (y, bt, k) = one y test v w (subst (λ z. M z test v) (one_item items n x y at bt) h) k

  pub numbered_stays : (N : T → ℕ → ValueId → Type 0) → ((x : T) (test : ℕ) (v : ValueId) → M x test v → N x test v) → (items : List T) (n test : ℕ) (v : ValueId)
      → numbered M items n test v → numbered N items n test v
  numbered_stays N more items n test v (x, at, h) = (x, at, more x test v h)

  module _ (items : List T) (item : T) where
    pub numbered_more : (n test : ℕ) (v : ValueId) → numbered M items n test v → numbered M (items ++ item ∷ []) n test v
    numbered_more n test v (x, at, h) = (x, get_left items (item ∷ []) n (slice_get_within items n x at) ∙ at, h)

    pub last_is : slice_get (items ++ item ∷ []) (length items) ≡ Some item
    last_is = get_right items (item ∷ []) (length items) 0 (omega arith)

    -- the last item, by its number
    pub last_numbered : (test : ℕ) (v : ValueId) → M item test v → numbered M (items ++ item ∷ []) (length items) test v
    last_numbered test v h = (item, last_is, h)

    pub last_means : (test : ℕ) (v : ValueId) → numbered M (items ++ item ∷ []) (length items) test v → M item test v
    last_means test v (x, at, h) = subst (λ z. M z test v) (one_item (items ++ item ∷ []) (length items) x item at last_is) h

    -- what its number differs from, it differs from
    pub differ_numbered : (allowed : ℕ → Type 0) (n : ℕ) (x : T) → slice_get items n ≡ Some x → Differ allowed (numbered M (items ++ item ∷ [])) (length items) n → Differ allowed M item x
    differ_numbered allowed n x at d = record {
      test = d.test;
      is_allowed = d.is_allowed;
      differ = let (v, w, h, (y, bt, k), ne) = d.differ in (
        v,
        w,
        last_means d.test v h,
        subst (λ z. M z d.test w) (one_item (items ++ item ∷ []) n y x bt (get_left items (item ∷ []) n (slice_get_within items n x at) ∙ at)) k,
        ne,
      );
    }
