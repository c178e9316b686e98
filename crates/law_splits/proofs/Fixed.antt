-- The rule fixes the tree.
use Rattle.std.proofs.Common.{◌≡◌, ℕ, ◌<◌, ◌⊎◌, inl, inr, List, refl, sym, ap, ◌∙◌, subst, arith}
use Rattle.law_splits.specs.Splits.{Split, Kids}
use Rattle.law_splits.specs.Splits.Split.{leaf}
use Rattle.law_splits.specs.Agree.{HasOneValue, AgreeAt, DifferAt, Agree, Differ, IsFirstDifference}
use Rattle.law_splits.specs.Rule.{IsSplitTree, AreSplitKids}
use Rattle.law_splits.specs.Rule.IsSplitTree.{alone, apart}
use Rattle.law_splits.specs.Rule.AreSplitKids.{no_more, next}
use Rattle.law_splits.proofs.Parting.{one_value_at, one_parting}

module _ {A V : Type 0} (allowed : ℕ → Type 0) (M : A → ℕ → V → Type 0) (one : HasOneValue M) where
  -- items that agree at a test don't differ there
  pub not_both : (x y : A) (test : ℕ) → AgreeAt M x y test → DifferAt M x y test → ⊥
  not_both x y test a d = d.4 (one x test d.0 a.0 d.2 a.1 ∙ one y test a.0 d.1 a.2 d.3)

  pub not_agree : (x y : A) → Differ allowed M x y → Agree allowed M x y → ⊥
  not_agree x y d a = not_both x y d.test (a d.test d.is_allowed) d.differ

  one_difference : (x y z w : A) (n m : ℕ) → x ≡ z → y ≡ w → IsFirstDifference allowed M x y n → IsFirstDifference allowed M z w m → n ≡ m
  one_difference x y z w n m e f c d = by (three n m)
    where
      three : (n m : ℕ) → (n < m) ⊎ ((n ≡ m) ⊎ (m < n))
      three n m = grind arith

      differ : (k : ℕ) → DifferAt M x y k → DifferAt M z w k
      differ k h = subst (λ q. DifferAt M q w k) e (subst (λ q. DifferAt M x q k) f h)

      back : (k : ℕ) → DifferAt M z w k → DifferAt M x y k
      back k h = subst (λ q. DifferAt M q y k) (sym e) (subst (λ q. DifferAt M z q k) (sym f) h)

      by : (n < m) ⊎ ((n ≡ m) ⊎ (m < n)) → n ≡ m
      by (inl h) = absurd (not_both z w n (d.agree n h c.is_allowed) (differ n c.differ))
      by (inr (inl h)) = h
      by (inr (inr h)) = absurd (not_both x y m (c.agree m h d.is_allowed) (back m d.differ))

  mutual
    one_tree : {xs ys : List A} {s t : Split A V} → xs ≡ ys → IsSplitTree allowed M xs s → IsSplitTree allowed M ys t → s ≡ t
    one_tree e (alone x) (alone y) = let same : x ≡ y = cc in ap (λ z. leaf z) same
    one_tree e (alone x) (apart y z others m l d ls) = absurd (let no = e in cc)
    one_tree e (apart x z others n k c ks) (alone y) = absurd (let no = e in cc)
    one_tree e (apart x z others n k c ks) (apart y w rest m l d ls) =
        let first : x ≡ y = cc in
        let second : z ≡ w = cc in
        let test : n ≡ m = one_difference x z y w n m first second c d in
        let kids : k ≡ l = one_kids test e ks ls in
        cc

    one_kids : {n m : ℕ} {xs ys : List A} {k l : Kids A V} → n ≡ m → xs ≡ ys → AreSplitKids allowed M n xs k → AreSplitKids allowed M m ys l → k ≡ l
    one_kids t e (no_more n) (no_more m) = refl
    one_kids t e (no_more n) (next m y ys ps qs w tree kids h p s ks) = absurd (let no = e in cc)
    one_kids t e (next n x xs us vs v tree kids h p s ks) (no_more m) = absurd (let no = e in cc)
    one_kids t e (next n x xs us vs v tree kids h p s ks) (next m y ys ps qs w other more g q r ls) =
        let first : x ≡ y = cc in
        let rest : xs ≡ ys = cc in
        let value : v ≡ w = one_value_at M one x y n m v w first t h g in
        let parts = one_parting M one t value rest p q in
        let below : tree ≡ other = one_tree (let a = parts.0 in cc) s r in
        let others : kids ≡ more = one_kids t parts.1 ks ls in
        cc

  pub rule_fixes : (xs : List A) (s t : Split A V) → IsSplitTree allowed M xs s → IsSplitTree allowed M xs t → s ≡ t
  rule_fixes xs s t p q = one_tree refl p q
