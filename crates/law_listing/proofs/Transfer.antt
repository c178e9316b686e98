-- What comes first and next of some things, told by what comes first and next of others that stand for them.
use Rattle.std.proofs.Common.{◌≡◌, ◌⊎◌, inl, inr, [], ◌∷◌, subst}
use Rattle.law_sig.specs.Expected.{IsFirstAbove, IsSpent}

-- things of one kind stand for those of another, in order
pub record StandFor {A B : Type 0} (R : A → A → Type 0) (S : B → B → Type 0) (P : A → Type 0) (Q : B → Type 0) (Of : A → B → Type 0) : Type 0 where
  pub strict : (x : B) → S x x → ⊥
  pub chain : (x y z : B) → S x y → S y z → S x z
  pub compared : (a b : A) → P a → P b → (a ≡ b) ⊎ (R a b ⊎ R b a)
  pub holds : (a : A) (x : B) → P a → Of a x → Q x
  pub found : (x : B) → Q x → (a : A) × P a × Of a x
  pub one : (a : A) (x y : B) → Of a x → Of a y → x ≡ y
  pub rises : (a b : A) (x y : B) → P a → P b → Of a x → Of b y → R a b → S x y

module _ {A B : Type 0} (R : A → A → Type 0) (S : B → B → Type 0) (P : A → Type 0) (Q : B → Type 0) (Of : A → B → Type 0) (s : StandFor R S P Q Of) where
  pub spent_first : IsSpent R P [] → IsSpent S Q []
  spent_first spent y y_is above = let (b, b_is, of) = s.found y y_is in spent b b_is tt

  -- what stands after x is told by what stands after a
  after : (a b : A) (x y : B) → P a → P b → Of a x → Of b y → S x y → R a b
  after a b x y a_is b_is a_of b_of less = by (s.compared a b a_is b_is)
    where
      by : (a ≡ b) ⊎ (R a b ⊎ R b a) → R a b
      by (inl e) = absurd (s.strict y (subst (λ z. S z y) (s.one b x y (subst (λ c. Of c x) e a_of) b_of) less))
      by (inr (inl h)) = h
      by (inr (inr h)) = absurd (s.strict x (s.chain x y x less (s.rises b a y x b_is a_is b_of a_of h)))

  pub spent_next : (a : A) (x : B) → P a → Of a x → IsSpent R P (a ∷ []) → IsSpent S Q (x ∷ [])
  spent_next a x a_is a_of spent y y_is above = let (b, b_is, b_of) = s.found y y_is in spent b b_is (after a b x y a_is b_is a_of b_of above.0, tt)

  ordered : (a b : A) (x y : B) → Of a x → Of b y → P a → P b → (b ≡ a) ⊎ R a b → (y ≡ x) ⊎ S x y
  ordered a b x y a_of b_of a_is b_is (inl e) = inl (s.one a y x (subst (λ c. Of c y) e b_of) a_of)
  ordered a b x y a_of b_of a_is b_is (inr h) = inr (s.rises a b x y a_is b_is a_of b_of h)

  pub first_first : (a : A) (x : B) → Of a x → IsFirstAbove R P [] a → IsFirstAbove S Q [] x
  first_first a x a_of f = record {
    is = s.holds a x f.is a_of;
    above = tt;
    least = λ y y_is above. let (b, b_is, b_of) = s.found y y_is in ordered a b x y a_of b_of f.is b_is (f.least b b_is tt);
  }

  pub next_next : (a b : A) (x y : B) → P a → Of a x → Of b y → IsFirstAbove R P (a ∷ []) b → IsFirstAbove S Q (x ∷ []) y
  next_next a b x y a_is a_of b_of f = record {
    is = s.holds b y f.is b_of;
    above = (s.rises a b x y a_is f.is a_of b_of f.above.0, tt);
    least = λ z z_is above.
        let (c, c_is, c_of) = s.found z z_is in
        ordered b c y z b_of c_of f.is c_is (f.least c c_is (after a c x z a_is c_is a_of c_of above.0, tt));
  }
