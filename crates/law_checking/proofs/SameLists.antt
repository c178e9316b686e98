-- Two lists that are compared item by item.
use Rattle.std.proofs.Common.{◌≡◌, ◌↔◌, ℕ, zero, suc, ◌+◌, ◌≤◌, IsTrue, Bool, true, false, true≢false, Some, slice_get, List, [], ◌∷◌, ◌++◌, length, map, take, refl, sym, ap, ◌∙◌, arith}
use Rattle.std.proofs.lemmas.List.{take_all}
use Rattle.law_sig.specs.declared.parts.SigParts.{SigParts}
use Rattle.law_laws.proofs.BodyFacts.{some_is, none_is}
use Rattle.law_cert_text.specs.declared.cert.RawValues.{RawValues}
use Rattle.law_named.specs.Named.{values_named, pool_named}
use Rattle.law_checking.proofs.NameFacts.{taken}

-- what stands at a place of a list of terms by their names, and of pools
pub get_map : {A B : Type 0} (f : A → B) (xs : List A) (at : ℕ) (x : A) → slice_get xs at ≡ Some x → slice_get (map f xs) at ≡ Some (f x)
get_map f [] at x h = none_is x h
get_map f (y ∷ xs) zero x h = ap Some (ap f (some_is y x h))
get_map f (y ∷ xs) (suc n) x h = get_map f xs n x h

get_from : (parts : SigParts) (turn : ℕ) (raws : List RawValues) (at : ℕ) (raw : RawValues) → slice_get raws at ≡ Some raw
    → slice_get (pool_named parts turn raws) at ≡ Some (values_named parts (turn + at) raw)
get_from parts turn [] at raw h = none_is raw h
get_from parts turn (r ∷ raws) zero raw h =
    let plain : turn ≡ turn + 0 = omega arith in
    ap Some (ap (values_named parts turn) (some_is r raw h) ∙ ap (λ n. values_named parts n raw) plain)
get_from parts turn (r ∷ raws) (suc n) raw h =
    let next : suc turn + n ≡ turn + suc n = omega arith in
    get_from parts (suc turn) raws n raw h ∙ ap (λ k. Some (values_named parts k raw)) next

pub get_pool : (parts : SigParts) (raws : List RawValues) (at : ℕ) (raw : RawValues) → slice_get raws at ≡ Some raw
    → slice_get (pool_named parts 0 raws) at ≡ Some (values_named parts at raw)
get_pool parts raws at raw h =
    let plain : 0 + at ≡ at = omega arith in
    get_from parts 0 raws at raw h ∙ ap (λ n. Some (values_named parts n raw)) plain

pub pool_length : (parts : SigParts) (turn : ℕ) (raws : List RawValues) → length (pool_named parts turn raws) ≡ length raws
pool_length parts turn [] = refl
pool_length parts turn (r ∷ raws) = let h = pool_length parts (suc turn) raws in grind arith

module _ {A : Type 0} (xs ys : List A) where
  -- lists of different lengths aren't the same
  pub never_long : (b : Bool) → b ≡ false → (length xs ≡ length ys → ⊥) → (IsTrue b ↔ (xs ≡ ys))
  never_long b off other = ((λ t. absurd (true≢false (sym t ∙ off))), (λ same. absurd (other (ap length same))))

  -- nor are those with different items at a place
  pub never_same : (b : Bool) → b ≡ false → (at : ℕ) (x y : A) → slice_get xs at ≡ Some x → slice_get ys at ≡ Some y → (x ≡ y → ⊥) → (IsTrue b ↔ (xs ≡ ys))
  never_same b off at x y there there' other =
      ((λ t. absurd (true≢false (sym t ∙ off))), (λ same. absurd (other (some_is x y (sym there ∙ ap (λ l. slice_get l at) same ∙ there')))))

  pub same_on : (at : ℕ) (x y : A) → slice_get xs at ≡ Some x → slice_get ys at ≡ Some y → x ≡ y → take at xs ≡ take at ys → take (at + 1) xs ≡ take (at + 1) ys
  same_on at x y there there' same so_far = taken xs at x there ∙ ap (λ l. l ++ x ∷ []) so_far ∙ ap (λ z. take at ys ++ z ∷ []) same ∙ sym (taken ys at y there')

  pub same_all : (b : Bool) → b ≡ true → (at : ℕ) → length xs ≤ at → length ys ≤ at → take at xs ≡ take at ys → (IsTrue b ↔ (xs ≡ ys))
  same_all b on at past past' so_far = ((λ t. sym (take_all at xs past) ∙ so_far ∙ take_all at ys past'), (λ same. on))
