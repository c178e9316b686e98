-- What stands at a place of a list, as the code asks for it; and what follows from what an answer says.
use Rattle.std.proofs.Common.{◌≡◌, ℕ, zero, suc, ◌<◌, List, [], ◌∷◌, Some, None, Ok, Err, OnOk, OnErr, IfOk, slice_get, slice_index_or, length, refl, sym, ap, subst, arith}
use Rattle.std.specs.declared.result.Result.{Result}
use Rattle.law_laws.proofs.BodyFacts.{some_is, none_is}

pub on_ok : {T E : Type 0} (P Q : Type 0) (r : Result T E) → (P → Q) → OnOk r P → OnOk r Q
on_ok P Q (Ok x) f h = f h
on_ok P Q (Err e) f h = tt

pub if_ok : {T E : Type 0} (P Q : T → Type 0) (r : Result T E) → ((x : T) → P x → Q x) → IfOk r P → IfOk r Q
if_ok P Q (Ok x) f h = f x h
if_ok P Q (Err e) f h = tt

pub on_err : {T E : Type 0} (P Q : Type 0) (r : Result T E) → (P → Q) → OnErr r P → OnErr r Q
on_err P Q (Ok x) f h = tt
on_err P Q (Err e) f h = f h

pub read_at : {A : Type 0} (xs ys : List A) (n : ℕ) (x : A) → ys ≡ xs → n < length ys → x ≡ slice_index_or ys n x → slice_get xs n ≡ Some x
read_at {A} xs ys n x e less read = subst (λ l. slice_get l n ≡ Some x) e (at ys n less read)
  where
    at : (ys : List A) (n : ℕ) → n < length ys → x ≡ slice_index_or ys n x → slice_get ys n ≡ Some x
    at [] n less read = absurd (omega arith)
    at (y ∷ ys) zero less read = ap Some (sym read)
    at (y ∷ ys) (suc n) less read = at ys n (omega arith) read

pub present : {A : Type 0} (xs : List A) (n : ℕ) (d x : A) → Some x ≡ slice_get xs n → slice_index_or xs n d ≡ x
present [] n d x e = none_is x (sym e)
present (y ∷ xs) zero d x e = sym (some_is x y e)
present (y ∷ xs) (suc n) d x e = present xs n d x e

pub missing : {A : Type 0} (xs : List A) (n : ℕ) (d : A) → None ≡ slice_get xs n → slice_index_or xs n d ≡ d
missing [] n d e = refl
missing (x ∷ xs) zero d e = none_is x e
missing (x ∷ xs) (suc n) d e = missing xs n d e
