-- What is said of a result where it is `Ok`, and where it is one error.
use Rattle.std.proofs.Common.{◌≡◌, Ok, Err, Result, OnOk, IsErrOf, sym, ap, ◌∙◌}
use Rattle.std.specs.Result.{IsErrAnd}

pub on_ok : {T E : Type 0} (P Q : Type 0) (r : Result T E) → (P → Q) → OnOk r P → OnOk r Q
on_ok P Q (Ok x) f h = f h
on_ok P Q (Err e) f h = tt

-- an error that is passed on is the one that came
pub passed : {T E : Type 0} (U : Type 0) (r : Result T E) (x e : E) → IsErrAnd r (λ y. y ≡ x) → IsErrOf r e → ◌≡◌ {A = Result U E} (Err x) (Err e)
passed U (Ok y) x e h k = absurd h
passed U (Err y) x e h k = let same : y ≡ e = cc in ap Err (sym h ∙ same)
