-- What the items of the worked split trees mean at tests.
use Rattle.std.proofs.Common.{sym, ap, ◌∙◌}
use Rattle.std.specs.Prelude.{ℕ, ◌≡◌, ◌<◌, ◌/◌, ◌%◌, if◌then◌else◌, ◌==◌, ◌&&◌, nat_lt, List, length, slice_index}
use Rattle.law_ids.specs.declared.ids.ValueId.{ValueId}

-- two truth values, their conjunction, and that of the first with itself, at tests that give all pairs of values
abbrev pub truth : ℕ → ℕ → ℕ
truth item test = if item == 1 then test / 2 % 2 else (if item == 2 && (test / 2 % 2 == 0) then 0 else test % 2)

-- whether a number is above the hundredth part of the test
abbrev pub above : ℕ → ℕ → ℕ
above item test = if nat_lt (test / 100) item then 1 else 0

-- two values with one number are one
pub one_number : (n : ℕ) (v w : ValueId) → v.0 ≡ n → w.0 ≡ n → v ≡ w
one_number n v w h k = ap (λ m. let u : ValueId = record { 0 = m } in u) (h ∙ sym k)

-- each number is the place at which it stands
abbrev pub IsCounting : List ℕ → Type 0
IsCounting tests = (k : ℕ) → k < length tests → slice_index tests k ≡ k
