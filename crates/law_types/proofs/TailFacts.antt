-- Heights that are high enough for the sorts so far.
use Rattle.std.proofs.Common.{◌≡◌, ℕ, suc, ◌+◌, ◌-◌, ◌<◌, false, ◌||◌, ap, sym, ◌∙◌, arith}
use Rattle.law_typing.specs.LineFaults.{is_too_low, some_too_low}
use Rattle.law_typing.specs.declared.whole.Whole.{Whole}

pub high_enough : (text : Whole) (height at count : ℕ) → at < count → is_too_low text height (record { 0 = at }) ≡ false
    → some_too_low text height (at + 1) (count - (at + 1)) ≡ some_too_low text height at (count - at)
high_enough text height at count within passed =
    sym (ap (λ n. some_too_low text height at n) left ∙ ap (λ b. b || some_too_low text height (at + 1) (count - (at + 1))) passed)
  where
    left : count - at ≡ suc (count - (at + 1))
    left = omega arith
