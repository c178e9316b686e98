use Rattle.std.proofs.Common.{◌^◌, arith}
use Rattle.law_lines.proofs.Numbers.{passed}
use Rattle.law_text.proofs.words.digits_value.Goals as goal

pub returns-then-value-more : goal.returns-then-value-more
returns-then-value-more c =
    passed (2 ^ 63) c.loop-digit.value c.loop-digit.digit-index c.args.digits.now c.loop-digit-test.true c.loop-digit.invariant.same (omega arith)
