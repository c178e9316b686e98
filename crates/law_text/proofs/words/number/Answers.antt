use Rattle.std.proofs.Common.{◌^◌, rules, arith}
use Rattle.law_lines.proofs.Numbers.{number_is, number_none}
use Rattle.law_text.proofs.words.number.Goals as goal

pub returns-then-is_numeral-clause-some : goal.returns-then-is_numeral-clause-some
returns-then-is_numeral-clause-some c = number_is (2 ^ 63) c.args.word.now c.digits_value.result (omega arith) (search rules)

pub returns-then-is_numeral-clause-none : goal.returns-then-is_numeral-clause-none
returns-then-is_numeral-clause-none c = λ e. number_none (2 ^ 63) c.args.word.now (omega arith) (search rules)

pub returns-else-is_numeral-clause-none : goal.returns-else-is_numeral-clause-none
returns-else-is_numeral-clause-none c = λ e. number_none (2 ^ 63) c.args.word.now (omega arith) (search rules)
