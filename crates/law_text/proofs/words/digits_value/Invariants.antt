use Rattle.std.proofs.Common.{◌≡◌, ◌<◌, ◌^◌, drop, true}
use Rattle.std.specs.List.{list_all}
use Rattle.law_lines.specs.Words.{is_digit, digits_on}
use Rattle.law_text.proofs.words.digits_value.Given as goal

abbrev pub invariant-loop-digit : goal.invariant-loop-digit
invariant-loop-digit l = record {
  small : l.value < 2 ^ 63;
  digits : list_all is_digit (drop l.digit-index l.digits) ≡ true;
  same : digits_on l.value (drop l.digit-index l.digits) ≡ digits_on 0 l.digits;
}
