use Rattle.std.proofs.Common.{◌≡◌, take, false}
use Rattle.law_lines.specs.Texts.{has_feed}
use Rattle.law_read.proofs.read.first_line.Given as goal

abbrev pub invariant-loop-at : goal.invariant-loop-at
invariant-loop-at l = has_feed (take l.at l.text) ≡ false
