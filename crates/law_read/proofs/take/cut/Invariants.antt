use Rattle.std.proofs.Common.{◌≡◌, take, drop}
use Rattle.law_lines.specs.Numbers.{cut}
use Rattle.law_lines.proofs.Cuts.{with_front}
use Rattle.law_read.proofs.take.cut.Given as goal

abbrev pub invariant-loop-at : goal.invariant-loop-at
invariant-loop-at l = with_front (take l.at l.word) (cut (drop l.at l.word)) ≡ cut l.word
