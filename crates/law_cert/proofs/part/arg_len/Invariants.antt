use Rattle.std.proofs.Common.{◌≡◌, ◌≤◌, ◌++◌, take, drop}
use Rattle.law_lines.specs.FirstArg.{word_at}
use Rattle.law_cert.proofs.part.arg_len.Given as goal

abbrev pub invariant-loop-at : goal.invariant-loop-at
invariant-loop-at l = record {
  low : l.level ≤ l.at;
  text : take l.at l.bytes ++ word_at l.level (drop l.at l.bytes) ≡ word_at 0 l.bytes;
}
