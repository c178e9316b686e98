use Rattle.std.proofs.Common.{◌≡◌, drop, true}
use Rattle.law_lines.specs.Faults.{spaces_fit}
use Rattle.law_read.proofs.sig_lines.is_spaced.Given as goal

abbrev pub invariant-loop-byte : goal.invariant-loop-byte
invariant-loop-byte l = spaces_fit l.behind (drop l.byte-index l.bytes) ≡ spaces_fit true l.bytes
