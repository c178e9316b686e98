use Rattle.std.proofs.Common.{◌≡◌, take}
use Rattle.law_lines.proofs.sig.RawSig.copy.Given as goal

abbrev pub invariant-loop-line : goal.invariant-loop-line
invariant-loop-line l = l.lines ≡ take l.line-index l.line-items
