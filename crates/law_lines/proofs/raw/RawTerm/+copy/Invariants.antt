use Rattle.std.proofs.Common.{◌≡◌, take}
use Rattle.law_lines.proofs.raw.RawTerm.+copy.Given as goal

abbrev pub invariant-loop-arg : goal.invariant-loop-arg
invariant-loop-arg l = l.args ≡ take l.arg-index l.arg-items
