use Rattle.std.proofs.Common.{◌≡◌, drop}
use Rattle.law_typing.specs.Stated.{size_in}
use Rattle.law_types.proofs.stated.size_in.Given as goal

abbrev pub invariant-loop-line : goal.invariant-loop-line
invariant-loop-line l = size_in (drop l.line-index l.lines) ≡ size_in l.lines
