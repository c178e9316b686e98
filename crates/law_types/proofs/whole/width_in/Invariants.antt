use Rattle.std.proofs.Common.{◌≡◌, drop}
use Rattle.law_typing.specs.Declarations.{width_in}
use Rattle.law_types.proofs.whole.width_in.Given as goal

abbrev pub invariant-loop-line : goal.invariant-loop-line
invariant-loop-line l = width_in (drop l.line-index l.lines) ≡ width_in l.lines
