use Rattle.std.proofs.Common.{◌≡◌, drop}
use Rattle.law_typing.specs.Declarations.{vars_in}
use Rattle.law_types.proofs.whole.vars_in.Given as goal

abbrev pub invariant-loop-line : goal.invariant-loop-line
invariant-loop-line l = vars_in (drop l.line-index l.lines) ≡ vars_in l.lines
