use Rattle.std.proofs.Common.{◌≡◌, drop}
use Rattle.law_typing.specs.Stated.{pairs_in}
use Rattle.law_types.proofs.stated.pairs_in.Given as goal

abbrev pub invariant-loop-line : goal.invariant-loop-line
invariant-loop-line l = pairs_in (drop l.line-index l.lines) ≡ pairs_in l.lines
