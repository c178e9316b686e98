use Rattle.std.proofs.Common.{◌≡◌, drop}
use Rattle.law_typing.specs.Stated.{budget_in}
use Rattle.law_types.proofs.stated.budget_in.Given as goal

abbrev pub invariant-loop-line : goal.invariant-loop-line
invariant-loop-line l = budget_in (drop l.line-index l.lines) ≡ budget_in l.lines
