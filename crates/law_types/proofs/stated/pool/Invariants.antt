use Rattle.std.proofs.Common.{◌≡◌, ◌++◌, drop}
use Rattle.law_typing.specs.Stated.{stated_values}
use Rattle.law_types.proofs.stated.pool.Given as goal

abbrev pub invariant-loop-line : goal.invariant-loop-line
invariant-loop-line l = l.found ++ stated_values l.text (drop l.line-index l.lines) ≡ stated_values l.text l.lines
