use Rattle.std.proofs.Common.{◌+◌, ◌-◌}
use Rattle.law_cli.specs.Reading.{IsReading}
use Rattle.law_cli.proofs.input.read_all.Given as goal

abbrev pub invariant-loop-got : goal.invariant-loop-got
invariant-loop-got g l =
    IsReading l.fn.asked (g.S.Source.left l.initial.input) (g.S.Source.left l.input) l.pieces l.count (g.S.Source.faults l.initial.input) (g.S.Source.faults l.input)

abbrev pub decreases-loop-got : goal.decreases-loop-got
decreases-loop-got g l = l.most + 1 - l.count
