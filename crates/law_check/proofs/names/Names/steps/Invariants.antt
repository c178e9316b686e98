use Rattle.std.proofs.Common.{◌≡◌, take, map}
use Rattle.law_named.specs.Named.{step_named}
use Rattle.law_check.proofs.names.Names.steps.Given as goal

abbrev pub invariant-loop-step : goal.invariant-loop-step
invariant-loop-step l = l.found ≡ map (step_named l.self) (take l.step-index l.steps)
