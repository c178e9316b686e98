use Rattle.std.proofs.Common.{◌≡◌, ◌+◌, ◌-◌, ◌%◌, drop}
use Rattle.law_pool.specs.Wheels.{places_of}
use Rattle.law_pool.proofs.own.OwnTests.own.Given as goal

abbrev pub invariant-loop-wheel : goal.invariant-loop-wheel
invariant-loop-wheel l = l.own + places_of (drop l.wheel-index l.wheel-items) l.test ≡ l.test - l.test % l.self.above + places_of l.self.wheels l.test
