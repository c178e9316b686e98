use Rattle.std.proofs.Common.{◌≡◌, ◌≤◌, drop}
use Rattle.law_pool.specs.Wheels.{turned}
use Rattle.law_pool.proofs.own.OwnTests.turn.Given as goal

abbrev pub invariant-loop-wheel : goal.invariant-loop-wheel
invariant-loop-wheel l = record {
  turned : turned l.self.above (drop l.wheel-index l.wheel-items) l.at ≡ turned l.self.above l.self.wheels l.test;
  below : l.at ≤ l.test;
}
