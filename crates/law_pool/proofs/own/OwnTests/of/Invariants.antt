use Rattle.std.proofs.Common.{◌≡◌, ◌*◌, ◌++◌}
use Rattle.law_own.specs.Own.{vars_of}
use Rattle.law_pool.specs.Wheels.{wheels_in, ways_in}
use Rattle.law_pool.proofs.Slots.{slots_from}
use Rattle.law_pool.proofs.own.OwnTests.of.Given as goal

abbrev pub invariant-loop-sort : goal.invariant-loop-sort
invariant-loop-sort l = record {
  made : l.wheels ++ wheels_in (slots_from l.sig (vars_of l.left l.right) l.sort) l.step ≡ wheels_in (slots_from l.sig (vars_of l.left l.right) 0) 1;
  ways : l.step * ways_in (slots_from l.sig (vars_of l.left l.right) l.sort) ≡ ways_in (slots_from l.sig (vars_of l.left l.right) 0);
}
