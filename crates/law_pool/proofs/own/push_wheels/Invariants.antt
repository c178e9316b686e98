use Rattle.std.proofs.Common.{◌≡◌, ◌*◌, ◌++◌, drop}
use Rattle.law_own.specs.Own.{vars_of}
use Rattle.law_pool.specs.Wheels.{sort_slots, wheels_in, ways_in}
use Rattle.law_pool.proofs.own.push_wheels.Given as goal

abbrev pub invariant-loop-index : goal.invariant-loop-index
invariant-loop-index l = record {
  made : l.wheels ++ wheels_in (drop l.index (sort_slots l.sig (vars_of l.left l.right) l.sort)) l.step ≡ l.initial.wheels ++ wheels_in (sort_slots l.sig (vars_of l.left l.right) l.sort) l.first;
  ways : l.step * ways_in (drop l.index (sort_slots l.sig (vars_of l.left l.right) l.sort)) ≡ l.first * ways_in (sort_slots l.sig (vars_of l.left l.right) l.sort);
}
