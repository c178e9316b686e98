use Rattle.std.proofs.Common.{◌≡◌, length, take}
use Rattle.law_explore.specs.Values.{ids_at}
use Rattle.law_explore.proofs.classes.applied_at.Given as goal

abbrev pub invariant-loop-at : goal.invariant-loop-at
invariant-loop-at l = record {
  long : length l.row ≡ 8;
  ids : take l.at l.row ≡ ids_at l.vectors.keys l.test (take l.at l.classes);
}
