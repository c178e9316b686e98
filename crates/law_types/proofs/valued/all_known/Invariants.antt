use Rattle.std.proofs.Common.{◌≡◌, drop}
use Rattle.std.specs.List.{list_all}
use Rattle.law_types.specs.Valued.{is_known}
use Rattle.law_types.proofs.valued.all_known.Given as goal

abbrev pub invariant-loop-sort : goal.invariant-loop-sort
invariant-loop-sort l = list_all (is_known l.has) (drop l.sort-index l.sorts) ≡ list_all (is_known l.has) l.sorts
