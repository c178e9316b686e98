use Rattle.std.proofs.Common.{◌≡◌, drop}
use Rattle.std.specs.List.{list_all}
use Rattle.law_typing.specs.Declarations.{is_low}
use Rattle.law_types.proofs.heights.all_low.Given as goal

abbrev pub invariant-loop-sort : goal.invariant-loop-sort
invariant-loop-sort l = list_all (is_low l.text l.height) (drop l.sort-index l.sorts) ≡ list_all (is_low l.text l.height) l.sorts
