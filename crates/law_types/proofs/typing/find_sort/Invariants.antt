use Rattle.std.proofs.Common.{◌≡◌, drop}
use Rattle.std.specs.List.{position_from}
use Rattle.law_typing.specs.Names.{same_name, number_of}
use Rattle.law_types.proofs.typing.find_sort.Given as goal

abbrev pub invariant-loop-at : goal.invariant-loop-at
invariant-loop-at l = position_from (same_name l.name) l.at (drop l.at l.sig.sort_names) ≡ number_of l.sig.sort_names l.name
