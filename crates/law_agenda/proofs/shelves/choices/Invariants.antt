use Rattle.std.proofs.Common.{◌≡◌, take}
use Rattle.law_listing.specs.Choices.{counts_of}
use Rattle.law_agenda.specs.Shelves.{lists_for}
use Rattle.law_agenda.proofs.shelves.choices.Given as goal

abbrev pub invariant-loop-sort : goal.invariant-loop-sort
invariant-loop-sort l = l.found ≡ counts_of (lists_for l.shelf (take l.sort-index l.sorts))
