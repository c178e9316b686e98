use Rattle.std.proofs.Common.{◌≡◌, true, [], slice_index_or, take}
use Rattle.std.specs.List.{list_all}
use Rattle.law_sig.specs.declared.tree.SortId.{SortId}
use Rattle.law_draws.specs.Choices.{is_some_choice}
use Rattle.law_gen.proofs.choices.fits.Given as goal

abbrev pub invariant-loop-sort : goal.invariant-loop-sort
invariant-loop-sort l = list_all (λ (s : SortId). is_some_choice (slice_index_or l.below s.0 [])) (take l.sort-index l.sorts) ≡ true
