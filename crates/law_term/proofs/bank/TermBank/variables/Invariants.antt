use Rattle.std.proofs.Common.{ℕ, ◌<◌, ◌^◌}
use Rattle.law_sig.specs.Lists.{Each}
use Rattle.law_sig.specs.declared.tree.SortId.{SortId}
use Rattle.law_term.specs.Walks.{IsListing, steps}
use Rattle.law_term.proofs.bank.TermBank.variables.Given as goal

abbrev pub invariant-loop-visit : goal.invariant-loop-visit
invariant-loop-visit l = record {
  listing : IsListing l.self l.terms l.done.entries l.visits.items l.found.items;
  small : Each (λ (v : SortId × ℕ). v.1 < 2 ^ 32) l.found.items;
}

abbrev pub decreases-loop-visit : goal.decreases-loop-visit
decreases-loop-visit l = steps l.visits.items
