use Rattle.std.proofs.Common.{[], map}
use Rattle.law_tree.specs.Listing.{AreOf}
use Rattle.law_tree.proofs.shape.empty_lists.Given as goal

abbrev pub invariant-loop : goal.invariant-loop
invariant-loop l = AreOf (λ _. []) l.counter (map (λ v. v.items) l.lists.items)
