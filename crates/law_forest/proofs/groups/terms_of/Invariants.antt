use Rattle.std.proofs.Common.{◌≡◌, ◌++◌, map, drop}
use Rattle.indexmap.specs.IndexMap.{get}
use Rattle.law_sig.specs.Trees.{joined}
use Rattle.law_checking.specs.Planted.{group, same_number}
use Rattle.law_forest.proofs.groups.terms_of.Given as goal

abbrev pub invariant-loop-number : goal.invariant-loop-number
invariant-loop-number l =
    l.found ++ joined (map (λ k. group (get same_number l.groups k)) (drop l.number-index l.schemas)) ≡ joined (map (λ k. group (get same_number l.groups k)) l.schemas)
