use Rattle.std.proofs.Common.{◌≡◌, ◌∷◌, []}
use Rattle.law_sig.specs.declared.tree.Tree.TheVariants.{Var}
use Rattle.law_listing.specs.Rows.{each_below}
use Rattle.law_explore.proofs.explore.variables_of.Given as goal

abbrev pub invariant-loop-index : goal.invariant-loop-index
invariant-loop-index l = l.found ≡ each_below l.index (λ i. Var l.sort i ∷ [])
