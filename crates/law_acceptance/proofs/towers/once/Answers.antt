use Rattle.std.proofs.Common.{[], ◌∷◌, rules}
use Rattle.law_acceptance.proofs.LowFacts.{applied_low}
use Rattle.law_acceptance.proofs.towers.once.Goals as goal

pub returns-clause-low : goal.returns-clause-low
returns-clause-low c = applied_low c.intern.result _ c.as_slice.result.now (c.args.term ∷ []) (search rules) c.intern.ensures.tree (c.requires.low, tt)
