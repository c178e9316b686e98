use Rattle.std.proofs.Common.{rules}
use Rattle.law_explore.proofs.Spelled.{few_sorts, list_spelled}
use Rattle.law_explore.proofs.named.named_list.Goals as goal

pub named_pools-requires : goal.named_pools-requires
named_pools-requires c = few_sorts c.args.sig.now c.args.pools.now c.settings.ensures.well_formed c.requires.pools

pub returns-clause-spelled : goal.returns-clause-spelled
returns-clause-spelled c = list_spelled c.args.raw c.args.sig.now c.args.pools.now c.args.laws.now _ c.requires.signature c.settings.ensures.well_formed c.requires.pools c.requires.small
    c.requires.laws (search rules) (search rules)
