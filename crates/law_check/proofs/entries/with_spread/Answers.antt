use Rattle.std.proofs.Common.{refl, rules}
use Rattle.law_checking.proofs.StepFacts.{spread_more}
use Rattle.law_check.specs.Seeing.{sight}
use Rattle.law_check.proofs.entries.with_spread.Goals as goal

pub returns : goal.returns
returns c = spread_more c.args.universe.now (sight c.args.seen) _ c.args.schema refl (search rules) refl c.in_ok-next.ensures
