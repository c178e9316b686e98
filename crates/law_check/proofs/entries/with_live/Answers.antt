use Rattle.std.proofs.Common.{refl, rules}
use Rattle.law_checking.proofs.StepFacts.{live_more}
use Rattle.law_check.specs.Seeing.{sight}
use Rattle.law_check.proofs.entries.with_live.Goals as goal

pub returns : goal.returns
returns c = live_more c.args.universe.now (sight c.args.seen) _ c.args.term refl refl (search rules) c.in_ok-next.ensures
