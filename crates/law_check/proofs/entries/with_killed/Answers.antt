use Rattle.std.proofs.Common.{refl}
use Rattle.law_checking.proofs.StepFacts.{killed_more}
use Rattle.law_check.specs.Seeing.{sight}
use Rattle.law_check.proofs.entries.with_killed.Goals as goal

pub returns : goal.returns
returns c = killed_more c.args.universe.now (sight c.args.seen) _ c.args.q.now c.args.steps.now refl refl refl c.in_ok-next.ensures
