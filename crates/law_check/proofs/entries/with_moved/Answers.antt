use Rattle.std.proofs.Common.{refl}
use Rattle.law_checking.proofs.StepFacts.{moved_more}
use Rattle.law_check.specs.Seeing.{sight}
use Rattle.law_check.proofs.entries.with_moved.Goals as goal

pub returns : goal.returns
returns c = moved_more c.args.universe.now (sight c.args.seen) _ c.args.q.now c.args.steps.now refl refl refl c.in_ok-next.ensures
