use Rattle.std.proofs.Common.{refl, rules}
use Rattle.law_checking.proofs.StepFacts.{law_more}
use Rattle.law_check.specs.Seeing.{sight}
use Rattle.law_check.proofs.entries.with_law.Goals as goal

pub returns : goal.returns
returns c = law_more c.args.universe.now (sight c.args.seen) _ c.args.number c.args.q (search rules) refl refl (λ p at. at)
