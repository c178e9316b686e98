use Rattle.std.proofs.Common.{refl, rules}
use Rattle.law_checking.proofs.StepFacts.{lemma_more}
use Rattle.law_check.specs.Seeing.{sight}
use Rattle.law_check.proofs.entries.with_lemma.Goals as goal

pub returns : goal.returns
returns c = lemma_more c.args.universe.now (sight c.args.seen) _ c.args.number c.args.q c.args.steps.now (search rules) refl refl (λ p at. at)
