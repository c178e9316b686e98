use Rattle.std.proofs.Common.{inr, refl}
use Rattle.law_cert.proofs.PhaseFacts.{finished_by}
use Rattle.law_cert.proofs.Ends.{body_ends}
use Rattle.law_cert.proofs.phase.whole.Goals as goal

pub returns-in-Over-clause-ok : goal.returns-in-Over-clause-ok
returns-in-Over-clause-ok c = finished_by c.args.sig c.args.draft c.in-Over.pools c.in-Over.entries c.in-Over.trees c.in-Over.is c.requires

pub returns-in_default : goal.returns-in_default
returns-in_default c = record { ok = tt; err = inr ((refl, refl), refl, body_ends c.args.sig c.args.draft c.requires c.in_default.not-Over) }
