use Rattle.law_checking.proofs.CertFacts.{untyped_no}
use Rattle.law_check.proofs.check.untyped.Goals as goal

pub returns-clause-verdict : goal.returns-clause-verdict
returns-clause-verdict c = (untyped_no c.args.cert.now c.requires).0

pub returns-clause-exact : goal.returns-clause-exact
returns-clause-exact c = (untyped_no c.args.cert.now c.requires).1
