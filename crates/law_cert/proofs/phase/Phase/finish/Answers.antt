use Rattle.law_cert.proofs.Ends.{sig_unfinished}
use Rattle.law_cert.proofs.phase.Phase.finish.Goals as goal

pub returns-in-Sig-clause-err : goal.returns-in-Sig-clause-err
returns-in-Sig-clause-err c = sig_unfinished c.args.self c.in-Sig._reader c.args.line c.in-Sig.is c.requires
