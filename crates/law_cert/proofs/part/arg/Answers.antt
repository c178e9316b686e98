use Rattle.law_cert_text.proofs.ArgFacts.{applied_ok, atom_ok}
use Rattle.law_cert.proofs.part.arg.Goals as goal

pub returns-in-None : goal.returns-in-None
returns-in-None c = atom_ok c.atom.result c.args.word.now c.in-None.ensures c.atom.ensures

pub returns-in-Some : goal.returns-in-Some
returns-in-Some c = applied_ok c.applied.result c.args.word.now c.in-Some.inner.now c.in-Some.ensures c.applied.ensures
