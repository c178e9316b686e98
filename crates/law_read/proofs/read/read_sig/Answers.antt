use Rattle.law_places.proofs.TextReads.{read_as}
use Rattle.law_read.proofs.read.read_sig.Goals as goal

pub returns-in-Ok-clause-ok : goal.returns-in-Ok-clause-ok
returns-in-Ok-clause-ok c = read_as c.args.text.now c.in-Ok.sig c.in-Ok.ensures.ok.0 c.in-Ok.ensures.ok.1
