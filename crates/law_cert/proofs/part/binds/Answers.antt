use Rattle.std.proofs.Common.{rules}
use Rattle.law_cert_text.specs.declared.cert.RawBind.{RawBind}
use Rattle.law_cert_text.specs.Spelling.{bind_text}
use Rattle.law_cert_text.specs.Certificates.{IsBind}
use Rattle.law_cert_text.proofs.ArgFacts.{one_bind}
use Rattle.law_cert_text.proofs.RowFacts.{row_next, row_none, some_bytes}
use Rattle.law_cert.proofs.part.binds.Goals as goal

pub returns-in-None : goal.returns-in-None
returns-in-None c = row_none RawBind IsBind bind_text c.args.bytes.now c.loop-rest.rest.now c.loop-rest.found c.loop-rest.invariant (some_bytes c.loop-rest.rest.now c.is_empty.result (search rules) c.if-is_empty.false) (search rules)

pub loop-rest-preserved : goal.loop-rest-preserved
loop-rest-preserved c =
    row_next RawBind IsBind bind_text one_bind c.args.bytes.now c.loop-rest.rest.now c.in-Some.behind.now c.loop-rest.found c.push.new.self c.in-Some.bind c.loop-rest.invariant (search rules) (search rules)
