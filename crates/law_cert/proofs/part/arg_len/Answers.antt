use Rattle.std.proofs.Common.{rules}
use Rattle.law_cert_text.proofs.ArgFacts.{arg_all, arg_ends, arg_goes}
use Rattle.law_cert.proofs.part.arg_len.Goals as goal

pub returns-in-None-clause-text : goal.returns-in-None-clause-text
returns-in-None-clause-text c = arg_ends c.args.bytes.now c.loop-at.at c.loop-at.level (search rules) c.loop-at.invariant.text (search rules)

pub loop-at-preserved : goal.loop-at-preserved
loop-at-preserved c =
    let q = arg_goes c.args.bytes.now c.loop-at.at c.loop-at.level c.in-Some.next (search rules) c.loop-at.invariant.low c.loop-at.invariant.text (search rules) in record { low = q.0; text = q.1 }

pub returns-clause-text : goal.returns-clause-text
returns-clause-text c = arg_all c.args.bytes.now c.loop-at.at c.loop-at.level (search rules) c.loop-at.invariant.text
