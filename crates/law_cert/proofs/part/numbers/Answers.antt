use Rattle.std.proofs.Common.{rules, ℕ, decimal}
use Rattle.law_lines.specs.Lines.{IsNumber}
use Rattle.law_cert_text.proofs.RowFacts.{one_number, row_next, row_none, some_bytes}
use Rattle.law_cert.proofs.part.numbers.Goals as goal

pub returns-in-None : goal.returns-in-None
returns-in-None c = row_none ℕ IsNumber decimal c.args.bytes.now c.loop-rest.rest.now c.loop-rest.found c.loop-rest.invariant (some_bytes c.loop-rest.rest.now c.is_empty.result (search rules) c.if-is_empty.false) c.in-None.ensures

pub loop-rest-preserved : goal.loop-rest-preserved
loop-rest-preserved c =
    row_next ℕ IsNumber decimal one_number c.args.bytes.now c.loop-rest.rest.now c.in-Some.behind.now c.loop-rest.found c.push.new.self c.in-Some.number c.loop-rest.invariant c.in-Some.ensures (search rules)
