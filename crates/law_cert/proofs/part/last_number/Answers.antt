use Rattle.std.proofs.Common.{rules, ℕ, decimal}
use Rattle.law_lines.specs.Lines.{IsNumber}
use Rattle.law_cert_text.proofs.PartFacts.{number_unspaced}
use Rattle.law_cert_text.proofs.TailFacts.{no_last, not_last}
use Rattle.law_cert.proofs.part.last_number.Goals as goal

pub returns-in-None : goal.returns-in-None
returns-in-None c = no_last ℕ IsNumber decimal c.args.bytes.now c.in-None.ensures

pub returns-else-is_empty : goal.returns-else-is_empty
returns-else-is_empty c = not_last ℕ IsNumber decimal number_unspaced c.args.bytes.now c.in-Some.behind.now c.in-Some.found c.is_empty.result c.in-Some.ensures (search rules) c.if-is_empty.false
