use Rattle.std.proofs.Common.{rules, ℕ, List}
use Rattle.law_lines.specs.declared.want.Bounds.TheVariants.{Kept}
use Rattle.law_lines.specs.Lines.{IsName}
use Rattle.law_cert_text.proofs.PartFacts.{name_unspaced}
use Rattle.law_cert_text.proofs.TailFacts.{no_last, not_last}
use Rattle.law_cert.proofs.part.last_name.Goals as goal

pub returns-in-None : goal.returns-in-None
returns-in-None c = no_last (List ℕ) (IsName Kept) (λ name. name) c.args.bytes.now c.in-None.ensures

pub returns-else-is_empty : goal.returns-else-is_empty
returns-else-is_empty c = not_last (List ℕ) (IsName Kept) (λ name. name) name_unspaced c.args.bytes.now c.in-Some.behind.now c.in-Some.found.now c.is_empty.result c.in-Some.ensures (search rules) c.if-is_empty.false
