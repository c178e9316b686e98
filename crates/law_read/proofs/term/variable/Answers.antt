use Rattle.law_lines.specs.declared.want.Bounds.TheVariants.{Kept}
use Rattle.law_lines.proofs.Cuts.{variable_read}
use Rattle.law_read.proofs.term.variable.Goals as goal

pub returns : goal.returns
returns c =
    variable_read Kept c.args.bytes.now c.in-Some.sort.now c.in-Some.behind.now c.in_ok-owned-in-Some-index.field-0 c.in-Some-index.number
    c.in-Some.ensures c.requires c.in_ok-owned-in-Some-index.ensures c.in-Some-index.ensures.some.0 c.in-Some-index.ensures.some.1
