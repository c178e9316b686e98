use Rattle.std.proofs.Common.{rules}
use Rattle.law_cert_text.proofs.TailFacts.{no_split_count, too_few}
use Rattle.law_cert.proofs.line.split.Goals as goal

pub returns-in-None-last_number : goal.returns-in-None-last_number
returns-in-None-last_number c = no_split_count c.args.bytes.now c.in-Some.behind.now c.in-Some.test c.in-Some.ensures c.in-None-last_number.ensures

pub returns-else-count-ge2 : goal.returns-else-count-ge2
returns-else-count-ge2 c =
    too_few c.args.bytes.now c.in-Some.behind.now c.in-Some.test c.in-Some-last_number.count c.in-Some.ensures (search rules) (search rules) (search rules)
