use Rattle.std.proofs.Common.{rules}
use Rattle.law_cert_text.proofs.TailFacts.{no_move_binds, no_move_dir}
use Rattle.law_cert.proofs.line.numbered.Goals as goal

pub returns-in-None-next_dir : goal.returns-in-None-next_dir
returns-in-None-next_dir c = no_move_dir c.args.bytes.now c.in-Some.behind.now c.in-Some.eq c.in-Some.ensures c.in-None-next_dir.ensures

pub returns-in-None-2 : goal.returns-in-None-2
returns-in-None-2 c =
    no_move_binds c.args.bytes.now c.in-Some.behind.now c.in-Some-next_dir.rest.now c.in-Some.eq c.in-Some-next_dir.dir c.in-Some.ensures c.in-Some-next_dir.ensures (search rules)
