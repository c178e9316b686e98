use Rattle.std.proofs.Common.{rules}
use Rattle.law_places.proofs.RowNames.{names_end}
use Rattle.law_read.proofs.term.names.Goals as goal

pub returns-then-not-branch : goal.returns-then-not-branch
returns-then-not-branch c =
    names_end c.loop-found.nodes c.args.row c.args.ending c.args.line.now.left c.loop-found.line.left c.more.new.line.left c.loop-found.found c.len.result
    c.requires.ends c.len.ensures c.loop-found.invariant.so_far (search rules)
