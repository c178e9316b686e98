use Rattle.std.proofs.Common.{rules}
use Rattle.law_checking.proofs.NameFacts.{still_finds, finds_new}
use Rattle.law_check.proofs.names.with_name.Goals as goal

pub returns-then-is_some : goal.returns-then-is_some
returns-then-is_some c = still_finds c.args.table.entries c.args.name.now c.args.number (search rules)

pub returns : goal.returns
returns c = finds_new c.args.table.entries c.args.name.now c.in_ok-key.key c.args.number c.note.new.table.entries (search rules) (search rules)
