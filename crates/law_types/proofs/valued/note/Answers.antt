use Rattle.std.proofs.Common.{rules, length, refl}
use Rattle.std.proofs.lemmas.Option.{slice_get_read}
use Rattle.law_types.proofs.TakerFacts.{noted, not_noted}
use Rattle.law_types.proofs.valued.note.Goals as goal

pub returns-else-is_err : goal.returns-else-is_err
returns-else-is_err c =
    let table = c.args.table.now.items in
    noted c.args.sort c.args.number table c.index_mut-row.result.now c.push.new.self
    (slice_get_read table (length table) c.args.sort c.index_mut-row.result.now refl (search rules) c.index_mut-row.ensures.value) (search rules)

pub returns-else-sort-len : goal.returns-else-sort-len
returns-else-sort-len c = not_noted c.args.sort c.args.number c.args.table.now.items (search rules)
