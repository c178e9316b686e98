use Rattle.law_types.proofs.TakerFacts.{more_noted, starts_noted}
use Rattle.law_types.proofs.valued.note_all.Goals as goal

pub loop-sort-init : goal.loop-sort-init
loop-sort-init c = starts_noted c.args.sorts.now c.args.number c.args.table.now.items

pub loop-sort-preserved : goal.loop-sort-preserved
loop-sort-preserved c =
    more_noted c.args.sorts.now c.loop-sort.sort-index _ c.args.number c.args.table.now.items c.loop-sort.table.items c.note.new.table.items c.loop-sort-test.true c.loop-sort.invariant c.in_ok-note.ensures
