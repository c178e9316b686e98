use Rattle.std.proofs.Common.{slice_index_or, refl}
use Rattle.law_explore.proofs.VectorFacts.{always_found, class_found, class_within, classes_next}
use Rattle.law_explore.proofs.classes.classes_at.Goals as goal

pub unreachable-requires : goal.unreachable-requires
unreachable-requires c =
    always_found c.args.table.now c.args.terms.now c.args.classes.now c.loop-term.term-index c.term-item.result c.in_ok-place.field-0 c.requires c.loop-term-test.true c.term-item.is
    c.in_default.is c.in_ok-place.ensures

pub bounds-classes-place : goal.bounds-classes-place
bounds-classes-place c =
    class_within c.args.table.now c.args.terms.now c.args.classes.now c.loop-term.term-index c.term-item.result c.in_ok-place.field-0 c.in-Some.place c.requires c.loop-term-test.true c.term-item.is
    c.in-Some.is c.in_ok-place.ensures

pub loop-term-preserved : goal.loop-term-preserved
loop-term-preserved c =
    classes_next c.args.table.now c.args.terms.now c.args.classes.now c.loop-term.term-index c.term-item.result (slice_index_or c.args.classes.now c.in-Some.place 0) c.loop-term.found c.push.new.self c.loop-term-test.true
    c.term-item.is c.loop-term.invariant
    (class_found c.args.table.now c.args.classes.now c.term-item.result c.in_ok-place.field-0 c.in-Some.place (slice_index_or c.args.classes.now c.in-Some.place 0) c.in-Some.is c.in_ok-place.ensures
    (class_within c.args.table.now c.args.terms.now c.args.classes.now c.loop-term.term-index c.term-item.result c.in_ok-place.field-0 c.in-Some.place c.requires c.loop-term-test.true c.term-item.is
    c.in-Some.is c.in_ok-place.ensures)
    refl)
    c.in_ok-push.ensures.ok
