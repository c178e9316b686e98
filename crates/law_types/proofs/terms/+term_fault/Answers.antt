use Rattle.std.proofs.Common.{◌≡◌, length, drop, Some, slice_get, sym, ap, ap₂, ◌∙◌, refl, is_some}
use Rattle.std.proofs.lemmas.List.{drop_all}
use Rattle.std.proofs.lemmas.Option.{slice_get_read}
use Rattle.law_typing.proofs.TermFacts.{args_first, args_fault, argument_found, argument_passed, spent}
use Rattle.law_types.proofs.terms.+term_fault.Goals as goal

pub returns-then-is_some-2 : goal.returns-then-is_some-2
returns-then-is_some-2 t c =
    let text = c.args.text.now in
    let scope = c.args.scope.now in
    let sorts = c.wanted_sorts-sorts.result.now in
    let items = c.as_slice-arg-items.result.now in
    let item : slice_get items c.loop-at.at ≡ Some c.arg-item.result = slice_get_read items (length items) c.loop-at.at c.arg-item.result refl c.loop-at-test.true c.arg-item.is in
    sym (argument_found text scope sorts items c.loop-at.at c.in-Some.sort c.arg-item.result c.term_fault-fault.result
    (sym c.sort_at.ensures ∙ c.in-Some.is) item c.term_fault-fault.ensures (sym c.is_some-in-loop-at.ensures ∙ c.if-is_some-2.true))
    ∙ c.loop-at.invariant ∙ ap₂ (args_fault text scope) c.wanted_sorts-sorts.ensures c.as_slice-arg-items.ensures
    ∙ sym (args_first text scope c.args.wanted c.args.term.now (ap is_some (sym c.node_fault-root.ensures) ∙ sym c.is_some.ensures ∙ c.if-is_some.false))

pub loop-at-preserved : goal.loop-at-preserved
loop-at-preserved t c =
    let text = c.args.text.now in
    let scope = c.args.scope.now in
    let sorts = c.wanted_sorts-sorts.result.now in
    let items = c.as_slice-arg-items.result.now in
    let item : slice_get items c.loop-at.at ≡ Some c.arg-item.result = slice_get_read items (length items) c.loop-at.at c.arg-item.result refl c.loop-at-test.true c.arg-item.is in
    sym (argument_passed text scope sorts items c.loop-at.at c.in-Some.sort c.arg-item.result c.term_fault-fault.result
    (sym c.sort_at.ensures ∙ c.in-Some.is) item c.term_fault-fault.ensures (sym c.is_some-in-loop-at.ensures ∙ c.if-is_some-2.false))
    ∙ c.loop-at.invariant

pub returns : goal.returns
returns t c =
    let text = c.args.text.now in
    let scope = c.args.scope.now in
    let sorts = c.wanted_sorts-sorts.result.now in
    let items = c.as_slice-arg-items.result.now in
    sym (spent text scope (drop c.loop-at.at sorts))
    ∙ ap (args_fault text scope (drop c.loop-at.at sorts)) (sym (drop_all c.loop-at.at items c.loop-at-test.false))
    ∙ c.loop-at.invariant ∙ ap₂ (args_fault text scope) c.wanted_sorts-sorts.ensures c.as_slice-arg-items.ensures
    ∙ sym (args_first text scope c.args.wanted c.args.term.now (ap is_some (sym c.node_fault-root.ensures) ∙ sym c.is_some.ensures ∙ c.if-is_some.false))
