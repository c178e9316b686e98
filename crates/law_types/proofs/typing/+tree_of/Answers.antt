use Rattle.std.proofs.Common.{◌≡◌, ◌∙◌, sym, ap, refl, length, map, subst, slice_get, Some}
use Rattle.std.proofs.lemmas.Option.{slice_get_read}
use Rattle.std.proofs.lemmas.List.{take_all}
use Rattle.law_typing.specs.TypedTerm.{tree_of}
use Rattle.law_typing.proofs.TreeOfFacts.{stops, goes_on}
use Rattle.law_types.proofs.typing.+tree_of.Goals as goal

pub returns-in-None : goal.returns-in-None
returns-in-None t c =
    let items = c.as_slice-arg-items.result.now in
    sym (stops c.args.sig.now c.args.term.now c.loop-arg.arg-index c.arg-item.result
    (subst (λ l. slice_get l c.loop-arg.arg-index ≡ Some c.arg-item.result) c.as_slice-arg-items.ensures
    (slice_get_read items (length items) c.loop-arg.arg-index c.arg-item.result refl c.loop-arg-test.true c.arg-item.is))
    (sym c.in_ok-tree.ensures ∙ c.in-None.is))

pub returns : goal.returns
returns t c =
    let items = c.as_slice-arg-items.result.now in
    c.tree_over.ensures ∙ sym (goes_on c.args.sig.now c.args.term.now c.loop-arg.args
    (c.loop-arg.invariant ∙ ap (map (tree_of c.args.sig.now)) (take_all c.loop-arg.arg-index items c.loop-arg-test.false ∙ c.as_slice-arg-items.ensures)))
