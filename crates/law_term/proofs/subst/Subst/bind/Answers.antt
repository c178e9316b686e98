use Rattle.std.proofs.Common.{arith, ap, sym, ◌∙◌, subst}
use Rattle.law_bank.specs.Bindings.{AreRising, with_binding, before_count}
use Rattle.law_bank.proofs.BindingFacts.{put_rising}
use Rattle.law_term.proofs.Bound.{count_within, bind_within, bind_over, bind_between}
use Rattle.law_term.proofs.subst.Subst.bind.Goals as goal

pub insert-requires : goal.insert-requires
insert-requires c =
    let at = c.place-at.ensures ∙ ap (before_count c.args.sort c.args.index) c.as_slice.ensures.value in
    let within = count_within c.args.sort c.args.index c.self.inside.bindings.items in
    let long = c.self.inside.bindings.ok.0 in omega (arith, at, within, long)

pub remove-requires : goal.remove-requires
remove-requires c =
    let w = bind_within (c.args.sort, c.args.index, c.args.term) c.self.inside.bindings.items c.as_slice.result.now c.as_slice-2.result.now c.insert.new.self.items c.place-at.result c.is_there-there.result c.as_slice.ensures.value c.as_slice-2.ensures.value c.place-at.ensures c.is_there-there.ensures c.if-there.true in
    let l = c.self.inside.bindings.ok.0 in let n = c.in-Ok.ensures.len in omega (arith, w, l, n)

pub overflow_add-at : goal.overflow_add-at
overflow_add-at c =
    let w = bind_within (c.args.sort, c.args.index, c.args.term) c.self.inside.bindings.items c.as_slice.result.now c.as_slice-2.result.now c.insert.new.self.items c.place-at.result c.is_there-there.result c.as_slice.ensures.value c.as_slice-2.ensures.value c.place-at.ensures c.is_there-there.ensures c.if-there.true in
    let l = c.self.inside.bindings.ok in let s = c.self.inside.bindings.small in omega (arith, w, l, s)

pub invariant_of-self-then-there : goal.invariant_of-self-then-there
invariant_of-self-then-there c = subst AreRising (sym (bind_over (c.args.sort, c.args.index, c.args.term) c.self.inside.bindings.items c.as_slice.result.now c.as_slice-2.result.now c.insert.new.self.items c.place-at.result c.is_there-there.result c.as_slice.ensures.value c.as_slice-2.ensures.value c.place-at.ensures c.is_there-there.ensures c.if-there.true c.in-Ok.ensures.items c.remove.new.self.items c.remove.ensures.items))
    (put_rising (c.args.sort, c.args.index, c.args.term) c.self.inside.bindings.items c.self.invariant)

pub returns-then-there-clause-ok : goal.returns-then-there-clause-ok
returns-then-there-clause-ok c = bind_over (c.args.sort, c.args.index, c.args.term) c.self.inside.bindings.items c.as_slice.result.now c.as_slice-2.result.now c.insert.new.self.items c.place-at.result c.is_there-there.result c.as_slice.ensures.value c.as_slice-2.ensures.value c.place-at.ensures c.is_there-there.ensures c.if-there.true c.in-Ok.ensures.items c.remove.new.self.items c.remove.ensures.items
    ∙ ap (with_binding (c.args.sort, c.args.index, c.args.term)) c.self.view_is

pub returns-then-there-clause-rising : goal.returns-then-there-clause-rising
returns-then-there-clause-rising c = subst AreRising (sym (bind_over (c.args.sort, c.args.index, c.args.term) c.self.inside.bindings.items c.as_slice.result.now c.as_slice-2.result.now c.insert.new.self.items c.place-at.result c.is_there-there.result c.as_slice.ensures.value c.as_slice-2.ensures.value c.place-at.ensures c.is_there-there.ensures c.if-there.true c.in-Ok.ensures.items c.remove.new.self.items c.remove.ensures.items))
    (put_rising (c.args.sort, c.args.index, c.args.term) c.self.inside.bindings.items c.self.invariant)

pub invariant_of-self-else-there : goal.invariant_of-self-else-there
invariant_of-self-else-there c = subst AreRising (sym (bind_between (c.args.sort, c.args.index, c.args.term) c.self.inside.bindings.items c.as_slice.result.now c.as_slice-2.result.now c.insert.new.self.items c.place-at.result c.is_there-there.result c.as_slice.ensures.value c.as_slice-2.ensures.value c.place-at.ensures c.is_there-there.ensures c.if-there.false c.in-Ok.ensures.items))
    (put_rising (c.args.sort, c.args.index, c.args.term) c.self.inside.bindings.items c.self.invariant)

pub returns-clause-ok : goal.returns-clause-ok
returns-clause-ok c = bind_between (c.args.sort, c.args.index, c.args.term) c.self.inside.bindings.items c.as_slice.result.now c.as_slice-2.result.now c.insert.new.self.items c.place-at.result c.is_there-there.result c.as_slice.ensures.value c.as_slice-2.ensures.value c.place-at.ensures c.is_there-there.ensures c.if-there.false c.in-Ok.ensures.items
    ∙ ap (with_binding (c.args.sort, c.args.index, c.args.term)) c.self.view_is

pub returns-clause-rising : goal.returns-clause-rising
returns-clause-rising c = subst AreRising (sym (bind_between (c.args.sort, c.args.index, c.args.term) c.self.inside.bindings.items c.as_slice.result.now c.as_slice-2.result.now c.insert.new.self.items c.place-at.result c.is_there-there.result c.as_slice.ensures.value c.as_slice-2.ensures.value c.place-at.ensures c.is_there-there.ensures c.if-there.false c.in-Ok.ensures.items))
    (put_rising (c.args.sort, c.args.index, c.args.term) c.self.inside.bindings.items c.self.invariant)
