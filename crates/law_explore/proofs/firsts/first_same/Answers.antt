use Rattle.std.proofs.Common.{rules, arith, length-append, ◌≡◌, ◌==◌, length, sym, ap, ◌∙◌, subst}
use Rattle.std.specs.Map.{lookup}
use Rattle.indexmap.specs.IndexMap.{get}
use Rattle.law_explore.proofs.FirstFacts.{FirstsTo, one_taken, none_yet, finds_none, all_firsts}
use Rattle.law_explore.proofs.firsts.first_same.Goals as goal

pub loop-class-init : goal.loop-class-init
loop-class-init c = record {
  whole = search rules;
  known = finds_none c.args.classes.items (get ◌==◌ c.new-places.result) (λ v. ap (lookup (λ w. v == w)) c.new-places.ensures.empty);
  so_far = subst (FirstsTo c.args.classes.items 0) (sym c.new-firsts.ensures.items) (none_yet c.args.classes.items);
}

pub loop-class-preserved : goal.loop-class-preserved
loop-class-preserved c =
    let (whole, known, so_far) = one_taken c.args.classes.items c.loop-class.yielded c.loop-class.class-iterator.rest.items c.next.new.self.rest.items c.in-Some.class c.len-at.result
    (get ◌==◌ c.loop-class.places) (get ◌==◌ c.note.new.places) c.in_ok-first.first c.loop-class.firsts.items c.push.new.self.items
    c.loop-class.invariant.whole c.in-Some.ensures.steps.0 (c.len-at.ensures ∙ c.loop-class.firsts.ok.0) c.loop-class.invariant.known c.loop-class.invariant.so_far c.in_ok-first.ensures c.in-Ok.ensures.items in
    record { whole = whole; known = known; so_far = so_far }

pub returns : goal.returns
returns c =
    let none : length c.loop-class.class-iterator.rest.items ≡ 0 = sym c.loop-class.class-iterator.rest.ok.0 ∙ c.in-None.ensures.steps.0 in
    let whole = ap length c.loop-class.invariant.whole in
    let parts = length-append c.loop-class.yielded c.loop-class.class-iterator.rest.items in
    let end : length c.loop-class.yielded ≡ length c.args.classes.items = omega arith in
    all_firsts c.args.classes.items (length c.loop-class.yielded) c.loop-class.firsts.items end c.loop-class.invariant.so_far
