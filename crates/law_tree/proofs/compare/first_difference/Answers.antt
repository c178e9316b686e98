use Rattle.std.proofs.Common.{◌+◌, below_more, arith, subst, slice_index, refl}
use Rattle.law_sig.specs.Lists.In.{here, there}
use Rattle.law_ids.specs.declared.ids.ValueId.{ValueId}
use Rattle.law_tree.proofs.ListFacts.{index_in}
use Rattle.law_tree.proofs.Comparing.{below_stays, meaning_after, may_after, values_differ, values_same, skipped, agree_all, asked_upto, passed}
use Rattle.law_tree.proofs.compare.first_difference.Goals as goal

pub value-requires : goal.value-requires
value-requires g c = c.loop-from.invariant.may_item _ (index_in c.args.tests.now c.next-at.result c.if-at-tests.false)

pub value-requires-in-loop-from : goal.value-requires-in-loop-from
value-requires-in-loop-from g c = c.value.ensures.may_stays _ _ (c.loop-from.invariant.may_old _ (index_in c.args.tests.now c.next-at.result c.if-at-tests.false))

pub returns-then-at-tests-clause-compared : goal.returns-then-at-tests-clause-compared
returns-then-at-tests-clause-compared g c =
    agree_all (g.A.Ask.means c.loop-from.ask) c.args.item c.args.old c.args.tests.now c.next-at.result c.if-at-tests.true
    (skipped (g.A.Ask.means c.loop-from.ask) c.args.item c.args.old c.args.tests.now c.loop-from.from c.next-at.result c.loop-from.invariant.agree c.next-at.ensures.repeats)

pub returns-in_err-new_value-clause-asked : goal.returns-in_err-new_value-clause-asked
returns-in_err-new_value-clause-asked g c =
    let lt = c.if-at-tests.false in
    let later = c.next-at.ensures.later in
    asked_upto (g.A.Ask.means c.value.new.self) c.args.item c.args.old c.args.tests.now (c.next-at.result + 1) c.next-at.result (g.A.Ask.asks c.args.ask.now) (g.A.Ask.asks c.value.new.self) (omega arith) (omega arith)
    (below_stays _ _ c.value.ensures.meaning_stays _ _ _ _
    (skipped (g.A.Ask.means c.loop-from.ask) c.args.item c.args.old c.args.tests.now c.loop-from.from c.next-at.result c.loop-from.invariant.agree c.next-at.ensures.repeats))
    (omega (arith, c.loop-from.invariant.asked, c.value.ensures.asked, lt, later))

pub returns-in_err-new_value-clause-fault : goal.returns-in_err-new_value-clause-fault
returns-in_err-new_value-clause-fault g c =
    passed _ _ _ c.from_residual.ensures.1
    (record { item = c.args.item; is_item = here; test = _; is_test = index_in c.args.tests.now c.next-at.result c.if-at-tests.false; holds = c.in_err-new_value.ensures.fault })

pub returns-in_err-old_value-clause-asked : goal.returns-in_err-old_value-clause-asked
returns-in_err-old_value-clause-asked g c =
    let lt = c.if-at-tests.false in
    let later = c.next-at.ensures.later in
    let both = meaning_after _ _ _ c.value.ensures.meaning_stays c.value-in-loop-from.ensures.meaning_stays in
    asked_upto (g.A.Ask.means c.value-in-loop-from.new.self) c.args.item c.args.old c.args.tests.now (c.next-at.result + 1) c.next-at.result (g.A.Ask.asks c.args.ask.now) (g.A.Ask.asks c.value-in-loop-from.new.self) (omega arith) (omega arith)
    (below_stays _ _ both _ _ _ _
    (skipped (g.A.Ask.means c.loop-from.ask) c.args.item c.args.old c.args.tests.now c.loop-from.from c.next-at.result c.loop-from.invariant.agree c.next-at.ensures.repeats))
    (omega (arith, c.loop-from.invariant.asked, c.value.ensures.asked, c.value-in-loop-from.ensures.asked, lt, later))

pub returns-in_err-old_value-clause-fault : goal.returns-in_err-old_value-clause-fault
returns-in_err-old_value-clause-fault g c =
    passed _ _ _ c.from_residual-in_err-old_value.ensures.1
    (record { item = c.args.old; is_item = there here; test = _; is_test = index_in c.args.tests.now c.next-at.result c.if-at-tests.false; holds = c.in_err-old_value.ensures.fault })

pub returns-then-ne-clause-compared : goal.returns-then-ne-clause-compared
returns-then-ne-clause-compared g c =
    let both = meaning_after _ _ _ c.value.ensures.meaning_stays c.value-in-loop-from.ensures.meaning_stays in
    record {
      place = c.next-at.result;
      within = c.if-at-tests.false;
      is = refl;
      agree = below_stays _ _ both _ _ _ _
          (skipped (g.A.Ask.means c.loop-from.ask) c.args.item c.args.old c.args.tests.now c.loop-from.from c.next-at.result c.loop-from.invariant.agree c.next-at.ensures.repeats);
      new_has = c.value-in-loop-from.ensures.meaning_stays _ _ _ c.in_ok-new_value.ensures.value;
      old_has = c.in_ok-old_value.ensures.value;
      differ = values_differ _ _ c.if-ne.ensures;
    }

pub returns-then-ne-clause-asked : goal.returns-then-ne-clause-asked
returns-then-ne-clause-asked g c =
    let lt = c.if-at-tests.false in
    let later = c.next-at.ensures.later in
    let both = meaning_after _ _ _ c.value.ensures.meaning_stays c.value-in-loop-from.ensures.meaning_stays in
    asked_upto (g.A.Ask.means c.value-in-loop-from.new.self) c.args.item c.args.old c.args.tests.now (c.next-at.result + 1) c.next-at.result (g.A.Ask.asks c.args.ask.now) (g.A.Ask.asks c.value-in-loop-from.new.self) (omega arith) (omega arith)
    (below_stays _ _ both _ _ _ _
    (skipped (g.A.Ask.means c.loop-from.ask) c.args.item c.args.old c.args.tests.now c.loop-from.from c.next-at.result c.loop-from.invariant.agree c.next-at.ensures.repeats))
    (omega (arith, c.loop-from.invariant.asked, c.value.ensures.asked, c.value-in-loop-from.ensures.asked, lt, later))

pub returns-clause-compared : goal.returns-clause-compared
returns-clause-compared g c =
    agree_all (g.A.Ask.means c.loop-from.ask) c.args.item c.args.old c.args.tests.now c.loop-from.from (omega arith) c.loop-from.invariant.agree

pub loop-from-preserved : goal.loop-from-preserved
loop-from-preserved g c =
    let lt = c.if-at-tests.false in
    let later = c.next-at.ensures.later in
    let both = meaning_after _ _ _ c.value.ensures.meaning_stays c.value-in-loop-from.ensures.meaning_stays in
    let may_both = may_after _ _ _ c.value.ensures.may_stays c.value-in-loop-from.ensures.may_stays in
    let old_here = c.in_ok-old_value.ensures.value in
    record {
      within = omega arith;
      agree = below_more _ _
          (below_stays _ _ both _ _ _ _
          (skipped (g.A.Ask.means c.loop-from.ask) c.args.item c.args.old c.args.tests.now c.loop-from.from c.next-at.result c.loop-from.invariant.agree c.next-at.ensures.repeats)) (
            c.in_ok-new_value.new_value,
            c.value-in-loop-from.ensures.meaning_stays _ _ _ c.in_ok-new_value.ensures.value,
            subst (λ (z : ValueId). g.A.Ask.means c.value-in-loop-from.new.self c.args.old (slice_index c.args.tests.now c.next-at.result) z) (values_same _ _ c.if-ne.ensures) old_here,
          );
      may_item = λ t at. may_both _ _ (c.loop-from.invariant.may_item t at);
      may_old = λ t at. may_both _ _ (c.loop-from.invariant.may_old t at);
      tells = c.value-in-loop-from.ensures.telling_stays _ (c.value.ensures.telling_stays _ c.loop-from.invariant.tells);
      asked = omega (arith, c.loop-from.invariant.asked, c.value.ensures.asked, c.value-in-loop-from.ensures.asked, later);
      counted = omega (arith, c.loop-from.invariant.counted, c.value.ensures.counted, c.value-in-loop-from.ensures.counted);
      may_stays = may_after _ _ _ c.loop-from.invariant.may_stays may_both;
      meaning_stays = meaning_after _ _ _ c.loop-from.invariant.meaning_stays both;
      telling_stays = λ ts h. c.value-in-loop-from.ensures.telling_stays ts (c.value.ensures.telling_stays ts (c.loop-from.invariant.telling_stays ts h));
      faults = omega (arith, c.loop-from.invariant.faults, c.value.ensures.faults, c.value-in-loop-from.ensures.faults);
    }
