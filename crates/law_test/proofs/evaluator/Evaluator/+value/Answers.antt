use Rattle.std.proofs.Common.{◌≡◌, length, take, sym, ap, ◌∙◌, refl, rules, arith}
use Rattle.std.proofs.lemmas.List.{length-set}
use Rattle.law_sig.specs.declared.tree.Tree.TheVariants.{App}
use Rattle.law_sig.specs.declared.tree.Tree.TheViews.{the_lemmas}
use Rattle.law_ids.proofs.ResultFacts.{passed}
use Rattle.law_testing.specs.Values.{IsValue}
use Rattle.law_test.specs.Memo.{Gives}
use Rattle.law_testing.proofs.Testing.{args_testable, value_missing, values_all}
use Rattle.law_test.proofs.Evaluating.{few_here, row_next, taken_long, if_ok, given_value, given_none}
use Rattle.law_testing.proofs.EvaluatorFacts.{extends_on, ready_stays}
use Rattle.law_test.proofs.evaluator.Evaluator.+value.Goals as goal

pub value-requires : goal.value-requires
value-requires t c = (
  search (rules, the_lemmas),
  (
    ready_stays c.args.tester.now.sig.now c.args.self.now c.loop-at.self c.args.tester.now.pools.now c.loop-at.invariant.extends c.requires.ready,
    (
      c.requires.test,
      args_testable c.args.tester.now.sig.now c.args.term.now c.in-App.head c.as_slice-args.result.now c.loop-at.at c.index-args-at.result
          (c.in-App.is ∙ ap (App c.in-App.head) (sym c.as_slice-args.ensures)) c.requires.term c.loop-at-test.true c.index-args-at.is,
    ),
  ),
)

pub returns-in_err-row-in-App-clause-over : goal.returns-in_err-row-in-App-clause-over
returns-in_err-row-in-App-clause-over t c = λ is_over.
    value_missing c.args.tester.now.sig.now c.args.test c.args.term.now c.in-App.head c.as_slice-args.result.now c.loop-at.at c.index-args-at.result
    (c.in-App.is ∙ ap (App c.in-App.head) (sym c.as_slice-args.ensures)) c.loop-at-test.true c.index-args-at.is
    (c.in_err-row-in-App.ensures.over (passed _ _ _ _ c.from_residual.ensures.1 is_over))

pub bounds-row-at : goal.bounds-row-at
bounds-row-at t c =
    let few = few_here c.args.tester.now.sig.now c.settings-well_formed.ensures.well_formed c.args.term.now c.in-App.head c.in-App.args c.as_slice-args.result.now
    c.in-App.is c.requires.term c.as_slice-args.ensures in
    omega (arith, few, c.loop-at-test.true)

pub loop-at-preserved : goal.loop-at-preserved
loop-at-preserved t c =
    let few = few_here c.args.tester.now.sig.now c.settings-well_formed.ensures.well_formed c.args.term.now c.in-App.head c.in-App.args c.as_slice-args.result.now
    c.in-App.is c.requires.term c.as_slice-args.ensures in
    record {
      extends = extends_on c.args.self.now c.loop-at.self c.value.new.self c.loop-at.invariant.extends c.value.ensures.extends;
      long = length-set c.loop-at.row c.loop-at.at c.in_ok-row-in-App.field-0 ∙ c.loop-at.invariant.long;
      values = row_next c.args.tester.now.sig.now c.loop-at.self.bank c.value.new.self.bank c.args.test c.as_slice-args.result.now c.loop-at.at c.index-args-at.result c.loop-at.row _
          c.in_ok-row-in-App.field-0 c.loop-at.invariant.values c.value.ensures.extends.grows c.loop-at-test.true c.index-args-at.is
          (omega (arith, few, c.loop-at-test.true, c.loop-at.invariant.long)) c.in_ok-row-in-App.ensures.value refl;
    }

pub slice_bounds-row-end : goal.slice_bounds-row-end
slice_bounds-row-end t c =
    let few = few_here c.args.tester.now.sig.now c.settings-well_formed.ensures.well_formed c.args.term.now c.in-App.head c.in-App.args c.as_slice-args.result.now
    c.in-App.is c.requires.term c.as_slice-args.ensures in
    omega (arith, few, c.loop-at.invariant.long)

pub slice_bounds-apply-end : goal.slice_bounds-apply-end
slice_bounds-apply-end t c =
    let few = few_here c.args.tester.now.sig.now c.settings-well_formed.ensures.well_formed c.args.term.now c.in-App.head c.in-App.args c.as_slice-args.result.now
    c.in-App.is c.requires.term c.as_slice-args.ensures in
    taken_long (length c.as_slice-args.result.now) c.loop-at.row (omega (arith, few, c.loop-at.invariant.long))

pub apply-requires-clause-held : goal.apply-requires-clause-held
apply-requires-clause-held t c =
    let values = values_all c.args.tester.now.sig.now c.settings-well_formed.ensures.well_formed c.loop-at.self.bank c.args.test c.args.term.now c.in-App.head c.as_slice-args.result.now c.loop-at.at
    (take c.loop-at.at c.loop-at.row) (take (length c.as_slice-args.result.now) c.loop-at.row) (c.in-App.is ∙ ap (App c.in-App.head) (sym c.as_slice-args.ensures)) c.requires.term
    c.loop-at-test.false c.loop-at.invariant.values
    (ap (λ n. take n c.loop-at.row) (let end : length c.as_slice-args.result.now ≡ c.loop-at.at = omega (arith, c.loop-at.auto.at-end, c.loop-at-test.false) in end)) in
    values.held

pub returns-after-loop-at-clause-value : goal.returns-after-loop-at-clause-value
returns-after-loop-at-clause-value t c =
    let values = values_all c.args.tester.now.sig.now c.settings-well_formed.ensures.well_formed c.loop-at.self.bank c.args.test c.args.term.now c.in-App.head c.as_slice-args.result.now c.loop-at.at
    (take c.loop-at.at c.loop-at.row) (take (length c.as_slice-args.result.now) c.loop-at.row) (c.in-App.is ∙ ap (App c.in-App.head) (sym c.as_slice-args.ensures)) c.requires.term
    c.loop-at-test.false c.loop-at.invariant.values
    (ap (λ n. take n c.loop-at.row) (let end : length c.as_slice-args.result.now ≡ c.loop-at.at = omega (arith, c.loop-at.auto.at-end, c.loop-at-test.false) in end)) in
    if_ok (Gives c.loop-at.self.parts c.apply.new.self.bank c.in-App.head (take (length c.as_slice-args.result.now) c.loop-at.row))
    (IsValue c.args.tester.now.sig.now c.apply.new.self.bank c.args.test c.args.term.now) c.apply.result
    (λ v gives. given_value c.args.tester.now.sig.now c.loop-at.self.parts c.loop-at.self.bank c.apply.new.self.bank c.args.test c.args.term.now c.in-App.head
    (take (length c.as_slice-args.result.now) c.loop-at.row) v (c.loop-at.invariant.extends.own ∙ c.requires.ready.own) c.apply.ensures.extends.grows values gives)
    c.apply.ensures.gives

pub returns-after-loop-at-clause-over : goal.returns-after-loop-at-clause-over
returns-after-loop-at-clause-over t c = λ is_over.
    let values = values_all c.args.tester.now.sig.now c.settings-well_formed.ensures.well_formed c.loop-at.self.bank c.args.test c.args.term.now c.in-App.head c.as_slice-args.result.now c.loop-at.at
    (take c.loop-at.at c.loop-at.row) (take (length c.as_slice-args.result.now) c.loop-at.row) (c.in-App.is ∙ ap (App c.in-App.head) (sym c.as_slice-args.ensures)) c.requires.term
    c.loop-at-test.false c.loop-at.invariant.values
    (ap (λ n. take n c.loop-at.row) (let end : length c.as_slice-args.result.now ≡ c.loop-at.at = omega (arith, c.loop-at.auto.at-end, c.loop-at-test.false) in end)) in
    given_none c.args.tester.now.sig.now c.loop-at.self.parts c.loop-at.self.bank c.args.test c.args.term.now c.in-App.head
    (take (length c.as_slice-args.result.now) c.loop-at.row) (c.loop-at.invariant.extends.own ∙ c.requires.ready.own) values (c.apply.ensures.over is_over)
