use Rattle.std.proofs.Common.{[], take, sym, ap, ◌∙◌, subst}
use Rattle.std.specs.Map.{lookup}
use Rattle.indexmap.specs.IndexMap.{get}
use Rattle.law_draws.specs.Draws.{pools_by}
use Rattle.law_ids.proofs.BankFacts.{take_all}
use Rattle.law_testing.proofs.EvaluatorFacts.{extends_not, extends_on}
use Rattle.law_testing.specs.Values.{Both}
use Rattle.law_test.specs.Words.{same_items}
use Rattle.law_testing.proofs.EvaluatorFacts.{ready_stays}
use Rattle.law_explore.specs.Refusals.{LacksValue, HasLackingTerm}
use Rattle.law_explore.specs.Values.{HasVector, AreArgsPlaced, HasArgClasses}
use Rattle.law_explore.specs.Classes.{AreDistinct}
use Rattle.law_explore.proofs.Breaking.{handed_on}
use Rattle.law_explore.proofs.ClassFacts.{none_distinct, nothing_remembered}
use Rattle.law_explore.proofs.KnownFacts.{stands_at, universe_testable, args_placed, args_have, first_lacking, classes_more}
use Rattle.law_explore.proofs.classes.classes_of.Goals as goal

pub loop-term-init : goal.loop-term-init
loop-term-init c = record {
  extends = extends_not c.args.evaluator.now;
  distinct = subst AreDistinct (sym c.new-vectors.ensures.empty) none_distinct;
  made = nothing_remembered c.args.tester.now.sig.now c.args.evaluator.now.bank c.new-vectors.result.keys (get same_items c.new-made.result) (λ v. ap (lookup (same_items v)) c.new-made.ensures.empty);
  have = subst (Both (HasVector c.args.tester.now.sig.now c.args.evaluator.now.bank c.new-vectors.result.keys) []) (sym c.new-classes.ensures.items) tt;
}

pub arg_classes-requires : goal.arg_classes-requires
arg_classes-requires c =
    subst (λ l. AreArgsPlaced c.args.terms.now l c.term-item.result) (sym c.as_slice.ensures.value)
    (args_placed c.args.tester.now.sig.now c.args.terms.now c.requires.terms c.loop-term.term-index c.term-item.result
    (stands_at c.as_slice-term-items.result.now c.args.terms.now c.loop-term.term-index c.term-item.result c.as_slice-term-items.ensures c.loop-term-test.true c.term-item.is)
    c.loop-term.evaluator.bank c.loop-term.vectors.keys c.loop-term.classes.items
    (subst (λ l. Both (HasVector c.args.tester.now.sig.now c.loop-term.evaluator.bank c.loop-term.vectors.keys) (take c.loop-term.term-index l) c.loop-term.classes.items) c.as_slice-term-items.ensures
    c.loop-term.invariant.have)
    c.settings-well_formed.ensures.well_formed)

pub class-requires-clause-pools : goal.class-requires-clause-pools
class-requires-clause-pools c = ready_stays c.args.tester.now.sig.now c.args.evaluator.now c.loop-term.evaluator c.args.tester.now.pools.now c.loop-term.invariant.extends c.requires.pools

pub class-requires-clause-term : goal.class-requires-clause-term
class-requires-clause-term c = universe_testable c.args.tester.now.sig.now c.args.terms.now c.requires.terms c.loop-term.term-index c.term-item.result
    (stands_at c.as_slice-term-items.result.now c.args.terms.now c.loop-term.term-index c.term-item.result c.as_slice-term-items.ensures c.loop-term-test.true c.term-item.is)

pub class-requires-clause-args : goal.class-requires-clause-args
class-requires-clause-args c =
    args_have c.args.tester.now.sig.now c.args.terms.now c.requires.terms c.loop-term.term-index c.term-item.result
    (stands_at c.as_slice-term-items.result.now c.args.terms.now c.loop-term.term-index c.term-item.result c.as_slice-term-items.ensures c.loop-term-test.true c.term-item.is)
    c.loop-term.evaluator.bank c.loop-term.vectors.keys c.loop-term.classes.items
    (subst (λ l. Both (HasVector c.args.tester.now.sig.now c.loop-term.evaluator.bank c.loop-term.vectors.keys) (take c.loop-term.term-index l) c.loop-term.classes.items) c.as_slice-term-items.ensures
    c.loop-term.invariant.have)
    c.settings-well_formed.ensures.well_formed c.in_ok-below.below c.as_slice-in-loop-term.result.now
    (subst (λ l. HasArgClasses c.args.terms.now l c.term-item.result c.in_ok-below.below) c.as_slice.ensures.value c.in_ok-below.ensures) c.as_slice-in-loop-term.ensures

pub returns-in_err-found-clause-lacks : goal.returns-in_err-found-clause-lacks
returns-in_err-found-clause-lacks c =
    handed_on c.args.tester.now.sig.now (LacksValue c.args.tester.now.sig.now (pools_by c.args.tester.now.sig.now) c.term-item.result) (HasLackingTerm c.args.tester.now.sig.now (pools_by c.args.tester.now.sig.now))
    c.from_residual-in_err-found.result _
    (first_lacking c.args.tester.now.sig.now c.args.terms.now c.requires.terms c.loop-term.term-index c.term-item.result
    (stands_at c.as_slice-term-items.result.now c.args.terms.now c.loop-term.term-index c.term-item.result c.as_slice-term-items.ensures c.loop-term-test.true c.term-item.is)
    c.loop-term.evaluator.bank c.loop-term.vectors.keys c.loop-term.classes.items
    (subst (λ l. Both (HasVector c.args.tester.now.sig.now c.loop-term.evaluator.bank c.loop-term.vectors.keys) (take c.loop-term.term-index l) c.loop-term.classes.items) c.as_slice-term-items.ensures
    c.loop-term.invariant.have))
    c.from_residual-in_err-found.ensures.1 c.in_err-found.ensures.lacks

pub returns-in_err-found-clause-extends : goal.returns-in_err-found-clause-extends
returns-in_err-found-clause-extends c = extends_on c.args.evaluator.now c.loop-term.evaluator c.class.new.evaluator c.loop-term.invariant.extends c.class.ensures.extends

pub returns-in_default-clause-extends : goal.returns-in_default-clause-extends
returns-in_default-clause-extends c = extends_on c.args.evaluator.now c.loop-term.evaluator c.class.new.evaluator c.loop-term.invariant.extends c.class.ensures.extends

pub returns-clause-classes : goal.returns-clause-classes
returns-clause-classes c = record {
  vectors = c.loop-term.vectors.keys;
  distinct = c.loop-term.invariant.distinct;
  have = subst (λ l. Both (HasVector c.args.tester.now.sig.now c.loop-term.evaluator.bank c.loop-term.vectors.keys) l c.loop-term.classes.items)
      (take_all c.as_slice-term-items.result.now c.loop-term.term-index c.loop-term-test.false ∙ c.as_slice-term-items.ensures) c.loop-term.invariant.have;
}

pub loop-term-preserved : goal.loop-term-preserved
loop-term-preserved c = record {
  extends = extends_on c.args.evaluator.now c.loop-term.evaluator c.class.new.evaluator c.loop-term.invariant.extends c.class.ensures.extends;
  distinct = c.in_ok-found.ensures.distinct;
  made = c.in_ok-found.ensures.made;
  have = classes_more c.args.tester.now.sig.now c.loop-term.evaluator.bank c.class.new.evaluator.bank c.loop-term.vectors.keys c.class.new.vectors.keys c.as_slice-term-items.result.now c.loop-term.term-index
      c.term-item.result c.loop-term.classes.items c.push.new.self.items c.in_ok-found.found c.loop-term.invariant.have c.class.ensures.extends.grows c.in_ok-found.ensures.adds
      c.in_ok-found.ensures.class c.loop-term-test.true c.term-item.is c.in-Ok.ensures.items;
}
