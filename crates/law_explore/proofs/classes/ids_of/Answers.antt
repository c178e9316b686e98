use Rattle.std.proofs.Common.{◌≡◌, ◌<◌, ◌^◌, ◌∙◌, ℕ, sym, subst, arith}
use Rattle.law_own.specs.Own.{vars_of}
use Rattle.law_testing.proofs.EvaluatorFacts.{extends_on}
use Rattle.law_pool.specs.Wheels.{IsTrackOf}
use Rattle.law_testing.specs.Values.{tests_by}
use Rattle.law_testing.proofs.EvaluatorFacts.{ready_stays}
use Rattle.law_explore.specs.Values.{AreIds, id_of}
use Rattle.law_explore.proofs.VectorFacts.{args_stay, ids_next, own_value}
use Rattle.law_explore.proofs.classes.ids_of.Goals as goal

below_limit : (test tests : ℕ) → test < tests → tests < 2 ^ 63 → test < 2 ^ 63
below_limit test tests less few = omega arith

pub own-first-requires : goal.own-first-requires
own-first-requires c = below_limit c.loop-test.test (tests_by c.args.tester.now.sig.now)
    (subst (λ n. c.loop-test.test < n) (c.tests-test-end.ensures c.args.evaluator.now.bank c.requires.pools.pools) c.loop-test-test.true) (c.own_tests.ensures.few c.args.evaluator.now.bank c.requires.pools.pools)

pub id_at-requires-clause-pools : goal.id_at-requires-clause-pools
id_at-requires-clause-pools c = ready_stays c.args.tester.now.sig.now c.args.evaluator.now c.loop-test.evaluator c.args.tester.now.pools.now c.loop-test.invariant.extends c.requires.pools

pub id_at-requires-clause-test : goal.id_at-requires-clause-test
id_at-requires-clause-test c = subst (λ n. c.loop-test.test < n) (c.tests-test-end.ensures c.args.evaluator.now.bank c.requires.pools.pools) c.loop-test-test.true

pub id_at-requires-clause-own : goal.id_at-requires-clause-own
id_at-requires-clause-own c =
    let track : IsTrackOf c.args.tester.now.sig.now (vars_of c.args.term.now c.args.term.now) c.in_ok-own.own = c.in_ok-own.ensures.own in
    own_value c.args.tester.now.sig.now track.wide c.args.term.now c.requires.term c.loop-test.test c.own-first.result
    (c.own-first.ensures c.args.tester.now.sig.now (vars_of c.args.term.now c.args.term.now) track)

pub id_at-requires-clause-args : goal.id_at-requires-clause-args
id_at-requires-clause-args c =
    args_stay c.args.tester.now.sig.now c.args.evaluator.now.bank c.loop-test.evaluator.bank c.args.vectors.now.keys c.args.term.now c.args.classes.now c.loop-test.invariant.extends.grows c.requires.args

pub id_at-requires-clause-ids : goal.id_at-requires-clause-ids
id_at-requires-clause-ids c =
    subst (AreIds c.args.tester.now.sig.now c.loop-test.evaluator.bank c.args.term.now c.loop-test.test) (sym c.as_slice.ensures.value) c.loop-test.invariant.ids

pub loop-test-preserved : goal.loop-test-preserved
loop-test-preserved c = record {
  extends = extends_on c.args.evaluator.now c.loop-test.evaluator c.id_at.new.evaluator c.loop-test.invariant.extends c.id_at.ensures.extends;
  ids = ids_next c.args.tester.now.sig.now c.loop-test.evaluator.bank c.id_at.new.evaluator.bank c.args.term.now c.loop-test.test c.loop-test.ids.items c.push.new.self.items (id_of c.in_ok-id.id)
      c.loop-test.invariant.ids c.id_at.ensures.extends.grows c.in_ok-id.ensures.id c.in-Ok.ensures.items;
}

pub returns-clause-ids : goal.returns-clause-ids
returns-clause-ids c =
    let end : c.loop-test.test ≡ c.tests-test-end.result = omega (arith, c.loop-test.auto.test-end, c.loop-test-test.false) in
    subst (λ n. AreIds c.args.tester.now.sig.now c.loop-test.evaluator.bank c.args.term.now n c.loop-test.ids.items) (end ∙ c.tests-test-end.ensures c.args.evaluator.now.bank c.requires.pools.pools) c.loop-test.invariant.ids
