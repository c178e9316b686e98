use Rattle.std.proofs.Common.{ℕ, ◌<◌, ◌≤◌, ◌^◌, subst, arith}
use Rattle.law_draws.specs.Draws.{pools_by}
use Rattle.law_own.proofs.OwnTests.{first_is_own}
use Rattle.law_own.specs.Own.{vars_of}
use Rattle.law_pool.specs.Wheels.{IsTrackOf}
use Rattle.law_explore.specs.Refusals.{Breaks, IsFirstAnswer}
use Rattle.law_testing.specs.Values.{tests_by}
use Rattle.law_testing.proofs.EvaluatorFacts.{extends_not, extends_on}
use Rattle.law_testing.proofs.EvaluatorFacts.{ready_stays}
use Rattle.law_explore.proofs.Breaking.{handed_on, breaks_first, holds_on, holds_all}
use Rattle.law_explore.proofs.background.check_equation.Goals as goal

pub check_at-requires-clause-pools : goal.check_at-requires-clause-pools
check_at-requires-clause-pools c = ready_stays c.args.tester.now.sig.now c.args.evaluator.now c.loop-test.evaluator c.args.tester.now.pools.now c.loop-test.invariant.extends c.requires.pools

pub check_at-requires-clause-test : goal.check_at-requires-clause-test
check_at-requires-clause-test c =
    subst (λ n. c.loop-test.test < n) (c.tests-tests.ensures c.args.evaluator.now.bank c.requires.pools.pools) c.loop-test-test.true

pub returns-in_err-check_at-clause-breaks : goal.returns-in_err-check_at-clause-breaks
returns-in_err-check_at-clause-breaks c =
    handed_on c.args.tester.now.sig.now (Breaks c.args.tester.now.sig.now (pools_by c.args.tester.now.sig.now) c.args.number c.args.equation.now c.loop-test.test)
    (IsFirstAnswer (Breaks c.args.tester.now.sig.now (pools_by c.args.tester.now.sig.now) c.args.number c.args.equation.now) (tests_by c.args.tester.now.sig.now))
    c.from_residual-in_err-check_at.result _
    (breaks_first c.args.tester.now.sig.now c.args.number c.loop-test.test c.args.equation.now
    (subst (λ n. c.loop-test.test < n) (c.tests-tests.ensures c.args.evaluator.now.bank c.requires.pools.pools) c.loop-test-test.true)
    c.loop-test.invariant.holds)
    c.from_residual-in_err-check_at.ensures.1 c.in_err-check_at.ensures.breaks

pub loop-test-init : goal.loop-test-init
loop-test-init c =
    let track : IsTrackOf c.args.tester.now.sig.now (vars_of c.args.equation.now.left c.args.equation.now.right) c.in_ok-own.own = c.in_ok-own.ensures.own in
    record {
      extends = extends_not c.args.evaluator.now;
      own = first_is_own c.args.tester.now.sig.now track.wide (vars_of c.args.equation.now.left c.args.equation.now.right);
      holds = λ k less. absurd (omega arith);
    }

below_limit : (test tests : ℕ) → test < tests → tests < 2 ^ 63 → test < 2 ^ 63
below_limit test tests less few = omega arith

pub next-test-requires : goal.next-test-requires
next-test-requires c = below_limit c.loop-test.test (tests_by c.args.tester.now.sig.now)
    (subst (λ n. c.loop-test.test < n) (c.tests-tests.ensures c.args.evaluator.now.bank c.requires.pools.pools) c.loop-test-test.true) (c.own_tests.ensures.few c.args.evaluator.now.bank c.requires.pools.pools)

pub loop-test-preserved : goal.loop-test-preserved
loop-test-preserved c =
    let track : IsTrackOf c.args.tester.now.sig.now (vars_of c.args.equation.now.left c.args.equation.now.right) c.in_ok-own.own = c.in_ok-own.ensures.own in
    let step = c.next-test.ensures c.args.tester.now.sig.now (vars_of c.args.equation.now.left c.args.equation.now.right) track c.loop-test.invariant.own in
    record {
      extends = extends_on c.args.evaluator.now c.loop-test.evaluator c.check_at.new.evaluator c.loop-test.invariant.extends c.check_at.ensures.extends;
      own = step.own;
      holds = holds_on c.args.tester.now.sig.now track.wide c.args.equation.now c.requires.left c.requires.right c.loop-test.test c.next-test.result c.loop-test.invariant.holds
          c.in_ok-check_at.ensures.holds step;
    }

pub returns-clause-holds : goal.returns-clause-holds
returns-clause-holds c =
    holds_all c.args.tester.now.sig.now c.args.equation.now c.loop-test.test c.loop-test.invariant.holds
    (subst (λ n. n ≤ c.loop-test.test) (c.tests-tests.ensures c.args.evaluator.now.bank c.requires.pools.pools) c.loop-test-test.false)
