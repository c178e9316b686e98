use Rattle.std.proofs.Common.{◌<◌, ◌^◌, subst}
use Rattle.law_testing.proofs.Testing.{count_is}
use Rattle.law_test.proofs.values.Tester.own_tests.Goals as goal

pub returns-clause-few : goal.returns-clause-few
returns-clause-few c bank pools =
    subst (λ n. n < 2 ^ 63) (count_is c.args.self.now.sig.now bank c.args.self.now.pools.now c.tests-few.result pools c.tests-few.ensures.tests) c.tests-few.ensures.few
