use Rattle.law_testing.proofs.Testing.{count_is}
use Rattle.law_test.proofs.values.Tester.tests.Goals as goal

pub returns : goal.returns
returns c = λ bank pools. count_is c.args.self.now.sig.now bank c.args.self.now.pools.now c.tests.result pools c.tests.ensures.tests
