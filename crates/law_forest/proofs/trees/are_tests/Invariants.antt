use Rattle.std.proofs.Common.{◌<◌, take}
use Rattle.law_sig.specs.Lists.{Each}
use Rattle.law_forest.proofs.trees.are_tests.Given as goal

abbrev pub invariant-loop-test : goal.invariant-loop-test
invariant-loop-test l = Each (λ t. t < l.count) (take l.test-index l.tests)
