use Rattle.std.proofs.Common.{take}
use Rattle.law_sig.specs.Lists.{Each}
use Rattle.law_sig.specs.Tests.{IsFlat}
use Rattle.law_ids.specs.Table.{IsFor}
use Rattle.law_forest.proofs.trees.are_flat.Given as goal

abbrev pub invariant-loop-test : goal.invariant-loop-test
invariant-loop-test l = IsFor l.tester.sig.now l.tester.pools.now → Each (IsFlat l.tester.sig.now) (take l.test-index l.tests)
