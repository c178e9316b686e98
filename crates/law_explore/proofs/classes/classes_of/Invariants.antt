use Rattle.std.proofs.Common.{take}
use Rattle.indexmap.specs.IndexMap.{get}
use Rattle.law_testing.specs.Evaluators.{Extends}
use Rattle.law_testing.specs.Values.{Both}
use Rattle.law_test.specs.Words.{same_items}
use Rattle.law_explore.specs.Values.{HasVector}
use Rattle.law_explore.specs.Classes.{AreDistinct, Remembers}
use Rattle.law_explore.proofs.classes.classes_of.Given as goal

abbrev pub invariant-loop-term : goal.invariant-loop-term
invariant-loop-term l = record {
  extends : Extends l.initial.evaluator l.evaluator;
  distinct : AreDistinct l.vectors.keys;
  made : Remembers l.tester.sig.now l.evaluator.bank l.vectors.keys (get same_items l.made);
  have : Both (HasVector l.tester.sig.now l.evaluator.bank l.vectors.keys) (take l.term-index l.term-items) l.classes.items;
}
