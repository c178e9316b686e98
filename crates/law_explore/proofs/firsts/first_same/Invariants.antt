use Rattle.std.proofs.Common.{◌≡◌, ◌++◌, ◌==◌, length}
use Rattle.indexmap.specs.IndexMap.{get}
use Rattle.law_explore.specs.Firsts.{KnowsBefore}
use Rattle.law_explore.proofs.FirstFacts.{FirstsTo}
use Rattle.law_explore.proofs.firsts.first_same.Given as goal

abbrev pub invariant-loop-class : goal.invariant-loop-class
invariant-loop-class l = record {
  whole : l.yielded ++ l.class-iterator.rest.items ≡ l.fn.classes.items;
  known : KnowsBefore l.fn.classes.items (length l.yielded) (get ◌==◌ l.places);
  so_far : FirstsTo l.fn.classes.items (length l.yielded) l.firsts.items;
}
