-- Each turn takes the first bytes of those that are left.
use Rattle.std.proofs.Common.{arith}
use Rattle.std.proofs.lemmas.Grind.{common_steps}
use Rattle.law_io.proofs.GrowsFacts.{Grows-more}
use Rattle.law_io.proofs.pushing.push_all.Goals as goal

pub loop-at-preserved : goal.loop-at-preserved
loop-at-preserved g c = record {
  within = grind (arith, common_steps);
  grew = Grows-more _ _ _ _ _ _ c.loop-at.invariant.grew c.in_ok-at.ensures.bytes;
  kept = grind (arith, common_steps);
}
