use Rattle.std.proofs.Common.{◌↔◌, length}
use Rattle.law_sig.specs.Lists.{Each}
use Rattle.law_draws.specs.Draws.{pools_by}
use Rattle.law_checking.specs.Lines.{held_in}
use Rattle.law_checking.specs.Planted.{AreTermsOf}
use Rattle.law_forest.proofs.trees.Grove.has_terms.Given as goal

abbrev pub decreases-loop-line : goal.decreases-loop-line
decreases-loop-line l = length l.left

abbrev pub invariant-loop-line : goal.invariant-loop-line
invariant-loop-line l = Each (AreTermsOf l.self.tester.sig.now (pools_by l.self.tester.sig.now) l.self.spreads.now l.self.lives.now) (held_in l.left)
    ↔ Each (AreTermsOf l.self.tester.sig.now (pools_by l.self.tester.sig.now) l.self.spreads.now l.self.lives.now) (held_in l.lines)
