use Rattle.std.proofs.Common.{◌≡◌, ◌++◌, take, drop}
use Rattle.law_sig.specs.Lists.{Each}
use Rattle.law_checking.specs.Once.{AreAlike, heads}
use Rattle.law_forest.proofs.once.are_told.Given as goal

abbrev pub invariant-loop-kid : goal.invariant-loop-kid
invariant-loop-kid l = record {
  alike : Each AreAlike (take l.kid-index l.kids);
  heads : l.heads ++ heads (drop l.kid-index l.kids) ≡ heads l.kids;
}
