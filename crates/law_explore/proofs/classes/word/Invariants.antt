use Rattle.std.proofs.Common.{◌≡◌, ◌∷◌, take}
use Rattle.law_explore.proofs.classes.word.Given as goal

abbrev pub invariant-loop-class : goal.invariant-loop-class
invariant-loop-class l = l.word.items ≡ l.fn.head.0 ∷ take l.class-index l.classes
