use Rattle.std.proofs.Common.{◌≡◌, ◌++◌, map, drop}
use Rattle.law_sig.specs.Trees.{joined}
use Rattle.law_test.specs.Words.{word}
use Rattle.law_test.proofs.words.+push_word.Given as goal

abbrev pub invariant-loop-arg : goal.invariant-loop-arg
invariant-loop-arg l = l.made.items ++ joined (map word (drop l.arg-index l.arg-items)) ≡ l.initial.made.items ++ joined (map word l.arg-items)
