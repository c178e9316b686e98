use Rattle.std.proofs.Common.{◌≡◌, vec_len, take}
use Rattle.law_schema.specs.Rules.{AreMarksOf}
use Rattle.law_schema.proofs.rules.with_marks.Given as goal

abbrev pub invariant-loop-symbol : goal.invariant-loop-symbol
invariant-loop-symbol l = record {
  long : vec_len l.marks ≡ vec_len l.initial.marks;
  marked : AreMarksOf (take l.symbol-index l.symbols) l.marks.items;
}
