use Rattle.std.proofs.Common.{◌≡◌, vec_len, take}
use Rattle.law_agenda.specs.Marks.{AreMarksOf}
use Rattle.law_agenda.proofs.universe.marked.Given as goal

abbrev pub invariant-loop-sym : goal.invariant-loop-sym
invariant-loop-sym l = record {
  long : vec_len l.marks ≡ vec_len l.initial.marks;
  marked : AreMarksOf (take l.sym-index l.symbols) l.marks.items;
}
