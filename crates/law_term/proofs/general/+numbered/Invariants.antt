use Rattle.law_bank.specs.Bank.{AllOf, Grows}
use Rattle.law_term.proofs.Numbering.{IsNumbering}
use Rattle.law_term.proofs.general.+numbered.Given as goal

abbrev pub invariant-loop-arg : goal.invariant-loop-arg
invariant-loop-arg l = record {
  grows : Grows l.initial.bank l.bank;
  held : AllOf l.bank l.args.items;
  numbering : IsNumbering l.vars l.initial.used.items l.used.items l.arg-items l.args.items l.arg-index;
}
