use Rattle.law_bank.specs.Terms.{tree_of}
use Rattle.law_bank.specs.Bank.{IsOf}
use Rattle.law_acceptance.specs.Low.{IsLow}
use Rattle.law_acceptance.proofs.towers.over.Given as goal

abbrev pub invariant-loop : goal.invariant-loop
invariant-loop l = record {
  held : IsOf l.bank l.top.term.now;
  low : IsLow (tree_of l.top.term.now);
}
