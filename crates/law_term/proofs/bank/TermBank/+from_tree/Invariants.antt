use Rattle.std.proofs.Common.{◌≡◌, ◌++◌, drop}
use Rattle.law_bank.specs.Terms.{trees_of}
use Rattle.law_bank.specs.Bank.{AllOf, Grows}
use Rattle.law_term.proofs.bank.TermBank.+from_tree.Given as goal

abbrev pub invariant-loop-arg : goal.invariant-loop-arg
invariant-loop-arg l = record {
  grows : Grows l.initial.self l.self;
  held : AllOf l.self l.terms.items;
  trees : trees_of l.terms.items ++ drop l.arg-index l.arg-items ≡ l.arg-items;
}
