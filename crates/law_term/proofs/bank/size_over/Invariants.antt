use Rattle.std.proofs.Common.{◌+◌, map, drop}
use Rattle.law_sig.specs.Lists.{total}
use Rattle.law_sig.specs.Trees.{node_count}
use Rattle.law_sig.proofs.SizeFacts.{Counted}
use Rattle.law_bank.specs.Terms.{trees_of}
use Rattle.law_bank.specs.Bank.{Terms, AllOf}
use Rattle.law_term.proofs.bank.size_over.Given as goal

abbrev pub invariant-loop-arg : goal.invariant-loop-arg
invariant-loop-arg l = (bank : Terms) → AllOf bank l.args → Counted l.size (drop l.arg-index (map node_count (trees_of l.args))) (1 + total (map node_count (trees_of l.args)))
