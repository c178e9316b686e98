use Rattle.std.proofs.Common.{◌≡◌, ◌+◌, map, drop}
use Rattle.law_sig.specs.Lists.{total}
use Rattle.law_sig.specs.Tests.{weight}
use Rattle.law_sig.specs.declared.parts.SigParts.{SigParts}
use Rattle.law_sig.proofs.SizeFacts.{Counted}
use Rattle.law_bank.specs.Terms.{trees_of}
use Rattle.law_bank.specs.Bank.{Terms, AllOf}
use Rattle.law_term.proofs.bank.weight_over.Given as goal

abbrev pub invariant-loop-arg : goal.invariant-loop-arg
invariant-loop-arg l = (bank : Terms) (parts : SigParts) → AllOf bank l.args → parts.settings.weights ≡ bank.weights
    → Counted l.weight (drop l.arg-index (map (weight parts) (trees_of l.args))) (l.own + total (map (weight parts) (trees_of l.args)))
