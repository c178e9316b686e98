use Rattle.std.proofs.Common.{◌≡◌, ◌≤◌, length, drop}
use Rattle.law_sig.specs.declared.parts.SigParts.{SigParts}
use Rattle.law_bank.specs.Bank.{Terms}
use Rattle.law_bank.specs.Orders.{AreComparable}
use Rattle.law_term.proofs.Comparing.{schemas_cmp}
use Rattle.law_term.proofs.order.+compare_schemas.Given as goal

abbrev pub invariant-loop-at : goal.invariant-loop-at
invariant-loop-at l = record {
  within : l.at ≤ length l.rights;
  rest : (bank : Terms) (parts : SigParts) → AreComparable bank parts l.a l.b → schemas_cmp parts (drop l.at l.lefts) (drop l.at l.rights) ≡ schemas_cmp parts l.lefts l.rights;
}
