-- Two terms at one place, and what is said of the two that are compared in their stead.
use Rattle.std.specs.Prelude.{◌≡◌, ◌↔◌}
use denote.Bor.{Bor}
use Rattle.law_sig.specs.Order.{compare_k}
use Rattle.law_sig.specs.Kbo.{Kbo}
use Rattle.law_sig.specs.declared.parts.SigParts.{SigParts}
use Rattle.law_bank.specs.declared.node.Node.{Node}
use Rattle.law_bank.specs.Terms.{tree_of}
use Rattle.law_bank.specs.Bank.{Terms}
use Rattle.law_bank.specs.Orders.{AreComparable}
use Rattle.law_term.specs.declared.order.Both.{Both}

abbrev pub both_of : Both → Bor Node × Bor Node
both_of b = (b.left, b.right)

-- a and b are to each other in K as l and r are
pub record AreInStead (bank : Terms) (parts : SigParts) (a b l r : Node) : Type 0 where
  pub comparable : AreComparable bank parts l r
  pub same : compare_k parts (tree_of a) (tree_of b) ≡ compare_k parts (tree_of l) (tree_of r)

abbrev pub StandFor : Node → Node → Node → Node → Type 0
StandFor a b l r = (bank : Terms) (parts : SigParts) → AreComparable bank parts a b → AreInStead bank parts a b l r

-- the same in the Knuth-Bendix order
pub record AreGreaterInStead (bank : Terms) (parts : SigParts) (a b l r : Node) : Type 0 where
  pub comparable : AreComparable bank parts l r
  pub same : Kbo parts (tree_of a) (tree_of b) ↔ Kbo parts (tree_of l) (tree_of r)

abbrev pub StandForGreater : Node → Node → Node → Node → Type 0
StandForGreater a b l r = (bank : Terms) (parts : SigParts) → AreComparable bank parts a b → AreGreaterInStead bank parts a b l r
