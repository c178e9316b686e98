-- What the fields of a bank mean.
use Rattle.std.specs.Prelude.{◌≡◌, ℕ, List, map, Vec}
use Rattle.std.specs.declared.alloc.Global.{Global}
use denote.Bor.{Bor}
use Rattle.law_sig.specs.Lists.{Each}
use Rattle.law_bank.specs.declared.node.Node.{Node}
use Rattle.law_bank.specs.Terms.{trees_of}
use Rattle.law_bank.specs.Bank.{Terms, AllOf, IsShared}
use Rattle.law_term.specs.declared.bank.TermBank.TheInside.{Inside}
use Rattle.law_term.specs.Keys.{key_of}

-- an entry of the table: a key and its node
abbrev pub Entry : Type 0
Entry = Vec ℕ Global × Bor Node

abbrev pub nodes_of : List Entry → List (Bor Node)
nodes_of entries = map (λ (e : Entry). e.1) entries

abbrev pub terms_in : Inside → Terms
terms_in b = record { sorts = b.sorts; weights = b.weights; trees = trees_of (nodes_of b.nodes.entries) }

-- the nodes are terms of the bank, no two of them have one tree, and each stands under its key
pub record IsBank (b : Inside) : Type 0 where
  pub held : AllOf (terms_in b) (nodes_of b.nodes.entries)
  pub shared : IsShared (terms_in b)
  pub keyed : Each (λ (e : Entry). e.0.items ≡ key_of e.1.now) b.nodes.entries
