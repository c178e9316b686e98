-- The items of a split, by their numbers, and their values.
use Rattle.std.specs.Prelude.{◌≡◌, ℕ, List, Ok, Err, Result, Some}
use Rattle.law_sig.specs.Trees.{joined}
use Rattle.law_sig.specs.declared.tree.Tree.{Tree}
use Rattle.law_sig.specs.declared.parts.SigParts.{SigParts}
use Rattle.law_ids.specs.declared.ids.ValueId.{ValueId}
use Rattle.law_ids.specs.Values.{IsOf, tree_of}
use Rattle.law_draws.specs.Draws.{pools_by}
use Rattle.law_valid.specs.declared.rule.Answer.{Answer}
use Rattle.law_valid.specs.declared.rule.Rule.{Rule}
use Rattle.law_sig.specs.Lists.{numbered}
use Rattle.law_valid.specs.Trees.{value_of}
use Rattle.law_valid.specs.Judged.{ItemValued, ItemsValued}
use Rattle.law_testing.specs.Values.{Both}

-- nothing follows: what is asked before is an answer
abbrev pub Nothing : Answer → Type 0
Nothing a = ⊥

-- the id of the value of the term with a number
pub record IsNumberValue (parts : SigParts) (bank : List Tree) (terms : List Tree) (test number : ℕ) (v : ValueId) : Type 0 where
  pub held : IsOf bank v
  pub is : value_of parts (pools_by parts) terms test number ≡ Some (tree_of bank v)

-- of one number, of a list of them, and of lists: the values, or the first fault
module _ (parts : SigParts) (bank : List Tree) (rule : Rule) (entry : ℕ) (terms : List Tree) (test : ℕ) where
  abbrev pub IsItem : ℕ → Result ValueId Answer → Type 0
  IsItem number (Ok v) = IsNumberValue parts bank terms test number v
  IsItem number (Err a) = ItemValued parts (pools_by parts) rule entry test (numbered terms number) Nothing a

  abbrev pub AreItems : List ℕ → Result (List ValueId) Answer → Type 0
  AreItems numbers (Ok vs) = Both (IsNumberValue parts bank terms test) numbers vs
  AreItems numbers (Err a) = ItemsValued parts (pools_by parts) rule entry terms test numbers Nothing a

  abbrev pub AreKids : List (List ℕ) → Result (List (List ValueId)) Answer → Type 0
  AreKids kids (Ok values) = Both (Both (IsNumberValue parts bank terms test)) kids values
  AreKids kids (Err a) = ItemsValued parts (pools_by parts) rule entry terms test (joined kids) Nothing a
