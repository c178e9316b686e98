-- What the entries of a memo say.
use Rattle.std.specs.Prelude.{List, Contains}
use Rattle.law_sig.specs.Relation.{Applies}
use Rattle.law_sig.specs.declared.tree.SymId.{SymId}
use Rattle.law_sig.specs.declared.tree.Tree.{Tree}
use Rattle.law_sig.specs.declared.parts.SigParts.{SigParts}
use Rattle.law_ids.specs.declared.ids.ValueId.{ValueId}
use Rattle.law_ids.specs.Values.{IsOf, AreOf, tree_of, trees_of}
use Rattle.law_memo.specs.declared.memo.Call.{Call}
use Rattle.law_memo.specs.declared.memo.Known.{Known}

-- an entry is right for a signature and a bank: its ids are of the bank, and it has the value and the cost of its application
pub record IsRight (parts : SigParts) (bank : List Tree) (f : SymId) (args : List ValueId) (known : Known) : Type 0 where
  pub args_held : AreOf bank args
  pub value_held : IsOf bank known.value
  pub applies : Applies parts f (trees_of bank args) (tree_of bank known.value) known.cost

-- and so is each of these entries
pub record AreRight (parts : SigParts) (bank : List Tree) (entries : List (Call × Known)) : Type 0 where
  pub each : (e : Call × Known) → Contains entries e → IsRight parts bank e.0.sym e.0.args.items e.1
