use Rattle.std.proofs.Common.{◌≤◌, ℕ, List, length, drop}
use Rattle.law_sig.specs.declared.tree.Tree.{Tree}
use Rattle.law_sig.specs.declared.parts.SigParts.{SigParts}
use Rattle.law_schema.specs.Rules.{AreBetween, AreRules}
use Rattle.law_schema.specs.Columns.{columns_of}
use Rattle.law_schema.specs.Places.{IsStocked}
use Rattle.law_schema.proofs.Seeking.{HasComeTo}
use Rattle.law_schema.proofs.places.first_row.Given as goal

abbrev pub invariant-loop-rule : goal.invariant-loop-rule
invariant-loop-rule l = (parts : SigParts) (schemas : List Tree) (n : ℕ) → AreRules parts l.rules → IsStocked parts schemas (columns_of l.columns) → l.weight ≤ l.rules.size
    → AreBetween parts n (length parts.symbols) (drop l.from l.rules.symbols) → HasComeTo parts l.rules.symbols schemas l.weight n l.rule
