-- What is known of applications: a symbol over values of a bank, and the value that it gives.
use Rattle.std.specs.Prelude.{◌≡◌, List, [], ◌∷◌, take, Option, Some, IfSome}
use Rattle.law_sig.specs.Lists.{Each}
use Rattle.law_sig.specs.declared.tree.SymId.{SymId}
use Rattle.law_sig.specs.declared.tree.Tree.{Tree}
use Rattle.law_sig.specs.declared.parts.SigParts.{SigParts}
use Rattle.law_ids.specs.declared.ids.ValueId.{ValueId}
use Rattle.law_ids.specs.Values.{IsOf, AreOf, tree_of}
use Rattle.law_test.specs.declared.memo.Key.{Key}
use Rattle.law_test.specs.declared.memo.Known.{Known}
use Rattle.law_testing.specs.Values.{applied_value}

-- the symbol gives this value of these
pub record Gives (parts : SigParts) (bank : List Tree) (f : SymId) (ids : List ValueId) (v : ValueId) : Type 0 where
  pub row : AreOf bank ids
  pub held : IsOf bank v
  pub is : applied_value parts f bank ids ≡ Some (tree_of bank v)

-- the values of a key
abbrev pub row_of : Key → List ValueId
row_of key = take key.count (key.first ∷ (key.second ∷ (key.third ∷ [])))

abbrev pub IsRight : SigParts → List Tree → Known → Type 0
IsRight parts bank known = Gives parts bank known.key.sym (row_of known.key) known.value

abbrev pub AreRight : SigParts → List Tree → List (Option Known) → Type 0
AreRight parts bank places = Each (λ (o : Option Known). IfSome o (IsRight parts bank)) places
