-- The values of terms at the tests of a signature's pools, as ids of a bank.
use Rattle.std.specs.Prelude.{◌≡◌, ℕ, List, [], ◌∷◌, IsTrue, Option, Some, option_map}
use Rattle.law_sig.specs.Signature.{sort_of}
use Rattle.law_sig.specs.Evaluate.{Made, ap}
use Rattle.law_sig.specs.Tests.{test_count, val}
use Rattle.law_sig.specs.declared.tree.SortId.{SortId}
use Rattle.law_sig.specs.declared.tree.SymId.{SymId}
use Rattle.law_sig.specs.declared.tree.Tree.{Tree}
use Rattle.law_sig.specs.declared.parts.SigParts.{SigParts}
use Rattle.law_laws.specs.Renaming.{has_vars}
use Rattle.law_ids.specs.declared.ids.ValueId.{ValueId}
use Rattle.law_ids.specs.Values.{IsOf, tree_of, trees_of}
use Rattle.law_ids.specs.Table.{PoolTable, IsFor, AreHeld, pools_of}
use Rattle.law_draws.specs.Draws.{pools_by}

-- the pools of the signature, with their values in this bank
pub record ArePools (parts : SigParts) (bank : List Tree) (table : PoolTable) : Type 0 where
  pub fits : IsFor parts table
  pub held : AreHeld bank table.ids
  pub are : pools_of bank table.ids ≡ pools_by parts

-- a term that has values at tests: well-sorted, and its variables below their sort's number
pub record IsTestable (parts : SigParts) (t : Tree) : Type 0 where
  pub sort : SortId
  pub sorted : sort_of parts t ≡ Some sort
  pub variables : IsTrue (has_vars parts t)

abbrev pub tests_by : SigParts → ℕ
tests_by parts = test_count parts (pools_by parts)

abbrev pub val_by : SigParts → ℕ → Tree → Option Tree
val_by parts test t = val parts (pools_by parts) test t

-- the id of the term's value at a test
pub record IsValue (parts : SigParts) (bank : List Tree) (test : ℕ) (t : Tree) (v : ValueId) : Type 0 where
  pub held : IsOf bank v
  pub is : val_by parts test t ≡ Some (tree_of bank v)

-- the value of a symbol over values of the bank
abbrev pub applied_value : SigParts → SymId → List Tree → List ValueId → Option Tree
applied_value parts f bank ids = option_map (λ (m : Made). m.value) (ap parts f (trees_of bank ids) parts.settings.budget)

-- the lists are of one length, and item by item in the relation
abbrev pub Both : {A B : Type 0} → (A → B → Type 0) → List A → List B → Type 0
Both R [] [] = Unit {0}
Both R [] (y ∷ ys) = ⊥
Both R (x ∷ xs) [] = ⊥
Both R (x ∷ xs) (y ∷ ys) = R x y × Both R xs ys
