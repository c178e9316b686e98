-- Laws of application.
use Rattle.std.specs.Prelude.{◌≡◌, ℕ, ◌<◌, ◌≤◌, ◌↔◌, List, Some, None}
use Rattle.law_sig.specs.Evaluate.{Made, apply_within, ap}
use Rattle.law_sig.specs.Relation.{Applies}
use Rattle.law_sig.specs.declared.tree.SymId.{SymId}
use Rattle.law_sig.specs.declared.tree.Tree.{Tree}
use Rattle.law_sig.specs.declared.parts.SigParts.{SigParts}

-- the relation gives what the function gives at any depth
abbrev pub ComputedIsGiven : Type 0
ComputedIsGiven = (parts : SigParts) (deep : ℕ) (f : SymId) (args : List Tree) (m : Made)
    → apply_within parts deep f args ≡ Some m → Applies parts f args m.value m.cost

-- the function gives what the relation gives, at any depth of at least the cost
abbrev pub GivenIsComputed : Type 0
GivenIsComputed = (parts : SigParts) (deep : ℕ) (f : SymId) (args : List Tree) (m : Made)
    → Applies parts f args m.value m.cost → m.cost ≤ deep → apply_within parts deep f args ≡ Some m

-- the relation gives one value, at one cost
abbrev pub OneValue : Type 0
OneValue = (parts : SigParts) (f : SymId) (args : List Tree) (v w : Tree) (n k : ℕ)
    → Applies parts f args v n → Applies parts f args w k → (v ≡ w) × (n ≡ k)

-- where there is a result, more depth changes nothing
abbrev pub DepthChangesNothing : Type 0
DepthChangesNothing = (parts : SigParts) (deep limit : ℕ) → deep ≤ limit → (f : SymId) (args : List Tree) (m : Made)
    → apply_within parts deep f args ≡ Some m → apply_within parts limit f args ≡ Some m

-- a budget lets through exactly what the relation gives at a cost within it; and there is no result exactly where every
-- cost is above it
pub record IsBudgeted (parts : SigParts) (f : SymId) (args : List Tree) (budget : ℕ) : Type 0 where
  pub within : (m : Made) → (ap parts f args budget ≡ Some m) ↔ (Applies parts f args m.value m.cost × (m.cost ≤ budget))
  pub over : (ap parts f args budget ≡ None) ↔ ((v : Tree) (n : ℕ) → Applies parts f args v n → budget < n)

abbrev pub BudgetBoundsCost : Type 0
BudgetBoundsCost = (parts : SigParts) (f : SymId) (args : List Tree) (budget : ℕ) → IsBudgeted parts f args budget
