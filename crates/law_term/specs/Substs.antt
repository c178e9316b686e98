-- What is found for a variable.
use Rattle.std.specs.Prelude.{◌≡◌, ℕ, List, map, Bool, false, Option, None, Some}
use denote.Bor.{Bor}
use Rattle.law_sig.specs.Lists.{In}
use Rattle.law_sig.specs.Chains.{is_bound}
use Rattle.law_sig.specs.declared.tree.SortId.{SortId}
use Rattle.law_sig.specs.declared.tree.Tree.TheVariants.{Var}
use Rattle.law_bank.specs.declared.node.Node.{Node}
use Rattle.law_bank.specs.Terms.{tree_of}
use Rattle.law_bank.specs.Bindings.{Binding, bind_of, subst_of}

abbrev pub variable_of : Binding → SortId × ℕ
variable_of b = (b.0, b.1)

-- the term is bound to the variable
pub record IsBound (bindings : List Binding) (sort : SortId) (index : ℕ) (t : Bor Node) : Type 0 where
  pub bound : In {A = Binding} (sort, index, t) bindings
  pub is : subst_of bindings sort index ≡ tree_of t.now

-- the variable isn't bound
pub record IsFree (bindings : List Binding) (sort : SortId) (index : ℕ) : Type 0 where
  pub absent : In {A = SortId × ℕ} (sort, index) (map variable_of bindings) → ⊥
  pub is : subst_of bindings sort index ≡ Var sort index

-- whether what stands at a place is the binding of a variable
abbrev pub is_there : SortId → ℕ → Option Binding → Bool
is_there sort index None = false
is_there sort index (Some b) = is_bound sort index (bind_of b)
