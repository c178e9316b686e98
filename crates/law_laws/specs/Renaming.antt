-- Laws of tests: renaming variables, and flat tests.
use Rattle.std.specs.Prelude.{◌≡◌, ℕ, ◌<◌, ◌≤◌, Bool, true}
use Rattle.law_sig.specs.Trees.{schema_of, Subst, substituted}
use Rattle.law_sig.specs.Signature.{vars_at, width_at}
use Rattle.law_sig.specs.WellFormed.{vars_step}
use Rattle.law_sig.specs.Tests.{Pools, test_count, IsFlat, val}
use Rattle.law_sig.specs.declared.tree.SortId.{SortId}
use Rattle.law_sig.specs.declared.tree.Tree.{Tree}
use Rattle.law_sig.specs.declared.tree.Tree.TheVariants.{Var}
use Rattle.law_sig.specs.declared.tree.Tree.TheFolds.{fold-Tree}
use Rattle.law_sig.specs.declared.parts.SigParts.{SigParts}

-- every sort has a value in a pool
abbrev pub HasWidth : SigParts → Type 0
HasWidth parts = (sort : SortId) → 1 ≤ width_at parts sort

-- whether a term's variables are below their sort's number
abbrev pub has_vars : SigParts → Tree → Bool
has_vars parts = fold-Tree Bool (vars_step parts)

-- a renaming of variables, which gives each variable another index, or the same, below its sort's number
abbrev pub Renames : SigParts → (SortId → ℕ → ℕ) → Type 0
Renames parts r = (sort : SortId) (index : ℕ) → index < vars_at parts sort → r sort index < vars_at parts sort

abbrev pub renamed : (SortId → ℕ → ℕ) → Subst
renamed r sort index = Var sort (r sort index)

-- a test that gives each term the value that the renamed term has at another one
pub record IsRenamed (parts : SigParts) (pools : Pools) (r : SortId → ℕ → ℕ) (test : ℕ) : Type 0 where
  pub other : ℕ
  pub within : other < test_count parts pools
  pub same : (t : Tree) → has_vars parts t ≡ true → val parts pools test (substituted (renamed r) t) ≡ val parts pools other t

-- for each renaming and each test there is such a test
abbrev pub TestsAreRenamed : Type 0
TestsAreRenamed = (parts : SigParts) (pools : Pools) → HasWidth parts → (r : SortId → ℕ → ℕ) → Renames parts r
    → (test : ℕ) → test < test_count parts pools → IsRenamed parts pools r test

-- at a flat test a term and its schema have the same value, or neither has one
abbrev pub FlatTestsSeeSchemas : Type 0
FlatTestsSeeSchemas = (parts : SigParts) (pools : Pools) (test : ℕ) → IsFlat parts test
    → (t : Tree) → has_vars parts t ≡ true → val parts pools test (schema_of t) ≡ val parts pools test t
