-- What a replacement and a step lead to, and what a variable stands for.
use Rattle.std.specs.Prelude.{ℕ, List, Option, Some, None}
use Rattle.law_sig.specs.declared.tree.Tree.{Tree}
use Rattle.law_sig.specs.declared.parts.Equation.{Equation}
use Rattle.law_sig.specs.declared.parts.SigParts.{SigParts}
use Rattle.law_sig.specs.declared.chain.Step.{Step}
use Rattle.law_sig.specs.Chains.{Rewrites, IsStep}

-- the term that a replacement at a place leads to, and none where it leads to none
abbrev pub IsReplaced : Tree → Tree → List ℕ → Tree → Option Tree → Type 0
IsReplaced from to place t None = (u : Tree) → Rewrites from to place t u → ⊥
IsReplaced from to place t (Some u) = Rewrites from to place t u

-- the term that a step leads to, and none where it leads to none
abbrev pub IsStepped : SigParts → List Equation → Step → Tree → Option Tree → Type 0
IsStepped parts equations step s None = (t : Tree) → IsStep parts equations step s t → ⊥
IsStepped parts equations step s (Some t) = IsStep parts equations step s t
