-- The Knuth-Bendix order of terms with variables: the weights are those of the signature, and a symbol with a greater number
-- is greater.
use Rattle.std.specs.Prelude.{◌≡◌, ℕ, ◌+◌, ◌<◌, ◌≤◌, ◌==◌, List, [], ◌∷◌, ◌++◌, if◌then◌else◌}
use Rattle.law_sig.specs.Trees.{holes}
use Rattle.law_sig.specs.Tests.{weight}
use Rattle.law_sig.specs.declared.tree.SortId.{SortId}
use Rattle.law_sig.specs.declared.tree.SymId.{SymId}
use Rattle.law_sig.specs.declared.tree.Tree.{Tree}
use Rattle.law_sig.specs.declared.tree.Tree.TheVariants.{App}
use Rattle.law_sig.specs.declared.parts.SigParts.{SigParts}

-- how often a number stands in a list
abbrev pub times : ℕ → List ℕ → ℕ
times n [] = 0
times n (m ∷ ms) = if m == n then 1 + times n ms else times n ms

-- each variable stands in the first term at least as often as in the second
abbrev pub HasVarsOf : Tree → Tree → Type 0
HasVarsOf s t = (sort : SortId) (index : ℕ) → times index (holes sort t) ≤ times index (holes sort s)

-- the first term is the greater one. It has the variables of the second one, and it weighs more; or it weighs the same, both
-- have a symbol at their head, and its symbol is greater; or it is the same symbol, and the first arguments that differ are
-- in this order. So neither of two different variables is greater
pub data Kbo (parts : SigParts) : Tree → Tree → Type 0 where
  heavier : (s t : Tree) → HasVarsOf s t → weight parts t < weight parts s → Kbo parts s t
  symbol : (f g : SymId) (ss ts : List Tree) → HasVarsOf (App f ss) (App g ts) → weight parts (App f ss) ≡ weight parts (App g ts) → g.0 < f.0
      → Kbo parts (App f ss) (App g ts)
  argument : (f : SymId) (before : List Tree) (s t : Tree) (ss ts : List Tree) → HasVarsOf (App f (before ++ s ∷ ss)) (App f (before ++ t ∷ ts))
      → weight parts (App f (before ++ s ∷ ss)) ≡ weight parts (App f (before ++ t ∷ ts)) → Kbo parts s t
      → Kbo parts (App f (before ++ s ∷ ss)) (App f (before ++ t ∷ ts))
