-- The sort of a term by its head alone: that of the variable, or the result sort of the symbol. Matching, unification and
-- rewriting ask for no more; of a well-sorted term it is its sort.
use Rattle.std.specs.Prelude.{◌≡◌, ℕ, Option, Some, None}
use Rattle.law_sig.specs.Trees.{Subst}
use Rattle.law_sig.specs.Signature.{symbol_at, result_of}
use Rattle.law_sig.specs.declared.tree.SortId.{SortId}
use Rattle.law_sig.specs.declared.tree.SymId.{SymId}
use Rattle.law_sig.specs.declared.tree.Tree.{Tree}
use Rattle.law_sig.specs.declared.tree.Tree.TheOpen.{Tree-F}
use Rattle.law_sig.specs.declared.tree.Tree.TheOpen as o
use Rattle.law_sig.specs.declared.tree.Tree.TheViews.{out-Tree}
use Rattle.law_sig.specs.declared.parts.Sym.{Sym}
use Rattle.law_sig.specs.declared.parts.SigParts.{SigParts}

-- the result sort of each symbol
abbrev pub Sorts : Type 0
Sorts = SymId → SortId

abbrev pub head_sort_of : {A : Type 0} → Sorts → Tree-F A → SortId
head_sort_of r (o.Var sort index) = sort
head_sort_of r (o.App head args) = r head

abbrev pub head_sort : Sorts → Tree → SortId
head_sort r t = head_sort_of r (out-Tree t)

-- each variable goes to a term of its own sort
abbrev pub KeepsHeads : Sorts → Subst → Type 0
KeepsHeads r σ = (sort : SortId) (index : ℕ) → head_sort r (σ sort index) ≡ sort

-- the result sorts of a signature, and the first sort for what isn't declared, as banks of terms have it
abbrev pub result_or_first : Option Sym → SortId
result_or_first None = record { 0 = 0 }
result_or_first (Some symbol) = result_of symbol

abbrev pub sorts_in : SigParts → Sorts
sorts_in parts f = result_or_first (symbol_at parts f)
