-- What is asked of the terms for the variables of an equation, as tests.
use Rattle.std.specs.Prelude.{ℕ, List, [], ◌∷◌, Bool, true, ◌&&◌, ◌||◌, ◌==◌, nat_lt}
use Rattle.std.specs.List.{list_all, list_any}
use Rattle.law_sig.specs.Trees.{same_sort}
use Rattle.law_sig.specs.Signature.{sort_of, has_sort}
use Rattle.law_sig.specs.declared.tree.SortId.{SortId}
use Rattle.law_sig.specs.declared.tree.Tree.{Tree}
use Rattle.law_sig.specs.declared.tree.Tree.TheOpen.{Tree-F}
use Rattle.law_sig.specs.declared.tree.Tree.TheOpen as o
use Rattle.law_sig.specs.declared.tree.Tree.TheFolds.{fold-Tree}
use Rattle.law_sig.specs.declared.parts.Equation.{Equation}
use Rattle.law_sig.specs.declared.parts.SigParts.{SigParts}
use Rattle.law_sig.specs.declared.chain.Bind.{Bind}
use Rattle.law_sig.specs.Chains.{is_bound}

-- whether a variable stands in a term
abbrev pub stands_step : SortId → ℕ → Tree-F Bool → Bool
stands_step sort index (o.Var s i) = same_sort s sort && (i == index)
stands_step sort index (o.App f below) = list_any (λ b. b) below

abbrev pub stands : SortId → ℕ → Tree → Bool
stands sort index = fold-Tree Bool (stands_step sort index)

-- whether there is a term for a variable, and for each variable of a term
abbrev pub is_given : List Bind → SortId → ℕ → Bool
is_given binds sort index = list_any (is_bound sort index) binds

abbrev pub covered_step : List Bind → Tree-F Bool → Bool
covered_step binds (o.Var s i) = is_given binds s i
covered_step binds (o.App f below) = list_all (λ b. b) below

abbrev pub is_covered : List Bind → Tree → Bool
is_covered binds = fold-Tree Bool (covered_step binds)

-- whether the term has the variable's sort, and the variable stands in the equation
abbrev pub fits : SigParts → Equation → Bind → Bool
fits parts q b = has_sort (sort_of parts b.term) b.sort && (stands b.sort b.index q.left || stands b.sort b.index q.right)

-- whether each variable stands before the next one
abbrev pub is_earlier : Bind → Bind → Bool
is_earlier b d = nat_lt b.sort.0 d.sort.0 || (same_sort b.sort d.sort && nat_lt b.index d.index)

abbrev pub rises : List Bind → Bool
rises [] = true
rises (b ∷ []) = true
rises (b ∷ d ∷ binds) = is_earlier b d && rises (d ∷ binds)

-- all of it
abbrev pub are_binds : SigParts → Equation → List Bind → Bool
are_binds parts q binds = list_all (fits parts q) binds && rises binds && is_covered binds q.left && is_covered binds q.right
