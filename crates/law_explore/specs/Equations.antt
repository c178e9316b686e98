-- The equation of each term with the term at the first place that has the same vector.
use Rattle.std.specs.Prelude.{ℕ, ◌==◌, List, [], ◌∷◌, length, Option, Some, None, slice_get, slice_index_or, if◌then◌else◌}
use Rattle.law_sig.specs.declared.tree.Tree.{Tree}
use Rattle.law_sig.specs.declared.parts.Equation.{Equation}
use Rattle.law_listing.specs.Rows.{each_below}

-- the equation of the term at a place, which has this first place
abbrev pub equation_of : List Tree → ℕ → Option Tree → Option ℕ → List Equation
equation_of terms at None first = []
equation_of terms at (Some t) None = []
equation_of terms at (Some t) (Some first) = if first == at then [] else record { left = t; right = slice_index_or terms first t } ∷ []

-- the equation at a place, if there is one
abbrev pub equation_at : List Tree → List ℕ → ℕ → List Equation
equation_at terms firsts at = equation_of terms at (slice_get terms at) (slice_get firsts at)

-- for each term that isn't at its own first place its equation, in order
abbrev pub equations : List Tree → List ℕ → List Equation
equations terms firsts = each_below (length terms) (equation_at terms firsts)
