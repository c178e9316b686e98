-- The constructors that may be chosen, as a table by height and sort.
use Rattle.std.specs.Prelude.{ℕ, ◌+◌, List, [], ◌∷◌, Bool, true, false, length}
use Rattle.law_sig.specs.Tests.{first_of}
use Rattle.law_sig.specs.declared.tree.SymId.{SymId}
use Rattle.law_sig.specs.declared.parts.SigParts.{SigParts}
use Rattle.law_draws.specs.Draws.{choices}

-- for each sort those of one height
abbrev pub level_of : SigParts → ℕ → List (List SymId)
level_of parts height = first_of (length parts.sort_names) (λ n. choices parts height (record { 0 = n }))

-- for each height up to this one
abbrev pub table_of : SigParts → ℕ → List (List (List SymId))
table_of parts height = first_of (height + 1) (level_of parts)

abbrev pub is_some_choice : List SymId → Bool
is_some_choice [] = false
is_some_choice (f ∷ fs) = true
