-- Tables of names that grow.
use Rattle.std.specs.Prelude.{◌≡◌, ℕ, List, [], ◌∷◌, ◌++◌, length, Option, Vec, vec_items}
use Rattle.std.specs.Map.{lookup}
use Rattle.law_typing.specs.Names.{same_name}
use Rattle.law_typing.specs.Table.{Finds}

-- what is noted for a name
abbrev pub noted : {A : Type 0} → List ℕ → List (Vec ℕ A × ℕ) → Option ℕ
noted name entries = lookup (λ key. same_name name (vec_items key)) entries

-- after one more name with its number, whatever names the table had
abbrev pub FindsMore : {A : Type 0} → List (Vec ℕ A × ℕ) → List ℕ → ℕ → List (Vec ℕ A × ℕ) → Type 0
FindsMore old name number new = (names : List (List ℕ)) → Finds names old → number ≡ length names → Finds (names ++ name ∷ []) new
