-- The table that a list of names keeps.
use Rattle.std.specs.Prelude.{◌≡◌, ℕ, List, Vec, vec_items}
use Rattle.std.specs.Map.{lookup}
use Rattle.law_typing.specs.Names.{same_name, number_of}

-- the entries find the first place of each name
abbrev pub Finds : {A : Type 0} → List (List ℕ) → List (Vec ℕ A × ℕ) → Type 0
Finds names entries = (name : List ℕ) → lookup (λ key. same_name name (vec_items key)) entries ≡ number_of names name
