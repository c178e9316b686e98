-- Regular grammars over pieces of any kind, and the rows of pieces that one spells.
use Rattle.std.specs.Prelude.{◌≡◌, List, [], ◌∷◌, ◌++◌, ◌⊎◌}
use Rattle.std.specs.List.{AllByRecursion, flat_map}

pub data Grammar (P : Type 0) : Type 0 where
  never : Grammar P
  empty : Grammar P
  one : P → Grammar P
  series : Grammar P → Grammar P → Grammar P
  either : Grammar P → Grammar P → Grammar P
  many : Grammar P → Grammar P

-- at least once
abbrev pub some : {P : Type 0} → Grammar P → Grammar P
some g = series g (many g)

abbrev pub Spells : {P : Type 0} → Grammar P → List P → Type 0
Spells never row = ⊥
Spells empty row = row ≡ []
Spells (one piece) row = row ≡ piece ∷ []
Spells {P} (series g h) row = (front : List P) × (back : List P) × (row ≡ front ++ back) × Spells g front × Spells h back
Spells (either g h) row = Spells g row ⊎ Spells h row
Spells {P} (many g) row = (rows : List (List P)) × (row ≡ flat_map (λ r. r) rows) × AllByRecursion (Spells g) rows
