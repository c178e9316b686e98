-- Rows of picks, and what they pick from lists by place and weight.
use Rattle.std.specs.Prelude.{◌≡◌, ℕ, List, [], ◌∷◌, length, map, Some, slice_get, slice_index_or}
use Rattle.law_sig.specs.declared.tree.SymId.{SymId}
use Rattle.law_sig.specs.declared.tree.Tree.{Tree}
use Rattle.law_sig.specs.declared.tree.Tree.TheVariants.{App}
use Rattle.law_listing.specs.declared.pick.Pick.{Pick}

-- how many items there are at each place of each weight
abbrev pub counts_of : {A : Type 0} → List (List (List A)) → List (List ℕ)
counts_of lists = map (map length) lists

-- the items of a weight
abbrev pub weighing : {A : Type 0} → ℕ → List (List A) → List A
weighing k list = slice_index_or list k []

-- the items that a row picks
abbrev pub Picked : {A : Type 0} → List (List (List A)) → List Pick → List A → Type 0
Picked [] [] [] = Unit {0}
Picked [] [] (a ∷ args) = ⊥
Picked [] (p ∷ row) args = ⊥
Picked (list ∷ lists) [] args = ⊥
Picked (list ∷ lists) (p ∷ row) [] = ⊥
Picked (list ∷ lists) (p ∷ row) (a ∷ args) = (slice_get (slice_index_or list p.weight []) p.at ≡ Some a) × Picked lists row args

-- an application of a symbol to what a row picks
abbrev pub IsTermOf : List (List (List Tree)) → SymId → List Pick → Tree → Type 0
IsTermOf lists f row t = (args : List Tree) × Picked lists row args × (t ≡ App f args)
