-- Lists whose last item comes next.
use Rattle.std.specs.Prelude.{List, [], ◌∷◌}

-- what f gives of each item, the last first, and then some more
abbrev pub tops_onto : {A B : Type 0} → (A → B) → List A → List B → List B
tops_onto f [] more = more
tops_onto f (x ∷ xs) more = tops_onto f xs (f x ∷ more)

abbrev pub tops : {A B : Type 0} → (A → B) → List A → List B
tops f xs = tops_onto f xs []
