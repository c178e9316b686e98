-- Rows over choices by place and weight: which they are, their order, and all of them as a list.
use Rattle.std.specs.Prelude.{◌≡◌, ℕ, zero, suc, ◌+◌, ◌-◌, ◌≤◌, ◌==◌, ◌⊎◌, List, [], ◌∷◌, ◌++◌, map, if◌then◌else◌}
use Rattle.law_sig.specs.Lists.{In}

-- what the function lists at 0, 1, 2 and so on, for each number below this one, one list after another
abbrev pub each_below : {A : Type 0} → ℕ → (ℕ → List A) → List A
each_below zero f = []
each_below (suc n) f = each_below n f ++ f n

-- each item in front of each row: by item, and for each by row
abbrev pub crossed : {A : Type 0} → List A → List (List A) → List (List A)
crossed [] rows = []
crossed (x ∷ xs) rows = map (λ row. x ∷ row) rows ++ crossed xs rows

-- one item from each list, in the order of the lists, the first item counting most
abbrev pub choices : {A : Type 0} → List (List A) → List (List A)
choices [] = [] ∷ []
choices (xs ∷ more) = crossed xs (choices more)

-- the items stand in the lists, one in each
abbrev pub AllIn : {A : Type 0} → List A → List (List A) → Type 0
AllIn [] [] = Unit {0}
AllIn [] (l ∷ ls) = ⊥
AllIn (x ∷ xs) [] = ⊥
AllIn (x ∷ xs) (l ∷ ls) = In x l × AllIn xs ls

-- the rows of this total weight with an item of each of these kinds in turn, where `items k kind` lists the items of
-- weight k of a kind
abbrev pub rows_of : {A K : Type 0} → (ℕ → K → List A) → List K → ℕ → List (List A)
rows_of items [] n = if n == 0 then [] ∷ [] else []
rows_of items (kind ∷ kinds) n = each_below (n + 1) (λ k. crossed (items k kind) (rows_of items kinds (n - k)))

-- a row is one of these
abbrev pub IsChosen : {A K : Type 0} → (ℕ → K → List A) → List K → ℕ → List A → Type 0
IsChosen items [] n [] = n ≡ 0
IsChosen items [] n (x ∷ row) = ⊥
IsChosen items (kind ∷ kinds) n [] = ⊥
IsChosen items (kind ∷ kinds) n (x ∷ row) = (k : ℕ) × (k ≤ n) × In x (items k kind) × IsChosen items kinds (n - k) row

-- the first of two rows of one length that differ in a place stands lower there
abbrev pub Lex : {A : Type 0} → (A → A → Type 0) → List A → List A → Type 0
Lex R [] ys = ⊥
Lex R (x ∷ xs) [] = ⊥
Lex R (x ∷ xs) (y ∷ ys) = R x y ⊎ ((x ≡ y) × Lex R xs ys)
