-- Trees of splits: a leaf has one item; a split has a test, and children, each with the value that its items have there.
use Rattle.std.specs.Prelude.{ℕ, List, [], ◌∷◌, ◌++◌, length}

mutual
  pub data Split (A V : Type 0) : Type 0 where
    leaf : A → Split A V
    split : ℕ → Kids A V → Split A V

  -- children, from left to right
  pub data Kids (A V : Type 0) : Type 0 where
    none : Kids A V
    kid : V → Split A V → Kids A V → Kids A V

-- the items at the leaves, from left to right
abbrev mutual
  pub leaves : {A V : Type 0} → Split A V → List A
  leaves (leaf x) = x ∷ []
  leaves (split test kids) = leaves_in kids

  pub leaves_in : {A V : Type 0} → Kids A V → List A
  leaves_in none = []
  leaves_in (kid value tree others) = leaves tree ++ leaves_in others

-- and child by child
abbrev pub by_child : {A V : Type 0} → Kids A V → List (List A)
by_child none = []
by_child (kid value tree others) = leaves tree ∷ by_child others

-- a split: its test, and the items below each of its children
pub record Cut (A : Type 0) : Type 0 where
  pub test : ℕ
  pub kids : List (List A)

-- the splits of a tree, in prefix order
abbrev mutual
  pub cuts : {A V : Type 0} → Split A V → List (Cut A)
  cuts (leaf x) = []
  cuts (split test kids) = record { test = test; kids = by_child kids } ∷ cuts_in kids

  pub cuts_in : {A V : Type 0} → Kids A V → List (Cut A)
  cuts_in none = []
  cuts_in (kid value tree others) = cuts tree ++ cuts_in others

-- the lines of a tree in prefix order: one for each split, of its test and the number of its children, and those of each item
abbrev mutual
  pub lines : {A V L : Type 0} → (ℕ → ℕ → L) → (A → List L) → Split A V → List L
  lines of_split of_item (leaf x) = of_item x
  lines of_split of_item (split test kids) = of_split test (length (by_child kids)) ∷ lines_in of_split of_item kids

  pub lines_in : {A V L : Type 0} → (ℕ → ℕ → L) → (A → List L) → Kids A V → List L
  lines_in of_split of_item none = []
  lines_in of_split of_item (kid value tree others) = lines of_split of_item tree ++ lines_in of_split of_item others

-- a tree with other items and other values in the place of its own
abbrev mutual
  pub renamed : {A B V W : Type 0} → (A → B) → (V → W) → Split A V → Split B W
  renamed f g (leaf x) = leaf (f x)
  renamed f g (split test kids) = split test (renamed_in f g kids)

  pub renamed_in : {A B V W : Type 0} → (A → B) → (V → W) → Kids A V → Kids B W
  renamed_in f g none = none
  renamed_in f g (kid value tree others) = kid (g value) (renamed f g tree) (renamed_in f g others)
