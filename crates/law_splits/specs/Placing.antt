-- How an item is placed in a tree, and where its values lead it.
use Rattle.std.specs.Prelude.{ℕ, ◌≢◌, ◌+◌}
use Rattle.law_splits.specs.Splits.{Split, Kids}
use Rattle.law_splits.specs.Splits.Split.{leaf, split}
use Rattle.law_splits.specs.Splits.Kids.{none, kid}
use Rattle.law_splits.specs.Agree.{IsFirstDifference}

-- at a split the item goes to the child of its value, or its leaf is a new last child; a leaf becomes a split at the first
-- allowed test at which its item and the new one differ, with the old leaf first
mutual
  pub data Placed {A V : Type 0} (allowed : ℕ → Type 0) (M : A → ℕ → V → Type 0) (x : A) : Split A V → Split A V → Type 0 where
    apart : (y : A) (test : ℕ) (d : IsFirstDifference allowed M y x test)
        → Placed allowed M x (leaf y) (split test (kid d.differ.0 (leaf y) (kid d.differ.1 (leaf x) none)))
    below : (test : ℕ) (kids more : Kids A V) → PlacedAmong allowed M x test kids more → Placed allowed M x (split test kids) (split test more)

  pub data PlacedAmong {A V : Type 0} (allowed : ℕ → Type 0) (M : A → ℕ → V → Type 0) (x : A) : ℕ → Kids A V → Kids A V → Type 0 where
    at_last : (test : ℕ) (v : V) → M x test v → PlacedAmong allowed M x test none (kid v (leaf x) none)
    at_kid : (test : ℕ) (v : V) (tree more : Split A V) (others : Kids A V) → M x test v → Placed allowed M x tree more
        → PlacedAmong allowed M x test (kid v tree others) (kid v more others)
    past_kid : (test : ℕ) (v w : V) (tree : Split A V) (others more : Kids A V) → M x test w → w ≢ v → PlacedAmong allowed M x test others more
        → PlacedAmong allowed M x test (kid v tree others) (kid v tree more)

-- one of the children, with its value
pub data IsKid {A V : Type 0} (v : V) (tree : Split A V) : Kids A V → Type 0 where
  first : (others : Kids A V) → IsKid v tree (kid v tree others)
  later : (w : V) (first : Split A V) (others : Kids A V) → IsKid v tree others → IsKid v tree (kid w first others)

-- by the values that `P` gives at tests, one is led to this part of a tree, over so many splits
pub data LeadsTo {A V : Type 0} (P : ℕ → V → Type 0) (tree : Split A V) : ℕ → Split A V → Type 0 where
  start : LeadsTo P tree 0 tree
  down : (splits test : ℕ) (kids : Kids A V) (v : V) (part : Split A V) → LeadsTo P tree splits (split test kids) → P test v → IsKid v part kids
      → LeadsTo P tree (splits + 1) part
