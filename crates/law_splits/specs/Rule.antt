-- The placing rule: what the tree of a list of items is. Items stand in the order in which they are placed.
use Rattle.std.specs.Prelude.{ℕ, ◌≢◌, List, [], ◌∷◌, Option, Some, None}
use Rattle.law_splits.specs.Splits.{Split, Kids}
use Rattle.law_splits.specs.Splits.Split.{leaf, split}
use Rattle.law_splits.specs.Splits.Kids.{none, kid}
use Rattle.law_splits.specs.Agree.{IsFirstDifference}

-- those of a list that have this value at the test, in order, and those that have another one
pub data IsParted {A V : Type 0} (M : A → ℕ → V → Type 0) (test : ℕ) (v : V) : List A → List A → List A → Type 0 where
  done : IsParted M test v [] [] []
  same : (x : A) (xs ys zs : List A) → M x test v → IsParted M test v xs ys zs → IsParted M test v (x ∷ xs) (x ∷ ys) zs
  other : (x : A) (xs ys zs : List A) (w : V) → M x test w → w ≢ v → IsParted M test v xs ys zs → IsParted M test v (x ∷ xs) ys (x ∷ zs)

mutual
  -- the tree of one item is its leaf; that of more is a split at the first allowed test at which the first two differ
  pub data IsSplitTree {A V : Type 0} (allowed : ℕ → Type 0) (M : A → ℕ → V → Type 0) : List A → Split A V → Type 0 where
    alone : (x : A) → IsSplitTree allowed M (x ∷ []) (leaf x)
    apart : (x y : A) (others : List A) (test : ℕ) (kids : Kids A V) → IsFirstDifference allowed M x y test
        → AreSplitKids allowed M test (x ∷ y ∷ others) kids → IsSplitTree allowed M (x ∷ y ∷ others) (split test kids)

  -- its first child has the value of the first item, and is the tree of all items with this value; then come the children of the
  -- other items
  pub data AreSplitKids {A V : Type 0} (allowed : ℕ → Type 0) (M : A → ℕ → V → Type 0) : ℕ → List A → Kids A V → Type 0 where
    no_more : (test : ℕ) → AreSplitKids allowed M test [] none
    next : (test : ℕ) (x : A) (xs ys zs : List A) (v : V) (tree : Split A V) (kids : Kids A V) → M x test v → IsParted M test v xs ys zs
        → IsSplitTree allowed M (x ∷ ys) tree → AreSplitKids allowed M test zs kids → AreSplitKids allowed M test (x ∷ xs) (kid v tree kids)

-- and there is none of no items
abbrev pub IsTreeOf : {A V : Type 0} → (ℕ → Type 0) → (A → ℕ → V → Type 0) → List A → Option (Split A V) → Type 0
IsTreeOf allowed M xs (Some tree) = IsSplitTree allowed M xs tree
IsTreeOf allowed M [] None = Unit {0}
IsTreeOf allowed M (x ∷ xs) None = ⊥
