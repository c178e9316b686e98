-- Laws of the placing rule.
use Rattle.std.specs.Prelude.{ℕ, ◌≡◌, ◌≢◌, ◌↔◌, ◌⊎◌, List, [], ◌∷◌, ◌++◌, map, Some, slice_get}
use Rattle.law_sig.specs.Lists.{In, Each, AreDistinct}
use Rattle.law_splits.specs.Splits.{Split, Kids, Cut, leaves, cuts, renamed}
use Rattle.law_splits.specs.Splits.Split.{leaf, split}
use Rattle.law_splits.specs.Agree.{HasOneValue, AgreeAt, DifferAt, Differ, IsFirstDifference}
use Rattle.law_splits.specs.Rule.{IsSplitTree}
use Rattle.law_splits.specs.Placing.{Placed, IsKid, LeadsTo}

module _ {A V : Type 0} (allowed : ℕ → Type 0) (M : A → ℕ → V → Type 0) where
  -- The rule fixes the tree

  abbrev pub RuleFixesTree : Type 0
  RuleFixesTree = HasOneValue M → (xs : List A) (s t : Split A V) → IsSplitTree allowed M xs s → IsSplitTree allowed M xs t → s ≡ t

  -- Each item has one leaf

  pub record AreLeaves (xs : List A) (tree : Split A V) : Type 0 where
    pub exact : (x : A) → In x (leaves tree) ↔ In x xs
    pub once : AreDistinct (leaves tree)

  abbrev pub EachHasOneLeaf : Type 0
  EachHasOneLeaf = HasOneValue M → (xs : List A) (tree : Split A V) → IsSplitTree allowed M xs tree → AreLeaves xs tree

  -- Splits tell items apart

  -- at an allowed test; and two items below it agree there where they are below the same child, and differ where they aren't
  pub record Tells (cut : Cut A) : Type 0 where
    pub is_allowed : allowed cut.test
    pub agree : (i : ℕ) (xs : List A) (x y : A) → slice_get cut.kids i ≡ Some xs → In x xs → In y xs → AgreeAt M x y cut.test
    pub differ : (i j : ℕ) (xs ys : List A) (x y : A) → i ≢ j → slice_get cut.kids i ≡ Some xs → slice_get cut.kids j ≡ Some ys → In x xs → In y ys
        → DifferAt M x y cut.test

  abbrev pub SplitsTell : Type 0
  SplitsTell = (xs : List A) (tree : Split A V) → IsSplitTree allowed M xs tree → Each Tells (cuts tree)

  -- The tree of one item more is that in which it is placed

  abbrev pub PlacingGrows : Type 0
  PlacingGrows = (xs : List A) (x : A) (tree more : Split A V) → IsSplitTree allowed M xs tree → Placed allowed M x tree more
      → IsSplitTree allowed M (xs ++ x ∷ []) more

  -- An item is told apart from all others but the one at the leaf to which its values lead

  abbrev pub LeavesAreExact : Type 0
  LeavesAreExact = HasOneValue M → (xs : List A) (tree : Split A V) → IsSplitTree allowed M xs tree → (x y : A) (splits : ℕ) → LeadsTo (M x) tree splits (leaf y)
      → In y xs × ((z : A) → In z xs → (z ≡ y) ⊎ Differ allowed M x z)

  -- and from all of them where its values lead to a split that has no child for it
  abbrev pub NewChildrenAreExact : Type 0
  NewChildrenAreExact = HasOneValue M → (xs : List A) (tree : Split A V) → IsSplitTree allowed M xs tree
      → (x : A) (v : V) (splits test : ℕ) (kids : Kids A V) → LeadsTo (M x) tree splits (split test kids) → M x test v → ((part : Split A V) → IsKid v part kids → ⊥)
      → (z : A) → In z xs → Differ allowed M x z

  -- Where an item differs from all others, and has a value at each allowed test, there is a way to place it

  abbrev pub OthersArePlaced : Type 0
  OthersArePlaced = ((v w : V) → (v ≡ w) ⊎ (v ≢ w)) → (xs : List A) (x : A) (tree : Split A V) → IsSplitTree allowed M xs tree
      → ((test : ℕ) → allowed test → (v : V) × M x test v) → ((y : A) → In y xs → (test : ℕ) × IsFirstDifference allowed M y x test)
      → (more : Split A V) × Placed allowed M x tree more

-- A tree stays that of the rule where items and values get other names, and where more is meant

abbrev pub TreesAreRenamed : {A B V W : Type 0} → (ℕ → Type 0) → (A → ℕ → V → Type 0) → (B → ℕ → W → Type 0) → Type 0
TreesAreRenamed {A} {B} {V} {W} allowed M N = (f : A → B) (g : V → W) → ((x : A) (test : ℕ) (v : V) → M x test v → N (f x) test (g v))
    → ((x y : A) (test : ℕ) (v w : V) → M x test v → M y test w → g v ≡ g w → v ≡ w)
    → (xs : List A) (tree : Split A V) → IsSplitTree allowed M xs tree → IsSplitTree allowed N (map f xs) (renamed f g tree)
