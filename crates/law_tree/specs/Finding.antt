-- What finding and placing an item answer.
use Rattle.std.specs.Prelude.{ℕ, ◌≡◌, ◌≢◌, ◌≤◌, ◌+◌, ◌↔◌, List, [], ◌∷◌, ◌++◌, length, slice_get, Option, Some, None}
use Rattle.law_splits.specs.Splits.{Split, Kids}
use Rattle.law_splits.specs.Splits.Split.{leaf, split}
use Rattle.law_splits.specs.Agree.{Agree, Differ}
use Rattle.law_splits.specs.Placing.{LeadsTo}
use Rattle.law_ids.specs.declared.ids.ValueId.{ValueId}
use Rattle.law_tree.specs.declared.tree.Placed.{Placed}
use Rattle.law_tree.specs.declared.tree.Placed.TheVariants.{Fresh, Same}
use Rattle.law_tree.specs.declared.tree.PlaceErr.{PlaceErr}
use Rattle.law_tree.specs.declared.tree.PlaceErr.TheVariants.{Ask, NoMemory}
use Rattle.law_tree.specs.Asking.{IsOneOf, Rose, IsOf}
use Rattle.law_tree.specs.Comparing.{IsAskedUpTo}
use Rattle.law_tree.specs.Nodes.{tree_of}
use Rattle.law_tree.specs.Grown.{Grown}

module _ {T : Type 0} (M : T → ℕ → ValueId → Type 0) (item : T) (tree : Grown T) where
  -- the old item with this number agrees with the item at all allowed tests, and every other one differs from it at one
  pub record IsSame (n : ℕ) : Type 0 where
    pub old : T
    pub is : slice_get tree.items n ≡ Some old
    pub agree : Agree (IsOneOf tree.tests) M item old
    pub others : (k : ℕ) (x : T) → k ≢ n → slice_get tree.items k ≡ Some x → Differ (IsOneOf tree.tests) M item x

  -- every old item differs from it at an allowed test
  abbrev pub IsOther : Type 0
  IsOther = (k : ℕ) (x : T) → slice_get tree.items k ≡ Some x → Differ (IsOneOf tree.tests) M item x

  abbrev pub IsFound : Option ℕ → Type 0
  IsFound None = IsOther
  IsFound (Some n) = IsSame n

  -- a number is given exactly where the old item with it agrees
  abbrev pub IsExact : Option ℕ → Type 0
  IsExact found = (n : ℕ) (old : T) → slice_get tree.items n ≡ Some old → (found ≡ Some n) ↔ Agree (IsOneOf tree.tests) M item old

  -- How often it is asked: at most once for each split on its way, which ends at a split that has no child for it, or at the leaf
  -- of an old item, with which it is then compared; never in an empty tree

  pub record AsksToSplit (before now : ℕ) : Type 0 where
    pub root : Split ℕ ValueId
    pub is : tree_of tree.nodes ≡ Some root
    pub splits : ℕ
    pub test : ℕ
    pub kids : Kids ℕ ValueId
    pub way : LeadsTo (M item) root splits (split test kids)
    pub few : now ≤ before + (splits + 1)

  pub record AsksToLeaf (before now : ℕ) : Type 0 where
    pub root : Split ℕ ValueId
    pub is : tree_of tree.nodes ≡ Some root
    pub splits : ℕ
    pub number : ℕ
    pub way : LeadsTo (M item) root splits (leaf number)
    pub old : T
    pub is_old : slice_get tree.items number ≡ Some old
    pub few : IsAskedUpTo M item old tree.tests (before + splits) now

  pub data IsAsked (before now : ℕ) : Type 0 where
    never : now ≤ before → IsAsked before now
    to_split : AsksToSplit before now → IsAsked before now
    to_leaf : AsksToLeaf before now → IsAsked before now

-- an old item that agrees, and the tree stays; or none agrees, and the item is the next one
abbrev pub IsPlaced : {T : Type 0} → (T → ℕ → ValueId → Type 0) → T → Grown T → Grown T → Placed → Type 0
IsPlaced M item old new (Same n) = IsSame M item old n × (new ≡ old)
IsPlaced M item old new (Fresh n) = IsOther M item old × (n ≡ length old.items) × (new.items ≡ old.items ++ item ∷ []) × (new.tests ≡ old.tests)

-- the old item that was found by placing an item
abbrev pub same_as : Placed → Option ℕ
same_as (Same n) = Some n
same_as (Fresh n) = None

-- a fault is true of one of these items at an allowed test
abbrev pub IsCause : {I F : Type 0} → (I → ℕ → F → Type 0) → List I → List ℕ → PlaceErr F → Type 0
IsCause True items tests (Ask f) = IsOf True items tests f
IsCause True items tests NoMemory = Unit {0}

-- and its count rose
abbrev pub IsRise : {F : Type 0} → ℕ → ℕ → PlaceErr F → Type 0
IsRise before now (Ask f) = Rose before now
IsRise before now NoMemory = Unit {0}
