-- Trees of splits, read as lists: their leaves, and their splits.
use Rattle.std.specs.Prelude.{◌≡◌, ℕ, ◌↔◌, List, [], ◌∷◌, map, Option, IsSome, Some, slice_get}
use Rattle.law_sig.specs.Lists.{In, Each}
use Rattle.law_sig.specs.Trees.{joined}
use Rattle.law_sig.specs.declared.tree.Tree.{Tree}
use Rattle.law_valid.specs.declared.certificate.Branch.{Branch}
use Rattle.law_valid.specs.declared.certificate.Branch.TheOpen.{Branch-F}
use Rattle.law_valid.specs.declared.certificate.Branch.TheOpen as b
use Rattle.law_valid.specs.declared.certificate.Branch.TheFolds.{fold-Branch}

-- a split: its test, and the leaves below each of its children
pub record Cut (L : Type 0) : Type 0 where
  pub test : ℕ
  pub kids : List (List L)

-- a tree's leaves from left to right, and its splits in prefix order
pub record Parted (L : Type 0) : Type 0 where
  pub leaves : List L
  pub cuts : List (Cut L)

module _ {L : Type 0} where
  abbrev pub parted_step : Branch-F L (Parted L) → Parted L
  parted_step (b.Leaf l) = record { leaves = l ∷ []; cuts = [] }
  parted_step (b.Split test kids) = record {
    leaves = joined (map (λ (k : Parted L). k.leaves) kids);
    cuts = record { test = test; kids = map (λ (k : Parted L). k.leaves) kids } ∷ joined (map (λ (k : Parted L). k.cuts) kids);
  }

  abbrev pub parted : Branch L → Parted L
  parted = fold-Branch L (Parted L) parted_step

  abbrev pub leaves_of : Branch L → List L
  leaves_of t = (parted t).leaves

  abbrev pub cuts_of : Branch L → List (Cut L)
  cuts_of t = (parted t).cuts

  abbrev pub tests_of : Branch L → List ℕ
  tests_of t = map (λ (cut : Cut L). cut.test) (cuts_of t)

-- two items have the same value exactly where they are below the same child
abbrev pub AreApart : (ℕ → ℕ → Option Tree) → Cut ℕ → Type 0
AreApart value cut = (i j : ℕ) (ns ms : List ℕ) (n m : ℕ) → slice_get cut.kids i ≡ Some ns → slice_get cut.kids j ≡ Some ms → In n ns → In m ms
    → (value cut.test n ≡ value cut.test m) ↔ (i ≡ j)

-- a split of numbers by the values of the items with these numbers at its test: every item below it has a value there
pub record Tells (value : ℕ → ℕ → Option Tree) (cut : Cut ℕ) : Type 0 where
  pub defined : Each (λ n. IsSome (value cut.test n)) (joined cut.kids)
  pub apart : AreApart value cut
