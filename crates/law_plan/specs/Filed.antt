-- Live terms found in trees of splits: a tree by flat tests leads to the class of a term's schema, and a tree below the class, by
-- all tests, to the one live term that can be like the term.
use Rattle.std.specs.Prelude.{◌≡◌, ◌⊎◌, ◌↔◌, ℕ, List, Some}
use Rattle.law_sig.specs.Lists.{In}
use Rattle.law_sig.specs.Trees.{schema_of}
use Rattle.law_sig.specs.Signature.{sort_of}
use Rattle.law_sig.specs.Tests.{InU, Pools, val}
use Rattle.law_sig.specs.declared.tree.SortId.{SortId}
use Rattle.law_sig.specs.declared.tree.Tree.{Tree}
use Rattle.law_sig.specs.declared.parts.SigParts.{SigParts}
use Rattle.law_sig.specs.Least.{AreAlike}
use Rattle.law_splits.specs.Splits.{Split, Kids}
use Rattle.law_splits.specs.Splits.Split.{leaf, split}
use Rattle.law_splits.specs.Agree.{Agree, Differ}
use Rattle.law_splits.specs.Placing.{IsKid, LeadsTo}
use Rattle.law_splits.specs.Rule.{IsSplitTree}
use Rattle.law_valid.specs.Trees.{IsTest, IsFlatTest}
use Rattle.law_plan.specs.Search.{IsFound, NoneFound}
use Rattle.law_plan.specs.Classes.{AreOwned}

-- the term has a value at a test
abbrev pub HasValue : SigParts → Pools → Tree → ℕ → Tree → Type 0
HasValue parts pools t test v = val parts pools test t ≡ Some v

-- its values lead to the leaf of y
pub record IsLedTo (parts : SigParts) (pools : Pools) (t : Tree) (tree : Split Tree Tree) (y : Tree) : Type 0 where
  pub splits : ℕ
  pub way : LeadsTo (HasValue parts pools t) tree splits (leaf y)

-- its values lead to a split that has no child for it
pub record IsLedOut (parts : SigParts) (pools : Pools) (t : Tree) (tree : Split Tree Tree) : Type 0 where
  pub splits : ℕ
  pub test : ℕ
  pub kids : Kids Tree Tree
  pub way : LeadsTo (HasValue parts pools t) tree splits (split test kids)
  pub value : Tree
  pub has : HasValue parts pools t test value
  pub nowhere : (part : Split Tree Tree) → IsKid value part kids → ⊥

-- in a tree of live terms by all tests, the live term that is like t can only be the one to which t leads
abbrev pub FoundAtLeaf : Type 0
FoundAtLeaf = (parts : SigParts) (pools : Pools) (lives : List Tree) (tree : Split Tree Tree) → IsSplitTree (IsTest parts pools) (HasValue parts pools) lives tree
    → (t y : Tree) → IsLedTo parts pools t tree y → (u : Tree) → IsFound parts pools lives t u ↔ ((u ≡ y) × AreAlike parts pools t u)

abbrev pub NoneAtSplit : Type 0
NoneAtSplit = (parts : SigParts) (pools : Pools) (lives : List Tree) (tree : Split Tree Tree) → IsSplitTree (IsTest parts pools) (HasValue parts pools) lives tree
    → (t : Tree) → IsLedOut parts pools t tree → NoneFound parts pools lives t

-- Classes

-- a schema of the class of r: r itself, or one that agrees with it at every flat test
abbrev pub IsOfFirst : SigParts → Pools → Tree → Tree → Type 0
IsOfFirst parts pools r c = (c ≡ r) ⊎ Agree (IsFlatTest parts pools) (HasValue parts pools) r c

-- the tree by flat tests has the first schemas of the classes, and each spread schema of the sort is of one of them
pub record AreFiled (parts : SigParts) (pools : Pools) (sort : SortId) (spreads firsts : List Tree) (classes : Split Tree Tree) : Type 0 where
  pub placed : IsSplitTree (IsFlatTest parts pools) (HasValue parts pools) firsts classes
  pub classed : (c : Tree) → In c spreads → sort_of parts c ≡ Some sort → (r : Tree) × In r firsts × IsOfFirst parts pools r c

-- a live term that is like t has a schema of the class to which the schema of t leads
abbrev pub FoundBelowClass : Type 0
FoundBelowClass = (parts : SigParts) (pools : Pools) (sort : SortId) (spreads lives firsts : List Tree) (classes : Split Tree Tree) → AreOwned parts pools spreads lives
    → AreFiled parts pools sort spreads firsts classes → (t : Tree) → InU parts sort t → (r : Tree) → IsLedTo parts pools (schema_of t) classes r
    → (u : Tree) → IsFound parts pools lives t u → IsOfFirst parts pools r (schema_of u)

-- there is none where the schema of t leads to no class, or to one from which it differs
abbrev pub NoneWithoutClass : Type 0
NoneWithoutClass = (parts : SigParts) (pools : Pools) (sort : SortId) (spreads lives firsts : List Tree) (classes : Split Tree Tree) → AreOwned parts pools spreads lives
    → AreFiled parts pools sort spreads firsts classes → (t : Tree) → InU parts sort t → IsLedOut parts pools (schema_of t) classes → NoneFound parts pools lives t

abbrev pub NoneInOtherClass : Type 0
NoneInOtherClass = (parts : SigParts) (pools : Pools) (sort : SortId) (spreads lives firsts : List Tree) (classes : Split Tree Tree) → AreOwned parts pools spreads lives
    → AreFiled parts pools sort spreads firsts classes → (t : Tree) → InU parts sort t → (r : Tree) → IsLedTo parts pools (schema_of t) classes r
    → Differ (IsFlatTest parts pools) (HasValue parts pools) (schema_of t) r → NoneFound parts pools lives t

-- the live terms of a class
abbrev pub AreHeld : SigParts → Pools → List Tree → Tree → List Tree → Type 0
AreHeld parts pools lives r held = (u : Tree) → In u held ↔ (In u lives × IsOfFirst parts pools r (schema_of u))

-- so two walks, for the class and below it, find the live term that is like t, if there is one
abbrev pub FoundInTrees : Type 0
FoundInTrees = (parts : SigParts) (pools : Pools) (sort : SortId) (spreads lives firsts held : List Tree) (classes tree : Split Tree Tree) → AreOwned parts pools spreads lives
    → AreFiled parts pools sort spreads firsts classes → (t : Tree) → InU parts sort t → (r : Tree) → IsLedTo parts pools (schema_of t) classes r
    → AreHeld parts pools lives r held → IsSplitTree (IsTest parts pools) (HasValue parts pools) held tree
    → (y : Tree) → IsLedTo parts pools t tree y → (u : Tree) → IsFound parts pools lives t u ↔ ((u ≡ y) × AreAlike parts pools t u)
