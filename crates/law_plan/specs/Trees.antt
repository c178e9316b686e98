-- The trees of a certificate by the placing rule: the spread schemas of each sort by flat tests, and below each class the live
-- terms of its schemas by all tests, each in the order of the entries.
use Rattle.std.specs.Prelude.{◌≡◌, ◌≢◌, ℕ, ◌↔◌, List, [], ◌∷◌, Some}
use Rattle.law_sig.specs.Lists.{In, Each, Rising}
use Rattle.law_sig.specs.Signature.{sort_of}
use Rattle.law_sig.specs.Tests.{Pools}
use Rattle.law_sig.specs.declared.tree.SortId.{SortId}
use Rattle.law_sig.specs.declared.tree.Tree.{Tree}
use Rattle.law_sig.specs.declared.parts.SigParts.{SigParts}
use Rattle.law_splits.specs.Splits.{Split, Kids}
use Rattle.law_splits.specs.Splits.Split.{leaf, split}
use Rattle.law_splits.specs.Splits.Kids.{none, kid}
use Rattle.law_splits.specs.Agree.{Agree}
use Rattle.law_splits.specs.Rule.{IsSplitTree}
use Rattle.law_valid.specs.declared.certificate.Branch.{Branch}
use Rattle.law_valid.specs.declared.certificate.Branch.TheVariants as b
use Rattle.law_valid.specs.declared.certificate.Class.{Class}
use Rattle.law_valid.specs.declared.certificate.Entry.{Entry as Stating}
use Rattle.law_valid.specs.declared.certificate.SortTree.{SortTree}
use Rattle.law_valid.specs.Stated.{stated, spread_at, live_at}
use Rattle.law_valid.specs.Trees.{IsNumberOf, AreNumbersOf, value_of, IsTest, IsFlatTest, AreRising, IsOfClass, HasSpread, sorts_in, IsEarlierSort, AreTrees}

-- the term with a number has a value at a test
abbrev pub HasValueAt : SigParts → Pools → List Tree → ℕ → ℕ → Tree → Type 0
HasValueAt parts pools ts n test v = value_of parts pools ts test n ≡ Some v

-- a tree of splits as a certificate has it, with these at its leaves
abbrev mutual
  pub branch : {A V L : Type 0} → (A → L) → Split A V → Branch L
  branch f (leaf x) = b.Leaf (f x)
  branch f (split test kids) = b.Split test (branches f kids)

  pub branches : {A V L : Type 0} → (A → L) → Kids A V → List (Branch L)
  branches f none = []
  branches f (kid value tree others) = branch f tree ∷ branches f others

-- the live terms of these schemas, placed in order by all tests
pub record IsTermTree (parts : SigParts) (pools : Pools) (all : List Stating) (schemas : List ℕ) (terms : Branch ℕ) : Type 0 where
  pub lives : List ℕ
  pub exact : AreNumbersOf (stated live_at all) (IsOfClass all schemas) lives
  pub rising : AreRising lives
  pub tree : Split ℕ Tree
  pub placed : IsSplitTree (IsTest parts pools) (HasValueAt parts pools (stated live_at all)) lives tree
  pub shape : terms ≡ branch (λ n. n) tree

-- the class of its first schema: all others agree with that at every flat test
pub record IsClassOf (parts : SigParts) (pools : Pools) (all : List Stating) (first : ℕ) (class : Class) : Type 0 where
  pub others : List ℕ
  pub schemas : class.schemas ≡ first ∷ others
  pub rising : AreRising class.schemas
  pub agree : Each (Agree (IsFlatTest parts pools) (HasValueAt parts pools (stated spread_at all)) first) others
  pub terms : IsTermTree parts pools all class.schemas class.terms

-- in one of these classes
abbrev pub IsClassed : List ℕ → (ℕ → Class) → ℕ → Type 0
IsClassed firsts class_of n = (r : ℕ) × In r firsts × In n (class_of r).schemas

-- the spread schemas of a sort are classed, and the first schemas of the classes placed in order by flat tests
pub record IsPlacedTree (parts : SigParts) (pools : Pools) (all : List Stating) (tree : SortTree) : Type 0 where
  pub firsts : List ℕ
  pub rising : AreRising firsts
  pub class_of : ℕ → Class
  pub classes : Each (λ n. IsClassOf parts pools all n (class_of n)) firsts
  pub exact : (n : ℕ) → IsClassed firsts class_of n ↔ IsNumberOf (stated spread_at all) (λ c. sort_of parts c ≡ Some tree.sort) n
  pub split : Split ℕ Tree
  pub placed : IsSplitTree (IsFlatTest parts pools) (HasValueAt parts pools (stated spread_at all)) firsts split
  pub shape : tree.tree ≡ branch class_of split

-- such a tree for each sort that has a spread schema, in the order of the sorts
pub record ArePlaced (parts : SigParts) (pools : Pools) (all : List Stating) (trees : List SortTree) : Type 0 where
  pub rising : Rising IsEarlierSort (sorts_in trees)
  pub sorts : (sort : SortId) → In sort (sorts_in trees) ↔ HasSpread parts all sort
  pub each : Each (IsPlacedTree parts pools all) trees

-- they are what a valid certificate asks of its trees: each spread schema is in one class and each live term at one leaf, and
-- splits tell apart exactly where below different children
abbrev pub PlacedAreTrees : Type 0
PlacedAreTrees = (parts : SigParts) (pools : Pools) (all : List Stating) (trees : List SortTree) → ArePlaced parts pools all trees → AreTrees parts pools all trees

-- two spread schemas of a sort share a class exactly where they agree at every flat test
abbrev pub ShareClass : List ℕ → (ℕ → Class) → ℕ → ℕ → Type 0
ShareClass firsts class_of c d = (r : ℕ) × In r firsts × In c (class_of r).schemas × In d (class_of r).schemas

abbrev pub ClassesAreByFlatTests : Type 0
ClassesAreByFlatTests = (parts : SigParts) (pools : Pools) (all : List Stating) (tree : SortTree) (placed : IsPlacedTree parts pools all tree) (c d : ℕ)
    → IsNumberOf (stated spread_at all) (λ t. sort_of parts t ≡ Some tree.sort) c → IsNumberOf (stated spread_at all) (λ t. sort_of parts t ≡ Some tree.sort) d → c ≢ d
    → ShareClass placed.firsts placed.class_of c d ↔ Agree (IsFlatTest parts pools) (HasValueAt parts pools (stated spread_at all)) c d

-- and there is one list of such trees
abbrev pub TreesAreOne : Type 0
TreesAreOne = (parts : SigParts) (pools : Pools) (all : List Stating) (trees others : List SortTree) → ArePlaced parts pools all trees → ArePlaced parts pools all others
    → trees ≡ others
