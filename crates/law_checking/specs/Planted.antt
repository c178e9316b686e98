-- What is asked of the lines of a tree, apart from values.
use Rattle.std.specs.Prelude.{◌≡◌, ◌↔◌, ℕ, ◌<◌, ◌≤◌, ◌==◌, List, [], ◌∷◌, ◌++◌, Bool, if◌then◌else◌, Option, Some, None}
use Rattle.law_sig.specs.Lists.{In, Each, numbered}
use Rattle.law_sig.specs.Trees.{schema_of}
use Rattle.law_sig.specs.Signature.{sort_of}
use Rattle.law_sig.specs.Tests.{Pools}
use Rattle.law_sig.specs.declared.tree.SortId.{SortId}
use Rattle.law_sig.specs.declared.tree.Tree.{Tree}
use Rattle.law_sig.specs.declared.parts.SigParts.{SigParts}
use Rattle.law_cert_text.specs.declared.cert.TreeLine.{TreeLine}
use Rattle.law_cert_text.specs.declared.cert.SortTree.{SortTree as WrittenTree}
use Rattle.law_draws.specs.Draws.{pools_by}
use Rattle.law_valid.specs.declared.certificate.Entry.{Entry}
use Rattle.law_valid.specs.declared.certificate.SortTree.{SortTree}
use Rattle.law_valid.specs.Stated.{stated, spread_at, live_at}
use Rattle.law_valid.specs.Splits.{leaves_of}
use Rattle.law_valid.specs.Trees.{IsNumberOf, AreNumbersOf, IsTest, IsFlatTest, AreRising, HasSchemas, HasTerms}
use Rattle.law_valid.specs.declared.rule.Answer.{Answer}
use Rattle.law_valid.specs.declared.rule.Answer.TheVariants.{No}
use Rattle.law_valid.specs.declared.rule.Rule.TheVariants as r
use Rattle.law_valid.specs.Judged.{If, CutsTell, InTrees, all_cuts}
use Rattle.law_named.specs.Named.{AreTreesOf, schema_lines}
use Rattle.law_checking.specs.declared.part.Part.TheVariants.{Schemas, Tests}
use Rattle.law_checking.specs.Parts.{IsYes}
use Rattle.law_checking.specs.Lines.{HasKid, parts_of, upper_tests, Held, held_in, judgings}

-- Numbers of terms

abbrev pub IsOfSort : SigParts → SortId → Tree → Type 0
IsOfSort parts sort t = sort_of parts t ≡ Some sort

-- a term of the spread schema with this number
abbrev pub IsOfSchema : List Tree → ℕ → Tree → Type 0
IsOfSchema spreads k t = numbered spreads k ≡ Some (schema_of t)

abbrev pub IsOfClass : List Tree → List ℕ → Tree → Type 0
IsOfClass spreads schemas t = (k : ℕ) × In k schemas × IsOfSchema spreads k t

-- exactly the numbers of the terms with the property, however often
abbrev pub AreNumbers : List Tree → (Tree → Type 0) → List ℕ → Type 0
AreNumbers ts P ns = (n : ℕ) → In n ns ↔ IsNumberOf ts P n

-- Groups of live terms

abbrev pub same_number : ℕ → ℕ → Bool
same_number n m = n == m

abbrev pub group : Option (List ℕ) → List ℕ
group None = []
group (Some ns) = ns

-- for each spread schema the numbers of its live terms
abbrev pub AreGroups : List Tree → List Tree → (ℕ → Option (List ℕ)) → Type 0
AreGroups spreads lives found = (k : ℕ) → AreNumbers lives (IsOfSchema spreads k) (group (found k))

-- one number more in a group
abbrev pub IsAdded : (ℕ → Option (List ℕ)) → (ℕ → Option (List ℕ)) → ℕ → ℕ → Type 0
IsAdded old new key n = (k : ℕ) → group (new k) ≡ (if same_number key k then group (old key) ++ n ∷ [] else group (old k))

-- Lines

-- the schemas, their order in each class, and the tests above classes
pub record AreSchemasOf (parts : SigParts) (pools : Pools) (spreads : List Tree) (sort : SortId) (lines : List TreeLine) : Type 0 where
  pub schemas : AreNumbersOf spreads (IsOfSort parts sort) (parts_of Schemas lines)
  pub rising : Each (λ (held : Held). AreRising held.schemas) (held_in lines)
  pub flat : Each (IsFlatTest parts pools) (upper_tests lines)

-- the live terms of a class, and the tests below it
pub record AreTermsOf (parts : SigParts) (pools : Pools) (spreads lives : List Tree) (held : Held) : Type 0 where
  pub terms : AreNumbersOf lives (IsOfClass spreads held.schemas) held.leaves
  pub tests : Each (IsTest parts pools) held.tests

-- the answer for a tree, by its lines: with the tests of all its splits, which the two before it have seen to
abbrev pub JudgesTree : SigParts → Pools → List Tree → List Tree → ℕ → SortId → List TreeLine → (Answer → Type 0) → Answer → Type 0
JudgesTree parts pools spreads lives entry sort lines rest =
    If (AreSchemasOf parts pools spreads sort lines) (No r.V8 entry)
    (If (Each (AreTermsOf parts pools spreads lives) (held_in lines)) (No r.V9 entry)
    (If (Each (IsTest parts pools) (parts_of Tests lines)) (No r.V9 entry)
    (CutsTell parts pools entry (judgings spreads lives lines) rest)))

-- The expected tree

-- the term's sort isn't among those from one number on and below another; and it is below a number
abbrev pub IsOutside : SigParts → ℕ → ℕ → Tree → Type 0
IsOutside parts from to t = (s : SortId) → IsOfSort parts s t → from ≤ s.0 → s.0 < to → ⊥

abbrev pub IsBelow : SigParts → ℕ → Tree → Type 0
IsBelow parts from t = (s : SortId) → IsOfSort parts s t → s.0 < from

-- the first sort from a number on that has a spread schema
pub record IsNextSort (parts : SigParts) (spreads : List Tree) (from : ℕ) (sort : SortId) : Type 0 where
  pub above : from ≤ sort.0
  pub has : (c : Tree) × In c spreads × IsOfSort parts sort c
  pub none : Each (IsOutside parts from sort.0) spreads

-- a split in the lines has a child
abbrev pub HaveKids : WrittenTree → Type 0
HaveKids raw = Each HasKid raw.lines

-- the answer for all trees, whatever entries state these schemas and terms
abbrev pub JudgesTrees : SigParts → List Tree → List Tree → List WrittenTree → ℕ → Answer → Type 0
JudgesTrees parts spreads lives raws entry a = (all : List Entry) (trees : List SortTree) → stated spread_at all ≡ spreads → stated live_at all ≡ lives
    → AreTreesOf parts raws trees → InTrees parts (pools_by parts) all entry [] trees a

-- where each split in its lines has a child, what is found wrong with the lines of a tree is found wrong with the tree
abbrev pub LinesAreTrees : Type 0
LinesAreTrees = (parts : SigParts) (pools : Pools) (all : List Entry) (tree : SortTree) → Each HasKid (schema_lines tree.tree)
    → (entry : ℕ) (a : Answer) → JudgesTree parts pools (stated spread_at all) (stated live_at all) entry tree.sort (schema_lines tree.tree) IsYes a
    → If (HasSchemas parts pools all tree) (No r.V8 entry)
    (If (Each (HasTerms parts pools all) (leaves_of tree.tree)) (No r.V9 entry)
    (CutsTell parts pools entry (all_cuts all tree) IsYes)) a
