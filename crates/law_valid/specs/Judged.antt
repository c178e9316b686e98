-- What a checker answers: the first rule that fails with its entry, or the first evaluation that is over, whichever comes
-- first in the order of checking. The definition goes through the certificate in that order: each condition stands before
-- the rest, and either holds, and then the rest decides, or fails, and then its fault is the answer.
use Rattle.std.specs.Prelude.{◌≡◌, ℕ, zero, suc, ◌+◌, ◌⊎◌, List, [], ◌∷◌, ◌++◌, length, map, Option, Some, None}
use Rattle.law_sig.specs.Lists.{Each, numbered}
use Rattle.law_sig.specs.Trees.{schema_of, joined}
use Rattle.law_sig.specs.Tests.{InU, Pools, test_count, val}
use Rattle.law_sig.specs.declared.tree.SortId.{SortId}
use Rattle.law_sig.specs.declared.tree.Tree.{Tree}
use Rattle.law_sig.specs.declared.parts.Equation.{Equation}
use Rattle.law_sig.specs.declared.parts.SigParts.{SigParts}
use Rattle.law_draws.specs.Draws.{pools_by}
use Rattle.law_valid.specs.declared.certificate.Branch.{Branch}
use Rattle.law_valid.specs.declared.certificate.Branch.TheOpen.{Branch-F}
use Rattle.law_valid.specs.declared.certificate.Branch.TheOpen as b
use Rattle.law_valid.specs.declared.certificate.Branch.TheFolds.{fold-Branch}
use Rattle.law_valid.specs.declared.certificate.Class.{Class}
use Rattle.law_valid.specs.declared.certificate.Entry.{Entry}
use Rattle.law_valid.specs.declared.certificate.Entry.TheVariants as e
use Rattle.law_valid.specs.declared.certificate.SortTree.{SortTree}
use Rattle.law_valid.specs.declared.rule.Answer.{Answer}
use Rattle.law_valid.specs.declared.rule.Answer.TheVariants.{Yes, No, Over}
use Rattle.law_valid.specs.declared.rule.Rule.{Rule}
use Rattle.law_valid.specs.declared.rule.Rule.TheVariants as r
use Rattle.law_valid.specs.Stated.{stated, schema_at, spread_at, live_at}
use Rattle.law_valid.specs.Order.{Block, Progress, Decision, spread, killed, live, moved, with_term, IsTermSpent, IsTermNext, AreSpent, IsSchemaNext}
use Rattle.law_valid.specs.Splits.{Cut, leaves_of, cuts_of, AreApart}
use Rattle.law_valid.specs.Trees.{value_of, of_schemas, HasSchemas, HasTerms, HasSpread, IsEarlierSort}
use Rattle.law_valid.specs.Valid.{IsWithinLimits, IsNextNumber, IsLemma, IsKilled, IsMoved}
use Rattle.law_sig.specs.Expected.{IsFirstAbove, IsSpent}

-- Answers

-- where the condition holds, the rest decides; else this fault is the answer
abbrev pub If : Type 0 → Answer → (Answer → Type 0) → Answer → Type 0
If P fault rest a = (P × rest a) ⊎ ((P → ⊥) × (a ≡ fault))

-- where there is a value, the rest decides; else this fault is the answer
abbrev pub Valued : Option Tree → Answer → (Tree → Answer → Type 0) → Answer → Type 0
Valued None fault rest a = a ≡ fault
Valued (Some v) fault rest a = rest v a

-- both sides have one value at so many tests from this one on: by rising test, the left side before the right one
abbrev pub Tests : SigParts → Pools → Rule → ℕ → Equation → (Answer → Type 0) → ℕ → ℕ → Answer → Type 0
Tests parts pools rule entry q rest zero test = rest
Tests parts pools rule entry q rest (suc n) test =
    Valued (val parts pools test q.left) (Over entry test q.left) (λ v.
    Valued (val parts pools test q.right) (Over entry test q.right) (λ w.
    If (v ≡ w) (No rule entry) (Tests parts pools rule entry q rest n (suc test))))

-- at every test
abbrev pub AtTests : SigParts → Pools → Rule → ℕ → Equation → (Answer → Type 0) → Answer → Type 0
AtTests parts pools rule entry q rest = Tests parts pools rule entry q rest (test_count parts pools) 0

-- the background, by number
abbrev pub Background : SigParts → Pools → List Equation → (Answer → Type 0) → Answer → Type 0
Background parts pools [] rest = rest
Background parts pools (q ∷ qs) rest = AtTests parts pools r.V3 0 q (Background parts pools qs rest)

-- Entries

-- what an entry decides of a schema or a term, which is all that the order looks at: a law or a lemma may stand anywhere
abbrev pub decision_at : Entry → List Decision
decision_at (e.Law number q) = []
decision_at (e.Lemma number q steps) = []
decision_at (e.Spread c) = spread c ∷ []
decision_at (e.Killed q steps) = killed (schema_of q.left) ∷ []
decision_at (e.Live t) = live t ∷ []
decision_at (e.Moved q steps) = moved q.left ∷ []

-- how far these entries have come, with the spread schema whose instances are expected
abbrev pub progress : SigParts → List Entry → Option Block → Progress
progress parts before block =
    record { parts = parts; spreads = stated spread_at before; schemas = stated schema_at before; lives = stated live_at before; block = block }

-- the schema whose instances are expected after an entry
abbrev pub block_after : Option Block → Entry → Option Block
block_after block (e.Law number q) = block
block_after block (e.Lemma number q steps) = block
block_after block (e.Spread c) = Some (record { schema = c; terms = [] })
block_after block (e.Killed q steps) = None
block_after block (e.Live t) = with_term block t
block_after block (e.Moved q steps) = with_term block q.left

-- both sides of a law are in the universe, of one sort
pub record HasSides (parts : SigParts) (q : Equation) : Type 0 where
  pub sort : SortId
  pub left : InU parts sort q.left
  pub right : InU parts sort q.right

-- the number of the entry that stands after these
abbrev pub entry_after : List Entry → ℕ
entry_after before = length before + 1

-- What is asked of an entry, and then the rest decides. A law or a lemma may stand anywhere. A schema may stand where no
-- instance is expected, and has to be the expected schema. A term may stand where an instance is expected, and has to be that
-- one.
abbrev pub OfEntry : SigParts → Pools → List Entry → Option Block → Entry → (Answer → Type 0) → Answer → Type 0
OfEntry parts pools before block (e.Law number q) rest =
    If (IsNextNumber parts before number × HasSides parts q) (No r.V3 (entry_after before))
    (AtTests parts pools r.V3 (entry_after before) q rest)
OfEntry parts pools before block (e.Lemma number q steps) rest =
    If (IsNextNumber parts before number × IsLemma parts before q steps) (No r.V4 (entry_after before)) rest
OfEntry parts pools before block (e.Spread c) rest =
    If (IsTermSpent (progress parts before block)) (No r.V7 (entry_after before))
    (If (IsSchemaNext (progress parts before block) c) (No r.V5 (entry_after before)) rest)
OfEntry parts pools before block (e.Killed q steps) rest =
    If (IsTermSpent (progress parts before block)) (No r.V7 (entry_after before))
    (If (IsSchemaNext (progress parts before block) (schema_of q.left)) (No r.V5 (entry_after before))
    (If (IsKilled parts before q steps) (No r.V6 (entry_after before))
    (AtTests parts pools r.V6 (entry_after before) q rest)))
OfEntry parts pools before block (e.Live t) rest =
    If (IsTermSpent (progress parts before block) → ⊥) (No r.V5 (entry_after before))
    (If (IsTermNext (progress parts before block) t) (No r.V7 (entry_after before)) rest)
OfEntry parts pools before block (e.Moved q steps) rest =
    If (IsTermSpent (progress parts before block) → ⊥) (No r.V5 (entry_after before))
    (If (IsTermNext (progress parts before block) q.left) (No r.V7 (entry_after before))
    (If (IsMoved parts before q steps) (No r.V7 (entry_after before))
    (AtTests parts pools r.V7 (entry_after before) q rest)))

-- what is asked where the entries end: nothing is expected
abbrev pub OfEnd : SigParts → List Entry → Option Block → (Answer → Type 0) → Answer → Type 0
OfEnd parts before block rest =
    If (IsTermSpent (progress parts before block)) (No r.V7 (entry_after before))
    (If (AreSpent (progress parts before block)) (No r.V5 (entry_after before)) rest)

-- all entries, from some of them on
abbrev pub Entries : SigParts → Pools → (Answer → Type 0) → List Entry → Option Block → List Entry → Answer → Type 0
Entries parts pools close before block [] = OfEnd parts before block close
Entries parts pools close before block (x ∷ xs) =
    OfEntry parts pools before block x (Entries parts pools close (before ++ x ∷ []) (block_after block x) xs)

-- Trees

-- a split of terms by their numbers, and the rule by which it is judged
pub record Judging : Type 0 where
  pub rule : Rule
  pub terms : List Tree
  pub cut : Cut ℕ

-- the classes of a tree from left to right, and the splits above and below them in prefix order
pub record Whole : Type 0 where
  pub classes : List Class
  pub cuts : List Judging

abbrev pub of_term_cut : List Tree → Cut ℕ → Judging
of_term_cut lives cut = record { rule = r.V9; terms = lives; cut = cut }

abbrev pub of_schema_cut : List Tree → Cut Class → Judging
of_schema_cut spreads cut = record { rule = r.V8; terms = spreads; cut = of_schemas cut }

abbrev pub whole_step : List Tree → List Tree → Branch-F Class Whole → Whole
whole_step spreads lives (b.Leaf class) = record { classes = class ∷ []; cuts = map (of_term_cut lives) (cuts_of class.terms) }
whole_step spreads lives (b.Split test kids) = record {
  classes = joined (map (λ (kid : Whole). kid.classes) kids);
  cuts = of_schema_cut spreads (record { test = test; kids = map (λ (kid : Whole). kid.classes) kids }) ∷ joined (map (λ (kid : Whole). kid.cuts) kids);
}

abbrev pub whole : List Tree → List Tree → Branch Class → Whole
whole spreads lives = fold-Branch Class Whole (whole_step spreads lives)

abbrev pub all_cuts : List Entry → SortTree → List Judging
all_cuts all tree = (whole (stated spread_at all) (stated live_at all) tree.tree).cuts

-- the item with a number has a value; a number of no item, which the lines of a tree have ruled out, fails the rule
abbrev pub ItemValued : SigParts → Pools → Rule → ℕ → ℕ → Option Tree → (Answer → Type 0) → Answer → Type 0
ItemValued parts pools rule entry test None rest a = a ≡ No rule entry
ItemValued parts pools rule entry test (Some t) rest a = Valued (val parts pools test t) (Over entry test t) (λ v. rest) a

-- all items with these numbers have values
abbrev pub ItemsValued : SigParts → Pools → Rule → ℕ → List Tree → ℕ → List ℕ → (Answer → Type 0) → Answer → Type 0
ItemsValued parts pools rule entry ts test [] rest = rest
ItemsValued parts pools rule entry ts test (n ∷ ns) rest = ItemValued parts pools rule entry test (numbered ts n) (ItemsValued parts pools rule entry ts test ns rest)

-- at each split, the items below it are evaluated before they are compared
abbrev pub CutsTell : SigParts → Pools → ℕ → List Judging → (Answer → Type 0) → Answer → Type 0
CutsTell parts pools entry [] rest = rest
CutsTell parts pools entry (j ∷ js) rest =
    ItemsValued parts pools j.rule entry j.terms j.cut.test (joined j.cut.kids)
    (If (AreApart (value_of parts pools j.terms) j.cut) (No j.rule entry)
    (CutsTell parts pools entry js rest))

-- trees go on counting after the entries: each is that of the expected sort; then what is asked apart from values, of schemas
-- and then of terms, and then its splits
abbrev pub InTrees : SigParts → Pools → List Entry → ℕ → List SortId → List SortTree → Answer → Type 0
InTrees parts pools all entry done [] =
    If (IsSpent IsEarlierSort (HasSpread parts all) done) (No r.V8 entry)
    (λ a. a ≡ Yes)
InTrees parts pools all entry done (tree ∷ trees) =
    If (IsFirstAbove IsEarlierSort (HasSpread parts all) done tree.sort) (No r.V8 entry)
    (If (HasSchemas parts pools all tree) (No r.V8 entry)
    (If (Each (HasTerms parts pools all) (leaves_of tree.tree)) (No r.V9 entry)
    (CutsTell parts pools entry (all_cuts all tree)
    (InTrees parts pools all (entry + 1) (done ++ tree.sort ∷ []) trees))))

-- The whole certificate

abbrev pub Judged : SigParts → Pools → List Entry → List SortTree → Answer → Type 0
Judged parts pools entries trees =
    If (IsWithinLimits parts) (No r.V1 0)
    (If (pools ≡ pools_by parts) (No r.V2 0)
    (Background parts pools parts.settings.background
    (Entries parts pools (InTrees parts pools entries (entry_after entries) [] trees) [] None entries)))
