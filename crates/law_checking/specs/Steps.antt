-- The order of checking entry by entry: what has been seen when an entry's turn comes, and what is answered then.
use Rattle.std.specs.Prelude.{◌≡◌, ℕ, ◌+◌, List, [], ◌∷◌, ◌++◌, take, drop, Option, None}
use Rattle.law_sig.specs.Lists.{Each, AreDistinct}
use Rattle.law_sig.specs.declared.tree.Tree.{Tree}
use Rattle.law_sig.specs.declared.parts.Equation.{Equation}
use Rattle.law_sig.specs.declared.parts.SigParts.{SigParts}
use Rattle.law_cert_text.specs.declared.cert.Entry.{Entry as Written}
use Rattle.law_cert_text.specs.declared.cert.SortTree.{SortTree as WrittenTree}
use Rattle.law_draws.specs.Draws.{pools_by}
use Rattle.law_testing.specs.Values.{IsTestable}
use Rattle.law_valid.specs.declared.certificate.Entry.{Entry}
use Rattle.law_valid.specs.declared.certificate.SortTree.{SortTree}
use Rattle.law_valid.specs.declared.rule.Answer.{Answer}
use Rattle.law_valid.specs.declared.rule.Answer.TheVariants.{Yes}
use Rattle.law_valid.specs.Stated.{stated, spread_at, live_at, known}
use Rattle.law_valid.specs.Order.{Block, Progress}
use Rattle.law_valid.specs.Judged.{OfEntry, OfEnd, block_after, progress, Entries, InTrees, entry_after}
use Rattle.law_named.specs.Named.{entries_named, AreTreesOf}
use Rattle.law_checking.specs.Parts.{IsYes}

-- what has been seen of a certificate: its equations by number, its spread schemas and its live terms, and at which progress
pub record Sight : Type 1 where
  pub known : List Equation
  pub spreads : List Tree
  pub lives : List Tree
  pub At : Progress → Type 0

-- what has been seen is what these entries stated; no schema is spread twice, and all terms have values at tests
pub record HasSeen (parts : SigParts) (before : List Entry) (block : Option Block) (seen : Sight) : Type 0 where
  pub equations : seen.known ≡ known parts before
  pub spread : seen.spreads ≡ stated spread_at before
  pub live : seen.lives ≡ stated live_at before
  pub at : seen.At (progress parts before block)
  pub spread_distinct : AreDistinct (stated spread_at before)
  pub spread_testable : Each (IsTestable parts) (stated spread_at before)
  pub live_testable : Each (IsTestable parts) (stated live_at before)

-- it is what some entries stated
pub record HasPlace (parts : SigParts) (seen : Sight) : Type 0 where
  pub before : List Entry
  pub block : Option Block
  pub has : HasSeen parts before block seen

-- nothing is wrong with this entry behind some that stated it
pub record IsPassed (parts : SigParts) (seen : Sight) (x : Entry) : Type 0 where
  pub before : List Entry
  pub block : Option Block
  pub has : HasSeen parts before block seen
  pub fine : OfEntry parts (pools_by parts) before block x IsYes Yes

-- the answer to an entry with a number, whichever entries stated what has been seen
abbrev pub IsAnswerTo : SigParts → Sight → ℕ → Entry → Answer → Type 0
IsAnswerTo parts seen number x a = (before : List Entry) (block : Option Block) → HasSeen parts before block seen → number ≡ entry_after before
    → OfEntry parts (pools_by parts) before block x IsYes a

abbrev pub IsAnswerAtEnd : SigParts → Sight → ℕ → Answer → Type 0
IsAnswerAtEnd parts seen number a = (before : List Entry) (block : Option Block) → HasSeen parts before block seen → number ≡ entry_after before
    → OfEnd parts before block IsYes a

-- what has been seen after one more entry, of which nothing is wrong
abbrev pub SeesMore : SigParts → Sight → Entry → Sight → Type 0
SeesMore parts old x new = (before : List Entry) (block : Option Block) → HasSeen parts before block old
    → OfEntry parts (pools_by parts) before block x IsYes Yes → HasSeen parts (before ++ x ∷ []) (block_after block x) new

-- The whole walk

-- what is answered from some entry on
abbrev pub EntriesFrom : SigParts → List Written → List SortTree → List Entry → Option Block → List Entry → Answer → Type 0
EntriesFrom parts raws trees before block xs a =
    Entries parts (pools_by parts) (InTrees parts (pools_by parts) (entries_named parts raws) (entry_after (entries_named parts raws)) [] trees) before block xs a

-- what is answered of all entries, and of the trees, whichever trees these lines are
abbrev pub AnswersAll : SigParts → List Written → List WrittenTree → Answer → Type 0
AnswersAll parts raws lines a = (trees : List SortTree) → AreTreesOf parts lines trees → EntriesFrom parts raws trees [] None (entries_named parts raws) a

-- so many entries have been seen, and nothing was wrong: what is answered from here on is answered of all
pub record HasWalked (parts : SigParts) (raws : List Written) (at : ℕ) (seen : Sight) : Type 0 where
  pub block : Option Block
  pub has : HasSeen parts (entries_named parts (take at raws)) block seen
  pub on : (trees : List SortTree) (a : Answer) → EntriesFrom parts raws trees (entries_named parts (take at raws)) block (entries_named parts (drop at raws)) a
      → EntriesFrom parts raws trees [] None (entries_named parts raws) a
