-- What a checker says of a certificate.
use Rattle.std.specs.Prelude.{◌≡◌, ℕ, List, [], None, length, Bool, true, false}
use Rattle.std.specs.List.{filter}
use Rattle.law_sig.specs.Laws.{IsCovered}
use Rattle.law_sig.specs.declared.tree.Tree.{Tree}
use Rattle.law_sig.specs.declared.parts.SigParts.{SigParts}
use Rattle.law_lines.specs.declared.raw.RawLine.{RawLine}
use Rattle.law_cert_text.specs.declared.cert.Cert.{Cert}
use Rattle.law_cert_text.specs.declared.cert.Entry.{Entry}
use Rattle.law_cert_text.specs.declared.cert.Entry.TheVariants as e
use Rattle.law_typing.specs.Naming.{named_term}
use Rattle.law_typing.specs.Typed.{IsTypedAs}
use Rattle.law_draws.specs.Draws.{pools_by}
use Rattle.law_valid.specs.declared.certificate.SortTree.{SortTree}
use Rattle.law_valid.specs.declared.rule.Answer.{Answer}
use Rattle.law_valid.specs.declared.rule.Answer.TheVariants as answer
use Rattle.law_valid.specs.declared.rule.Rule.TheVariants as r
use Rattle.law_valid.specs.Stated.{stated, law_at}
use Rattle.law_valid.specs.Judged.{If, Background, Entries, InTrees, entry_after, Judged}
use Rattle.law_named.specs.Named.{pools_named, entries_named, AreTreesOf, Meaning, IsValidCert, JudgedCert}
use Rattle.law_checking.specs.declared.verdict.Counts.{Counts}
use Rattle.law_checking.specs.declared.verdict.Verdict.{Verdict}
use Rattle.law_checking.specs.declared.verdict.Verdict.TheVariants as v
use Rattle.law_checking.specs.declared.verdict.CheckErr.{CheckErr}
use Rattle.law_checking.specs.declared.verdict.CheckErr.TheVariants as err

-- Counts

abbrev pub is_law : Entry → Bool
is_law (e.Law number mark left right) = true
is_law x = false

abbrev pub is_live : Entry → Bool
is_live (e.Live term) = true
is_live x = false

abbrev pub is_moved : Entry → Bool
is_moved (e.Moved term target steps) = true
is_moved x = false

abbrev pub is_killed : Entry → Bool
is_killed (e.Killed general target steps) = true
is_killed x = false

-- how many entries there are of each kind
abbrev pub counted : List Entry → Counts
counted xs = record { laws = length (filter is_law xs); live = length (filter is_live xs); moved = length (filter is_moved xs); killed = length (filter is_killed xs) }

-- Verdicts

-- the lines state no signature
abbrev pub StatesNone : List RawLine → Type 0
StatesNone lines = (parts : SigParts) → IsTypedAs lines parts → ⊥

-- what is answered of a certificate over a signature, whichever trees its lines are; and where nothing was wrong before its
-- pools
abbrev pub JudgedOver : SigParts → Cert → Answer → Type 0
JudgedOver parts cert a = (trees : List SortTree) → AreTreesOf parts cert.trees trees
    → Judged parts (pools_named parts cert.pools) (entries_named parts cert.entries) trees a

abbrev pub JudgedPools : SigParts → Cert → Answer → Type 0
JudgedPools parts cert a = (trees : List SortTree) → AreTreesOf parts cert.trees trees
    → If (pools_named parts cert.pools ≡ pools_by parts) (answer.No r.V2 0)
    (Background parts (pools_named parts cert.pools) parts.settings.background
    (Entries parts (pools_named parts cert.pools) (InTrees parts (pools_named parts cert.pools) (entries_named parts cert.entries) (entry_after (entries_named parts cert.entries)) [] trees) [] None (entries_named parts cert.entries))) a

-- a yes comes with the counts, and a no is what the order of checking finds first
abbrev pub IsVerdict : Cert → Verdict → Type 0
IsVerdict cert (v.Yes counts) = JudgedCert cert answer.Yes × (counts ≡ counted cert.entries)
IsVerdict cert (v.No rule entry) = JudgedCert cert (answer.No rule entry)

-- yes is said of valid certificates alone, and no of others alone
abbrev pub IsExact : Cert → Verdict → Type 0
IsExact cert (v.Yes counts) = IsValidCert cert
IsExact cert (v.No rule entry) = IsValidCert cert → ⊥

-- what it states over a signature covers the universe: any two of its terms of one sort are told apart by a test, or are
-- derivable as equal from the background and the laws; and each law holds at every test
pub record Covers (cert : Cert) : Type 0 where
  pub means : Meaning cert
  pub covered : IsCovered means.parts (pools_named means.parts cert.pools) (stated law_at (entries_named means.parts cert.entries))

-- after a yes the laws cover
abbrev pub IsCovering : Cert → Verdict → Type 0
IsCovering cert (v.Yes counts) = Covers cert
IsCovering cert (v.No rule entry) = Unit {0}

-- the first evaluation that is over, where it stands before every failing rule, with its whole term; such a certificate
-- isn't valid
pub record IsFirstOver (cert : Cert) (entry test : ℕ) (term : Tree) : Type 0 where
  pub means : Meaning cert
  pub judged : Judged means.parts (pools_named means.parts cert.pools) (entries_named means.parts cert.entries) means.trees (answer.Over entry test term)

abbrev pub IsOver : Cert → CheckErr → Type 0
IsOver cert (err.Over entry test raw) = (term : Tree) × (over : IsFirstOver cert entry test term) × (raw ≡ named_term over.means.parts term) × (IsValidCert cert → ⊥)
IsOver cert err.NoMemory = Unit {0}
