-- What `check` answers to the bytes of a certificate, apart from streams and memory.
use Rattle.std.specs.Prelude.{◌≡◌, ℕ, List, [], ◌∷◌, ◌++◌, codes, decimal}
use Rattle.std.specs.List.{filter, flat_map}
use Rattle.law_lines.specs.declared.raw.RawTerm.{RawTerm}
use Rattle.law_lines.specs.Spelling.{text_of}
use Rattle.law_cert_text.specs.declared.cert.Cert.{Cert}
use Rattle.law_cert_text.specs.declared.cert.Entry.{Entry}
use Rattle.law_cert_text.specs.declared.error.CertErr.TheVariants as unread
use Rattle.law_cert_text.specs.Spelling.{entry_lines}
use Rattle.law_cert_text.specs.Readers.{IsReadAs, RefusedBy}
use Rattle.law_valid.specs.declared.rule.Answer.TheVariants.{No}
use Rattle.law_valid.specs.declared.rule.Rule.{Rule}
use Rattle.law_named.specs.Named.{IsValidCert, JudgedCert}
use Rattle.law_checking.specs.declared.verdict.Counts.{Counts}
use Rattle.law_checking.specs.declared.verdict.CheckErr.TheVariants as unjudged
use Rattle.law_checking.specs.Verdicts.{is_law, counted, Covers, IsOver}
use Rattle.law_cli.specs.Answers.{IsOneOf}
use Rattle.law_cli.specs.declared.status.FormKind.TheVariants as form
use Rattle.law_cli.specs.declared.status.Status.{Status}
use Rattle.law_cli.specs.declared.status.Status.TheVariants as status

-- a word and a number behind it
abbrev pub counted_word : List ℕ → ℕ → List ℕ
counted_word word count = word ++ decimal count

-- how many entries of each kind there are
abbrev pub yes_line : Counts → List ℕ
yes_line counts =
    ((counted_word (codes "yes laws ") counts.laws ++ counted_word (codes " live ") counts.live) ++ counted_word (codes " moved ") counts.moved)
    ++ (codes " killed " ++ (decimal counts.killed ++ 10 ∷ []))

-- the lines of the laws among these entries, in order, with their marks
abbrev pub law_lines : List Entry → List ℕ
law_lines entries = text_of (flat_map entry_lines (filter is_law entries))

-- the bytes spell a certificate, whoever made it, and it is valid; so its laws cover. The text has its counts and its laws.
pub record IsYesText (bytes text : List ℕ) : Type 0 where
  pub cert : Cert
  pub read : IsReadAs bytes cert
  pub valid : IsValidCert cert
  pub covers : Covers cert
  pub printed : text ≡ yes_line (counted cert.entries) ++ law_lines cert.entries

-- the bytes spell a certificate, in which this rule is the first that fails, at this entry
pub record IsRejected (bytes : List ℕ) (rule : Rule) (entry : ℕ) : Type 0 where
  pub cert : Cert
  pub read : IsReadAs bytes cert
  pub judged : JudgedCert cert (No rule entry)

-- the bytes spell a certificate, in which this evaluation is the first that is over, before every rule that fails
pub record IsOverAt (bytes : List ℕ) (entry test : ℕ) (term : RawTerm) : Type 0 where
  pub cert : Cert
  pub read : IsReadAs bytes cert
  pub over : IsOver cert (unjudged.Over entry test term)

-- why the line of a status is printed in place of a yes; no bytes are a reason for any other status
abbrev pub CheckCause : List ℕ → Status → Type 0
CheckCause bytes (status.Form line form.Certificate) = RefusedBy bytes (unread.Form line)
CheckCause bytes (status.Rejected rule entry) = IsRejected bytes rule entry
CheckCause bytes (status.Over entry test term) = IsOverAt bytes entry test term
CheckCause bytes other = ⊥

-- the answer to these bytes: a status, and the text that is printed with it
abbrev pub IsCheckAnswer : List ℕ → Status → List ℕ → Type 0
IsCheckAnswer bytes = IsOneOf (IsYesText bytes) (CheckCause bytes)
