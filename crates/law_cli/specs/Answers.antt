-- What `plain` answers to the bytes of a signature text, apart from streams and memory.
use Rattle.std.specs.Prelude.{◌≡◌, ℕ, List, Some}
use Rattle.law_sig.specs.declared.tree.SortId.{SortId}
use Rattle.law_sig.specs.declared.parts.SigParts.{SigParts}
use Rattle.law_lines.specs.declared.raw.RawLine.{RawLine}
use Rattle.law_lines.specs.Spelling.{sig_spelling}
use Rattle.law_lines.specs.Signature.{IsRawSig}
use Rattle.law_lines.specs.Texts.{IsRefused}
use Rattle.law_typing.specs.Typed.{IsTypedAs}
use Rattle.law_typing.specs.LineFaults.{first_fault}
use Rattle.law_typing.specs.declared.errors.TypeKind.{TypeKind}
use Rattle.law_typing.specs.declared.errors.TypeErr.TheVariants as type_err
use Rattle.law_cert_text.specs.declared.cert.LawList.{LawList}
use Rattle.law_cert_text.specs.Spelling.{list_spelling}
use Rattle.law_explore.specs.Named.{IsNamedLawList}
use Rattle.law_explore.specs.Refusals.{IsRefusal, IsTold}
use Rattle.law_explore.specs.declared.refusal.ExploreErr.{ExploreErr}
use Rattle.law_explore.specs.declared.refusal.ExploreErr.TheVariants as explore
use Rattle.law_cli.specs.Printed.{status_text}
use Rattle.law_cli.specs.declared.status.FormKind.TheVariants as form
use Rattle.law_cli.specs.declared.status.Which.TheVariants as which
use Rattle.law_cli.specs.declared.status.Status.{Status}
use Rattle.law_cli.specs.declared.status.Status.TheVariants as status

-- the most terms of the universe of a signature
abbrev pub most_terms : ℕ
most_terms = 8192

-- the bytes spell a signature text with these lines
pub record IsTextOf (bytes : List ℕ) (lines : List RawLine) : Type 0 where
  pub raw : IsRawSig lines
  pub spelled : bytes ≡ sig_spelling lines

-- the bytes spell lines that state this signature
pub record IsStated (bytes : List ℕ) (lines : List RawLine) (parts : SigParts) : Type 0 where
  pub text : IsTextOf bytes lines
  pub typed : IsTypedAs lines parts

-- the text is the spelling of the law list of the signature that the bytes state, over the pools that it gives or those of
-- its seed; the laws cover the universe, and the grammar of law lists spells the list
pub record IsLawListText (bytes text : List ℕ) : Type 0 where
  pub lines : List RawLine
  pub parts : SigParts
  pub stated : IsStated bytes lines parts
  pub list : LawList
  pub listing : IsNamedLawList lines parts most_terms list
  pub printed : text ≡ list_spelling list

-- the bytes spell lines of which this is the first that shows a fault, and its first fault
pub record HasTypeFault (bytes : List ℕ) (number : ℕ) (kind : TypeKind) : Type 0 where
  pub lines : List RawLine
  pub text : IsTextOf bytes lines
  pub fault : first_fault lines ≡ Some (type_err.At number kind)

-- the bytes state a signature that has no law list for this reason
pub record IsRefusedFor (bytes : List ℕ) (why : ExploreErr) : Type 0 where
  pub lines : List RawLine
  pub parts : SigParts
  pub stated : IsStated bytes lines parts
  pub told : IsTold parts (IsRefusal parts most_terms) why

-- why the line of a status is printed in place of a law list; no bytes are a reason for any other status
abbrev pub Cause : List ℕ → Status → Type 0
Cause bytes (status.Form line (form.Read kind)) = IsRefused bytes line kind
Cause bytes (status.Form line (form.Sort kind)) = HasTypeFault bytes line kind
Cause bytes (status.Limit which.Assignments) = IsRefusedFor bytes explore.Assignments
Cause bytes (status.Limit which.Terms) = IsRefusedFor bytes explore.TooManyTerms
Cause bytes (status.Limit which.Value) = (pool : ℕ) × (sort : SortId) × IsRefusedFor bytes (explore.ValueTooLarge pool sort)
Cause bytes (status.Over entry test term) = (entry ≡ 0) × IsRefusedFor bytes (explore.Over term test)
Cause bytes (status.BackgroundFails law test) = IsRefusedFor bytes (explore.BackgroundFails law test)
Cause bytes other = ⊥

-- an answer: what was asked for, or the line of a status that has a cause
abbrev pub IsOneOf : (List ℕ → Type 0) → (Status → Type 0) → Status → List ℕ → Type 0
IsOneOf Asked Caused status.Done text = Asked text
IsOneOf Asked Caused other text = Caused other × (text ≡ status_text other)

-- the answer to these bytes: a status, and the text that is printed with it
abbrev pub IsAnswerTo : List ℕ → Status → List ℕ → Type 0
IsAnswerTo bytes = IsOneOf (IsLawListText bytes) (Cause bytes)
