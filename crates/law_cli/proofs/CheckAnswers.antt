-- Each text has one answer of `check`.
use Rattle.std.proofs.Common.{◌≡◌, ◌⊎◌, inl, inr, ℕ, List, ◌++◌, refl, sym, ap, ◌∙◌, subst}
use Rattle.law_sig.specs.declared.parts.SigParts.{SigParts}
use Rattle.law_lines.specs.declared.raw.RawLine.{RawLine}
use Rattle.law_cert_text.specs.declared.cert.Cert.{Cert}
use Rattle.law_cert_text.specs.declared.error.CertErr.TheVariants as unread
use Rattle.law_cert_text.specs.Laws.{OneCert, RefusedIsNone}
use Rattle.law_cert_text.specs.Readers.{IsReadAs, RefusedBy}
use Rattle.law_typing.specs.Naming.{named_term}
use Rattle.law_typing.specs.Typed.{IsTypedAs}
use Rattle.law_valid.specs.declared.rule.Answer.{Answer}
use Rattle.law_valid.specs.declared.rule.Answer.TheVariants.{Yes, No, Over}
use Rattle.law_named.specs.Certificates.{OneCertAnswer}
use Rattle.law_named.specs.Named.{IsValidCert, JudgedCert}
use Rattle.law_cert_text.proofs.FirstFaults.{one_first_fault}
use Rattle.law_checking.specs.Verdicts.{counted}
use Rattle.law_cli.specs.Printed.{status_text}
use Rattle.law_cli.specs.Checks.{IsCheckAnswer, IsYesText, law_lines, yes_line}
use Rattle.law_cli.specs.Laws.{IsGoodCertificate}
use Rattle.law_cli.specs.declared.status.FormKind.TheVariants as form
use Rattle.law_cli.specs.declared.status.Status.{Status}
use Rattle.law_cli.specs.declared.status.Status.TheVariants as status

-- what the crates below prove of certificates
pub record Known : Type 0 where
  pub cert : OneCert
  pub none : RefusedIsNone
  pub answer : OneCertAnswer
  pub yes : (cert : Cert) → IsValidCert cert → JudgedCert cert Yes
  pub signature : (lines : List RawLine) (p q : SigParts) → IsTypedAs lines p → IsTypedAs lines q → p ≡ q

-- the status that tells what the order of checking finds, but a yes
abbrev Tells : Cert → Answer → Status → Type 0
Tells cert Yes s = ⊥
Tells cert (No rule entry) s = s ≡ status.Rejected rule entry
Tells cert (Over entry test term) s = (parts : SigParts) × IsTypedAs cert.sig parts × (s ≡ status.Over entry test (named_term parts term))

record IsUnread (bytes : List ℕ) (s : Status) : Type 0 where
  number : ℕ
  refused : RefusedBy bytes (unread.Form number)
  is : s ≡ status.Form number form.Certificate

record IsJudgedText (bytes : List ℕ) (s : Status) : Type 0 where
  cert : Cert
  read : IsReadAs bytes cert
  found : Answer
  judged : JudgedCert cert found
  tells : Tells cert found s

record IsYesAnswer (bytes text : List ℕ) (s : Status) : Type 0 where
  yes : IsYesText bytes text
  is : s ≡ status.Done

-- the three kinds of answers; all but a yes print the line of their status
abbrev Answers : List ℕ → Status → List ℕ → Type 0
Answers bytes s text = IsYesAnswer bytes text s ⊎ ((text ≡ status_text s) × (IsUnread bytes s ⊎ IsJudgedText bytes s))

kinds : (bytes text : List ℕ) (s : Status) → IsCheckAnswer bytes s text → Answers bytes s text
kinds bytes text status.Done h = inl (record { yes = h; is = refl })
kinds bytes text (status.Rejected rule entry) h = inr (h.1, inr (record { cert = h.0.cert; read = h.0.read; found = No rule entry; judged = h.0.judged; tells = refl }))
kinds bytes text status.Usage h = absurd h.0
kinds bytes text (status.Form line (form.Read kind)) h = absurd h.0
kinds bytes text (status.Form line (form.Sort kind)) h = absurd h.0
kinds bytes text (status.Form line form.Certificate) h = inr (h.1, inl (record { number = line; refused = h.0; is = refl }))
kinds bytes text (status.Limit which) h = absurd h.0
kinds bytes text (status.Over entry test term) h = let o = h.0.over in inr (
  h.1,
  inr (record {
    cert = h.0.cert;
    read = h.0.read;
    found = Over entry test o.0;
    judged = inl (o.1.means, o.1.judged);
    tells = (o.1.means.parts, o.1.means.typed, ap (λ t. status.Over entry test t) o.2);
  }),
)
kinds bytes text (status.BackgroundFails law test) h = absurd h.0
kinds bytes text status.ReadFault h = absurd h.0
kinds bytes text status.WriteFault h = absurd h.0
kinds bytes text status.NoMemory h = absurd h.0

same_cert : Known → (bytes : List ℕ) (cert other : Cert) → IsReadAs bytes cert → IsReadAs bytes other → cert ≡ other
same_cert k bytes cert other r q = k.cert cert other r.is q.is (r.spelled ∙ sym q.spelled)

-- two of one kind
two_unread : (bytes : List ℕ) (s u : Status) → IsUnread bytes s → IsUnread bytes u → s ≡ u
two_unread bytes s u h g = h.is ∙ ap (λ n. status.Form n form.Certificate) (one_first_fault bytes h.number g.number h.refused g.refused) ∙ sym g.is

one_told : Known → (cert : Cert) (found : Answer) (s u : Status) → Tells cert found s → Tells cert found u → s ≡ u
one_told k cert Yes s u h g = absurd h
one_told k cert (No rule entry) s u h g = h ∙ sym g
one_told k cert (Over entry test term) s u h g = h.2 ∙ ap (λ p. status.Over entry test (named_term p term)) (k.signature cert.sig h.0 g.0 h.1 g.1) ∙ sym g.2

-- what is found in the bytes of a certificate
judged_by : Known → (bytes : List ℕ) (s : Status) (h : IsJudgedText bytes s) (cert : Cert) (found : Answer) → IsReadAs bytes cert → JudgedCert cert found → Tells cert found s
judged_by k bytes s h cert found read judged =
    let same = same_cert k bytes h.cert cert h.read read in
    subst (λ a. Tells cert a s) (k.answer cert h.found found (subst (λ x. JudgedCert x h.found) same h.judged) judged) (subst (λ x. Tells x h.found s) same h.tells)

two_judged : Known → (bytes : List ℕ) (s u : Status) → IsJudgedText bytes s → IsJudgedText bytes u → s ≡ u
two_judged k bytes s u h g = one_told k g.cert g.found s u (judged_by k bytes s h g.cert g.found g.read g.judged) g.tells

two_yes : Known → (bytes text other : List ℕ) → IsYesText bytes text → IsYesText bytes other → text ≡ other
two_yes k bytes text other h g = h.printed ∙ ap (λ (c : Cert). yes_line (counted c.entries) ++ law_lines c.entries) (same_cert k bytes h.cert g.cert h.read g.read) ∙ sym g.printed

-- two of different kinds
spelled_is_read : Known → (bytes : List ℕ) (s : Status) (cert : Cert) → IsUnread bytes s → IsReadAs bytes cert → ⊥
spelled_is_read k bytes s cert h read = k.none bytes h.number h.refused cert read.is read.spelled

refused_is_not_valid : Known → (bytes : List ℕ) (s : Status) (cert : Cert) → IsUnread bytes s ⊎ IsJudgedText bytes s → IsReadAs bytes cert → IsValidCert cert → ⊥
refused_is_not_valid k bytes s cert (inl h) read valid = spelled_is_read k bytes s cert h read
refused_is_not_valid k bytes s cert (inr h) read valid = judged_by k bytes s h cert Yes read (k.yes cert valid)

two_lines : Known → (bytes : List ℕ) (s u : Status) → IsUnread bytes s ⊎ IsJudgedText bytes s → IsUnread bytes u ⊎ IsJudgedText bytes u → s ≡ u
two_lines k bytes s u (inl h) (inl g) = two_unread bytes s u h g
two_lines k bytes s u (inl h) (inr g) = absurd (spelled_is_read k bytes s g.cert h g.read)
two_lines k bytes s u (inr h) (inl g) = absurd (spelled_is_read k bytes u h.cert g h.read)
two_lines k bytes s u (inr h) (inr g) = two_judged k bytes s u h g

pub one_check_answer : Known → (bytes text other : List ℕ) (s u : Status) → IsCheckAnswer bytes s text → IsCheckAnswer bytes u other → (s ≡ u) × (text ≡ other)
one_check_answer k bytes text other s u h g = by (kinds bytes text s h) (kinds bytes other u g)
  where
    by : Answers bytes s text → Answers bytes u other → (s ≡ u) × (text ≡ other)
    by (inl h) (inl g) = (h.is ∙ sym g.is, two_yes k bytes text other h.yes g.yes)
    by (inl h) (inr g) = absurd (refused_is_not_valid k bytes u h.yes.cert g.1 h.yes.read h.yes.valid)
    by (inr h) (inl g) = absurd (refused_is_not_valid k bytes s g.yes.cert h.1 g.yes.read g.yes.valid)
    by (inr h) (inr g) = let same = two_lines k bytes s u h.1 g.1 in (same, h.0 ∙ ap status_text same ∙ sym g.0)

pub good_is_yes : Known → (bytes text : List ℕ) (s : Status) → IsGoodCertificate bytes → IsCheckAnswer bytes s text → s ≡ status.Done
good_is_yes k bytes text s good h = by (kinds bytes text s h)
  where
    by : Answers bytes s text → s ≡ status.Done
    by (inl g) = g.is
    by (inr g) = absurd (refused_is_not_valid k bytes s good.cert g.1 good.read good.valid)
