-- Each text has one answer.
use Rattle.std.proofs.Common.{◌≡◌, ◌⊎◌, inl, inr, ℕ, List, Option, Some, None, refl, sym, ap, ap₂, ◌∙◌, subst}
use Rattle.law_sig.specs.Laws.{IsLawList}
use Rattle.law_sig.specs.Tests.{Pools}
use Rattle.law_sig.specs.declared.parts.Equation.{Equation}
use Rattle.law_sig.specs.declared.parts.SigParts.{SigParts}
use Rattle.law_laws.proofs.Agreement.{one_law_list}
use Rattle.law_lines.specs.declared.raw.RawLine.{RawLine}
use Rattle.law_lines.specs.declared.error.ReadKind.{ReadKind}
use Rattle.law_lines.specs.Signature.{IsRawSig}
use Rattle.law_lines.specs.Texts.{IsRefused}
use Rattle.law_lines.specs.Laws.{OneText}
use Rattle.law_places.specs.Laws.{OneFault}
use Rattle.law_typing.specs.Typed.{IsTypedAs}
use Rattle.law_typing.specs.Naming.{named_term}
use Rattle.law_typing.specs.LineFaults.{first_fault}
use Rattle.law_typing.specs.declared.errors.TypeKind.{TypeKind}
use Rattle.law_typing.specs.declared.errors.TypeErr.{TypeErr}
use Rattle.law_typing.specs.declared.errors.TypeErr.TheVariants as type_err
use Rattle.law_cert_text.specs.Spelling.{list_spelling}
use Rattle.law_draws.specs.Draws.{pools_by}
use Rattle.law_explore.specs.Refusals.{Refusal, IsRefusal}
use Rattle.law_explore.specs.Refusals.Refusal.{Assignments, TooManyTerms, ValueTooLarge, Over, BackgroundFails}
use Rattle.law_explore.specs.LawList.{IsWithin, IsLawListOf, OneRefusal, NoneWithin}
use Rattle.law_explore.specs.Named.{named_list}
use Rattle.law_cli.specs.Printed.{status_text}
use Rattle.law_cli.specs.Answers.{most_terms, IsTextOf, IsStated, IsLawListText, HasTypeFault, IsAnswerTo}
use Rattle.law_cli.specs.declared.status.FormKind.TheVariants as form
use Rattle.law_cli.specs.declared.status.Which.TheVariants as which
use Rattle.law_cli.specs.declared.status.Status.{Status}
use Rattle.law_cli.specs.declared.status.Status.TheVariants as status

-- the status that tells a refusal
abbrev status_of : SigParts → Refusal → Status
status_of parts Assignments = status.Limit which.Assignments
status_of parts TooManyTerms = status.Limit which.Terms
status_of parts (ValueTooLarge pool sort) = status.Limit which.Value
status_of parts (Over t test) = status.Over 0 test (named_term parts t)
status_of parts (BackgroundFails law test) = status.BackgroundFails law test

record IsUnread (bytes : List ℕ) (s : Status) : Type 0 where
  number : ℕ
  kind : ReadKind
  refused : IsRefused bytes number kind
  is : s ≡ status.Form number (form.Read kind)

record IsFaulty (bytes : List ℕ) (s : Status) : Type 0 where
  number : ℕ
  kind : TypeKind
  fault : HasTypeFault bytes number kind
  is : s ≡ status.Form number (form.Sort kind)

record IsRefusedText (bytes : List ℕ) (s : Status) : Type 0 where
  lines : List RawLine
  parts : SigParts
  stated : IsStated bytes lines parts
  why : Refusal
  refused : IsRefusal parts most_terms why
  is : s ≡ status_of parts why

record IsListedText (bytes text : List ℕ) (s : Status) : Type 0 where
  list : IsLawListText bytes text
  is : s ≡ status.Done

-- the four kinds of answers; all but the last print the line of their status
abbrev Answers : List ℕ → Status → List ℕ → Type 0
Answers bytes s text = IsListedText bytes text s ⊎ ((text ≡ status_text s) × (IsUnread bytes s ⊎ (IsFaulty bytes s ⊎ IsRefusedText bytes s)))

kinds : (bytes text : List ℕ) (s : Status) → IsAnswerTo bytes s text → Answers bytes s text
kinds bytes text status.Done h = inl (record { list = h; is = refl })
kinds bytes text (status.Rejected rule entry) h = absurd h.0
kinds bytes text status.Usage h = absurd h.0
kinds bytes text (status.Form line (form.Read kind)) h = inr (h.1, inl (record { number = line; kind = kind; refused = h.0; is = refl }))
kinds bytes text (status.Form line (form.Sort kind)) h = inr (h.1, inr (inl (record { number = line; kind = kind; fault = h.0; is = refl })))
kinds bytes text (status.Form line form.Certificate) h = absurd h.0
kinds bytes text (status.Limit which.Bytes) h = absurd h.0
kinds bytes text (status.Limit which.Assignments) h =
    inr (h.1, inr (inr (record { lines = h.0.lines; parts = h.0.parts; stated = h.0.stated; why = Assignments; refused = h.0.told; is = refl })))
kinds bytes text (status.Limit which.Terms) h =
    inr (h.1, inr (inr (record { lines = h.0.lines; parts = h.0.parts; stated = h.0.stated; why = TooManyTerms; refused = h.0.told; is = refl })))
kinds bytes text (status.Limit which.Value) ((pool, sort, w), e) =
    inr (e, inr (inr (record { lines = w.lines; parts = w.parts; stated = w.stated; why = ValueTooLarge pool sort; refused = w.told; is = refl })))
kinds bytes text (status.Over entry test term) ((zero_is, w), e) =
    inr (
      e,
      inr (inr (record {
        lines = w.lines;
        parts = w.parts;
        stated = w.stated;
        why = Over w.told.0 test;
        refused = w.told.2;
        is = ap₂ (λ n t. status.Over n test t) zero_is w.told.1;
      })),
    )
kinds bytes text (status.BackgroundFails law test) h =
    inr (h.1, inr (inr (record { lines = h.0.lines; parts = h.0.parts; stated = h.0.stated; why = BackgroundFails law test; refused = h.0.told; is = refl })))
kinds bytes text status.ReadFault h = absurd h.0
kinds bytes text status.WriteFault h = absurd h.0
kinds bytes text status.NoMemory h = absurd h.0

-- what the crates below prove of texts and of the signatures that they state
pub record Below : Type 0 where
  pub text : OneText
  pub fault : OneFault
  pub faultless : (lines : List RawLine) (parts : SigParts) → IsRawSig lines → IsTypedAs lines parts → first_fault lines ≡ None
  pub signature : (lines : List RawLine) (p q : SigParts) → IsTypedAs lines p → IsTypedAs lines q → p ≡ q
  pub refusal : OneRefusal
  pub within : NoneWithin

same_lines : Below → (bytes : List ℕ) (lines others : List RawLine) → IsTextOf bytes lines → IsTextOf bytes others → lines ≡ others
same_lines b bytes lines others t u = b.text lines others t.raw u.raw (sym t.spelled ∙ u.spelled)

same_parts : Below → (bytes : List ℕ) (lines others : List RawLine) (p q : SigParts) → IsStated bytes lines p → IsStated bytes others q → p ≡ q
same_parts b bytes lines others p q s u =
    b.signature others p q (subst (λ l. IsTypedAs l p) (same_lines b bytes lines others s.text u.text) s.typed) u.typed

-- two of one kind
two_unread : Below → (bytes : List ℕ) (s u : Status) → IsUnread bytes s → IsUnread bytes u → s ≡ u
two_unread b bytes s u h k =
    let same = b.fault bytes h.number k.number h.kind k.kind h.refused.fault k.refused.fault in
    h.is ∙ ap₂ (λ n w. status.Form n (form.Read w)) same.0 same.1 ∙ sym k.is

fault_is : (n m : ℕ) (k w : TypeKind) → ◌≡◌ {A = Option TypeErr} (Some (type_err.At n k)) (Some (type_err.At m w)) → (n ≡ m) × (k ≡ w)
fault_is n m k w e = (cc, cc)

two_faulty : Below → (bytes : List ℕ) (s u : Status) → IsFaulty bytes s → IsFaulty bytes u → s ≡ u
two_faulty b bytes s u h k =
    let same = fault_is h.number k.number h.kind k.kind (sym h.fault.fault ∙ ap first_fault (same_lines b bytes h.fault.lines k.fault.lines h.fault.text k.fault.text) ∙ k.fault.fault) in
    h.is ∙ ap₂ (λ n w. status.Form n (form.Sort w)) same.0 same.1 ∙ sym k.is

two_refused : Below → (bytes : List ℕ) (s u : Status) → IsRefusedText bytes s → IsRefusedText bytes u → s ≡ u
two_refused b bytes s u h k =
    let same = same_parts b bytes h.lines k.lines h.parts k.parts h.stated k.stated in
    let why = b.refusal k.parts most_terms h.why k.why (subst (λ p. IsRefusal p most_terms h.why) same h.refused) k.refused in
    h.is ∙ ap₂ status_of same why ∙ sym k.is

two_listed : Below → (bytes text other : List ℕ) → IsLawListText bytes text → IsLawListText bytes other → text ≡ other
two_listed b bytes text other h k =
    let lines = same_lines b bytes h.lines k.lines h.stated.text k.stated.text in
    let parts = same_parts b bytes h.lines k.lines h.parts k.parts h.stated k.stated in
    h.printed ∙ ap list_spelling (h.listing.named ∙ by h.lines k.lines h.parts k.parts h.listing.pools k.listing.pools h.listing.laws k.listing.laws lines parts
    h.listing.list_of k.listing.list_of ∙ sym k.listing.named) ∙ sym k.printed
  where
    by : (l m : List RawLine) (p q : SigParts) (ps qs : Pools) (es ds : List Equation) → l ≡ m → p ≡ q → IsLawListOf p most_terms ps es → IsLawListOf q most_terms qs ds
        → named_list l p ps es ≡ named_list m q qs ds
    by l m p q ps qs es ds e f h k =
        let pools : ps ≡ qs = h.pools_are ∙ ap pools_by f ∙ sym k.pools_are in
        let laws = one_law_list q qs es ds (subst (λ x. IsLawList q x es) pools (subst (λ x. IsLawList x ps es) f h.listed)) k.listed in
        ap (λ x. named_list x p ps es) e ∙ ap (λ x. named_list m x ps es) f ∙ ap (λ x. named_list m q x es) pools ∙ ap (named_list m q qs) laws

-- two of different kinds
unread_is_no_text : (bytes : List ℕ) (s : Status) (lines : List RawLine) → IsUnread bytes s → IsTextOf bytes lines → ⊥
unread_is_no_text bytes s lines h t = h.refused.none lines t.raw (sym t.spelled)

faulty_states_nothing : Below → (bytes : List ℕ) (s : Status) (lines : List RawLine) (parts : SigParts) → IsFaulty bytes s → IsStated bytes lines parts → ⊥
faulty_states_nothing b bytes s lines parts h k =
    let none = b.faultless lines parts k.text.raw k.typed in
    let some = ap first_fault (same_lines b bytes lines h.fault.lines k.text h.fault.text) ∙ h.fault.fault in
    cc

refused_is_not_within : Below → (bytes : List ℕ) (s : Status) (lines : List RawLine) (parts : SigParts) → IsRefusedText bytes s → IsStated bytes lines parts → IsWithin parts most_terms → ⊥
refused_is_not_within b bytes s lines parts h k within =
    b.within parts most_terms within h.why (subst (λ p. IsRefusal p most_terms h.why) (same_parts b bytes h.lines lines h.parts parts h.stated k) h.refused)

-- a text that states a signature within all limits has no other answer than its law list
refused_is_not_good : Below → (bytes : List ℕ) (s : Status) (lines : List RawLine) (parts : SigParts) → IsUnread bytes s ⊎ (IsFaulty bytes s ⊎ IsRefusedText bytes s)
    → IsStated bytes lines parts → IsWithin parts most_terms → ⊥
refused_is_not_good b bytes s lines parts (inl h) k within = unread_is_no_text bytes s lines h k.text
refused_is_not_good b bytes s lines parts (inr (inl h)) k within = faulty_states_nothing b bytes s lines parts h k
refused_is_not_good b bytes s lines parts (inr (inr h)) k within = refused_is_not_within b bytes s lines parts h k within

two_lines : Below → (bytes : List ℕ) (s u : Status) → IsUnread bytes s ⊎ (IsFaulty bytes s ⊎ IsRefusedText bytes s) → IsUnread bytes u ⊎ (IsFaulty bytes u ⊎ IsRefusedText bytes u) → s ≡ u
two_lines b bytes s u (inl h) (inl k) = two_unread b bytes s u h k
two_lines b bytes s u (inl h) (inr (inl k)) = absurd (unread_is_no_text bytes s k.fault.lines h k.fault.text)
two_lines b bytes s u (inl h) (inr (inr k)) = absurd (unread_is_no_text bytes s k.lines h k.stated.text)
two_lines b bytes s u (inr (inl h)) (inl k) = absurd (unread_is_no_text bytes u h.fault.lines k h.fault.text)
two_lines b bytes s u (inr (inl h)) (inr (inl k)) = two_faulty b bytes s u h k
two_lines b bytes s u (inr (inl h)) (inr (inr k)) = absurd (faulty_states_nothing b bytes s k.lines k.parts h k.stated)
two_lines b bytes s u (inr (inr h)) (inl k) = absurd (unread_is_no_text bytes u h.lines k h.stated.text)
two_lines b bytes s u (inr (inr h)) (inr (inl k)) = absurd (faulty_states_nothing b bytes u h.lines h.parts k h.stated)
two_lines b bytes s u (inr (inr h)) (inr (inr k)) = two_refused b bytes s u h k

pub one_answer : Below → (bytes text other : List ℕ) (s u : Status) → IsAnswerTo bytes s text → IsAnswerTo bytes u other → (s ≡ u) × (text ≡ other)
one_answer b bytes text other s u h k = by (kinds bytes text s h) (kinds bytes other u k)
  where
    by : Answers bytes s text → Answers bytes u other → (s ≡ u) × (text ≡ other)
    by (inl h) (inl k) = (h.is ∙ sym k.is, two_listed b bytes text other h.list k.list)
    by (inl h) (inr k) = absurd (refused_is_not_good b bytes u h.list.lines h.list.parts k.1 h.list.stated h.list.listing.list_of.within)
    by (inr h) (inl k) = absurd (refused_is_not_good b bytes s k.list.lines k.list.parts h.1 k.list.stated k.list.listing.list_of.within)
    by (inr h) (inr k) = let same = two_lines b bytes s u h.1 k.1 in (same, h.0 ∙ ap status_text same ∙ sym k.0)

pub good_is_listed : Below → (bytes text : List ℕ) (s : Status) (lines : List RawLine) (parts : SigParts) → IsStated bytes lines parts → IsWithin parts most_terms → IsAnswerTo bytes s text → s ≡ status.Done
good_is_listed b bytes text s lines parts stated within h = by (kinds bytes text s h)
  where
    by : Answers bytes s text → s ≡ status.Done
    by (inl k) = k.is
    by (inr k) = absurd (refused_is_not_good b bytes s lines parts k.1 stated within)
