-- What the phases of a reader say of the lines that were read.
use Rattle.std.proofs.Common.{◌≡◌, ℕ, ◌+◌, ◌-◌, ◌^◌, min, List, [], ◌∷◌, ◌++◌, length, map, Some, None, Result, Ok, Err, IfOk, IfErr, inl, inr, ◌⊎◌, refl, ap, sym, subst, ◌∙◌, arith}
use Rattle.std.proofs.lemmas.List.{append_assoc}
use Rattle.std.specs.List.{AllByRecursion}
use Rattle.law_lines.specs.declared.raw.RawLine.{RawLine}
use Rattle.law_lines.specs.declared.error.ReadKind.{ReadKind}
use Rattle.law_lines.specs.Signature.{IsRawSig}
use Rattle.law_lines.specs.Spelling.{line_spelling}
use Rattle.law_lines.specs.Texts.{next_number}
use Rattle.law_places.specs.Progress.{NoReading, Progress, RefusedAt}
use Rattle.law_cert_text.specs.declared.cert.Cert.{Cert}
use Rattle.law_cert_text.specs.declared.cert.Entry.{Entry}
use Rattle.law_cert_text.specs.declared.cert.RawValues.{RawValues}
use Rattle.law_cert_text.specs.declared.cert.SortTree.{SortTree}
use Rattle.law_cert_text.specs.declared.line.CertLine.{CertLine}
use Rattle.law_cert_text.specs.declared.draft.Draft.{Draft}
use Rattle.law_cert_text.specs.declared.draft.Draft.TheVariants as d
use Rattle.law_cert_text.specs.declared.error.CertErr.{CertErr}
use Rattle.law_cert_text.specs.declared.error.CertErr.TheVariants as error
use Rattle.law_cert_text.specs.Certificates.{ArePools, IsEntry, IsTree}
use Rattle.law_cert_text.specs.CertLines.{IsCertLine, line_text}
use Rattle.law_cert_text.specs.Drafts.{IsDraft, IsDraftWith, read_of, with_line}
use Rattle.law_cert_text.specs.Readers.{Heard, IsClosedTo, IsFaulty, IsOpen, IsWhole, NotWhole, body_lines, head_text, heard_text}
use Rattle.law_cert_text.specs.Readings.{AreAll, FaultAt, HasReading, Unfinished}
use Rattle.law_cert_text.proofs.BodyText.{body_text, cert_of, texts_append}
use Rattle.law_cert_text.proofs.Completions.{reads_on, reads_sig}
use Rattle.law_cert_text.proofs.Refusals.{reads_unbroken}
use Rattle.law_cert_text.proofs.Stuck.{reached_more, sig_stuck}
use Rattle.law_cert.specs.declared.phase.Phase.{Phase}
use Rattle.law_cert.specs.declared.phase.Phase.TheVariants as p
use Rattle.law_cert.specs.Finishes.{IsFinished, NotFinished}
use Rattle.law_cert.specs.Phases.{IsGoing, IsPhase, IsPhaseWith, IsReader, IsSigOpen, phase_lines, phase_refused, phase_starved}

-- The lines that were read have a reading.
pub phase_reads : (phase : Phase) → IsPhase phase → HasReading (phase_lines phase)
phase_reads (p.Sig reader) h = reads_sig reader.lines h.order h.each
phase_reads (p.Body sig draft) h = reads_on sig draft h.0 h.1.is
phase_reads phase h = let f = reads_sig [] tt tt in record { cert = f.cert; spelled = f.spelled; more = head_text ∷ f.more; begins = f.begins }

-- a line behind the signature, and one that is refused
pub refused_stuck : (old new : Progress) (line : List ℕ) (number : ℕ) (kind : ReadKind) → IsSigOpen old → RefusedAt old new line number kind → HasReading ((head_text ∷ map line_spelling old.lines) ++ line ∷ []) → ⊥
refused_stuck old new line number kind going refused h = by refused.why
  where
    by : (old.refused ≡ Some (number, kind)) ⊎ ((old.refused ≡ None) × (number ≡ next_number old.lines) × NoReading old.lines line kind) → ⊥
    by (inl e) = let g = going.going in absurd cc
    by (inr r) = sig_stuck old.lines line going.order going.each going.unclosed r.2.stuck h

pub bodied_more : (sig : List RawLine) (before next : Draft) (line : CertLine) (bytes : List ℕ) → IsPhase (p.Body sig before) → IsCertLine line → line_text line ≡ bytes → with_line before line ≡ Some next
    → IsDraftWith before line (Some next) → IsPhaseWith (p.Body sig before) bytes (Some (p.Body sig next))
bodied_more sig before next line bytes h is text w more = (
  (h.0, reached_more before next line h.1 is w more.0 more.1),
  (refl, refl),
  ap (λ l. head_text ∷ (map line_spelling sig ++ l)) (ap (map line_text) more.1 ∙ texts_append (read_of before) (line ∷ []) ∙ ap (λ l. body_lines before ++ l ∷ []) text)
      ∙ ap (λ l. head_text ∷ l) (sym (append_assoc (map line_spelling sig) (body_lines before) (bytes ∷ []))),
)

-- the text is over
pub finished : (sig : List RawLine) (pools : List (List RawValues)) (entries : List Entry) (trees : List SortTree) → IsRawSig sig → ArePools pools → AllByRecursion IsEntry entries → AllByRecursion IsTree trees
    → IsFinished (p.Body sig (d.Over pools entries trees)) (cert_of sig pools entries trees)
finished sig pools entries trees s h f g = record {
  going = (refl, refl);
  spelled = record { sig = s; pools = h; entries = f; trees = g };
  lines = ap (λ l. head_text ∷ (map line_spelling sig ++ l)) (sym (body_text pools entries trees));
}

pub finished_by : (sig : List RawLine) (draft : Draft) (pools : List (List RawValues)) (entries : List Entry) (trees : List SortTree) → draft ≡ d.Over pools entries trees → IsPhase (p.Body sig draft)
    → IsFinished (p.Body sig draft) (cert_of sig pools entries trees)
finished_by sig draft pools entries trees e h =
    let k = subst IsDraft e h.1.is in subst (λ x. IsFinished (p.Body sig x) (cert_of sig pools entries trees)) (sym e) (finished sig pools entries trees h.0 k.0 k.1 k.2)

abbrev pub heard_of : Phase → List ℕ → Heard
heard_of phase unfinished = record { lines = phase_lines phase; unfinished = unfinished; refused = phase_refused phase; starved = phase_starved phase }

pub finish_ok : (r : Result Cert CertErr) (phase : Phase) (unfinished : List ℕ) → length unfinished ≡ 0 → IfOk r (IsFinished phase) → IfOk r (IsWhole (heard_of phase unfinished))
finish_ok (Ok cert) phase unfinished e h = record { open_reader = record { allowed = h.going.0; fed = h.going.1 }; none_left = none unfinished e; spelled = h.spelled; lines = h.lines }
  where
    none : (bytes : List ℕ) → length bytes ≡ 0 → bytes ≡ []
    none [] e = refl
    none (b ∷ bytes) e = absurd (omega arith)
finish_ok (Err error) phase unfinished e h = tt

counts : (l count number : ℕ) → count ≡ min l (2 ^ 64 - 1) → number ≡ min (count + 1) (2 ^ 64 - 1) → number ≡ min (l + 1) (2 ^ 64 - 1)
counts l count number h g = omega arith

-- The unfinished line is over.
pub some_to : (old : Heard) (phase next before : Phase) (line : List ℕ) → phase ≡ next → IsPhaseWith before line (Some next) → IsClosedTo old (phase_refused phase)
some_to old phase next before line e h = subst (IsClosedTo old) (sym (ap phase_refused e ∙ h.1.0)) tt

pub err_to : (old : Heard) (phase : Phase) → phase ≡ p.Starved → IsClosedTo old (phase_refused phase)
err_to old phase e = subst (λ x. IsClosedTo old (phase_refused x)) (sym e) tt

pub none_to : (old : Heard) (phase before : Phase) (count number : ℕ) (unfinished line : List ℕ) → heard_of before unfinished ≡ old → phase ≡ p.Refused number → IsReader before count unfinished → IsOpen old
    → line ≡ unfinished → number ≡ min (count + 1) (2 ^ 64 - 1) → IsPhaseWith before line None → IsClosedTo old (phase_refused phase)
none_to old phase before count number unfinished line view e reader going same next stuck =
    let o = subst IsOpen (sym view) going in
    let g : IsGoing before = (o.allowed, o.fed) in
    subst (λ x. IsClosedTo old (phase_refused x)) (sym e)
    (subst (λ heard. IsFaulty heard number) view (record {
      whole = reader.whole g;
      reads = phase_reads before reader.is;
      next = counts (length (phase_lines before)) count number (reader.counted g) next;
      stuck = λ h. stuck g (subst (λ l. HasReading (phase_lines before ++ l ∷ [])) (sym same) h);
    }))

unfinished_at : (phase : Phase) (count number : ℕ) (unfinished : List ℕ) → IsReader phase count unfinished → IsGoing phase → number ≡ min (count + 1) (2 ^ 64 - 1) → (unfinished ≡ [] → AreAll (phase_lines phase) → ⊥)
    → FaultAt (heard_text (heard_of phase unfinished)) number Unfinished
unfinished_at phase count number unfinished reader g next none = let reads = phase_reads phase reader.is in record {
  lines = phase_lines phase;
  left = unfinished;
  parts = refl;
  whole = reads_unbroken (phase_lines phase) reads;
  reads = reads;
  next = counts (length (phase_lines phase)) count number (reader.counted g) next;
  why = record { open_line = reader.whole g; absent = none };
}

pub finish_err : (r : Result Cert CertErr) (phase : Phase) (count number : ℕ) (unfinished : List ℕ) → IsReader phase count unfinished → number ≡ min (count + 1) (2 ^ 64 - 1) → IfErr r (NotFinished phase number)
    → IfErr r (NotWhole (heard_of phase unfinished))
finish_err (Ok cert) phase count number unfinished reader next h = tt
finish_err (Err error.NoMemory) phase count number unfinished reader next h = h
finish_err (Err (error.Form line)) phase count number unfinished reader next h = by h
  where
    by : NotFinished phase number (error.Form line) → NotWhole (heard_of phase unfinished) (error.Form line)
    by (inl s) = inl s
    by (inr s) = inr (record { allowed = s.0.0; fed = s.0.1 }, unfinished_at phase count line unfinished reader s.0 (s.1 ∙ next) (λ e all. s.2 all))

pub finish_open : (phase : Phase) (count number : ℕ) (unfinished : List ℕ) → IsReader phase count unfinished → number ≡ min (count + 1) (2 ^ 64 - 1) → (length unfinished ≡ 0 → ⊥) → IsOpen (heard_of phase unfinished)
    → NotWhole (heard_of phase unfinished) (error.Form number)
finish_open phase count number unfinished reader next some o = inr (o, unfinished_at phase count number unfinished reader (o.allowed, o.fed) next (λ e all. some (ap length e)))
