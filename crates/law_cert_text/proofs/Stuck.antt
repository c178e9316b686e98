-- A line that may not come behind those that were read: no certificate has the lines with it.
use Rattle.std.proofs.Common.{◌≡◌, ℕ, true, false, List, [], ◌∷◌, ◌++◌, Some, None, refl, ap, sym, subst, ◌∙◌, map}
use Rattle.std.proofs.lemmas.List.{append_assoc}
use Rattle.std.specs.List.{AllByRecursion}
use Rattle.law_lines.specs.declared.raw.RawLine.{RawLine}
use Rattle.law_lines.specs.declared.stage.Stage.{Stage}
use Rattle.law_lines.specs.declared.stage.Key.TheVariants as key
use Rattle.law_lines.specs.declared.want.Bounds.TheVariants.{Kept}
use Rattle.law_lines.specs.Faults.{is_closed_by}
use Rattle.law_lines.specs.Lines.{IsLine}
use Rattle.law_lines.specs.Signature.{IsRawSig}
use Rattle.law_lines.specs.Spelling.{line_spelling}
use Rattle.law_lines.specs.Stages.{InOrder, line_key, stage_after, stage_behind, start}
use Rattle.law_lines.specs.Texts as texts
use Rattle.law_lines.proofs.OneLine.{one_line}
use Rattle.law_lines.proofs.Whole.{IsWholeFrom, whole_of}
use Rattle.law_cert_text.specs.declared.line.CertLine.{CertLine}
use Rattle.law_cert_text.specs.declared.draft.Draft.{Draft}
use Rattle.law_cert_text.specs.declared.draft.Draft.TheVariants as d
use Rattle.law_cert_text.specs.CertLines.{IsCertLine, LineRead, line_text}
use Rattle.law_cert_text.specs.Drafts.{IsDraft, IsReached, read_of, runs, with_line}
use Rattle.law_cert_text.specs.Readers.{body_lines, head_text}
use Rattle.law_cert_text.specs.Readings.{HasReading}
use Rattle.law_cert_text.proofs.OneCert.{body_valid, lines_are, one_front, over}
use Rattle.law_cert_text.proofs.OneCertLine.{one_cert_line, one_cert_lines}
use Rattle.law_cert_text.proofs.RowFacts.{all_more}
use Rattle.law_cert_text.proofs.RunFacts.{cert_runs, runs_append, runs_none}

pub same_behind : {x y : List ℕ} {xs ys : List (List ℕ)} → x ∷ xs ≡ y ∷ ys → xs ≡ ys
same_behind e = cc

pub same_head : {x y : List ℕ} {xs ys : List (List ℕ)} → x ∷ xs ≡ y ∷ ys → x ≡ y
same_head e = cc

-- The lines of a signature that isn't over are followed in it by the line behind them.
record Further (xs ys : List RawLine) (line : List ℕ) : Type 0 where
  more : List (List ℕ)
  same : map line_spelling ys ≡ map line_spelling xs ++ line ∷ more

pub not_over : (stage : Stage) → is_closed_by stage.last ≡ false → stage.last ≡ Some key.End → ⊥
not_over stage n h = let e : true ≡ false = sym (ap is_closed_by h) ∙ n in absurd cc

further : (stage : Stage) (xs ys : List RawLine) (line : List ℕ) (us vs : List (List ℕ)) → InOrder stage xs → AllByRecursion (IsLine Kept) xs → is_closed_by (stage_behind stage xs).last ≡ false → IsWholeFrom stage ys
    → map line_spelling xs ++ line ∷ us ≡ map line_spelling ys ++ vs → Further xs ys line
further stage [] [] line us vs o e n w same = absurd (not_over stage n w.1)
further stage [] (y ∷ ys) line us vs o e n w same = record { more = map line_spelling ys; same = ap (λ l. l ∷ map line_spelling ys) (sym (same_head same)) }
further stage (x ∷ xs) [] line us vs o e n w same = absurd (over stage (line_key x) w.1 o.0)
further stage (x ∷ xs) (y ∷ ys) line us vs o e n w same =
    let first = same_head same in
    let f = one_line stage.version x y o.1 w.0.1 e.0 w.2.0 first in
    let s = ap (stage_after stage) (sym f) in
    let q = further (stage_after stage x) xs ys line us vs o.2 e.1 n (subst (λ t. IsWholeFrom t ys) s (w.0.2, w.1, w.2.1)) (same_behind same) in
    record { more = q.more; same = ap (λ l. l ∷ map line_spelling ys) (sym first) ∙ ap (λ l. line_spelling x ∷ l) q.same }

all_behind : (lines : List (List ℕ)) (line : List ℕ) (h : HasReading ((head_text ∷ lines) ++ line ∷ [])) → map line_spelling h.cert.sig ++ body_lines (d.Over h.cert.pools h.cert.entries h.cert.trees) ≡ lines ++ line ∷ h.more
all_behind lines line h = same_behind (sym (lines_are h.cert) ∙ h.begins) ∙ append_assoc lines (line ∷ []) h.more

pub head_stuck : (line : List ℕ) → (line ≡ head_text → ⊥) → HasReading (line ∷ []) → ⊥
head_stuck line other h = other (sym (same_head (sym (lines_are h.cert) ∙ h.begins)))

pub sig_stuck : (lines : List RawLine) (line : List ℕ) → InOrder start lines → AllByRecursion (IsLine Kept) lines → is_closed_by (stage_behind start lines).last ≡ false
    → (texts.HasReading (map line_spelling lines ++ line ∷ []) → ⊥) → HasReading ((head_text ∷ map line_spelling lines) ++ line ∷ []) → ⊥
sig_stuck lines line order each unclosed none h =
    let q = further start lines h.cert.sig line h.more (body_lines (d.Over h.cert.pools h.cert.entries h.cert.trees)) order each unclosed (whole_of h.cert.sig h.spelled.sig) (sym (all_behind (map line_spelling lines) line h)) in
    none (record { sig = h.cert.sig; signature = h.spelled.sig; more = q.more; begins = q.same ∙ sym (append_assoc (map line_spelling lines) (line ∷ []) q.more) })

-- The line of these bytes stands behind those of these texts.
record StandsIn (lines : List CertLine) (before : List (List ℕ)) (bytes : List ℕ) : Type 0 where
  front : List CertLine
  line : CertLine
  more : List CertLine
  parts : lines ≡ front ++ line ∷ more
  texts : map line_text front ≡ before
  text : line_text line ≡ bytes
  each : AllByRecursion IsCertLine front
  is : IsCertLine line

stands_in : (lines : List CertLine) (before : List (List ℕ)) (bytes : List ℕ) (more : List (List ℕ)) → AllByRecursion IsCertLine lines → map line_text lines ≡ before ++ bytes ∷ more → StandsIn lines before bytes
stands_in [] [] bytes more h e = absurd cc
stands_in [] (first ∷ before) bytes more h e = absurd cc
stands_in (line ∷ lines) [] bytes more h e = record { front = []; line = line; more = lines; parts = refl; texts = refl; text = same_head e; each = tt; is = h.0 }
stands_in (line ∷ lines) (first ∷ before) bytes more h e =
    let r = stands_in lines before bytes more h.1 (same_behind e) in record {
      front = line ∷ r.front;
      line = r.line;
      more = r.more;
      parts = ap (λ l. line ∷ l) r.parts;
      texts = ap (λ l. l ∷ map line_text r.front) (same_head e) ∙ ap (λ l. first ∷ l) r.texts;
      text = r.text;
      each = (h.0, r.each);
      is = r.is;
    }

in_body : (sig : List RawLine) (draft : Draft) (bytes : List ℕ) → IsRawSig sig → (h : HasReading ((head_text ∷ (map line_spelling sig ++ body_lines draft)) ++ bytes ∷ []))
    → StandsIn (read_of (d.Over h.cert.pools h.cert.entries h.cert.trees)) (body_lines draft) bytes
in_body sig draft bytes s h =
    let body = read_of (d.Over h.cert.pools h.cert.entries h.cert.trees) in
    let q = one_front start h.cert.sig sig (map line_text body) (body_lines draft ++ bytes ∷ h.more) (whole_of h.cert.sig h.spelled.sig) (whole_of sig s)
    (all_behind (map line_spelling sig ++ body_lines draft) bytes h ∙ append_assoc (map line_spelling sig) (body_lines draft) (bytes ∷ h.more)) in
    stands_in body (body_lines draft) bytes h.more (body_valid h.cert h.spelled) q.1

pub line_stuck : (sig : List RawLine) (draft : Draft) (bytes : List ℕ) → IsRawSig sig → LineRead bytes None → HasReading ((head_text ∷ (map line_spelling sig ++ body_lines draft)) ++ bytes ∷ []) → ⊥
line_stuck sig draft bytes s none h = let q = in_body sig draft bytes s h in none q.line q.is q.text

pub draft_stuck : (sig : List RawLine) (draft : Draft) (line : CertLine) (bytes : List ℕ) → IsRawSig sig → IsReached draft → IsCertLine line → line_text line ≡ bytes → with_line draft line ≡ None
    → HasReading ((head_text ∷ (map line_spelling sig ++ body_lines draft)) ++ bytes ∷ []) → ⊥
draft_stuck sig draft line bytes s reached is text none h =
    let q = in_body sig draft bytes s h in
    let f = one_cert_lines q.front (read_of draft) q.each reached.each q.texts in
    let l = one_cert_line q.line line q.is is (q.text ∙ sym text) in
    let over = d.Over h.cert.pools h.cert.entries h.cert.trees in
    let e : Some over ≡ None =
    sym (cert_runs h.cert.pools h.cert.entries h.cert.trees h.spelled.pools h.spelled.trees) ∙ ap (runs (Some d.Start)) q.parts ∙ runs_append (Some d.Start) q.front (q.line ∷ q.more)
    ∙ ap (λ ls. runs (runs (Some d.Start) ls) (q.line ∷ q.more)) f ∙ ap (λ o. runs o (q.line ∷ q.more)) reached.steps ∙ ap (λ z. runs (with_line draft z) q.more) l ∙ ap (λ o. runs o q.more) none
    ∙ runs_none q.more in absurd cc

pub reached_more : (before next : Draft) (line : CertLine) → IsReached before → IsCertLine line → with_line before line ≡ Some next → IsDraft next → read_of next ≡ read_of before ++ line ∷ [] → IsReached next
reached_more before next line h is w draft read = record {
  is = draft;
  each = subst (AllByRecursion IsCertLine) (sym read) (all_more CertLine IsCertLine (read_of before) line h.each is);
  steps = ap (runs (Some d.Start)) read ∙ runs_append (Some d.Start) (read_of before) (line ∷ []) ∙ ap (λ o. runs o (line ∷ [])) h.steps ∙ w;
}
