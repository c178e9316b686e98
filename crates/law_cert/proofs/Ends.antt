-- A text that is over too early: its lines are all the lines of no certificate.
use Rattle.std.proofs.Common.{◌≡◌, ℕ, false, List, [], ◌∷◌, ◌++◌, Some, inr, refl, ap, sym, subst, ◌∙◌, map}
use Rattle.std.specs.List.{AllByRecursion}
use Rattle.law_lines.specs.declared.raw.RawLine.{RawLine}
use Rattle.law_lines.specs.declared.stage.Stage.{Stage}
use Rattle.law_lines.specs.declared.want.Bounds.TheVariants.{Kept}
use Rattle.law_lines.specs.Faults.{is_closed_by}
use Rattle.law_lines.specs.Lines.{IsLine}
use Rattle.law_places.specs.Progress.{Progress}
use Rattle.law_lines.specs.Spelling.{line_spelling}
use Rattle.law_lines.specs.Stages.{InOrder, line_key, stage_after, stage_behind, start}
use Rattle.law_lines.proofs.OneLine.{one_line}
use Rattle.law_lines.proofs.Whole.{IsWholeFrom, whole_of}
use Rattle.law_cert_text.specs.declared.cert.Entry.{Entry}
use Rattle.law_cert_text.specs.declared.cert.RawValues.{RawValues}
use Rattle.law_cert_text.specs.declared.cert.SortTree.{SortTree}
use Rattle.law_cert_text.specs.declared.draft.Draft.{Draft}
use Rattle.law_cert_text.specs.declared.draft.Draft.TheVariants as d
use Rattle.law_cert_text.specs.declared.error.CertErr.TheVariants as error
use Rattle.law_cert.specs.declared.phase.Phase.{Phase}
use Rattle.law_cert.specs.declared.phase.Phase.TheVariants as p
use Rattle.law_cert_text.specs.CertLines.{line_text}
use Rattle.law_cert_text.specs.Drafts.{read_of, runs}
use Rattle.law_cert.specs.Finishes.{NotFinished}
use Rattle.law_cert_text.specs.Readers.{body_lines}
use Rattle.law_cert.specs.Phases.{IsPhase, IsSigOpen, phase_lines}
use Rattle.law_cert_text.specs.Readings.{AreAll}
use Rattle.law_cert_text.proofs.OneCert.{body_valid, lines_are, one_front, over}
use Rattle.law_cert_text.proofs.OneCertLine.{one_cert_lines}
use Rattle.law_cert_text.proofs.RunFacts.{cert_runs}
use Rattle.law_cert_text.proofs.Stuck.{not_over, same_behind, same_head}

unclosed : (stage : Stage) (xs ys : List RawLine) (vs : List (List ℕ)) → InOrder stage xs → AllByRecursion (IsLine Kept) xs → is_closed_by (stage_behind stage xs).last ≡ false → IsWholeFrom stage ys
    → map line_spelling ys ++ vs ≡ map line_spelling xs → ⊥
unclosed stage [] [] vs o e n w same = not_over stage n w.1
unclosed stage [] (y ∷ ys) vs o e n w same = absurd cc
unclosed stage (x ∷ xs) [] vs o e n w same = over stage (line_key x) w.1 o.0
unclosed stage (x ∷ xs) (y ∷ ys) vs o e n w same =
    let f = one_line stage.version x y o.1 w.0.1 e.0 w.2.0 (sym (same_head same)) in
    unclosed (stage_after stage x) xs ys vs o.2 e.1 n (subst (λ t. IsWholeFrom t ys) (ap (stage_after stage) (sym f)) (w.0.2, w.1, w.2.1)) (same_behind same)

sig_ends : (reader : Progress) → IsSigOpen reader → AreAll (phase_lines (p.Sig reader)) → ⊥
sig_ends reader h all =
    unclosed start reader.lines all.cert.sig (body_lines (d.Over all.cert.pools all.cert.entries all.cert.trees)) h.order h.each h.unclosed (whole_of all.cert.sig all.spelled.sig)
    (same_behind (sym (lines_are all.cert) ∙ all.same))

pub sig_unfinished : (phase : Phase) (reader : Progress) (line : ℕ) → phase ≡ p.Sig reader → IsPhase phase → NotFinished phase line (error.Form line)
sig_unfinished phase reader line e h = subst (λ x. NotFinished x line (error.Form line)) (sym e) (inr ((refl, refl), refl, sig_ends reader (subst IsPhase e h)))

pub body_ends : (sig : List RawLine) (draft : Draft) → IsPhase (p.Body sig draft) → ((pools : List (List RawValues)) (entries : List Entry) (trees : List SortTree) → draft ≡ d.Over pools entries trees → ⊥)
    → AreAll (phase_lines (p.Body sig draft)) → ⊥
body_ends sig draft h other all =
    let cert = all.cert in
    let body = read_of (d.Over cert.pools cert.entries cert.trees) in
    let q = one_front start cert.sig sig (map line_text body) (body_lines draft) (whole_of cert.sig all.spelled.sig) (whole_of sig h.0) (same_behind (sym (lines_are cert) ∙ all.same)) in
    let l = one_cert_lines body (read_of draft) (body_valid cert all.spelled) h.1.each q.1 in
    let e : Some draft ≡ Some (d.Over cert.pools cert.entries cert.trees) = sym h.1.steps ∙ ap (runs (Some d.Start)) (sym l) ∙ cert_runs cert.pools cert.entries cert.trees all.spelled.pools all.spelled.trees in
    let same : draft ≡ d.Over cert.pools cert.entries cert.trees = cc in
    other cert.pools cert.entries cert.trees same
