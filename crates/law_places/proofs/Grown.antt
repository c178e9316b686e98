-- One more line behind lines that stand in order.
use Rattle.std.proofs.Common.{◌≡◌, ℕ, Bool, true, List, [], ◌∷◌, ◌++◌, Option, None, Some, inl, inr, ◌⊎◌, refl, ap, sym, subst, ◌∙◌}
use Rattle.std.specs.List.{AllByRecursion}
use Rattle.law_lines.specs.declared.raw.RawLine.{RawLine}
use Rattle.law_lines.specs.declared.error.ReadKind.{ReadKind}
use Rattle.law_lines.specs.declared.want.Bounds.TheVariants.{Kept}
use Rattle.law_lines.specs.declared.stage.Stage.{Stage}
use Rattle.law_lines.specs.Lines.{IsLine}
use Rattle.law_lines.specs.Stages.{allows, line_key, stage_after, IsOfVersion}
use Rattle.law_lines.specs.Stages.{InOrder, start, stage_behind}
use Rattle.law_lines.specs.Faults.{is_closed_by}
use Rattle.law_lines.specs.Walk.{line_fault}
use Rattle.law_lines.proofs.Completes.{reads}
use Rattle.law_places.proofs.FirstFaults.{stuck}
use Rattle.law_places.proofs.PlacesFound.{line_kind}
use Rattle.law_places.specs.Progress.{Finished, NoReading, Progress, Refused, RefusedAt, StoppedBy, StopsAt}
use Rattle.law_lines.specs.Texts.{FirstLine, next_number}
use Rattle.law_lines.specs.Spelling.{sig_spelling}
use Rattle.law_lines.specs.declared.error.ReadErr.{ReadErr}
use Rattle.law_lines.specs.declared.error.ReadErr.TheVariants as error
use Rattle.law_places.specs.Progress.{IsProgress, LineTaken, Added}
use Rattle.law_lines.specs.Signature.{IsRawSig}
use Rattle.law_lines.proofs.Orders.{in_order_spelled, is_end}

stage_more : (stage : Stage) (lines : List RawLine) (line : RawLine) → stage_behind stage (lines ++ line ∷ []) ≡ stage_after (stage_behind stage lines) line
stage_more stage [] line = refl
stage_more stage (first ∷ lines) line = stage_more (stage_after stage first) lines line

order_more : (stage : Stage) (lines : List RawLine) (line : RawLine) → InOrder stage lines → allows (stage_behind stage lines) (line_key line) ≡ true
    → IsOfVersion (stage_behind stage lines).version line → InOrder stage (lines ++ line ∷ [])
order_more stage [] line h a v = (a, v, tt)
order_more stage (first ∷ lines) line h a v = (h.0, h.1, order_more (stage_after stage first) lines line h.2 a v)

each_more : (lines : List RawLine) (line : RawLine) → AllByRecursion (IsLine Kept) lines → IsLine Kept line → AllByRecursion (IsLine Kept) (lines ++ line ∷ [])
each_more [] line h g = (g, tt)
each_more (first ∷ lines) line h g = (h.0, each_more lines line h.1 g)

pub grown : (stage next : Stage) (lines pushed : List RawLine) (line : RawLine) (bytes : List ℕ) → IsProgress stage lines → LineTaken stage bytes line
    → next ≡ stage_after stage line → pushed ≡ lines ++ line ∷ [] → IsProgress next pushed
grown stage next lines pushed line bytes so taken e is = subst (λ l. IsProgress next l) (sym is) (record {
  here = e ∙ ap (λ s. stage_after s line) so.here ∙ sym (stage_more start lines line);
  order = order_more start lines line so.order (subst (λ s. allows s (line_key line) ≡ true) so.here taken.read.allowed) (subst (λ s. IsOfVersion s.version line) so.here taken.read.form);
  each = each_more lines line so.each taken.read.spelled;
})

pub added : (stage next : Stage) (lines pushed : List RawLine) (refused : Option (ℕ × ReadKind)) (line : RawLine) (bytes : List ℕ) (done : Bool) → IsProgress stage lines → LineTaken stage bytes line
    → next ≡ stage_after stage line → pushed ≡ lines ++ line ∷ [] → refused ≡ None → done ≡ is_closed_by next.last
    → Added (record { lines = lines; refused = refused }) (record { lines = pushed; refused = refused }) bytes done
added stage next lines pushed refused line bytes done so taken e is none closed = record {
  before = none;
  after = none;
  line = line;
  lines = is;
  text = taken.read.text;
  order = (grown stage next lines pushed line bytes so taken e is).order;
  each = (grown stage next lines pushed line bytes so taken e is).each;
  closed = closed ∙ ap (λ s. is_closed_by s.last) (grown stage next lines pushed line bytes so taken e is).here;
  reads = let g = grown stage next lines pushed line bytes so taken e is in reads pushed g.order g.each;
}

-- lines that are over are a signature
pub whole : (stage : Stage) (lines : List RawLine) → IsProgress stage lines → is_closed_by stage.last ≡ true → IsRawSig lines
whole stage lines so closed = record {
  order = in_order_spelled lines so.order (ap (λ s. s.last) (sym so.here) ∙ is_end stage.last closed);
  each = so.each;
}

-- a line with a fault has no reading behind the lines so far
pub no_reading : (stage : Stage) (lines : List RawLine) (bytes : List ℕ) (kind : ReadKind) → IsProgress stage lines → line_fault stage bytes ≡ Some kind → NoReading lines bytes kind
no_reading stage lines bytes kind so e =
    let f = subst (λ s. line_fault s bytes ≡ Some kind) so.here e in record { stuck = stuck lines bytes kind so.order so.each f; kind = line_kind lines bytes kind so.order so.each f; fault = f }

pub refused_now : (lines : List RawLine) (refused : Option (ℕ × ReadKind)) (bytes : List ℕ) (number : ℕ) (kind : ReadKind) → NoReading lines bytes kind → refused ≡ None → number ≡ next_number lines
    → RefusedAt (record { lines = lines; refused = refused }) (record { lines = lines; refused = Some (number, kind) }) bytes number kind
refused_now lines refused bytes number kind h none next = record { lines = refl; kept = refl; why = inr (none, next, h) }

-- The reader of a text stops where a line is refused.
pub stops_at : (text rest line behind : List ℕ) (old new : Progress) (why : ReadErr) → text ≡ sig_spelling old.lines ++ rest → old.refused ≡ None → InOrder start old.lines
    → AllByRecursion (IsLine Kept) old.lines → FirstLine rest line behind → Refused old new line why → StoppedBy text why
stops_at text rest line behind old new error.NoMemory parts going order each first refused = tt
stops_at text rest line behind old new (error.Form number kind) parts going order each first refused = by refused.why
  where
    by : (old.refused ≡ Some (number, kind)) ⊎ ((old.refused ≡ None) × (number ≡ next_number old.lines) × NoReading old.lines line kind) → StopsAt text number kind
    by (inl e) = absurd (cc)
    by (inr r) = record {
      lines = old.lines;
      left = rest;
      parts = parts;
      order = order;
      each = each;
      next = r.1;
      why = inl (record { line = line; behind = behind; first = first; fault = r.2.fault });
    }

pub finished : (stage : Stage) (lines result : List RawLine) (refused : Option (ℕ × ReadKind)) → IsProgress stage lines → is_closed_by stage.last ≡ true → refused ≡ None → result ≡ lines
    → Finished (record { lines = lines; refused = refused }) result
finished stage lines result refused so closed none e = record { refused = none; same = e; signature = subst IsRawSig (sym e) (whole stage lines so closed) }
