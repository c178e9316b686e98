-- What the readers of whole texts say, from where they stop.
use Rattle.std.proofs.Common.{◌≡◌, ℕ, false, List, [], ◌∷◌, Some, None, refl, ap, sym, ◌∙◌}
use Rattle.std.specs.List.{list_all}
use Rattle.law_lines.specs.Pieces.{pieces}
use Rattle.law_lines.specs.declared.raw.RawLine.{RawLine}
use Rattle.law_lines.specs.declared.raw.RawTerm.{RawTerm}
use Rattle.law_lines.specs.declared.error.ReadErr.{ReadErr}
use Rattle.law_lines.specs.declared.error.ReadErr.TheVariants as error
use Rattle.law_lines.specs.declared.error.ReadKind.{ReadKind}
use Rattle.law_lines.specs.declared.want.Bounds.TheVariants.{Kept}
use Rattle.law_lines.specs.declared.want.Ending.TheVariants as e
use Rattle.law_lines.specs.declared.want.Place.TheVariants as p
use Rattle.law_lines.specs.declared.want.Want.TheVariants as w
use Rattle.law_lines.specs.Spelling.{joined, sig_spelling, term_spelling, term_words}
use Rattle.law_lines.specs.Terms.{IsTerm}
use Rattle.law_lines.specs.Signature.{IsRawSig}
use Rattle.law_lines.specs.Walk.{walk, term_fault}
use Rattle.law_lines.specs.Faults.{is_printed, is_spaced}
use Rattle.law_lines.specs.Texts.{IsReadAs, RefusedBy, TermRefused, TermTaken}
use Rattle.law_places.specs.Laws.{OneTermFault}
use Rattle.law_places.specs.Progress.{StoppedBy, TermFound}
use Rattle.law_lines.proofs.Again.{gap_on}
use Rattle.law_lines.proofs.AgainLines.{root_end}
use Rattle.law_lines.proofs.Clean.{clean_term}
use Rattle.law_lines.proofs.CleanLines.{clean_joined, in_order}
use Rattle.law_places.proofs.FirstFaults.{first_fault, refused_law}
use Rattle.law_lines.proofs.OneTerm.{one_term_law}
use Rattle.law_places.proofs.PlacesFound.{one_term_kind, term_kind}
use Rattle.law_lines.proofs.Whole.{one_text_law}

pub read_as : (text : List ℕ) (lines : List RawLine) → IsRawSig lines → sig_spelling lines ≡ text → IsReadAs text lines
read_as text lines sig e = record { signature = sig; spelled = e; only = λ others s f. one_text_law others lines s sig (f ∙ sym e) }

pub refused_by : (text : List ℕ) (why : ReadErr) → StoppedBy text why → RefusedBy text why
refused_by text (error.Form number kind) s =
    let f = first_fault text number kind s in record { none = refused_law text number kind f; fault = f }
refused_by text error.NoMemory s = tt

pub ruleset text_steps = (read_as, refused_by)

-- a term that is spelled has no fault
term_read : (term : RawTerm) → IsTerm Kept p.Equation term → term_fault (term_spelling term) ≡ None
term_read term h =
    let c = clean_joined (term_words term) (clean_term p.Equation term h) in
    in_order (list_all is_printed (term_spelling term)) (is_spaced (term_spelling term)) false (walk 0 (w.Root p.Equation e.Line ∷ []) (pieces (term_spelling term)))
    c.0 c.1 refl (sym (gap_on Kept 0 (w.Root p.Equation e.Line ∷ []) (joined (term_words term))) ∙ root_end Kept p.Equation term h)

pub term_taken : (bytes : List ℕ) (term : RawTerm) → TermFound bytes term → TermTaken bytes term
term_taken bytes term f = record { is_term = f.is_term; text = f.text; only = λ other h g. one_term_law p.Equation other term h f.is_term (g ∙ sym f.text) }

pub term_refused : (bytes : List ℕ) (kind : ReadKind) → term_fault bytes ≡ Some kind → TermRefused bytes 1 kind
term_refused bytes kind f = record { none = λ term h g. let n = term_read term h in let m = ap term_fault g in cc; first = refl; kind = term_kind bytes kind f }

pub one_term_fault : OneTermFault
one_term_fault bytes number other kind why f g = (f.first ∙ sym g.first, one_term_kind bytes kind why f.kind g.kind)

pub ruleset term_steps = (term_taken, term_refused)
