-- What is spelled has no fault.
use Rattle.std.proofs.Common.{◌≡◌, ℕ, ◌<◌, Bool, true, false, List, [], ◌∷◌, ◌++◌, Option, Some, None, refl, ap, sym, ◌∙◌, arith, length, nat_lt}
use Rattle.std.proofs.lemmas.Bool.Decides.{nat_tests}
use Rattle.std.proofs.lemmas.List.{append-nil}
use Rattle.std.specs.List.{list_all, AllByRecursion}
use Rattle.law_lines.specs.Pieces.{is_plain, pieces}
use Rattle.law_lines.specs.declared.raw.RawLine.{RawLine}
use Rattle.law_lines.specs.declared.error.ReadKind.{ReadKind}
use Rattle.law_lines.specs.declared.stage.Version.{Version}
use Rattle.law_lines.specs.declared.stage.Key.{Key}
use Rattle.law_lines.specs.declared.stage.Key.TheVariants as key
use Rattle.law_lines.specs.declared.want.Want.TheVariants as w
use Rattle.law_lines.specs.declared.want.Bounds.TheVariants.{Kept}
use Rattle.law_lines.specs.declared.want.Place.TheVariants as p
use Rattle.law_lines.specs.Spelling.{joined, line_spelling, line_words, spaced}
use Rattle.law_lines.specs.Lines.{IsLine}
use Rattle.law_lines.specs.Stages.{allows_last_key}
use Rattle.law_lines.specs.Walk.{walk, kind_in_order}
use Rattle.law_lines.specs.Faults.{is_closed_by, is_printed, is_spaced, spaces_fit}
use Rattle.law_lines.specs.Laws.{SpelledIsRead}
use Rattle.law_lines.proofs.RowSteps.{both}
use Rattle.law_lines.proofs.Clean.{IsClean, clean_arg, clean_name, clean_number, clean_spaced, clean_term, clean_word, is_graphic, printed_append}
use Rattle.law_lines.proofs.LineWords.{Covers, words_hold}
use Rattle.law_lines.proofs.AgainLines.{line_on}

positive : (n : ℕ) → nat_lt 0 n ≡ true → 0 < n
positive n h = grind (arith, nat_tests)

cleans : Covers IsClean
cleans = record {
  text = λ bytes h. let q = both (nat_lt 0 (length bytes)) _ h in clean_word bytes (positive (length bytes) q.0) (both (list_all is_graphic bytes) (list_all is_plain bytes) q.1).0;
  number = clean_number;
  name = clean_name;
  arg = λ term h. clean_arg term p.Value h.nodes;
  term = clean_term;
}

pub clean_words : (line : RawLine) → IsLine Kept line → AllByRecursion IsClean (line_words line)
clean_words line h = words_hold IsClean cleans line h

spaced_of : (bytes : List ℕ) → spaces_fit true bytes ≡ true → is_spaced bytes ≡ true
spaced_of [] h = refl
spaced_of (b ∷ bytes) h = h

pub clean_joined : (words : List (List ℕ)) → AllByRecursion IsClean words → (list_all is_printed (joined words) ≡ true) × (is_spaced (joined words) ≡ true)
clean_joined [] h = (refl, refl)
clean_joined (x ∷ words) h = let s = clean_spaced words h.1 in (
  printed_append x (spaced words) h.0.printed s.0,
  spaced_of (x ++ spaced words) (h.0.spaces true (spaced words) ∙ ap (λ l. spaces_fit false l) (sym (append-nil (spaced words))) ∙ s.1 []),
)

not_closed : (version : Version) (given : Bool) (last : Option Key) (k : Key) → allows_last_key version given last k ≡ true → is_closed_by last ≡ false
not_closed version given None k h = refl
not_closed version given (Some key.End) k h = absurd cc
not_closed version given (Some key.Signature) k h = refl
not_closed version given (Some key.Vars) k h = refl
not_closed version given (Some key.Size) k h = refl
not_closed version given (Some key.Width) k h = refl
not_closed version given (Some key.Budget) k h = refl
not_closed version given (Some key.Pairs) k h = refl
not_closed version given (Some key.Pools) k h = refl
not_closed version given (Some key.Sort) k h = refl
not_closed version given (Some key.Con) k h = refl
not_closed version given (Some key.Fun) k h = refl
not_closed version given (Some key.Match) k h = refl
not_closed version given (Some key.Body) k h = refl
not_closed version given (Some key.Case) k h = refl
not_closed version given (Some key.Explore) k h = refl
not_closed version given (Some key.Background) k h = refl
not_closed version given (Some key.Pool) k h = refl
not_closed version given (Some key.Values) k h = refl

pub in_order : (a b c : Bool) (fault : Option ReadKind) → a ≡ true → b ≡ true → c ≡ false → fault ≡ None → kind_in_order a b c fault ≡ None
in_order a b c fault x y z h = ap (λ t. kind_in_order t b c fault) x ∙ ap (λ t. kind_in_order true t c fault) y ∙ ap (λ t. kind_in_order true true t fault) z ∙ h

pub line_read_law : SpelledIsRead
line_read_law stage line a v h =
    let c = clean_joined (line_words line) (clean_words line h) in
    in_order (list_all is_printed (line_spelling line)) (is_spaced (line_spelling line)) (is_closed_by stage.last) (walk 0 (w.Key stage ∷ []) (pieces (line_spelling line)))
    c.0 c.1 (not_closed stage.version stage.given stage.last _ a) (line_on Kept stage line a v h)
