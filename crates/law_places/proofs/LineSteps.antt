-- Whole lines.
use Rattle.std.proofs.Common.{◌≡◌, ℕ, ◌<◌, ◌≤◌, Bool, true, false, ◌||◌, List, [], ◌∷◌, ◌++◌, Some, refl, ap, sym, subst, ◌∙◌, arith, length, nat_lt, nat_le, codes}
use Rattle.std.proofs.lemmas.Bool.Decides.{nat_tests}
use Rattle.std.proofs.lemmas.List.{append-nil}
use Rattle.std.specs.Str.{bytes_eq}
use Rattle.law_lines.specs.Pieces.{pieces}
use Rattle.law_lines.specs.Pieces.Piece.{word}
use Rattle.law_lines.specs.declared.raw.RawTerm.{RawTerm}
use Rattle.law_lines.specs.declared.raw.RawLine.{RawLine}
use Rattle.law_lines.specs.declared.error.Stop.{Stop}
use Rattle.law_lines.specs.declared.stage.Key.{Key}
use Rattle.law_lines.specs.declared.stage.Stage.{Stage}
use Rattle.law_lines.specs.declared.want.Want.TheVariants as w
use Rattle.law_lines.specs.declared.want.Row.TheVariants as r
use Rattle.law_lines.specs.declared.want.Ending.TheVariants as e
use Rattle.law_lines.specs.declared.want.Bounds.TheVariants.{Kept}
use Rattle.law_lines.specs.Terms.{node_count, depth}
use Rattle.law_lines.specs.Lines.{AreValues}
use Rattle.law_lines.specs.Stages.{allows, key_text}
use Rattle.law_lines.specs.Walk.{walk, all_keys, chosen_key, key_in, key_of, allows_found, wants_found, line_wants, pools_wants}
use Rattle.law_lines.specs.Reads.{Stops, TookWord, Reads}
use Rattle.law_lines.specs.Rows.{AllFit, RowRead}
use Rattle.law_places.specs.LineReads.{LineRead, RestRead, RuleRead, ValuesRead, rule_text}
use Rattle.law_lines.proofs.Walks.{goes_on}
use Rattle.law_lines.proofs.Parts.{same_bytes}
use Rattle.law_places.proofs.RowWhole.{stops_later}

pub version_read : (old new bytes : List ℕ) → TookWord 0 w.Version old new bytes → Reads w.Version old new bytes
version_read old new bytes took = record { text = took.text; walked = goes_on 0 w.Version old new (word bytes) took.first took.taken }

rule_is : (a b : Bool) (bytes : List ℕ) → bytes_eq bytes (codes "given") ≡ a → bytes_eq bytes (codes "seed") ≡ b → (a || b) ≡ true → bytes ≡ rule_text a
rule_is true b bytes e f h = same_bytes bytes (codes "given") e
rule_is false true bytes e f h = same_bytes bytes (codes "seed") f
rule_is false false bytes e f h = absurd cc

pub rule_read : (old new bytes : List ℕ) (given : Bool) → TookWord 0 w.Pools old new bytes → given ≡ bytes_eq bytes (codes "given") → RuleRead old new given
rule_read old new bytes given took e = record {
  text = took.text ∙ ap (λ l. l ++ new) (rule_is (bytes_eq bytes (codes "given")) (bytes_eq bytes (codes "seed")) bytes refl refl took.taken ∙ ap rule_text (sym e));
  walked = goes_on 0 w.Pools old new (word bytes) took.first took.taken []
      ∙ ap (λ l. walk 0 l (pieces new)) (append-nil (pools_wants (bytes_eq bytes (codes "given")))) ∙ ap (λ b. walk 0 (pools_wants b) (pieces new)) (sym e);
}

low_test : (n k : ℕ) → n ≤ k → nat_le n k ≡ true
low_test n k h = grind (arith, nat_tests)

-- each value is a term by itself
pub values_fit : (nodes : ℕ) (terms : List RawTerm) (more : ℕ) → AllFit r.Values 1 nodes terms more → AreValues Kept terms
values_fit nodes [] more h = tt
values_fit nodes (term ∷ terms) more h = (
  record {
    nodes = h.1.each;
    size = let a = h.1.count in let b = h.1.few in low_test (node_count term) 4096 (omega arith);
    deep = let a = h.1.deep in low_test (depth term) 256 (omega arith);
  },
  values_fit h.0 terms more h.2,
)

pub some_values : (n : ℕ) → nat_lt 0 n ≡ true → 0 < n
some_values n h = grind (arith, nat_tests)

pub values_read : (old new : List ℕ) (terms : List RawTerm) (more : ℕ) → RowRead 0 r.Values 1 e.Line old new terms more → ValuesRead old new terms
values_read old new terms more row = record { text = row.text; walked = row.walked; each = values_fit 0 terms more row.fits; some = some_values (length terms) row.some }

pub ruleset line_steps = (stops_later)

-- the key that a word is
key_is_by : (ks : List Key) (bytes : List ℕ) (k key : Key) (b : Bool) → bytes_eq bytes (key_text k) ≡ b → chosen_key b k (key_in ks bytes) ≡ Some key
    → (key_in ks bytes ≡ Some key → bytes ≡ key_text key) → bytes ≡ key_text key
key_is_by ks bytes k key true e h next = same_bytes bytes (key_text k) e ∙ ap key_text (some_key k key h)
  where
    some_key : (k key : Key) → Some k ≡ Some key → k ≡ key
    some_key k key h = cc
key_is_by ks bytes k key false e h next = next h

key_is_in : (ks : List Key) (bytes : List ℕ) (key : Key) → key_in ks bytes ≡ Some key → bytes ≡ key_text key
key_is_in [] bytes key h = absurd cc
key_is_in (k ∷ ks) bytes key h = key_is_by ks bytes k key (bytes_eq bytes (key_text k)) refl h (key_is_in ks bytes key)

pub key_is : (bytes : List ℕ) (key : Key) → key_of bytes ≡ Some key → bytes ≡ key_text key
key_is bytes key h = key_is_in all_keys bytes key h

key_walk : (stage : Stage) (old mid first : List ℕ) (key : Key) → TookWord 0 (w.Key stage) old mid first → key_of first ≡ Some key
    → walk 0 (w.Key stage ∷ []) (pieces old) ≡ walk 0 (line_wants stage.version key) (pieces mid)
key_walk stage old mid first key took e =
    goes_on 0 (w.Key stage) old mid (word first) took.first took.taken []
    ∙ ap (λ k. walk 0 (wants_found stage k ++ []) (pieces mid)) e ∙ ap (λ l. walk 0 l (pieces mid)) (append-nil (line_wants stage.version key))

pub line_read : (stage : Stage) (bytes old mid first : List ℕ) (key : Key) (raw : RawLine) → old ≡ bytes → TookWord 0 (w.Key stage) old mid first → Some key ≡ key_of first
    → RestRead stage.version key mid raw → LineRead stage bytes raw
line_read stage bytes old mid first key raw same took e read = record {
  text = read.text ∙ ap (λ l. l ++ mid) (sym (key_is first key (sym e))) ∙ sym took.text ∙ same;
  walked = ap (λ l. walk 0 (w.Key stage ∷ []) (pieces l)) (sym same) ∙ key_walk stage old mid first key took (sym e) ∙ read.walked;
  spelled = read.spelled;
  allowed = subst (λ k. allows stage k ≡ true) (sym read.begun) (subst (λ o. allows_found stage o ≡ true) (sym e) took.taken);
  form = read.form;
}

pub line_stops : (stage : Stage) (bytes old mid first : List ℕ) (key : Key) (stop : Stop) → old ≡ bytes → TookWord 0 (w.Key stage) old mid first → Some key ≡ key_of first
    → Stops stop (walk 0 (line_wants stage.version key) (pieces mid)) → Stops stop (walk 0 (w.Key stage ∷ []) (pieces bytes))
line_stops stage bytes old mid first key stop same took e h =
    stops_later stop _ _ (ap (λ l. walk 0 (w.Key stage ∷ []) (pieces l)) (sym same) ∙ key_walk stage old mid first key took (sym e)) h
