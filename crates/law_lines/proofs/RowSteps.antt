-- Steps of the readers of rows.
use Rattle.std.proofs.Common.{◌≡◌, ℕ, ◌+◌, ◌<◌, ◌≤◌, Bool, true, false, ◌&&◌, ◌||◌, List, [], ◌∷◌, ◌++◌, refl, ap, sym, subst, ◌∙◌, arith, sum, nat_lt, nat_le}
use Rattle.std.proofs.lemmas.Bool.Decides.{nat_tests}
use Rattle.law_lines.specs.Pieces.{pieces}
use Rattle.law_lines.specs.Pieces.Piece.{space, opening, closing, word}
use Rattle.law_lines.specs.declared.token.Token.TheVariants as t
use Rattle.law_lines.specs.declared.raw.RawHead.{RawHead}
use Rattle.law_lines.specs.declared.raw.RawTerm.{RawTerm}
use Rattle.law_lines.specs.declared.raw.RawTerm.TheFolds.{fold-roll-RawTerm}
use Rattle.law_lines.specs.declared.raw.RawTerm.TheViews.{roll-RawTerm}
use Rattle.law_lines.specs.declared.want.Want.TheVariants as w
use Rattle.law_lines.specs.declared.want.Bounds.TheVariants.{Kept}
use Rattle.law_lines.specs.declared.want.Place.{Place}
use Rattle.law_lines.specs.declared.want.Row.{Row}
use Rattle.law_lines.specs.declared.want.Row.TheVariants as r
use Rattle.law_lines.specs.declared.want.Ending.{Ending}
use Rattle.law_lines.specs.declared.want.Ending.TheVariants as e
use Rattle.law_lines.specs.Spelling.{arg_spelling, arg_step, head_spelling}
use Rattle.law_lines.specs.Terms.{nodes_fit, node_fits, node_count, depth, head_fits, largest}
use Rattle.law_lines.specs.Walk.{walk, before_item, item_place, mark_text, ends, end_fault, is_mark, is_atom, is_item, may_come, may_open, item_moved}
use Rattle.law_lines.specs.Reads.{Took, Ended}
use Rattle.law_lines.specs.Rows.{RowEnds, RowGoes, MarkRead, ItemRead, BracketRead, HasRoom, IsTermRow, AtomRead}
use Rattle.law_lines.proofs.Walks.{goes_on, walk_nil}
use Rattle.law_lines.proofs.Parts.{same_bytes}

pub both : (a b : Bool) → (a && b) ≡ true → (a ≡ true) × (b ≡ true)
both true true h = (refl, refl)
both true false h = absurd cc
both false b h = absurd cc

pub row_goes : (nodes : ℕ) (row : Row) (level count : ℕ) (ending : Ending) (old new : List ℕ) → Took nodes (w.Row row level count ending) old new t.Space
    → RowGoes nodes row level count ending old new
row_goes nodes row level count ending old new took =
    record { text = took.text; walked = goes_on nodes (w.Row row level count ending) old new space took.first took.taken }

pub row_closed : (nodes : ℕ) (row : Row) (level count : ℕ) (ending : Ending) (old new : List ℕ) → Took nodes (w.Row row level count ending) old new t.Close
    → RowEnds nodes row level count ending old new
row_closed nodes row level count e.Line old new took = let h = took.taken in absurd cc
row_closed nodes row level count (e.Mark mark) old new took = let h = took.taken in absurd cc
row_closed nodes row level count e.Bracket old new took = record {
  text = took.text;
  walked = goes_on nodes (w.Row row level count e.Bracket) old new closing took.first took.taken;
  some = positive count took.taken;
}
  where
    positive : (n : ℕ) → nat_lt 0 n ≡ true → 0 < n
    positive n h = grind (arith, nat_tests)

pub row_at_end : (nodes : ℕ) (row : Row) (level count : ℕ) (ending : Ending) (old new : List ℕ) → Ended (w.Row row level count ending) old new
    → RowEnds nodes row level count ending old new
row_at_end nodes row level count e.Bracket old new ended = let h = ended.may in absurd cc
row_at_end nodes row level count (e.Mark mark) old new ended = let h = ended.may in absurd cc
row_at_end nodes row level count e.Line old new ended = record {
  text = ended.all ∙ sym ended.none;
  walked = λ rest. ap (λ l. walk nodes (w.Row row level count e.Line ∷ rest) (pieces l)) ended.all
      ∙ walk_nil Kept nodes (w.Row row level count e.Line ∷ rest) ∙ ap (λ b. end_fault (b && ends rest)) ended.may
      ∙ sym (walk_nil Kept 0 rest) ∙ ap (λ l. walk 0 rest (pieces l)) (sym ended.none);
  some = ended.may;
}

pub ruleset row_steps = (row_goes, row_closed, row_at_end)

-- a bracket may open here, so the counts are low enough for it
may_open_low : (nodes : ℕ) (row : Row) (level count : ℕ) → IsTermRow row level → may_open Kept nodes row level count ≡ true
    → (before_item row nodes ≤ 4094) × (level + 1 ≤ 256) × HasRoom row count
may_open_low nodes r.Sorts level count row h = absurd row
may_open_low nodes r.Names level count row h = absurd row
may_open_low nodes (r.Args place) level count row h =
    let a = both (nat_lt count 8) (nat_lt nodes 4095 && nat_lt level 256) h in
    let b = both (nat_lt nodes 4095) (nat_lt level 256) a.1 in
    (low nodes 4095 b.0, lower level b.1, less count a.0)
  where
    low : (n m : ℕ) → nat_lt n 4095 ≡ true → n ≤ 4094
    low n m h = grind (arith, nat_tests)

    lower : (n : ℕ) → nat_lt n 256 ≡ true → n + 1 ≤ 256
    lower n h = grind (arith, nat_tests)

    less : (n : ℕ) → nat_lt n 8 ≡ true → n < 8
    less n h = grind (arith, nat_tests)
may_open_low nodes r.Values level count row h = (omega arith, omega arith, tt)

pub opens_low : (nodes : ℕ) (row : Row) (level count : ℕ) (ending : Ending) (old new : List ℕ) → IsTermRow row level
    → Took nodes (w.Item row level count ending) old new t.Open → (before_item row nodes ≤ 4094) × (level + 1 ≤ 256)
opens_low nodes row level count ending old new is_row took = let l = may_open_low nodes row level count is_row took.taken in (l.0, l.1)

pub item_opened : (nodes : ℕ) (row : Row) (level count : ℕ) (ending : Ending) (old mid new : List ℕ) (term : RawTerm) (more : ℕ) → IsTermRow row level
    → Took nodes (w.Item row level count ending) old mid t.Open → BracketRead (before_item row nodes) (item_place row) (level + 1) mid new term more
    → ItemRead nodes row level count ending old new term more
item_opened nodes row level count ending old mid new term more is_row took read = record {
  text = took.text ∙ read.text;
  walked = λ rest. goes_on nodes (w.Item row level count ending) old mid opening took.first took.taken rest
      ∙ read.walked (w.Row row level (count + 1) ending ∷ rest);
  fits = record { each = read.each; count = read.count; few = read.few; deep = (let d = read.deep in omega arith) };
  room = (may_open_low nodes row level count is_row took.taken).2;
}

pub mark_read : (nodes : ℕ) (row : Row) (level count : ℕ) (ending : Ending) (old new bytes : List ℕ) → pieces old ≡ word bytes ∷ pieces new → old ≡ bytes ++ new
    → (is_mark ending bytes || (may_come Kept nodes row level count && is_item Kept row bytes)) ≡ true → is_mark ending bytes ≡ true → MarkRead nodes row level count ending old new
mark_read nodes row level count e.Line old new bytes first text taken h = absurd cc
mark_read nodes row level count e.Bracket old new bytes first text taken h = absurd cc
mark_read nodes row level count (e.Mark mark) old new bytes first text taken h = record {
  text = ap (λ l. 32 ∷ l) (text ∙ ap (λ l. l ++ new) (same_bytes bytes (mark_text mark) h));
  walked = λ rest. goes_on nodes (w.Item row level count (e.Mark mark)) old new (word bytes) first taken rest
      ∙ ap (λ b. walk (item_moved b nodes row level count (e.Mark mark) rest).nodes (item_moved b nodes row level count (e.Mark mark) rest).wants (pieces new)) h;
  some = tt;
}

-- an atom that is taken as an item
pub taken_item : (a b : Bool) → (a || b) ≡ true → a ≡ false → b ≡ true
taken_item true b h n = absurd cc
taken_item false b h n = h

item_low : (nodes : ℕ) (row : Row) (level count : ℕ) → IsTermRow row level → may_come Kept nodes row level count ≡ true
    → (before_item row nodes + 1 ≤ 4096) × (level + 1 ≤ 257) × HasRoom row count
item_low nodes r.Sorts level count row h = absurd row
item_low nodes r.Names level count row h = absurd row
item_low nodes (r.Args place) level count row h =
    let a = both (nat_lt count 8) (nat_lt nodes 4096 && nat_le level 256) h in
    let b = both (nat_lt nodes 4096) (nat_le level 256) a.1 in
    (low nodes b.0, lower level b.1, less count a.0)
  where
    low : (n : ℕ) → nat_lt n 4096 ≡ true → n + 1 ≤ 4096
    low n h = grind (arith, nat_tests)

    lower : (n : ℕ) → nat_le n 256 ≡ true → n + 1 ≤ 257
    lower n h = grind (arith, nat_tests)

    less : (n : ℕ) → nat_lt n 8 ≡ true → n < 8
    less n h = grind (arith, nat_tests)
item_low nodes r.Values level count row h = (omega arith, omega arith, tt)

item_atom : (row : Row) (level : ℕ) (bytes : List ℕ) → IsTermRow row level → is_item Kept row bytes ≡ true → is_atom Kept (item_place row) bytes ≡ true
item_atom r.Sorts level bytes row h = absurd row
item_atom r.Names level bytes row h = absurd row
item_atom (r.Args place) level bytes row h = h
item_atom r.Values level bytes row h = h

pub word_is_atom : (nodes : ℕ) (row : Row) (level count : ℕ) (ending : Ending) (bytes : List ℕ) → IsTermRow row level
    → (is_mark ending bytes || (may_come Kept nodes row level count && is_item Kept row bytes)) ≡ true → is_mark ending bytes ≡ false → is_atom Kept (item_place row) bytes ≡ true
word_is_atom nodes row level count ending bytes is_row taken h =
    item_atom row level bytes is_row (both (may_come Kept nodes row level count) (is_item Kept row bytes) (taken_item _ _ taken h)).1

pub leaf_fits : (place : Place) (head : RawHead) → head_fits Kept place head true ≡ true → nodes_fit Kept place (roll-RawTerm (record { head = head; args = [] })) ≡ true
leaf_fits place head h = fold-roll-RawTerm Bool (node_fits Kept place) (record { head = head; args = [] }) ∙ ap (λ b. b && true) h

pub leaf_text : (head : RawHead) → arg_spelling (roll-RawTerm (record { head = head; args = [] })) ≡ head_spelling head
leaf_text head = fold-roll-RawTerm (List ℕ) arg_step (record { head = head; args = [] })

pub leaf_count : (head : RawHead) → node_count (roll-RawTerm (record { head = head; args = [] })) ≡ 1
leaf_count head = fold-roll-RawTerm ℕ (λ term. 1 + sum term.args) (record { head = head; args = [] })

pub leaf_depth : (head : RawHead) → depth (roll-RawTerm (record { head = head; args = [] })) ≡ 1
leaf_depth head = fold-roll-RawTerm ℕ (λ term. 1 + largest term.args) (record { head = head; args = [] })

pub item_word : (nodes : ℕ) (row : Row) (level count : ℕ) (ending : Ending) (old new bytes : List ℕ) (head : RawHead) → IsTermRow row level → pieces old ≡ word bytes ∷ pieces new → old ≡ bytes ++ new
    → (is_mark ending bytes || (may_come Kept nodes row level count && is_item Kept row bytes)) ≡ true → is_mark ending bytes ≡ false → AtomRead Kept (item_place row) bytes head
    → ItemRead nodes row level count ending old new (roll-RawTerm (record { head = head; args = [] })) (before_item row nodes + 1)
item_word nodes row level count ending old new bytes head is_row first text taken h atom =
    let may = (both (may_come Kept nodes row level count) (is_item Kept row bytes) (taken_item _ _ taken h)).0 in
    let l = item_low nodes row level count is_row may in
    record {
      text = text ∙ ap (λ l. l ++ new) (sym atom.text ∙ sym (leaf_text head));
      walked = λ rest. goes_on nodes (w.Item row level count ending) old new (word bytes) first taken rest
          ∙ ap (λ b. walk (item_moved b nodes row level count ending rest).nodes (item_moved b nodes row level count ending rest).wants (pieces new)) h;
      fits = record {
        each = leaf_fits (item_place row) head atom.fits;
        count = ap (λ n. before_item row nodes + n) (sym (leaf_count head));
        few = l.0;
        deep = subst (λ n. level + n ≤ 257) (sym (leaf_depth head)) l.1;
      };
      room = l.2;
    }
