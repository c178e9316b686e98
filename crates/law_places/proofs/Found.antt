-- What the walk takes to the end is spelled: rows of names and terms, and terms by themselves.
use Rattle.std.proofs.Common.{◌≡◌, ℕ, zero, suc, ◌+◌, ◌^◌, ◌<◌, ◌≤◌, ◌==◌, Bool, true, false, ◌&&◌, ◌||◌, List, [], ◌∷◌, ◌++◌, Option, Some, None, refl, ap, sym, ◌∙◌, arith, length, decimal, is_some, nat_lt, inl, inr, ◌⊎◌}
use Rattle.std.proofs.lemmas.Bool.{eqb-true}
use Rattle.std.proofs.lemmas.Bool.Decides.{nat_tests}
use Rattle.law_lines.specs.Words.{is_word_of_letters, number_below}
use Rattle.law_lines.specs.Pieces.{FirstPiece, Piece, piece_text, pieces}
use Rattle.law_lines.specs.Pieces.Piece.{space, opening, closing, word}
use Rattle.law_lines.specs.declared.token.Token.TheVariants as t
use Rattle.law_lines.proofs.Numbers.{number_found}
use Rattle.law_lines.specs.declared.raw.RawHead.{RawHead}
use Rattle.law_lines.specs.declared.raw.RawHead.TheVariants.{Name, Var, Param, Field}
use Rattle.law_lines.specs.declared.raw.RawTerm.{RawTerm}
use Rattle.law_lines.specs.declared.want.Want.{Want}
use Rattle.law_lines.specs.declared.want.Want.TheVariants as w
use Rattle.law_lines.specs.declared.want.Bounds.{Bounds}
use Rattle.law_lines.specs.declared.want.Bounds.TheVariants.{Kept}
use Rattle.law_lines.specs.declared.want.Place.{Place}
use Rattle.law_lines.specs.declared.want.Place.TheVariants as p
use Rattle.law_lines.specs.declared.want.Row.{Row}
use Rattle.law_lines.specs.declared.want.Row.TheVariants as r
use Rattle.law_lines.specs.declared.want.Ending.{Ending}
use Rattle.law_lines.specs.declared.want.Ending.TheVariants as e
use Rattle.law_lines.specs.declared.want.Mark.{Mark}
use Rattle.law_lines.specs.Terms.{is_name_in}
use Rattle.law_lines.specs.Walk.{walk, before_item, behind, end_fault, ends, is_atom, is_mark, is_special, is_variable, is_word_want, item_place, mark_text, may_end, may_open, moved, root_moved, takes}
use Rattle.law_lines.specs.Numbers.{cut, is_index}
use Rattle.law_lines.specs.Reads.{Reads, Took, TookWord}
use Rattle.law_lines.specs.Rows.{AtomRead, BehindRead, IsNameRow, IsRootEnding, IsTermRow, ItemRead, NamesRead, NamesSoFar, RootRead, RowEnds, RowGoes, RowRead, RowSoFar, nodes_behind}
use Rattle.law_lines.proofs.Cuts.{variable_read}
use Rattle.law_lines.proofs.Parts.{fixed_read, gap_read}
use Rattle.law_lines.proofs.RowSteps.{both, item_opened, item_word, mark_read, opens_low, row_at_end, row_closed, row_goes, word_is_atom}
use Rattle.law_places.proofs.RowNames.{name_read, names_begin, names_end, names_kept, names_marked, root_leaf, root_named}
use Rattle.law_places.proofs.RowWhole.{bracket_read, one_more, row_begins, row_marked, row_more, row_read}
use Rattle.law_places.proofs.SomeFirst.{some_first}
use Rattle.law_lines.proofs.Walks.{goes_on, no_closing, no_end, no_opening, no_space, stuck, walk_nil}

-- The next piece is one that is taken, or the line may end.
pub record Next (n : ℕ) (want : Want) (rest : List Want) (old : List ℕ) (piece : Piece) : Type 0 where
  pub new : List ℕ
  pub first : pieces old ≡ piece ∷ pieces new
  pub text : old ≡ piece_text piece ++ new
  pub shorter : length new < length old
  pub taken : takes Kept n want piece ≡ true
  pub left : walk (moved n want rest piece).nodes (moved n want rest piece).wants (pieces new) ≡ None

pub record Over (want : Want) (rest : List Want) (old : List ℕ) : Type 0 where
  pub all : old ≡ []
  pub may : may_end want ≡ true
  pub ends : ends rest ≡ true

end_none : (b : Bool) → end_fault b ≡ None → b ≡ true
end_none true h = refl
end_none false h = absurd cc

next_by : (t : Bool) (n : ℕ) (want : Want) (rest : List Want) (old new : List ℕ) (piece : Piece) → takes Kept n want piece ≡ t → FirstPiece old piece new → length new < length old
    → walk n (want ∷ rest) (pieces old) ≡ None → Next n want rest old piece
next_by true n want rest old new piece k f s h = record { new = new; first = f.first; text = f.text; shorter = s; taken = k; left = sym (goes_on n want old new piece f.first k rest) ∙ h }
next_by false n want rest old new piece k f s h = let q = stuck n want old new piece f.first k rest in absurd (cc)

pub next : (n : ℕ) (want : Want) (rest : List Want) (old : List ℕ) → walk n (want ∷ rest) (pieces old) ≡ None → Over want rest old ⊎ ((piece : Piece) × Next n want rest old piece)
next n want rest [] h = let q = both (may_end want) (ends rest) (end_none (may_end want && ends rest) (sym (walk_nil Kept n (want ∷ rest)) ∙ h)) in inl (record { all = refl; may = q.0; ends = q.1 })
next n want rest (b ∷ bs) h =
    let f = some_first b bs in inr (f.piece, next_by (takes Kept n want f.piece) n want rest (b ∷ bs) f.rest f.piece refl f.first f.shorter h)

pub record NextWord (n : ℕ) (want : Want) (rest : List Want) (old : List ℕ) : Type 0 where
  pub bytes : List ℕ
  pub new : List ℕ
  pub took : TookWord n want old new bytes
  pub shorter : length new < length old
  pub left : walk (moved n want rest (word bytes)).nodes (moved n want rest (word bytes)).wants (pieces new) ≡ None

word_of : (n : ℕ) (want : Want) (rest : List Want) (old : List ℕ) (piece : Piece) → is_word_want want ≡ true → Next n want rest old piece → NextWord n want rest old
word_of n want rest old space is x = absurd (no_space n want is x.taken)
word_of n want rest old opening is x = absurd (no_opening n want is x.taken)
word_of n want rest old closing is x = absurd (no_closing n want is x.taken)
word_of n want rest old (word bytes) is x = record { bytes = bytes; new = x.new; took = record { first = x.first; text = x.text; taken = x.taken }; shorter = x.shorter; left = x.left }

pub next_word : (n : ℕ) (want : Want) (rest : List Want) (old : List ℕ) → is_word_want want ≡ true → walk n (want ∷ rest) (pieces old) ≡ None → NextWord n want rest old
next_word n want rest old is h = by (next n want rest old h)
  where
    by : Over want rest old ⊎ ((piece : Piece) × Next n want rest old piece) → NextWord n want rest old
    by (inl o) = absurd (no_end want is o.may)
    by (inr x) = word_of n want rest old x.0 is x.1

-- atoms
index_by : (o : Option ℕ) (bytes : List ℕ) → number_below (2 ^ 32) bytes ≡ o → is_some o ≡ true → (n : ℕ) × (n < 2 ^ 32) × (bytes ≡ decimal n)
index_by None bytes e h = absurd cc
index_by (Some n) bytes e h = let f = number_found (2 ^ 32) n bytes (omega arith) e in (n, f.0, f.1)

index_found : (bytes : List ℕ) → is_index bytes ≡ true → (n : ℕ) × (n < 2 ^ 32) × (bytes ≡ decimal n)
index_found bytes h = index_by (number_below (2 ^ 32) bytes) bytes refl h

abbrev pub Atom : (bounds : Bounds) → Place → List ℕ → Type 0
Atom bounds place bytes = (head : RawHead) × AtomRead bounds place bytes head

variable_by : (bounds : Bounds) (bytes : List ℕ) (o : Option (List ℕ × List ℕ)) → cut bytes ≡ o → is_variable bounds o ≡ true → Atom bounds p.Equation bytes
variable_by bounds bytes None e h = absurd cc
variable_by bounds bytes (Some parts) e h =
    let q = index_found parts.1 (both (is_name_in bounds parts.0) (is_index parts.1) h).1 in
    (Var parts.0 q.0, variable_read bounds bytes parts.0 parts.1 parts.0 q.0 (sym e) (ap (is_variable bounds) e ∙ h) refl q.1 q.2)

less_test : (n k : ℕ) → n < k → nat_lt n k ≡ true
less_test n k h = grind (arith, nat_tests)

numbered_by : (bounds : Bounds) (b : ℕ) (bs : List ℕ) (x y : Bool) → (b == 35) ≡ x → (b == 64) ≡ y → ((x || y) && is_index bs) ≡ true → Atom bounds p.Body (b ∷ bs)
numbered_by bounds b bs true y e f h =
    let q = index_found bs (both true (is_index bs) h).1 in
    (Param q.0, record { text = ap (λ l. 35 ∷ l) (sym q.2) ∙ ap (λ n. n ∷ bs) (sym (eqb-true b 35 e)); fits = less_test q.0 (2 ^ 32) q.1 })
numbered_by bounds b bs false true e f h =
    let q = index_found bs (both true (is_index bs) h).1 in
    (Field q.0, record { text = ap (λ l. 64 ∷ l) (sym q.2) ∙ ap (λ n. n ∷ bs) (sym (eqb-true b 64 f)); fits = less_test q.0 (2 ^ 32) q.1 })
numbered_by bounds b bs false false e f h = absurd cc

special_found : (bounds : Bounds) (place : Place) (bytes : List ℕ) → is_special bounds place bytes ≡ true → Atom bounds place bytes
special_found bounds p.Equation bytes h = variable_by bounds bytes (cut bytes) refl h
special_found bounds p.Body [] h = absurd cc
special_found bounds p.Body (b ∷ bs) h = numbered_by bounds b bs (b == 35) (b == 64) refl refl h
special_found bounds p.Value bytes h = absurd cc

atom_by : (bounds : Bounds) (t : Bool) (place : Place) (bytes : List ℕ) → is_name_in bounds bytes ≡ t → (t || is_special bounds place bytes) ≡ true → Atom bounds place bytes
atom_by bounds true place bytes e h = (Name bytes, record { text = refl; fits = e })
atom_by bounds false place bytes e h = special_found bounds place bytes h

pub atom_found : (bounds : Bounds) (place : Place) (bytes : List ℕ) → is_atom bounds place bytes ≡ true → Atom bounds place bytes
atom_found bounds place bytes h = atom_by bounds (is_name_in bounds bytes) place bytes refl h

-- rows of terms
pub record RowFound (n : ℕ) (row : Row) (level : ℕ) (ending : Ending) (old one : List ℕ) (rest : List Want) : Type 0 where
  pub terms : List RawTerm
  pub new : List ℕ
  pub more : ℕ
  pub read : RowRead n row level ending old new terms more
  pub shorter : length new ≤ length one
  pub left : walk (nodes_behind ending more) rest (pieces new) ≡ None

abbrev Finds : ℕ → Type 0
Finds fuel = (n : ℕ) (row : Row) (level : ℕ) (ending : Ending) (old one : List ℕ) (terms : List RawTerm) (mid : ℕ) (rest : List Want) → IsTermRow row level → level ≤ 256 → length one < fuel
    → RowSoFar n row level ending old one terms mid → walk mid (w.Row row level (length terms) ending ∷ rest) (pieces one) ≡ None → RowFound n row level ending old one rest

row_over : (n : ℕ) (row : Row) (level : ℕ) (ending : Ending) (old one new : List ℕ) (terms : List RawTerm) (mid : ℕ) (rest : List Want) → RowSoFar n row level ending old one terms mid
    → walk mid (w.Row row level (length terms) ending ∷ rest) (pieces one) ≡ None → RowEnds mid row level (length terms) ending one new → length new ≤ length one → RowFound n row level ending old one rest
row_over n row level ending old one new terms mid rest so h ends s =
    record { terms = terms; new = new; more = mid; read = row_read n row level ending old one new terms mid so ends; shorter = s; left = sym (ends.walked rest) ∙ h }

row_on : (fuel : ℕ) → Finds fuel → (n : ℕ) (row : Row) (level : ℕ) (ending : Ending) (old one two new : List ℕ) (terms : List RawTerm) (mid : ℕ) (rest : List Want) (term : RawTerm) (more : ℕ) → IsTermRow row level → level ≤ 256
    → length new < fuel → length new ≤ length one → RowSoFar n row level ending old one terms mid → RowGoes mid row level (length terms) ending one two → ItemRead mid row level (length terms) ending two new term more
    → walk more (w.Row row level (length terms + 1) ending ∷ rest) (pieces new) ≡ None → RowFound n row level ending old one rest
row_on fuel rec n row level ending old one two new terms mid rest term more is_row low short less so goes item h =
    let f = rec n row level ending old new (terms ++ term ∷ []) more rest is_row low short (row_more n row level ending old one two new terms mid term more so goes item)
    (ap (λ k. walk more (w.Row row level k ending ∷ rest) (pieces new)) (one_more terms term) ∙ h) in
    record { terms = f.terms; new = f.new; more = f.more; read = f.read; shorter = (let s = f.shorter in omega arith); left = f.left }

item_of : (fuel : ℕ) → Finds fuel → (n : ℕ) (row : Row) (level : ℕ) (ending : Ending) (old one two : List ℕ) (terms : List RawTerm) (mid : ℕ) (rest : List Want) (piece : Piece) → IsTermRow row level → level ≤ 256 → length two < fuel
    → length two ≤ length one → RowSoFar n row level ending old one terms mid → RowGoes mid row level (length terms) ending one two → Next mid (w.Item row level (length terms) ending) rest two piece
    → RowFound n row level ending old one rest
item_of fuel rec n row level ending old one two terms mid rest space is_row low short less so goes x = let k = x.taken in absurd (cc)
item_of fuel rec n row level ending old one two terms mid rest closing is_row low short less so goes x = let k = x.taken in absurd (cc)
item_of fuel rec n row level ending old one two terms mid rest (word bytes) is_row low short less so goes x = by (is_mark ending bytes) refl
  where
    by : (m : Bool) → is_mark ending bytes ≡ m → RowFound n row level ending old one rest
    by true e =
        let mark = mark_read mid row level (length terms) ending two x.new bytes x.first x.text x.taken e in
        record {
          terms = terms;
          new = x.new;
          more = mid;
          read = row_marked n row level ending old one two x.new terms mid so goes mark;
          shorter = (let s = x.shorter in omega arith);
          left = sym (mark.walked rest) ∙ whole;
        }
      where
        whole : walk mid (w.Item row level (length terms) ending ∷ rest) (pieces two) ≡ None
        whole = goes_on mid (w.Item row level (length terms) ending) two x.new (word bytes) x.first x.taken rest ∙ x.left
    by false e =
        let a = atom_found Kept (item_place row) bytes (word_is_atom mid row level (length terms) ending bytes is_row x.taken e) in
        let item = item_word mid row level (length terms) ending two x.new bytes a.0 is_row x.first x.text x.taken e a.1 in
        row_on fuel rec n row level ending old one two x.new terms mid rest _ (before_item row mid + 1) is_row low (let s = x.shorter in omega arith) (let s = x.shorter in omega arith) so goes item
        (sym (item.walked rest) ∙ goes_on mid (w.Item row level (length terms) ending) two x.new (word bytes) x.first x.taken rest ∙ x.left)
item_of fuel rec n row level ending old one two terms mid rest opening is_row low short less so goes x =
    let took : Took mid (w.Item row level (length terms) ending) two x.new t.Open = record { first = x.first; text = x.text; taken = x.taken } in
    let place = item_place row in let m = before_item row mid in
    let l = opens_low mid row level (length terms) ending two x.new is_row took in
    let head = next_word m w.Head (w.Row (r.Args place) (level + 1) 0 e.Bracket ∷ w.Row row level (length terms + 1) ending ∷ rest) x.new refl x.left in
    let inner = rec (m + 1) (r.Args place) (level + 1) e.Bracket head.new head.new [] (m + 1) (w.Row row level (length terms + 1) ending ∷ rest) tt l.1
    (let s = head.shorter in let u = x.shorter in omega arith) (row_begins (m + 1) (r.Args place) (level + 1) e.Bracket head.new) head.left in
    let bracket = bracket_read m place (level + 1) x.new head.new inner.new head.bytes head.bytes inner.terms inner.more l.0 l.1 head.took refl inner.read in
    let item = item_opened mid row level (length terms) ending two x.new inner.new _ inner.more is_row took bracket in
    row_on fuel rec n row level ending old one two inner.new terms mid rest _ inner.more is_row low
    (let s = head.shorter in let u = x.shorter in let v = inner.shorter in omega arith) (let s = head.shorter in let u = x.shorter in let v = inner.shorter in omega arith) so goes item inner.left

row_of : (fuel : ℕ) → Finds fuel → (n : ℕ) (row : Row) (level : ℕ) (ending : Ending) (old one : List ℕ) (terms : List RawTerm) (mid : ℕ) (rest : List Want) (piece : Piece) → IsTermRow row level → level ≤ 256 → length one < suc fuel
    → RowSoFar n row level ending old one terms mid → walk mid (w.Row row level (length terms) ending ∷ rest) (pieces one) ≡ None → Next mid (w.Row row level (length terms) ending) rest one piece
    → RowFound n row level ending old one rest
row_of fuel rec n row level ending old one terms mid rest opening is_row low short so h x = let k = x.taken in absurd (cc)
row_of fuel rec n row level ending old one terms mid rest (word bytes) is_row low short so h x = let k = x.taken in absurd (cc)
row_of fuel rec n row level ending old one terms mid rest closing is_row low short so h x =
    row_over n row level ending old one x.new terms mid rest so h
    (row_closed mid row level (length terms) ending one x.new (record { first = x.first; text = x.text; taken = x.taken })) (let s = x.shorter in omega arith)
row_of fuel rec n row level ending old one terms mid rest space is_row low short so h x =
    let goes = row_goes mid row level (length terms) ending one x.new (record { first = x.first; text = x.text; taken = x.taken }) in
    by goes (next mid (w.Item row level (length terms) ending) rest x.new (sym (goes.walked rest) ∙ h))
  where
    by : RowGoes mid row level (length terms) ending one x.new → Over (w.Item row level (length terms) ending) rest x.new ⊎ ((piece : Piece) × Next mid (w.Item row level (length terms) ending) rest x.new piece)
        → RowFound n row level ending old one rest
    by goes (inl o) = let k = o.may in absurd (cc)
    by goes (inr y) = item_of fuel rec n row level ending old one x.new terms mid rest y.0 is_row low (let s = x.shorter in omega arith) (let s = x.shorter in omega arith) so goes y.1

finds : (fuel : ℕ) → Finds fuel
finds zero = λ n row level ending old one terms mid rest is_row low short so h. absurd (omega arith)
finds (suc fuel) = λ n row level ending old one terms mid rest is_row low short so h. by (finds fuel) n row level ending old one terms mid rest is_row low short so h (next mid (w.Row row level (length terms) ending) rest one h)
  where
    by : Finds fuel → (n : ℕ) (row : Row) (level : ℕ) (ending : Ending) (old one : List ℕ) (terms : List RawTerm) (mid : ℕ) (rest : List Want) → IsTermRow row level → level ≤ 256 → length one < suc fuel
        → RowSoFar n row level ending old one terms mid → walk mid (w.Row row level (length terms) ending ∷ rest) (pieces one) ≡ None
        → Over (w.Row row level (length terms) ending) rest one ⊎ ((piece : Piece) × Next mid (w.Row row level (length terms) ending) rest one piece) → RowFound n row level ending old one rest
    by rec n row level ending old one terms mid rest is_row low short so h (inl o) =
        row_over n row level ending old one [] terms mid rest so h (row_at_end mid row level (length terms) ending one [] (record { all = o.all; none = refl; may = o.may })) (omega arith)
    by rec n row level ending old one terms mid rest is_row low short so h (inr x) = row_of fuel rec n row level ending old one terms mid rest x.0 is_row low short so h x.1

pub row_found : (n : ℕ) (row : Row) (level : ℕ) (ending : Ending) (old : List ℕ) (rest : List Want) → IsTermRow row level → level ≤ 256 → walk n (w.Row row level 0 ending ∷ rest) (pieces old) ≡ None
    → RowFound n row level ending old old rest
row_found n row level ending old rest is_row low h =
    finds (suc (length old)) n row level ending old old [] n rest is_row low (omega arith) (row_begins n row level ending old) h

-- names
pub record NamesFound (row : Row) (ending : Ending) (old : List ℕ) (rest : List Want) : Type 0 where
  pub names : List (List ℕ)
  pub new : List ℕ
  pub read : NamesRead row ending old new names
  pub left : walk 0 rest (pieces new) ≡ None

names_over : (row : Row) (ending : Ending) (old new : List ℕ) (names : List (List ℕ)) (rest : List Want) → walk 0 (w.Row row 0 0 ending ∷ rest) (pieces old) ≡ None → NamesRead row ending old new names
    → NamesFound row ending old rest
names_over row ending old new names rest h read = record { names = names; new = new; read = read; left = sym (read.walked rest) ∙ h }

abbrev Names : ℕ → Type 0
Names fuel = (row : Row) (ending : Ending) (old one : List ℕ) (names : List (List ℕ)) (n : ℕ) (rest : List Want) → IsNameRow row → IsRootEnding ending → length one < fuel → length one ≤ length old
    → NamesSoFar n row ending old one names → walk 0 (w.Row row 0 0 ending ∷ rest) (pieces old) ≡ None → NamesFound row ending old rest

name_of : (fuel : ℕ) → Names fuel → (row : Row) (ending : Ending) (old one two : List ℕ) (names : List (List ℕ)) (n : ℕ) (rest : List Want) (piece : Piece) → IsNameRow row → IsRootEnding ending → length two < fuel
    → length one ≤ length old → NamesSoFar n row ending old one names → RowGoes n row 0 (length names) ending one two → Next n (w.Item row 0 (length names) ending) rest two piece
    → walk 0 (w.Row row 0 0 ending ∷ rest) (pieces old) ≡ None → NamesFound row ending old rest
name_of fuel rec row ending old one two names n rest space is_row root short less so goes x h = let k = x.taken in absurd (cc)
name_of fuel rec row ending old one two names n rest closing is_row root short less so goes x h = let k = x.taken in absurd (cc)
name_of fuel rec row ending old one two names n rest opening is_row root short less so goes x h = absurd (no_bracket row is_row x.taken)
  where
    no_bracket : (row : Row) → IsNameRow row → may_open Kept n row 0 (length names) ≡ true → ⊥
    no_bracket r.Sorts is h = absurd cc
    no_bracket r.Names is h = absurd cc
    no_bracket (r.Args place) is h = is
    no_bracket r.Values is h = is
name_of fuel rec row ending old one two names n rest (word bytes) is_row root short less so goes x h = by (is_mark ending bytes) refl
  where
    by : (m : Bool) → is_mark ending bytes ≡ m → NamesFound row ending old rest
    by true e =
        names_over row ending old x.new names rest h
        (names_marked n row ending old one two x.new names (length names) root refl so goes (mark_read n row 0 (length names) ending two x.new bytes x.first x.text x.taken e))
    by false e =
        let one_name = name_read n row (length names) ending two x.new bytes bytes is_row (record { first = x.first; text = x.text; taken = x.taken }) e refl in
        let kept = names_kept n row ending old one two x.new names (names ++ bytes ∷ []) bytes (length names) so less goes one_name refl refl in
        rec row ending old x.new (names ++ bytes ∷ []) 1 rest is_row root (let s = x.shorter in omega arith) kept.shorter kept.so_far h

names_of : (fuel : ℕ) → Names fuel → (row : Row) (ending : Ending) (old one : List ℕ) (names : List (List ℕ)) (n : ℕ) (rest : List Want) (piece : Piece) → IsNameRow row → IsRootEnding ending → length one < suc fuel
    → length one ≤ length old → NamesSoFar n row ending old one names → Next n (w.Row row 0 (length names) ending) rest one piece
    → walk 0 (w.Row row 0 0 ending ∷ rest) (pieces old) ≡ None → NamesFound row ending old rest
names_of fuel rec row ending old one names n rest opening is_row root short less so x h = let k = x.taken in absurd (cc)
names_of fuel rec row ending old one names n rest (word bytes) is_row root short less so x h = let k = x.taken in absurd (cc)
names_of fuel rec row ending old one names n rest closing is_row root short less so x h =
    names_over row ending old x.new names rest h
    (names_end n row ending old one x.new names (length names) root refl so (row_closed n row 0 (length names) ending one x.new (record { first = x.first; text = x.text; taken = x.taken })))
names_of fuel rec row ending old one names n rest space is_row root short less so x h =
    let goes = row_goes n row 0 (length names) ending one x.new (record { first = x.first; text = x.text; taken = x.taken }) in
    by goes (next n (w.Item row 0 (length names) ending) rest x.new (sym (goes.walked rest) ∙ sym (so.walked rest) ∙ h))
  where
    by : RowGoes n row 0 (length names) ending one x.new → Over (w.Item row 0 (length names) ending) rest x.new ⊎ ((piece : Piece) × Next n (w.Item row 0 (length names) ending) rest x.new piece) → NamesFound row ending old rest
    by goes (inl o) = let k = o.may in absurd (cc)
    by goes (inr y) = name_of fuel rec row ending old one x.new names n rest y.0 is_row root (let s = x.shorter in omega arith) less so goes y.1 h

name_rows : (fuel : ℕ) → Names fuel
name_rows zero = λ row ending old one names n rest is_row root short less so h. absurd (omega arith)
name_rows (suc fuel) = λ row ending old one names n rest is_row root short less so h.
    by (name_rows fuel) row ending old one names n rest is_row root short less so h (next n (w.Row row 0 (length names) ending) rest one (sym (so.walked rest) ∙ h))
  where
    by : Names fuel → (row : Row) (ending : Ending) (old one : List ℕ) (names : List (List ℕ)) (n : ℕ) (rest : List Want) → IsNameRow row → IsRootEnding ending → length one < suc fuel → length one ≤ length old
        → NamesSoFar n row ending old one names → walk 0 (w.Row row 0 0 ending ∷ rest) (pieces old) ≡ None
        → Over (w.Row row 0 (length names) ending) rest one ⊎ ((piece : Piece) × Next n (w.Row row 0 (length names) ending) rest one piece) → NamesFound row ending old rest
    by rec row ending old one names n rest is_row root short less so h (inl o) =
        names_over row ending old [] names rest h
        (names_end n row ending old one [] names (length names) root refl so (row_at_end n row 0 (length names) ending one [] (record { all = o.all; none = refl; may = o.may })))
    by rec row ending old one names n rest is_row root short less so h (inr x) = names_of fuel rec row ending old one names n rest x.0 is_row root short less so x.1 h

pub names_found : (row : Row) (ending : Ending) (old : List ℕ) (rest : List Want) → IsNameRow row → IsRootEnding ending → walk 0 (w.Row row 0 0 ending ∷ rest) (pieces old) ≡ None → NamesFound row ending old rest
names_found row ending old rest is_row root h = name_rows (suc (length old)) row ending old old [] 0 rest is_row root (omega arith) (omega arith) (names_begin row ending old) h

-- single pieces, and what is behind them
pub record After (want : Want) (said old : List ℕ) (rest : List Want) : Type 0 where
  pub new : List ℕ
  pub read : Reads want old new said
  pub left : walk 0 rest (pieces new) ≡ None

gap_of : (old : List ℕ) (rest : List Want) (piece : Piece) → Next 0 w.Gap rest old piece → After w.Gap (32 ∷ []) old rest
gap_of old rest opening x = let k = x.taken in absurd (cc)
gap_of old rest closing x = let k = x.taken in absurd (cc)
gap_of old rest (word bytes) x = let k = x.taken in absurd (cc)
gap_of old rest space x = record { new = x.new; read = gap_read old x.new (record { first = x.first; text = x.text; taken = x.taken }); left = x.left }

pub gap_found : (old : List ℕ) (rest : List Want) → walk 0 (w.Gap ∷ rest) (pieces old) ≡ None → After w.Gap (32 ∷ []) old rest
gap_found old rest h = by (next 0 w.Gap rest old h)
  where
    by : Over w.Gap rest old ⊎ ((piece : Piece) × Next 0 w.Gap rest old piece) → After w.Gap (32 ∷ []) old rest
    by (inl o) = let k = o.may in absurd (cc)
    by (inr x) = gap_of old rest x.0 x.1

pub fixed_found : (mark : Mark) (old : List ℕ) (rest : List Want) → walk 0 (w.Fixed mark ∷ rest) (pieces old) ≡ None → After (w.Fixed mark) (mark_text mark) old rest
fixed_found mark old rest h = let x = next_word 0 (w.Fixed mark) rest old refl h in record { new = x.new; read = fixed_read mark old x.new x.bytes x.took; left = x.left }

-- a term by itself
pub record RootFound (place : Place) (ending : Ending) (old : List ℕ) (rest : List Want) : Type 0 where
  pub term : RawTerm
  pub new : List ℕ
  pub read : RootRead place ending old new term
  pub left : walk 0 rest (pieces new) ≡ None

behind_found : (ending : Ending) (old : List ℕ) (rest : List Want) → IsRootEnding ending → walk 0 (behind ending rest) (pieces old) ≡ None → (new : List ℕ) × BehindRead ending old new
behind_found e.Line old rest root h = (old, record { text = refl; walked = λ rest. refl })
behind_found e.Bracket old rest root h = absurd root
behind_found (e.Mark mark) old rest root h =
    let a = gap_found old (w.Fixed mark ∷ rest) h in let b = fixed_found mark a.new rest a.left in
    (b.new, record { text = a.read.text ∙ ap (λ l. 32 ∷ l) b.read.text; walked = λ rest. a.read.walked (w.Fixed mark ∷ rest) ∙ b.read.walked rest })

root_over : (place : Place) (ending : Ending) (old new : List ℕ) (rest : List Want) (term : RawTerm) → RootRead place ending old new term → walk 0 (w.Root place ending ∷ rest) (pieces old) ≡ None → RootFound place ending old rest
root_over place ending old new rest term read h = record { term = term; new = new; read = read; left = sym (read.walked rest) ∙ h }

root_by : (t : Bool) (place : Place) (ending : Ending) (old : List ℕ) (rest : List Want) (x : NextWord 0 (w.Root place ending) rest old) → is_word_of_letters x.bytes ≡ t → IsRootEnding ending
    → walk 0 (w.Root place ending ∷ rest) (pieces old) ≡ None → RootFound place ending old rest
root_by true place ending old rest x e root h =
    let f = row_found 1 (r.Args place) 2 ending x.new rest tt (omega arith)
    (sym (ap (λ b. walk (root_moved b place ending rest).nodes (root_moved b place ending rest).wants (pieces x.new)) e) ∙ x.left) in
    root_over place ending old f.new rest _ (root_named place ending old x.new f.new x.bytes x.bytes f.terms f.more root x.took e refl f.read) h
root_by false place ending old rest x e root h =
    let a = atom_found Kept place x.bytes x.took.taken in
    let b = behind_found ending x.new rest root (sym (ap (λ b. walk (root_moved b place ending rest).nodes (root_moved b place ending rest).wants (pieces x.new)) e) ∙ x.left) in
    root_over place ending old b.0 rest _ (root_leaf place ending old x.new b.0 x.bytes a.0 [] x.took e a.1 refl b.1) h

pub root_found : (place : Place) (ending : Ending) (old : List ℕ) (rest : List Want) → IsRootEnding ending → walk 0 (w.Root place ending ∷ rest) (pieces old) ≡ None → RootFound place ending old rest
root_found place ending old rest root h = let x = next_word 0 (w.Root place ending) rest old refl h in root_by (is_word_of_letters x.bytes) place ending old rest x refl root h
