-- What is wanted in a line can be given: whatever is taken so far begins a line that is taken to its end.
use Rattle.std.proofs.Common.{◌≡◌, ℕ, ◌+◌, Bool, true, false, ◌&&◌, ◌||◌, List, [], ◌∷◌, ◌++◌, Option, Some, None, refl, ap, sym, subst, ◌∙◌, arith, codes, nat_lt, nat_le}
use Rattle.std.proofs.lemmas.Bool.Decides.{nat_tests}
use Rattle.std.proofs.lemmas.List.{append-nil}
use Rattle.std.specs.Str.{bytes_eq}
use Rattle.law_lines.specs.Words.{is_word_of_letters}
use Rattle.law_lines.specs.Pieces.{Piece, pieces}
use Rattle.law_lines.specs.Pieces.Piece.{space, opening, closing, word}
use Rattle.law_lines.proofs.FirstPieces.{begins_apart}
use Rattle.law_lines.specs.declared.stage.Version.{Version}
use Rattle.law_lines.specs.declared.stage.Version.TheVariants.{First, Second, Third}
use Rattle.law_lines.specs.declared.stage.Key.{Key}
use Rattle.law_lines.specs.declared.stage.Stage.{Stage}
use Rattle.law_lines.specs.declared.stage.Key.TheVariants as key
use Rattle.law_lines.specs.declared.want.Want.{Want}
use Rattle.law_lines.specs.declared.want.Want.TheVariants as w
use Rattle.law_lines.specs.declared.want.Bounds.{Bounds}
use Rattle.law_lines.specs.declared.want.Bounds.TheVariants.{Kept, Free}
use Rattle.law_lines.specs.declared.want.Place.{Place}
use Rattle.law_lines.specs.declared.want.Place.TheVariants as p
use Rattle.law_lines.specs.declared.want.Row.{Row}
use Rattle.law_lines.specs.declared.want.Row.TheVariants as r
use Rattle.law_lines.specs.declared.want.Ending.{Ending}
use Rattle.law_lines.specs.declared.want.Ending.TheVariants as e
use Rattle.law_lines.specs.declared.want.Mark.{Mark}
use Rattle.law_lines.specs.declared.want.Mark.TheVariants.{Equals, Arrow, Height, Count}
use Rattle.law_lines.specs.Terms.{is_name_in}
use Rattle.law_lines.specs.Walk.{allows_found, before_item, enough, has_mark, is_atom, is_item, is_mark, is_special, item_moved, item_place, key_of, line_wants, end_fault, mark_text, may_come, may_open, moved, pools_wants, root_moved, seed_wants, takes, walk_in, wants_found}
use Rattle.law_lines.proofs.RowSteps.{both}
use Rattle.law_lines.proofs.Again.{RowMark, apart_close, apart_none, apart_space, gap_on, is_solid, item_on, or_left, space_on, taken_on, word_on}
use Rattle.law_lines.proofs.AgainRoots.{mark_on}
use Rattle.law_lines.proofs.Walks.{walk_nil}

-- Where a word was taken, a space, a closing bracket or the end of the line is wanted.
abbrev pub StartsApart : List Want → Type 0
StartsApart [] = Unit {0}
StartsApart (w.Gap ∷ rest) = Unit {0}
StartsApart (w.Row row level count ending ∷ rest) = Unit {0}
StartsApart wants = ⊥

-- a row may end, or may have one item more
abbrev row_may : (bounds : Bounds) → ℕ → Row → ℕ → ℕ → Ending → Bool
row_may bounds n row level count e.Line = true
row_may bounds n row level count e.Bracket = nat_lt 0 count || may_come bounds n row level count
row_may bounds n row level count (e.Mark mark) = true

abbrev is_low : Row → ℕ → Bool
is_low r.Sorts level = true
is_low r.Names level = true
is_low (r.Args place) level = true
is_low r.Values level = nat_lt level 256

-- what is wanted behind a row
abbrev pub Behind : Ending → List Want → Type 0 → Type 0
Behind e.Line rest further = rest ≡ []
Behind e.Bracket rest further = StartsApart rest × further
Behind (e.Mark mark) rest further = RowMark (e.Mark mark) × StartsApart rest × further

-- What is wanted can be given.
pub record Closes (bounds : Bounds) (n : ℕ) (wants : List Want) : Type 0 where
  pub more : List ℕ
  pub done : walk_in bounds n wants (pieces more) ≡ None
  pub apart : StartsApart wants → begins_apart more ≡ true

-- What may be wanted as a line is read.
abbrev pub Wanted : (bounds : Bounds) → ℕ → List Want → Type 0
Wanted bounds n [] = Unit {0}
Wanted bounds n (w.Key stage ∷ rest) = (rest ≡ []) × Closes bounds n (w.Key stage ∷ [])
Wanted bounds n (w.Pools ∷ rest) = rest ≡ []
Wanted bounds n (w.Gap ∷ rest) = Wanted bounds n rest
Wanted bounds n (w.Version ∷ rest) = StartsApart rest × Wanted bounds n rest
Wanted bounds n (w.Fixed mark ∷ rest) = StartsApart rest × Wanted bounds n rest
Wanted bounds n (w.Number ∷ rest) = StartsApart rest × Wanted bounds n rest
Wanted bounds n (w.Name ∷ rest) = StartsApart rest × Wanted bounds n rest
Wanted bounds n (w.Head ∷ rest) = StartsApart rest × Wanted bounds (n + 1) rest
Wanted bounds n (w.Root place ending ∷ rest) = (ending ≡ e.Bracket → ⊥) × Behind ending rest ((m : ℕ) → Wanted bounds m rest)
Wanted bounds n (w.Row row level count ending ∷ rest) = (row_may bounds n row level count ending ≡ true) × (is_low row level ≡ true) × Behind ending rest ((m : ℕ) → Wanted bounds m rest)
Wanted bounds n (w.Item row level count ending ∷ rest) = ((has_mark ending || may_come bounds n row level count) ≡ true) × (is_low row level ≡ true) × Behind ending rest ((m : ℕ) → Wanted bounds m rest)

Gives : (bounds : Bounds) → List Want → Type 0
Gives bounds wants = (n : ℕ) → Wanted bounds n wants → Closes bounds n wants

one_letter : (bounds : Bounds) → is_name_in bounds (codes "A") ≡ true
one_letter Kept = refl
one_letter Free = refl

any_atom : (bounds : Bounds) (place : Place) → is_atom bounds place (codes "A") ≡ true
any_atom bounds place = or_left (is_name_in bounds (codes "A")) (is_special bounds place (codes "A")) (one_letter bounds)

any_item : (bounds : Bounds) (row : Row) → is_item bounds row (codes "A") ≡ true
any_item bounds r.Sorts = one_letter bounds
any_item bounds r.Names = one_letter bounds
any_item bounds (r.Args place) = any_atom bounds place
any_item bounds r.Values = any_atom bounds p.Value

no_mark : (ending : Ending) → RowMark ending → is_mark ending (codes "A") ≡ false
no_mark e.Line h = refl
no_mark e.Bracket h = refl
no_mark (e.Mark Equals) h = refl
no_mark (e.Mark Arrow) h = refl
no_mark (e.Mark Height) h = absurd h
no_mark (e.Mark Count) h = absurd h

some_count : (n : ℕ) → nat_lt 0 (n + 1) ≡ true
some_count n = grind (arith, nat_tests)

-- a word, and then the rest
word_closes : (bounds : Bounds) (n : ℕ) (want : Want) (rest : List Want) (bytes : List ℕ) → is_solid bytes ≡ true → takes bounds n want (word bytes) ≡ true
    → (StartsApart (moved n want rest (word bytes)).wants) → Closes bounds (moved n want rest (word bytes)).nodes (moved n want rest (word bytes)).wants → (StartsApart (want ∷ rest) → ⊥) → Closes bounds n (want ∷ rest)
word_closes bounds n want rest bytes solid taken starts c never = record {
  more = bytes ++ c.more;
  done = word_on bounds n want rest bytes c.more solid (c.apart starts) taken ∙ c.done;
  apart = λ h. absurd (never h);
}

bracket_closes : (bounds : Bounds) (n : ℕ) (row : Row) (level count : ℕ) (rest : List Want) → nat_lt 0 count ≡ true → Closes bounds n rest → Closes bounds n (w.Row row level count e.Bracket ∷ rest)
bracket_closes bounds n row level count rest h c = record {
  more = 41 ∷ c.more;
  done = taken_on bounds n (w.Row row level count e.Bracket) rest closing (pieces c.more) h ∙ c.done;
  apart = λ s. apart_close c.more;
}

-- one more item, and then the end of the row
item_closes : (bounds : Bounds) (n : ℕ) (row : Row) (level count : ℕ) (ending : Ending) (rest : List Want) → RowMark ending → may_come bounds n row level count ≡ true
    → Closes bounds (before_item row n + 1) (w.Row row level (count + 1) ending ∷ rest) → Closes bounds n (w.Item row level count ending ∷ rest)
unfolding is_solid
item_closes bounds n row level count ending rest mark may c = record {
  more = codes "A" ++ c.more;
  done = item_on bounds n row level count ending rest (codes "A") c.more refl (c.apart tt) (no_mark ending mark) may (any_item bounds row) ∙ c.done;
  apart = λ s. absurd s;
}

space_closes : (bounds : Bounds) (n : ℕ) (row : Row) (level count : ℕ) (ending : Ending) (rest : List Want) → may_come bounds n row level count ≡ true → Closes bounds n (w.Item row level count ending ∷ rest)
    → Closes bounds n (w.Row row level count ending ∷ rest)
space_closes bounds n row level count ending rest may c = record {
  more = 32 ∷ c.more;
  done = space_on bounds n row level count ending rest c.more may ∙ c.done;
  apart = λ s. apart_space c.more;
}

-- the end of a row, once it has an item
over_closes : (bounds : Bounds) (n : ℕ) (row : Row) (level count : ℕ) (ending : Ending) (rest : List Want) → Behind ending rest ((m : ℕ) → Wanted bounds m rest) → Gives bounds rest → Closes bounds n (w.Row row level (count + 1) ending ∷ rest)
unfolding Gives
over_closes bounds n row level count e.Line rest b g = record {
  more = [];
  done = subst (λ l. walk_in bounds n (w.Row row level (count + 1) e.Line ∷ l) [] ≡ None) (sym b) (walk_nil bounds n (w.Row row level (count + 1) e.Line ∷ []) ∙ enough_is row);
  apart = λ s. apart_none;
}
  where
    enough_is : (row : Row) → end_fault (enough row (count + 1) && true) ≡ None
    enough_is r.Sorts = refl
    enough_is r.Names = refl
    enough_is (r.Args place) = refl
    enough_is r.Values = ap (λ b. end_fault (b && true)) (some_count count)
over_closes bounds n row level count e.Bracket rest b g = bracket_closes bounds n row level (count + 1) rest (some_count count) (g n (b.1 n))
over_closes bounds n row level count (e.Mark mark) rest b g = let c = g 0 (b.2 0) in record {
  more = 32 ∷ (mark_text mark ++ c.more);
  done = mark_on bounds n row level (count + 1) mark rest c.more b.0 (c.apart b.1) ∙ c.done;
  apart = λ s. apart_space (mark_text mark ++ c.more);
}

row_mark : (ending : Ending) (rest : List Want) (further : Type 0) → Behind ending rest further → RowMark ending
row_mark e.Line rest further b = tt
row_mark e.Bracket rest further b = tt
row_mark (e.Mark mark) rest further b = b.0

one_item : (bounds : Bounds) (n : ℕ) (row : Row) (level count : ℕ) (ending : Ending) (rest : List Want) → may_come bounds n row level count ≡ true → Behind ending rest ((m : ℕ) → Wanted bounds m rest) → Gives bounds rest
    → Closes bounds n (w.Item row level count ending ∷ rest)
one_item bounds n row level count ending rest may b g =
    item_closes bounds n row level count ending rest (row_mark ending rest ((m : ℕ) → Wanted bounds m rest) b) may (over_closes bounds (before_item row n + 1) row level count ending rest b g)

bracket_by : (bounds : Bounds) (t : Bool) (n : ℕ) (row : Row) (level count : ℕ) (rest : List Want) → nat_lt 0 count ≡ t → (t || may_come bounds n row level count) ≡ true → Behind e.Bracket rest ((m : ℕ) → Wanted bounds m rest) → Gives bounds rest
    → Closes bounds n (w.Row row level count e.Bracket ∷ rest)
unfolding Gives
bracket_by bounds true n row level count rest q h b g = bracket_closes bounds n row level count rest q (g n (b.1 n))
bracket_by bounds false n row level count rest q h b g = space_closes bounds n row level count e.Bracket rest h (one_item bounds n row level count e.Bracket rest h b g)

line_closes : (bounds : Bounds) (n : ℕ) (row : Row) (level count : ℕ) (rest : List Want) → rest ≡ [] → Gives bounds rest → Closes bounds n (w.Row row level count e.Line ∷ rest)
line_closes bounds n r.Sorts level count rest b g =
    record { more = []; done = subst (λ l. walk_in bounds n (w.Row r.Sorts level count e.Line ∷ l) [] ≡ None) (sym b) (walk_nil bounds n (w.Row r.Sorts level count e.Line ∷ [])); apart = λ s. apart_none }
line_closes bounds n r.Names level count rest b g =
    record { more = []; done = subst (λ l. walk_in bounds n (w.Row r.Names level count e.Line ∷ l) [] ≡ None) (sym b) (walk_nil bounds n (w.Row r.Names level count e.Line ∷ [])); apart = λ s. apart_none }
line_closes bounds n (r.Args place) level count rest b g =
    record { more = []; done = subst (λ l. walk_in bounds n (w.Row (r.Args place) level count e.Line ∷ l) [] ≡ None) (sym b) (walk_nil bounds n (w.Row (r.Args place) level count e.Line ∷ [])); apart = λ s. apart_none }
line_closes bounds n r.Values level count rest b g = space_closes bounds n r.Values level count e.Line rest refl (one_item bounds n r.Values level count e.Line rest refl b g)

row_closes : (bounds : Bounds) (n : ℕ) (row : Row) (level count : ℕ) (ending : Ending) (rest : List Want) → row_may bounds n row level count ending ≡ true → Behind ending rest ((m : ℕ) → Wanted bounds m rest) → Gives bounds rest
    → Closes bounds n (w.Row row level count ending ∷ rest)
unfolding Gives
row_closes bounds n row level count e.Line rest h b g = line_closes bounds n row level count rest b g
row_closes bounds n row level count e.Bracket rest h b g = bracket_by bounds (nat_lt 0 count) n row level count rest refl h b g
row_closes bounds n row level count (e.Mark mark) rest h b g = let c = g 0 (b.2 0) in record {
  more = 32 ∷ (mark_text mark ++ c.more);
  done = mark_on bounds n row level count mark rest c.more b.0 (c.apart b.1) ∙ c.done;
  apart = λ s. apart_space (mark_text mark ++ c.more);
}

item_at : (bounds : Bounds) (n : ℕ) (row : Row) (level count : ℕ) (ending : Ending) (rest : List Want) → (has_mark ending || may_come bounds n row level count) ≡ true → Behind ending rest ((m : ℕ) → Wanted bounds m rest) → Gives bounds rest
    → Closes bounds n (w.Item row level count ending ∷ rest)
unfolding is_solid Gives
item_at bounds n row level count e.Line rest h b g = one_item bounds n row level count e.Line rest h b g
item_at bounds n row level count e.Bracket rest h b g = one_item bounds n row level count e.Bracket rest h b g
item_at bounds n row level count (e.Mark Equals) rest h b g = word_closes bounds n (w.Item row level count (e.Mark Equals)) rest (codes "=") refl refl b.1 (g 0 (b.2 0)) (λ s. s)
item_at bounds n row level count (e.Mark Arrow) rest h b g = word_closes bounds n (w.Item row level count (e.Mark Arrow)) rest (codes "->") refl refl b.1 (g 0 (b.2 0)) (λ s. s)
item_at bounds n row level count (e.Mark Height) rest h b g = absurd b.0
item_at bounds n row level count (e.Mark Count) rest h b g = absurd b.0

root_closes : (bounds : Bounds) (n : ℕ) (place : Place) (ending : Ending) (rest : List Want) → (ending ≡ e.Bracket → ⊥) → Behind ending rest ((m : ℕ) → Wanted bounds m rest) → Gives bounds rest → Closes bounds n (w.Root place ending ∷ rest)
unfolding is_solid
root_closes bounds n place e.Bracket rest never b g = absurd (never refl)
root_closes bounds n place e.Line rest never b g =
    word_closes bounds n (w.Root place e.Line) rest (codes "A") refl (any_atom bounds place) tt (row_closes bounds 1 (r.Args place) 2 0 e.Line rest refl b g) (λ s. s)
root_closes bounds n place (e.Mark mark) rest never b g =
    word_closes bounds n (w.Root place (e.Mark mark)) rest (codes "A") refl (any_atom bounds place) tt (row_closes bounds 1 (r.Args place) 2 0 (e.Mark mark) rest refl b g) (λ s. s)

fixed_closes : (bounds : Bounds) (n : ℕ) (mark : Mark) (rest : List Want) → StartsApart rest → Closes bounds n rest → Closes bounds n (w.Fixed mark ∷ rest)
unfolding is_solid
fixed_closes bounds n Equals rest s c = word_closes bounds n (w.Fixed Equals) rest (codes "=") refl refl s c (λ t. t)
fixed_closes bounds n Arrow rest s c = word_closes bounds n (w.Fixed Arrow) rest (codes "->") refl refl s c (λ t. t)
fixed_closes bounds n Height rest s c = word_closes bounds n (w.Fixed Height) rest (codes "height") refl refl s c (λ t. t)
fixed_closes bounds n Count rest s c = word_closes bounds n (w.Fixed Count) rest (codes "count") refl refl s c (λ t. t)

over : (bounds : Bounds) (n : ℕ) → Closes bounds n []
over bounds n = record { more = []; done = walk_nil bounds n []; apart = λ s. apart_none }

pub closes : (bounds : Bounds) (wants : List Want) (n : ℕ) → Wanted bounds n wants → Closes bounds n wants
unfolding is_solid Gives
closes bounds [] n h = over bounds n
closes bounds (w.Key stage ∷ rest) n h = subst (λ l. Closes bounds n (w.Key stage ∷ l)) (sym h.0) h.1
closes bounds (w.Pools ∷ rest) n h = word_closes bounds n w.Pools rest (codes "given") refl refl (subst StartsApart (sym h) tt) (subst (λ l. Closes bounds 0 l) (sym h) (over bounds 0)) (λ s. s)
closes bounds (w.Gap ∷ rest) n h = let c = closes bounds rest n h in record { more = 32 ∷ c.more; done = gap_on bounds n rest c.more ∙ c.done; apart = λ s. apart_space c.more }
closes bounds (w.Version ∷ rest) n h = word_closes bounds n w.Version rest (codes "1") refl refl h.0 (closes bounds rest n h.1) (λ s. s)
closes bounds (w.Fixed mark ∷ rest) n h = fixed_closes bounds n mark rest h.0 (closes bounds rest n h.1)
closes bounds (w.Number ∷ rest) n h = word_closes bounds n w.Number rest (codes "0") refl refl h.0 (closes bounds rest n h.1) (λ s. s)
closes bounds (w.Name ∷ rest) n h = word_closes bounds n w.Name rest (codes "A") refl (one_letter bounds) h.0 (closes bounds rest n h.1) (λ s. s)
closes bounds (w.Head ∷ rest) n h = word_closes bounds n w.Head rest (codes "A") refl (one_letter bounds) h.0 (closes bounds rest (n + 1) h.1) (λ s. s)
closes bounds (w.Root place ending ∷ rest) n h = root_closes bounds n place ending rest h.0 h.1 (closes bounds rest)
closes bounds (w.Row row level count ending ∷ rest) n h = row_closes bounds n row level count ending rest h.0 h.2 (closes bounds rest)
closes bounds (w.Item row level count ending ∷ rest) n h = item_at bounds n row level count ending rest h.0 h.2 (closes bounds rest)

-- Each piece that is taken leaves what may be wanted.
next_may : (bounds : Bounds) (n : ℕ) (row : Row) (level count : ℕ) (ending : Ending) → row_may bounds n row level (count + 1) ending ≡ true
next_may bounds n row level count e.Line = refl
next_may bounds n row level count e.Bracket = ap (λ b. b || may_come bounds n row level (count + 1)) (some_count count)
next_may bounds n row level count (e.Mark mark) = refl

opened_may : (bounds : Bounds) (n : ℕ) (row : Row) (level count : ℕ) → is_low row level ≡ true → may_open bounds n row level count ≡ true → may_come bounds (before_item row n + 1) (r.Args (item_place row)) (level + 1) 0 ≡ true
opened_may bounds n r.Sorts level count low h = absurd cc
opened_may bounds n r.Names level count low h = absurd cc
opened_may Free n (r.Args place) level count low h = refl
opened_may Kept n (r.Args place) level count low h =
    let q = both (nat_lt count 8) (nat_lt n 4095 && nat_lt level 256) h in let u = both (nat_lt n 4095) (nat_lt level 256) q.1 in
    ap (λ b. b && nat_le (level + 1) 256) (fewer n u.0) ∙ lower level u.1
  where
    fewer : (n : ℕ) → nat_lt n 4095 ≡ true → nat_lt (n + 1) 4096 ≡ true
    fewer n h = grind (arith, nat_tests)

    lower : (n : ℕ) → nat_lt n 256 ≡ true → nat_le (n + 1) 256 ≡ true
    lower n h = grind (arith, nat_tests)
opened_may Free n r.Values level count low h = refl
opened_may Kept n r.Values level count low h = lower level low
  where
    lower : (n : ℕ) → nat_lt n 256 ≡ true → nat_le (n + 1) 256 ≡ true
    lower n h = grind (arith, nat_tests)

abbrev AreWanted : (bounds : Bounds) → List Want → Type 0
AreWanted bounds rest = (m : ℕ) → Wanted bounds m rest

space_left : (bounds : Bounds) (n : ℕ) (want : Want) (rest : List Want) → Wanted bounds n (want ∷ rest) → takes bounds n want space ≡ true → Wanted bounds (moved n want rest space).nodes (moved n want rest space).wants
space_left bounds n w.Gap rest h t = h
space_left bounds n (w.Row row level count ending) rest h t = (t, h.1, h.2)
space_left bounds n (w.Key stage) rest h t = absurd cc
space_left bounds n w.Version rest h t = absurd cc
space_left bounds n w.Pools rest h t = absurd cc
space_left bounds n (w.Fixed mark) rest h t = absurd cc
space_left bounds n w.Number rest h t = absurd cc
space_left bounds n w.Name rest h t = absurd cc
space_left bounds n w.Head rest h t = absurd cc
space_left bounds n (w.Root place ending) rest h t = absurd cc
space_left bounds n (w.Item row level count ending) rest h t = absurd cc

opening_left : (bounds : Bounds) (n : ℕ) (want : Want) (rest : List Want) → Wanted bounds n (want ∷ rest) → takes bounds n want opening ≡ true → Wanted bounds (moved n want rest opening).nodes (moved n want rest opening).wants
opening_left bounds n (w.Item row level count ending) rest h t = (tt, (opened_may bounds n row level count h.1 t, refl, (tt, λ m. (next_may bounds m row level count ending, h.1, h.2))))
opening_left bounds n w.Gap rest h t = absurd cc
opening_left bounds n (w.Row row level count ending) rest h t = absurd cc
opening_left bounds n (w.Key stage) rest h t = absurd cc
opening_left bounds n w.Version rest h t = absurd cc
opening_left bounds n w.Pools rest h t = absurd cc
opening_left bounds n (w.Fixed mark) rest h t = absurd cc
opening_left bounds n w.Number rest h t = absurd cc
opening_left bounds n w.Name rest h t = absurd cc
opening_left bounds n w.Head rest h t = absurd cc
opening_left bounds n (w.Root place ending) rest h t = absurd cc

closing_left : (bounds : Bounds) (n : ℕ) (want : Want) (rest : List Want) → Wanted bounds n (want ∷ rest) → takes bounds n want closing ≡ true → Wanted bounds (moved n want rest closing).nodes (moved n want rest closing).wants
closing_left bounds n (w.Row row level count e.Bracket) rest h t = h.2.1 n
closing_left bounds n (w.Row row level count e.Line) rest h t = absurd cc
closing_left bounds n (w.Row row level count (e.Mark mark)) rest h t = absurd cc
closing_left bounds n w.Gap rest h t = absurd cc
closing_left bounds n (w.Key stage) rest h t = absurd cc
closing_left bounds n w.Version rest h t = absurd cc
closing_left bounds n w.Pools rest h t = absurd cc
closing_left bounds n (w.Fixed mark) rest h t = absurd cc
closing_left bounds n w.Number rest h t = absurd cc
closing_left bounds n w.Name rest h t = absurd cc
closing_left bounds n w.Head rest h t = absurd cc
closing_left bounds n (w.Root place ending) rest h t = absurd cc
closing_left bounds n (w.Item row level count ending) rest h t = absurd cc

-- behind a word: what may be wanted, and no word
abbrev LeftBy : (bounds : Bounds) → ℕ → List Want → Type 0
LeftBy bounds n wants = Wanted bounds n wants × StartsApart wants

sized_left : (bounds : Bounds) → Wanted bounds 0 (w.Gap ∷ w.Name ∷ w.Gap ∷ w.Number ∷ w.Gap ∷ w.Number ∷ [])
sized_left bounds = (tt, (tt, (tt, tt)))

seed_left : (bounds : Bounds) → Wanted bounds 0 seed_wants
seed_left bounds = (tt, (tt, (tt, (tt, (tt, tt)))))

con_left : (bounds : Bounds) → Wanted bounds 0 (w.Gap ∷ w.Name ∷ w.Row r.Sorts 0 0 e.Line ∷ [])
con_left bounds = (tt, (refl, refl, refl))

fun_left : (bounds : Bounds) → Wanted bounds 0 (w.Gap ∷ w.Name ∷ w.Row r.Sorts 0 0 (e.Mark Arrow) ∷ w.Gap ∷ w.Name ∷ [])
fun_left bounds = (tt, (refl, refl, (tt, tt, λ m. (tt, tt))))

no_bracket : e.Line ≡ e.Bracket → ⊥
no_bracket q = cc

no_marked : (mark : Mark) → e.Mark mark ≡ e.Bracket → ⊥
no_marked mark q = cc

line_left : (bounds : Bounds) (version : Version) (k : Key) → LeftBy bounds 0 (line_wants version k)
line_left bounds version key.Signature = ((tt, tt), tt)
line_left bounds version key.Vars = ((tt, tt), tt)
line_left bounds version key.Size = ((tt, tt), tt)
line_left bounds version key.Width = ((tt, tt), tt)
line_left bounds version key.Budget = ((tt, tt), tt)
line_left bounds version key.Pairs = ((tt, tt), tt)
line_left bounds version key.Pools = (refl, tt)
line_left bounds First key.Sort = ((tt, tt), tt)
line_left bounds Second key.Sort = (sized_left bounds, tt)
line_left bounds Third key.Sort = (sized_left bounds, tt)
line_left bounds First key.Con = (con_left bounds, tt)
line_left bounds Second key.Con = (con_left bounds, tt)
line_left bounds Third key.Con = ((tt, con_left bounds), tt)
line_left bounds First key.Fun = (fun_left bounds, tt)
line_left bounds Second key.Fun = (fun_left bounds, tt)
line_left bounds Third key.Fun = ((tt, fun_left bounds), tt)
line_left bounds version key.Match = ((tt, tt), tt)
line_left bounds version key.Body = ((tt, (no_bracket, refl)), tt)
line_left bounds version key.Case = ((tt, (tt, (no_bracket, refl))), tt)
line_left bounds version key.Explore = ((refl, refl, refl), tt)
line_left bounds version key.Background = ((no_marked Equals, (tt, tt, λ m. (no_bracket, refl))), tt)
line_left bounds version key.Pool = (tt, tt)
line_left bounds version key.Values = ((tt, (refl, refl, refl)), tt)
line_left bounds version key.End = (tt, tt)

key_left : (bounds : Bounds) (stage : Stage) (o : Option Key) → allows_found stage o ≡ true → LeftBy bounds 0 (wants_found stage o ++ [])
key_left bounds stage None h = absurd cc
key_left bounds stage (Some k) h = subst (LeftBy bounds 0) (sym (append-nil (line_wants stage.version k))) (line_left bounds stage.version k)

pools_left : (bounds : Bounds) (given : Bool) → LeftBy bounds 0 (pools_wants given ++ [])
pools_left bounds true = (tt, tt)
pools_left bounds false = (seed_left bounds, tt)

root_left : (bounds : Bounds) (t : Bool) (place : Place) (ending : Ending) (rest : List Want) → (ending ≡ e.Bracket → ⊥) → Behind ending rest (AreWanted bounds rest) → LeftBy bounds (root_moved t place ending rest).nodes (root_moved t place ending rest).wants
root_left bounds t place e.Bracket rest never b = absurd (never refl)
root_left bounds true place e.Line rest never b = ((refl, refl, b), tt)
root_left bounds true place (e.Mark mark) rest never b = ((refl, refl, b), tt)
root_left bounds false place e.Line rest never b = subst (LeftBy bounds 0) (sym b) (tt, tt)
root_left bounds false place (e.Mark mark) rest never b = ((b.1, b.2 0), tt)

item_left : (bounds : Bounds) (t : Bool) (n : ℕ) (row : Row) (level count : ℕ) (ending : Ending) (rest : List Want) (bytes : List ℕ) → is_mark ending bytes ≡ t → is_low row level ≡ true → Behind ending rest (AreWanted bounds rest)
    → LeftBy bounds (item_moved t n row level count ending rest).nodes (item_moved t n row level count ending rest).wants
item_left bounds true n row level count e.Line rest bytes q low b = absurd cc
item_left bounds true n row level count e.Bracket rest bytes q low b = absurd cc
item_left bounds true n row level count (e.Mark mark) rest bytes q low b = (b.2 0, b.1)
item_left bounds false n row level count ending rest bytes q low b = ((next_may bounds (before_item row n + 1) row level count ending, low, b), tt)

word_left : (bounds : Bounds) (n : ℕ) (want : Want) (rest : List Want) (bytes : List ℕ) → Wanted bounds n (want ∷ rest) → takes bounds n want (word bytes) ≡ true → LeftBy bounds (moved n want rest (word bytes)).nodes (moved n want rest (word bytes)).wants
word_left bounds n (w.Key stage) rest bytes h t = subst (λ l. LeftBy bounds 0 (wants_found stage (key_of bytes) ++ l)) (sym h.0) (key_left bounds stage (key_of bytes) t)
word_left bounds n w.Pools rest bytes h t = subst (λ l. LeftBy bounds 0 (pools_wants (bytes_eq bytes (codes "given")) ++ l)) (sym h) (pools_left bounds (bytes_eq bytes (codes "given")))
word_left bounds n w.Version rest bytes h t = (h.1, h.0)
word_left bounds n (w.Fixed mark) rest bytes h t = (h.1, h.0)
word_left bounds n w.Number rest bytes h t = (h.1, h.0)
word_left bounds n w.Name rest bytes h t = (h.1, h.0)
word_left bounds n w.Head rest bytes h t = (h.1, h.0)
word_left bounds n (w.Root place ending) rest bytes h t = root_left bounds (is_word_of_letters bytes) place ending rest h.0 h.1
word_left bounds n (w.Item row level count ending) rest bytes h t = item_left bounds (is_mark ending bytes) n row level count ending rest bytes refl h.1 h.2
word_left bounds n w.Gap rest bytes h t = absurd cc
word_left bounds n (w.Row row level count ending) rest bytes h t = absurd cc

-- What a piece leaves; behind a word no word is wanted.
abbrev pub Apart : Piece → List Want → Type 0
Apart space wants = Unit {0}
Apart opening wants = Unit {0}
Apart closing wants = Unit {0}
Apart (word bytes) wants = StartsApart wants

pub piece_left : (bounds : Bounds) (n : ℕ) (want : Want) (rest : List Want) (piece : Piece) → Wanted bounds n (want ∷ rest) → takes bounds n want piece ≡ true
    → Wanted bounds (moved n want rest piece).nodes (moved n want rest piece).wants × Apart piece (moved n want rest piece).wants
piece_left bounds n want rest space h t = (space_left bounds n want rest h t, tt)
piece_left bounds n want rest opening h t = (opening_left bounds n want rest h t, tt)
piece_left bounds n want rest closing h t = (closing_left bounds n want rest h t, tt)
piece_left bounds n want rest (word bytes) h t = word_left bounds n want rest bytes h t
