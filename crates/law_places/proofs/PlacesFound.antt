-- The place where the walk stops is the first that has no reading, and its kind is that of the place.
use Rattle.std.proofs.Common.{◌≡◌, ℕ, zero, suc, ◌<◌, ◌==◌, Bool, true, false, ◌&&◌, ◌||◌, not, List, [], ◌∷◌, ◌++◌, Some, None, refl, ap, sym, subst, ◌∙◌, arith, codes, cond, length, inl, inr, ◌⊎◌}
use Rattle.std.proofs.lemmas.List.{append_assoc, append-nil}
use Rattle.std.specs.List.{list_all, AllByRecursion}
use Rattle.law_lines.specs.Pieces.{Piece, begun_by, is_plain, lengthened, piece_text, pieces}
use Rattle.law_lines.specs.Pieces.Piece.{space, opening, closing, word}
use Rattle.law_lines.proofs.FirstPieces.{begins_apart}
use Rattle.law_lines.specs.declared.raw.RawLine.{RawLine}
use Rattle.law_lines.specs.declared.error.ReadKind.{ReadKind}
use Rattle.law_lines.specs.declared.error.ReadKind.TheVariants as k
use Rattle.law_lines.specs.declared.stage.Key.TheVariants as key
use Rattle.law_lines.specs.declared.stage.Stage.{Stage}
use Rattle.law_lines.specs.declared.want.Bounds.{Bounds}
use Rattle.law_lines.specs.declared.want.Bounds.TheVariants.{Kept, Free}
use Rattle.law_lines.specs.declared.want.Ending.TheVariants as e
use Rattle.law_lines.specs.declared.want.Place.TheVariants as p
use Rattle.law_lines.specs.declared.want.Want.{Want}
use Rattle.law_lines.specs.declared.want.Want.TheVariants as w
use Rattle.law_lines.specs.Spelling.{joined, line_spelling, term_spelling, term_words}
use Rattle.law_lines.specs.Lines.{IsLine}
use Rattle.law_lines.specs.Numbers.{cut, is_bad_behind, is_bad_index, is_number}
use Rattle.law_lines.specs.Stages.{InOrder, IsOfVersion, allows, line_key, stage_after, stage_behind, start}
use Rattle.law_lines.specs.Walk.{State, end_fault, ends, is_mended, kind_at, kind_by, kind_in_order, line_fault, may_end, moved, number_fault, step, takes, takes_word, term_fault, walk, walk_in}
use Rattle.law_lines.specs.Faults.{is_closed_by, is_printed, is_spaced}
use Rattle.law_lines.specs.Places.{Begun, BegunTerm, FirstPlace, KindBy, LineKind, NumberFault, PieceKind, StopsThere, TermKind}
use Rattle.law_lines.proofs.Again.{and_true, apart_close, apart_space, gap_on, is_solid, or_left, or_true, taken_on}
use Rattle.law_lines.proofs.AgainLines.{line_on, root_end}
use Rattle.law_places.proofs.Begins.{IsPiece, Taken, piece_on}
use Rattle.law_places.proofs.Closes.{Apart, StartsApart, Wanted, closes, piece_left}
use Rattle.law_lines.proofs.Completes.{behind_append, order_append, to_the_end}
use Rattle.law_places.proofs.Found.{root_found}
use Rattle.law_places.proofs.FreeLines.{line_begins, term_begins}
use Rattle.law_places.proofs.Freed.{lines_freed, term_freed}
use Rattle.law_places.proofs.LinesFound.{end_at, line_found}
use Rattle.law_lines.proofs.Orders.{in_order_spelled, spelled_in_order}
use Rattle.law_lines.proofs.RowSteps.{both}
use Rattle.law_places.proofs.SomeFirst.{some_first}
use Rattle.law_lines.proofs.Walks.{stuck, walk_nil}

plain_of : (x y z : Bool) → x ≡ false → y ≡ false → z ≡ false → cond x false (cond y false (cond z false true)) ≡ true
plain_of true y z a b c = absurd cc
plain_of false true z a b c = absurd cc
plain_of false false true a b c = absurd cc
plain_of false false false a b c = refl

longer_piece : (b : ℕ) (ps : List Piece) → is_plain b ≡ true → AllByRecursion IsPiece ps → AllByRecursion IsPiece (lengthened b ps)
unfolding is_solid
longer_piece b [] h a = (ap (λ t. t && true) h, tt)
longer_piece b (space ∷ ps) h a = (ap (λ t. t && true) h, a)
longer_piece b (opening ∷ ps) h a = (ap (λ t. t && true) h, a)
longer_piece b (closing ∷ ps) h a = (ap (λ t. t && true) h, a)
longer_piece b (word [] ∷ ps) h a = let q = a.0 in absurd cc
longer_piece b (word (c ∷ bytes) ∷ ps) h a = (ap (λ t. t && list_all is_plain (c ∷ bytes)) h ∙ a.0, a.1)

begun_pieces : (x y z : Bool) (b : ℕ) (ps : List Piece) → (b == 32) ≡ x → (b == 40) ≡ y → (b == 41) ≡ z → AllByRecursion IsPiece ps → AllByRecursion IsPiece (begun_by x y z b ps)
begun_pieces true y z b ps e f g a = (tt, a)
begun_pieces false true z b ps e f g a = (tt, a)
begun_pieces false false true b ps e f g a = (tt, a)
begun_pieces false false false b ps e f g a = longer_piece b ps (plain_of (b == 32) (b == 40) (b == 41) e f g) a

are_pieces : (bytes : List ℕ) → AllByRecursion IsPiece (pieces bytes)
are_pieces [] = tt
are_pieces (b ∷ bytes) = begun_pieces (b == 32) (b == 40) (b == 41) b (pieces bytes) refl refl refl (are_pieces bytes)

-- What is wanted behind pieces that are taken.
abbrev wanted : ℕ → List Want → List Piece → State
wanted n wants [] = record { nodes = n; wants = wants }
wanted n [] (piece ∷ front) = record { nodes = n; wants = [] }
wanted n (want ∷ rest) (piece ∷ front) = wanted (moved n want rest piece).nodes (moved n want rest piece).wants front

abbrev takes_next : Bounds → ℕ → List Want → Piece → Bool
takes_next bounds n [] piece = false
takes_next bounds n (want ∷ rest) piece = takes bounds n want piece

abbrev takes_behind : Bounds → ℕ → List Want → List Piece → Piece → Bool
takes_behind bounds n wants front piece = takes_next bounds (wanted n wants front).nodes (wanted n wants front).wants piece

abbrev kind_wanted : ℕ → List Want → Piece → ReadKind
kind_wanted n [] piece = k.Word
kind_wanted n (want ∷ rest) piece = kind_at n want piece

abbrev place_kind : State → Piece → ReadKind
place_kind state piece = kind_wanted state.nodes state.wants piece

last_taken : (bounds : Bounds) (front : List Piece) (n : ℕ) (wants : List Want) (piece : Piece) → Taken bounds n wants (front ++ piece ∷ []) → takes_behind bounds n wants front piece ≡ true
last_taken bounds [] n [] piece t = absurd t
last_taken bounds [] n (want ∷ rest) piece t = t.0
last_taken bounds (x ∷ front) n [] piece t = absurd t
last_taken bounds (x ∷ front) n (want ∷ rest) piece t = last_taken bounds front (moved n want rest x).nodes (moved n want rest x).wants piece t.1

one_taken : (bounds : Bounds) (front : List Piece) (n : ℕ) (wants : List Want) (piece : Piece) → Taken bounds n wants front → takes_behind bounds n wants front piece ≡ true → Taken bounds n wants (front ++ piece ∷ [])
one_taken bounds [] n [] piece t h = absurd cc
one_taken bounds [] n (want ∷ rest) piece t h = (h, tt)
one_taken bounds (x ∷ front) n [] piece t h = absurd t
one_taken bounds (x ∷ front) n (want ∷ rest) piece t h = (t.0, one_taken bounds front (moved n want rest x).nodes (moved n want rest x).wants piece t.1 h)

-- what is taken to the end
walk_taken : (bounds : Bounds) (ps more : List Piece) (n : ℕ) (wants : List Want) → walk_in bounds n wants (ps ++ more) ≡ None → Taken bounds n wants ps
unfolding walk_in
walk_taken bounds [] more n wants h = tt
walk_taken bounds (piece ∷ ps) more n [] h = absurd cc
walk_taken bounds (piece ∷ ps) more n (want ∷ rest) h = by (takes bounds n want piece) refl h (walk_taken bounds ps more (moved n want rest piece).nodes (moved n want rest piece).wants)
  where
    by : (t : Bool) → takes bounds n want piece ≡ t → step t (kind_at n want piece) (walk_in bounds (moved n want rest piece).nodes (moved n want rest piece).wants (ps ++ more)) ≡ None
        → (walk_in bounds (moved n want rest piece).nodes (moved n want rest piece).wants (ps ++ more) ≡ None → Taken bounds (moved n want rest piece).nodes (moved n want rest piece).wants ps)
        → Taken bounds n (want ∷ rest) (piece ∷ ps)
    by true q h next = (q, next h)
    by false q h next = absurd cc

-- Where the walk stops, with bytes that begin like these and that are taken to their end.
abbrev StopsHere : ℕ → List Want → List Piece → List Piece → ReadKind → Type 0
StopsHere n wants front [] kind = kind ≡ k.Missing
StopsHere n wants front (piece ∷ rest) kind = (takes_behind Kept n wants front piece ≡ false) × (kind ≡ place_kind (wanted n wants front) piece)

record Stop (n : ℕ) (wants : List Want) (old : List ℕ) (kind : ReadKind) : Type 0 where
  front : List Piece
  rest : List Piece
  split : pieces old ≡ front ++ rest
  full : List ℕ
  more : List Piece
  begins : pieces full ≡ front ++ more
  done : walk n wants (pieces full) ≡ None
  apart : StartsApart wants → begins_apart full ≡ true
  stops : StopsHere n wants front rest kind

stops_at : (n : ℕ) (wants : List Want) (old : List ℕ) (kind : ReadKind) (rest : List Piece) → Wanted Kept n wants → pieces old ≡ rest → StopsHere n wants [] rest kind → Stop n wants old kind
stops_at n wants old kind rest h e s =
    let c = closes Kept wants n h in
    record { front = []; rest = rest; split = e; full = c.more; more = pieces c.more; begins = refl; done = c.done; apart = c.apart; stops = s }

some_kind : (a b : ReadKind) → Some a ≡ Some b → b ≡ a
some_kind a b e = cc

missing : (b : Bool) (kind : ReadKind) → end_fault b ≡ Some kind → kind ≡ k.Missing
missing true kind e = absurd cc
missing false kind e = some_kind k.Missing kind e

past_there : (n : ℕ) (piece : Piece) (more : List Piece) → walk n [] (piece ∷ more) ≡ Some k.Word
unfolding walk_in
past_there n piece more = refl

moved_stops : (n : ℕ) (want : Want) (rest : List Want) (piece : Piece) (front left : List Piece) (kind : ReadKind)
    → StopsHere (moved n want rest piece).nodes (moved n want rest piece).wants front left kind → StopsHere n (want ∷ rest) (piece ∷ front) left kind
moved_stops n want rest piece front [] kind s = s
moved_stops n want rest piece front (q ∷ left) kind s = s

-- what is taken where a space or a bracket is wanted
begins_so : (n : ℕ) (want : Want) (rest : List Want) (piece : Piece) (full : List ℕ) → takes Kept n want piece ≡ true → StartsApart (want ∷ rest) → begins_apart (piece_text piece ++ full) ≡ true
begins_so n want rest space full t s = apart_space full
begins_so n want rest closing full t s = apart_close full
begins_so n w.Gap rest opening full t s = absurd cc
begins_so n (w.Row row level count ending) rest opening full t s = absurd cc
begins_so n (w.Key stage) rest opening full t s = absurd s
begins_so n w.Version rest opening full t s = absurd s
begins_so n w.Pools rest opening full t s = absurd s
begins_so n (w.Fixed mark) rest opening full t s = absurd s
begins_so n w.Number rest opening full t s = absurd s
begins_so n w.Name rest opening full t s = absurd s
begins_so n w.Head rest opening full t s = absurd s
begins_so n (w.Root place ending) rest opening full t s = absurd s
begins_so n (w.Item row level count ending) rest opening full t s = absurd s
begins_so n w.Gap rest (word bytes) full t s = absurd cc
begins_so n (w.Row row level count ending) rest (word bytes) full t s = absurd cc
begins_so n (w.Key stage) rest (word bytes) full t s = absurd s
begins_so n w.Version rest (word bytes) full t s = absurd s
begins_so n w.Pools rest (word bytes) full t s = absurd s
begins_so n (w.Fixed mark) rest (word bytes) full t s = absurd s
begins_so n w.Number rest (word bytes) full t s = absurd s
begins_so n w.Name rest (word bytes) full t s = absurd s
begins_so n w.Head rest (word bytes) full t s = absurd s
begins_so n (w.Root place ending) rest (word bytes) full t s = absurd s
begins_so n (w.Item row level count ending) rest (word bytes) full t s = absurd s

moved_on : (n : ℕ) (want : Want) (rest : List Want) (old new : List ℕ) (piece : Piece) (kind : ReadKind) → pieces old ≡ piece ∷ pieces new → IsPiece piece → takes Kept n want piece ≡ true
    → Apart piece (moved n want rest piece).wants → Stop (moved n want rest piece).nodes (moved n want rest piece).wants new kind → Stop n (want ∷ rest) old kind
moved_on n want rest old new piece kind first is t apart x =
    let on = piece_on piece (moved n want rest piece).wants x.full is apart x.apart in
    record {
      front = piece ∷ x.front;
      rest = x.rest;
      split = first ∙ ap (λ l. piece ∷ l) x.split;
      full = piece_text piece ++ x.full;
      more = x.more;
      begins = on ∙ ap (λ l. piece ∷ l) x.begins;
      done = ap (walk n (want ∷ rest)) on ∙ taken_on Kept n want rest piece (pieces x.full) t ∙ x.done;
      apart = λ s. begins_so n want rest piece x.full t s;
      stops = moved_stops n want rest piece x.front x.rest kind x.stops;
    }

abbrev Finds : ℕ → Type 0
Finds fuel = (n : ℕ) (wants : List Want) (old : List ℕ) (kind : ReadKind) → length old < fuel → Wanted Kept n wants → walk n wants (pieces old) ≡ Some kind → Stop n wants old kind

first_is_piece : (old new : List ℕ) (piece : Piece) → pieces old ≡ piece ∷ pieces new → IsPiece piece
first_is_piece old new piece e = (subst (AllByRecursion IsPiece) e (are_pieces old)).0

find_by : (t : Bool) (fuel : ℕ) → Finds fuel → (n : ℕ) (want : Want) (rest : List Want) (old new : List ℕ) (piece : Piece) (kind : ReadKind) → takes Kept n want piece ≡ t → length new < fuel → pieces old ≡ piece ∷ pieces new
    → Wanted Kept n (want ∷ rest) → walk n (want ∷ rest) (pieces old) ≡ Some kind → Stop n (want ∷ rest) old kind
find_by false fuel rec n want rest old new piece kind t short first h e =
    stops_at n (want ∷ rest) old kind (piece ∷ pieces new) h first (t, some_kind (kind_at n want piece) kind (sym (stuck n want old new piece first t rest) ∙ e))
find_by true fuel rec n want rest old new piece kind t short first h e =
    let q = piece_left Kept n want rest piece h t in
    moved_on n want rest old new piece kind first (first_is_piece old new piece first) t q.1
    (rec (moved n want rest piece).nodes (moved n want rest piece).wants new kind short q.0 (sym (taken_on Kept n want rest piece (pieces new) t) ∙ ap (walk n (want ∷ rest)) (sym first) ∙ e))

find : (fuel : ℕ) → Finds fuel
find zero = λ n wants old kind short h e. absurd (omega arith)
find (suc fuel) = λ n wants old kind short h e. by (find fuel) n wants old kind short h e
  where
    by : Finds fuel → (n : ℕ) (wants : List Want) (old : List ℕ) (kind : ReadKind) → length old < suc fuel → Wanted Kept n wants → walk n wants (pieces old) ≡ Some kind → Stop n wants old kind
    by rec n [] [] kind short h e = let q = walk_nil Kept n [] in absurd (cc)
    by rec n [] (b ∷ bs) kind short h e =
        let f = some_first b bs in
        stops_at n [] (b ∷ bs) kind (f.piece ∷ pieces f.rest) h f.first.first
        (refl, some_kind k.Word kind (sym (past_there n f.piece (pieces f.rest)) ∙ ap (walk n []) (sym f.first.first) ∙ e))
    by rec n (want ∷ rest) [] kind short h e = stops_at n (want ∷ rest) [] kind [] h refl (missing (may_end want && ends rest) kind (sym (walk_nil Kept n (want ∷ rest)) ∙ e))
    by rec n (want ∷ rest) (b ∷ bs) kind short h e =
        let f = some_first b bs in
        find_by (takes Kept n want f.piece) fuel rec n want rest (b ∷ bs) f.rest f.piece kind refl (let s = f.shorter in omega arith) f.first.first h e

-- The kind of a piece that is not taken, by what begins with it or with a word in its place.
record Next (Begins : Bounds → List Piece → Type 0) (front : List Piece) (n : ℕ) (wants : List Want) : Type 0 where
  some : (piece : Piece) → IsPiece piece → takes_next Free n wants piece ≡ true → Begins Free (front ++ piece ∷ [])
  none : (piece : Piece) → Begins Free (front ++ piece ∷ []) → takes_next Free n wants piece ≡ true

not_true : (b : Bool) → b ≡ false → not b ≡ true
not_true b h = ap not h

not_false : (b : Bool) → not b ≡ true → b ≡ false
not_false true h = absurd cc
not_false false h = refl

either : (a b : Bool) → (a || b) ≡ true → (a ≡ true) ⊎ (b ≡ true)
either true b h = inl refl
either false b h = inr h

-- a word whose number is at fault
faulty : (Begins : Bounds → List Piece → Type 0) (front : List Piece) (n : ℕ) (want : Want) (rest : List Want) (bytes : List ℕ) → Next Begins front n (want ∷ rest) → is_mended n want bytes ≡ true → NumberFault Begins front (word bytes)
unfolding is_solid
faulty Begins front n want rest bytes x h = first (either (not (is_number bytes) && takes_word Free n want (codes "0")) _ h)
  where
    last : (is_bad_behind 64 bytes && takes_word Free n want (codes "@0")) ≡ true → NumberFault Begins front (word bytes)
    last h = let q = both (is_bad_behind 64 bytes) _ h in inr (inr (inr (q.0, x.some (word (codes "@0")) refl q.1)))

    third : ((is_bad_behind 35 bytes && takes_word Free n want (codes "#0")) ≡ true) ⊎ ((is_bad_behind 64 bytes && takes_word Free n want (codes "@0")) ≡ true) → NumberFault Begins front (word bytes)
    third (inl h) = let q = both (is_bad_behind 35 bytes) _ h in inr (inr (inl (q.0, x.some (word (codes "#0")) refl q.1)))
    third (inr h) = last h

    second : ((is_bad_index (cut bytes) && takes_word Free n want (codes "A.0")) ≡ true)
        ⊎ (((is_bad_behind 35 bytes && takes_word Free n want (codes "#0")) || (is_bad_behind 64 bytes && takes_word Free n want (codes "@0"))) ≡ true) → NumberFault Begins front (word bytes)
    second (inl h) = let q = both (is_bad_index (cut bytes)) _ h in inr (inl (q.0, x.some (word (codes "A.0")) refl q.1))
    second (inr h) = third (either _ _ h)

    first : ((not (is_number bytes) && takes_word Free n want (codes "0")) ≡ true)
        ⊎ (((is_bad_index (cut bytes) && takes_word Free n want (codes "A.0"))
        || ((is_bad_behind 35 bytes && takes_word Free n want (codes "#0")) || (is_bad_behind 64 bytes && takes_word Free n want (codes "@0")))) ≡ true) → NumberFault Begins front (word bytes)
    first (inl h) = let q = both (not (is_number bytes)) _ h in inl (not_false (is_number bytes) q.0, x.some (word (codes "0")) refl q.1)
    first (inr h) = second (either _ _ h)

mended : (Begins : Bounds → List Piece → Type 0) (front : List Piece) (n : ℕ) (want : Want) (rest : List Want) (bytes : List ℕ) → Next Begins front n (want ∷ rest) → NumberFault Begins front (word bytes) → is_mended n want bytes ≡ true
mended Begins front n want rest bytes x h = by h
  where
    one : Bool
    one = not (is_number bytes) && takes_word Free n want (codes "0")

    two : Bool
    two = is_bad_index (cut bytes) && takes_word Free n want (codes "A.0")

    three : Bool
    three = is_bad_behind 35 bytes && takes_word Free n want (codes "#0")

    four : Bool
    four = is_bad_behind 64 bytes && takes_word Free n want (codes "@0")

    by : NumberFault Begins front (word bytes) → (one || (two || (three || four))) ≡ true
    by (inl h) = or_left one (two || (three || four)) (and_true _ _ (not_true (is_number bytes) h.0) (x.none (word (codes "0")) h.1))
    by (inr (inl h)) = or_true one (two || (three || four)) (or_left two (three || four) (and_true _ _ h.0 (x.none (word (codes "A.0")) h.1)))
    by (inr (inr (inl h))) = or_true one (two || (three || four)) (or_true two (three || four) (or_left three four (and_true _ _ h.0 (x.none (word (codes "#0")) h.1))))
    by (inr (inr (inr h))) = or_true one (two || (three || four)) (or_true two (three || four) (or_true three four (and_true _ _ h.0 (x.none (word (codes "@0")) h.1))))

at_fault : (Begins : Bounds → List Piece → Type 0) (front : List Piece) (n : ℕ) (want : Want) (rest : List Want) (piece : Piece) → Next Begins front n (want ∷ rest) → number_fault n want piece ≡ true → NumberFault Begins front piece
at_fault Begins front n want rest space x h = absurd cc
at_fault Begins front n want rest opening x h = absurd cc
at_fault Begins front n want rest closing x h = absurd cc
at_fault Begins front n want rest (word bytes) x h = faulty Begins front n want rest bytes x h

fault_at : (Begins : Bounds → List Piece → Type 0) (front : List Piece) (n : ℕ) (want : Want) (rest : List Want) (piece : Piece) → Next Begins front n (want ∷ rest) → NumberFault Begins front piece → number_fault n want piece ≡ true
fault_at Begins front n want rest space x h = absurd h
fault_at Begins front n want rest opening x h = absurd h
fault_at Begins front n want rest closing x h = absurd h
fault_at Begins front n want rest (word bytes) x h = mended Begins front n want rest bytes x h

no_fault : (Begins : Bounds → List Piece → Type 0) (front : List Piece) (n : ℕ) (piece : Piece) → Next Begins front n [] → NumberFault Begins front piece → ⊥
no_fault Begins front n space x h = h
no_fault Begins front n opening x h = h
no_fault Begins front n closing x h = h
no_fault Begins front n (word bytes) x (inl h) = let q = x.none (word (codes "0")) h.1 in absurd (cc)
no_fault Begins front n (word bytes) x (inr (inl h)) = let q = x.none (word (codes "A.0")) h.1 in absurd (cc)
no_fault Begins front n (word bytes) x (inr (inr (inl h))) = let q = x.none (word (codes "#0")) h.1 in absurd (cc)
no_fault Begins front n (word bytes) x (inr (inr (inr h))) = let q = x.none (word (codes "@0")) h.1 in absurd (cc)

is_false : (b : Bool) → b ≡ false → b ≡ true → ⊥
is_false true h g = cc
is_false false h g = cc

kind_of_by : (a b : Bool) (Begins : Bounds → List Piece → Type 0) (front : List Piece) (n : ℕ) (want : Want) (rest : List Want) (piece : Piece) → number_fault n want piece ≡ a → takes Free n want piece ≡ b → IsPiece piece
    → Next Begins front n (want ∷ rest) → PieceKind Begins front piece (kind_by a b)
kind_of_by true b Begins front n want rest piece f t is x = at_fault Begins front n want rest piece x f
kind_of_by false true Begins front n want rest piece f t is x = ((λ h. is_false (number_fault n want piece) f (fault_at Begins front n want rest piece x h)), x.some piece is t)
kind_of_by false false Begins front n want rest piece f t is x =
    ((λ h. is_false (number_fault n want piece) f (fault_at Begins front n want rest piece x h)), (λ h. is_false (takes Free n want piece) t (x.none piece h)))

kind_of : (Begins : Bounds → List Piece → Type 0) (front : List Piece) (n : ℕ) (wants : List Want) (piece : Piece) → IsPiece piece → Next Begins front n wants → PieceKind Begins front piece (kind_wanted n wants piece)
kind_of Begins front n [] piece is x = ((λ h. no_fault Begins front n piece x h), (λ h. let q = x.none piece h in absurd (cc)))
kind_of Begins front n (want ∷ rest) piece is x = kind_of_by (number_fault n want piece) (takes Free n want piece) Begins front n want rest piece refl refl is x

-- What begins is what is taken, in the grammar with its bounds and without them.
record Told (Begins : Bounds → List Piece → Type 0) (n : ℕ) (wants : List Want) : Type 0 where
  taken : (bounds : Bounds) (ps : List Piece) → Begins bounds ps → Taken bounds n wants ps
  begun : (ps : List Piece) (piece : Piece) → Taken Free n wants (ps ++ piece ∷ []) → AllByRecursion IsPiece (ps ++ piece ∷ []) → Begins Free (ps ++ piece ∷ [])
  freed : (ps : List Piece) → Begins Kept ps → Begins Free ps

next_of : (Begins : Bounds → List Piece → Type 0) (n : ℕ) (wants : List Want) (front : List Piece) → Told Begins n wants → Begins Kept front → AllByRecursion IsPiece front
    → Next Begins front (wanted n wants front).nodes (wanted n wants front).wants
next_of Begins n wants front x b are = record {
  some = λ piece is t. x.begun front piece (one_taken Free front n wants piece (x.taken Free front (x.freed front b)) t) (one_more front piece are is);
  none = λ piece h. last_taken Free front n wants piece (x.taken Free (front ++ piece ∷ []) h);
}
  where
    one_more : (front : List Piece) (piece : Piece) → AllByRecursion IsPiece front → IsPiece piece → AllByRecursion IsPiece (front ++ piece ∷ [])
    one_more [] piece are is = (is, tt)
    one_more (x ∷ front) piece are is = (are.0, one_more front piece are.1 is)

all_front : (front rest : List Piece) → AllByRecursion IsPiece (front ++ rest) → AllByRecursion IsPiece front
all_front [] rest h = tt
all_front (x ∷ front) rest h = (h.0, all_front front rest h.1)

all_behind : (front rest : List Piece) → AllByRecursion IsPiece (front ++ rest) → AllByRecursion IsPiece rest
all_behind [] rest h = h
all_behind (x ∷ front) rest h = all_behind front rest h.1

stops_there : (Begins : Bounds → List Piece → Type 0) (n : ℕ) (wants : List Want) (front rest : List Piece) (kind : ReadKind) → Told Begins n wants → Begins Kept front → AllByRecursion IsPiece (front ++ rest)
    → StopsHere n wants front rest kind → StopsThere Begins front rest kind
stops_there Begins n wants front [] kind x b are s = s
stops_there Begins n wants front (piece ∷ rest) kind x b are s = (
  (λ h. is_false (takes_behind Kept n wants front piece) s.0 (last_taken Kept front n wants piece (x.taken Kept (front ++ piece ∷ []) h))),
  subst (PieceKind Begins front piece) (sym s.1)
      (kind_of Begins front (wanted n wants front).nodes (wanted n wants front).wants piece (all_behind front (piece ∷ rest) are).0 (next_of Begins n wants front x b (all_front front (piece ∷ rest) are))),
)

first_place : (Begins : Bounds → List Piece → Type 0) (n : ℕ) (wants : List Want) (line : List ℕ) (kind : ReadKind) → Told Begins n wants → (x : Stop n wants line kind) → Begins Kept x.front → FirstPlace Begins line kind
first_place Begins n wants line kind told x b = record {
  front = x.front;
  rest = x.rest;
  split = x.split;
  begins = b;
  stops = stops_there Begins n wants x.front x.rest kind told b (subst (AllByRecursion IsPiece) x.split (are_pieces line)) x.stops;
}

-- Lines of bytes as lines of signatures.
abbrev AreLines : Bounds → List RawLine → Type 0
AreLines bounds lines = AllByRecursion (IsLine bounds) lines

record Allowed (stage : Stage) : Type 0 where
  line : RawLine
  allowed : allows stage (line_key line) ≡ true
  form : IsOfVersion stage.version line
  spelled : IsLine Kept line

first_allowed : (stage : Stage) (lines : List RawLine) → is_closed_by stage.last ≡ false → InOrder stage lines → (stage_behind stage lines).last ≡ Some key.End → AreLines Kept lines → Allowed stage
first_allowed stage [] h order e each = let q = ap is_closed_by e in absurd (cc)
first_allowed stage (x ∷ lines) h order e each = record { line = x; allowed = order.0; form = order.1; spelled = each.0 }

some_allowed : (stage : Stage) → is_closed_by stage.last ≡ false → Allowed stage
some_allowed stage h = let m = to_the_end stage in first_allowed stage m.lines h m.order m.closed m.each

order_split : (stage : Stage) (xs ys : List RawLine) → InOrder stage (xs ++ ys) → InOrder (stage_behind stage xs) ys
order_split stage [] ys h = h
order_split stage (x ∷ xs) ys h = order_split (stage_after stage x) xs ys h.2

each_split : (bounds : Bounds) (xs ys : List RawLine) → AreLines bounds (xs ++ ys) → AreLines bounds ys
each_split bounds [] ys h = h
each_split bounds (x ∷ xs) ys h = each_split bounds xs ys h.1

each_joined : (bounds : Bounds) (xs ys : List RawLine) → AreLines bounds xs → AreLines bounds ys → AreLines bounds (xs ++ ys)
each_joined bounds [] ys h g = g
each_joined bounds (x ∷ xs) ys h g = (h.0, each_joined bounds xs ys h.1 g)

freely : (bounds : Bounds) (lines : List RawLine) → AreLines Kept lines → AreLines bounds lines
freely Kept lines h = h
freely Free lines h = lines_freed lines h

begun_by_line : (bounds : Bounds) (before : List RawLine) (front : List Piece) (line : RawLine) (more : List Piece) → InOrder start before → AreLines Kept before → allows (stage_behind start before) (line_key line) ≡ true
    → IsOfVersion (stage_behind start before).version line → IsLine bounds line → pieces (line_spelling line) ≡ front ++ more → Begun before bounds front
begun_by_line bounds before front line more order each a f s e =
    let stage = stage_behind start before in let m = to_the_end (stage_after stage line) in
    record {
      line = line;
      after = m.lines;
      in_order = in_order_spelled (before ++ line ∷ m.lines) (order_append start before (line ∷ m.lines) order (a, f, m.order)) (ap (λ s. s.last) (behind_append start before (line ∷ m.lines)) ∙ m.closed);
      each = each_joined bounds before (line ∷ m.lines) (freely bounds before each) (s, freely bounds m.lines m.each);
      rest = more;
      begins = e;
    }

line_taken : (before : List RawLine) (bounds : Bounds) (ps : List Piece) → Begun before bounds ps → Taken bounds 0 (w.Key (stage_behind start before) ∷ []) ps
line_taken before bounds ps b =
    let stage = stage_behind start before in
    let o = order_split start before (b.line ∷ b.after) (spelled_in_order (before ++ b.line ∷ b.after) b.in_order).0 in
    let s = each_split bounds before (b.line ∷ b.after) b.each in
    walk_taken bounds ps b.rest 0 (w.Key stage ∷ []) (ap (walk_in bounds 0 (w.Key stage ∷ [])) (sym b.begins) ∙ line_on bounds stage b.line o.0 o.1 s.0)

line_freely : (before : List RawLine) (ps : List Piece) → Begun before Kept ps → Begun before Free ps
line_freely before ps b = record { line = b.line; after = b.after; in_order = b.in_order; each = lines_freed (before ++ b.line ∷ b.after) b.each; rest = b.rest; begins = b.begins }

-- some text that may stand as a line
line_closes : (bounds : Bounds) (stage : Stage) → is_closed_by stage.last ≡ false → Wanted bounds 0 (w.Key stage ∷ [])
line_closes bounds stage going =
    let a = some_allowed stage going in let s = (freely bounds (a.line ∷ []) (a.spelled, tt)).0 in
    (refl, record { more = line_spelling a.line; done = line_on bounds stage a.line a.allowed a.form s; apart = λ s. absurd s })

line_begun : (before : List RawLine) → InOrder start before → AreLines Kept before → is_closed_by (stage_behind start before).last ≡ false → (ps : List Piece) (piece : Piece)
    → Taken Free 0 (w.Key (stage_behind start before) ∷ []) (ps ++ piece ∷ []) → AllByRecursion IsPiece (ps ++ piece ∷ []) → Begun before Free (ps ++ piece ∷ [])
line_begun before order each going [] piece t is =
    let x = line_begins (stage_behind start before) piece [] (line_closes Free (stage_behind start before) going) t is in begun_by_line Free before (piece ∷ []) x.line x.more order each x.allowed x.form x.spelled x.begins
line_begun before order each going (first ∷ ps) piece t is =
    let x = line_begins (stage_behind start before) first (ps ++ piece ∷ []) (line_closes Free (stage_behind start before) going) t is in
    begun_by_line Free before (first ∷ (ps ++ piece ∷ [])) x.line x.more order each x.allowed x.form x.spelled x.begins

line_told : (before : List RawLine) → InOrder start before → AreLines Kept before → is_closed_by (stage_behind start before).last ≡ false → Told (Begun before) 0 (w.Key (stage_behind start before) ∷ [])
line_told before order each going = record { taken = line_taken before; begun = line_begun before order each going; freed = line_freely before }

place_law : (before : List RawLine) (line : List ℕ) (kind : ReadKind) → InOrder start before → AreLines Kept before → is_closed_by (stage_behind start before).last ≡ false
    → walk 0 (w.Key (stage_behind start before) ∷ []) (pieces line) ≡ Some kind → FirstPlace (Begun before) line kind
place_law before line kind order each going e =
    let stage = stage_behind start before in
    let x = find (suc (length line)) 0 (w.Key stage ∷ []) line kind (omega arith) (line_closes Kept stage going) e in
    let f = line_found stage x.full x.done in
    first_place (Begun before) 0 (w.Key stage ∷ []) line kind (line_told before order each going) x
    (begun_by_line Kept before x.front f.0 x.more order each f.1.allowed f.1.form f.1.spelled (ap pieces f.1.text ∙ x.begins))

-- the kind of a line at fault
kind_in : (a b c : Bool) (Begins : Bounds → List Piece → Type 0) (n : ℕ) (wants : List Want) (line : List ℕ) (kind : ReadKind) → (c ≡ false → walk n wants (pieces line) ≡ Some kind → FirstPlace Begins line kind)
    → kind_in_order a b c (walk n wants (pieces line)) ≡ Some kind → KindBy a b c Begins line kind
kind_in false b c Begins n wants line kind place h = some_kind k.Byte kind h
kind_in true false c Begins n wants line kind place h = some_kind k.Doubled kind h
kind_in true true true Begins n wants line kind place h = some_kind k.Word kind h
kind_in true true false Begins n wants line kind place h = place refl h

pub line_kind : (before : List RawLine) (line : List ℕ) (kind : ReadKind) → InOrder start before → AreLines Kept before → line_fault (stage_behind start before) line ≡ Some kind → LineKind before line kind
line_kind before line kind order each h =
    kind_in (list_all is_printed line) (is_spaced line) (is_closed_by (stage_behind start before).last) (Begun before) 0 (w.Key (stage_behind start before) ∷ []) line kind
    (λ going e. place_law before line kind order each going e) h

-- Terms by themselves.
abbrev root : List Want
root = w.Root p.Equation e.Line ∷ []

no_bracket : e.Line ≡ e.Bracket → ⊥
no_bracket q = cc

root_wanted : (bounds : Bounds) → Wanted bounds 0 root
root_wanted bounds = (no_bracket, refl)

term_taken : (bounds : Bounds) (ps : List Piece) → BegunTerm bounds ps → Taken bounds 0 root ps
term_taken bounds ps b =
    walk_taken bounds ps b.rest 0 root
    (ap (walk_in bounds 0 root) (sym b.begins) ∙ sym (gap_on bounds 0 root (joined (term_words b.term))) ∙ root_end bounds p.Equation b.term b.is_term)

term_begun : (ps : List Piece) (piece : Piece) → Taken Free 0 root (ps ++ piece ∷ []) → AllByRecursion IsPiece (ps ++ piece ∷ []) → BegunTerm Free (ps ++ piece ∷ [])
term_begun ps piece t is = let x = term_begins (ps ++ piece ∷ []) (root_wanted Free) t is in record { term = x.term; is_term = x.is_term; rest = x.more; begins = x.begins }

term_freely : (ps : List Piece) → BegunTerm Kept ps → BegunTerm Free ps
term_freely ps b = record { term = b.term; is_term = term_freed p.Equation b.term b.is_term; rest = b.rest; begins = b.begins }

term_place : (bytes : List ℕ) (kind : ReadKind) → walk 0 root (pieces bytes) ≡ Some kind → FirstPlace BegunTerm bytes kind
term_place bytes kind h =
    let x = find (suc (length bytes)) 0 root bytes kind (omega arith) (root_wanted Kept) h in
    let f = root_found p.Equation e.Line x.full [] tt x.done in
    let text : x.full ≡ term_spelling f.term = f.read.text ∙ ap (λ t. term_spelling f.term ++ t) (end_at f.new f.left) ∙ append-nil (term_spelling f.term) in
    first_place BegunTerm 0 root bytes kind (record { taken = term_taken; begun = term_begun; freed = term_freely }) x
    (record { term = f.term; is_term = f.read.is_term; rest = x.more; begins = ap pieces (sym text) ∙ x.begins })

pub term_kind : (bytes : List ℕ) (kind : ReadKind) → term_fault bytes ≡ Some kind → TermKind bytes kind
term_kind bytes kind h = kind_in (list_all is_printed bytes) (is_spaced bytes) false BegunTerm 0 root bytes kind (λ going e. term_place bytes kind e) h

-- A line has one first place, and one kind.
record Further (xs ys left right : List Piece) : Type 0 where
  more : List Piece
  is : ys ≡ xs ++ more
  text : left ≡ more ++ right

fronts : (xs ys left right : List Piece) → xs ++ left ≡ ys ++ right → Further xs ys left right ⊎ Further ys xs right left
fronts [] ys left right e = inl (record { more = ys; is = refl; text = e })
fronts (x ∷ xs) [] left right e = inr (record { more = x ∷ xs; is = refl; text = sym e })
fronts (x ∷ xs) (y ∷ ys) left right e =
    let f : x ≡ y = cc in let g : xs ++ left ≡ ys ++ right = cc in longer x y xs ys left right f (fronts xs ys left right g)
  where
    longer : (x y : Piece) (xs ys left right : List Piece) → x ≡ y → Further xs ys left right ⊎ Further ys xs right left → Further (x ∷ xs) (y ∷ ys) left right ⊎ Further (y ∷ ys) (x ∷ xs) right left
    longer x y xs ys left right e (inl a) = inl (record { more = a.more; is = ap (λ l. l ∷ ys) (sym e) ∙ ap (λ l. x ∷ l) a.is; text = a.text })
    longer x y xs ys left right e (inr a) = inr (record { more = a.more; is = ap (λ l. l ∷ xs) e ∙ ap (λ l. y ∷ l) a.is; text = a.text })

one_piece : (Begins : Bounds → List Piece → Type 0) (front : List Piece) (piece : Piece) (kind why : ReadKind) → PieceKind Begins front piece kind → PieceKind Begins front piece why → kind ≡ why
one_piece Begins front piece k.Number k.Number a b = refl
one_piece Begins front piece k.Number k.TooLong a b = absurd (b.0 a)
one_piece Begins front piece k.Number k.Word a b = absurd (b.0 a)
one_piece Begins front piece k.TooLong k.Number a b = absurd (a.0 b)
one_piece Begins front piece k.TooLong k.TooLong a b = refl
one_piece Begins front piece k.TooLong k.Word a b = absurd (b.1 a.1)
one_piece Begins front piece k.Word k.Number a b = absurd (a.0 b)
one_piece Begins front piece k.Word k.TooLong a b = absurd (a.1 b.1)
one_piece Begins front piece k.Word k.Word a b = refl
one_piece Begins front piece k.Byte why a b = absurd a
one_piece Begins front piece k.Missing why a b = absurd a
one_piece Begins front piece k.Doubled why a b = absurd a
one_piece Begins front piece kind k.Byte a b = absurd b
one_piece Begins front piece kind k.Missing a b = absurd b
one_piece Begins front piece kind k.Doubled a b = absurd b

one_stop : (Begins : Bounds → List Piece → Type 0) (front rest : List Piece) (kind why : ReadKind) → StopsThere Begins front rest kind → StopsThere Begins front rest why → kind ≡ why
one_stop Begins front [] kind why a b = a ∙ sym b
one_stop Begins front (piece ∷ rest) kind why a b = one_piece Begins front piece kind why a.1 b.1

abbrev Shortens : (Bounds → List Piece → Type 0) → Type 0
Shortens Begins = (front : List Piece) (piece : Piece) (more : List Piece) → Begins Kept (front ++ piece ∷ more) → Begins Kept (front ++ piece ∷ [])

shorter : (front : List Piece) (piece : Piece) (more rest ps : List Piece) → ps ≡ (front ++ piece ∷ more) ++ rest → ps ≡ (front ++ piece ∷ []) ++ (more ++ rest)
shorter front piece more rest ps e = e ∙ ap (λ l. l ++ rest) (sym (append_assoc front (piece ∷ []) more)) ∙ append_assoc (front ++ piece ∷ []) more rest

line_shortens : (before : List RawLine) → Shortens (Begun before)
line_shortens before = λ front piece more b.
    record { line = b.line; after = b.after; in_order = b.in_order; each = b.each; rest = more ++ b.rest; begins = shorter front piece more b.rest (pieces (line_spelling b.line)) b.begins }

term_shortens : Shortens BegunTerm
term_shortens = λ front piece more b. record { term = b.term; is_term = b.is_term; rest = more ++ b.rest; begins = shorter front piece more b.rest (pieces (term_spelling b.term)) b.begins }

stops_before : (Begins : Bounds → List Piece → Type 0) (front rest : List Piece) (kind : ReadKind) (piece : Piece) (more : List Piece) → rest ≡ piece ∷ more → StopsThere Begins front rest kind → Begins Kept (front ++ piece ∷ []) → ⊥
stops_before Begins front [] kind piece more e s b = cc
stops_before Begins front (q ∷ rest) kind piece more e s b = let f : piece ≡ q = cc in s.0 (subst (λ p. Begins Kept (front ++ p ∷ [])) f b)

further : (Begins : Bounds → List Piece → Type 0) → Shortens Begins → (line : List ℕ) (kind why : ReadKind) (x : FirstPlace Begins line kind) (y : FirstPlace Begins line why) (more : List Piece) → y.front ≡ x.front ++ more
    → x.rest ≡ more ++ y.rest → kind ≡ why
further Begins short line kind why x y [] e f =
    one_stop Begins y.front y.rest kind why (subst (λ l. StopsThere Begins y.front l kind) f (subst (λ l. StopsThere Begins l x.rest kind) (sym (e ∙ append-nil x.front)) x.stops)) y.stops
further Begins short line kind why x y (piece ∷ more) e f =
    absurd (stops_before Begins x.front x.rest kind piece (more ++ y.rest) f x.stops (short x.front piece more (subst (Begins Kept) e y.begins)))

one_place : (Begins : Bounds → List Piece → Type 0) → Shortens Begins → (line : List ℕ) (kind why : ReadKind) → FirstPlace Begins line kind → FirstPlace Begins line why → kind ≡ why
one_place Begins short line kind why x y = by (fronts x.front y.front x.rest y.rest (sym x.split ∙ y.split))
  where
    by : Further x.front y.front x.rest y.rest ⊎ Further y.front x.front y.rest x.rest → kind ≡ why
    by (inl a) = further Begins short line kind why x y a.more a.is a.text
    by (inr a) = sym (further Begins short line why kind y x a.more a.is a.text)

one_by : (a b c : Bool) (Begins : Bounds → List Piece → Type 0) → Shortens Begins → (line : List ℕ) (kind why : ReadKind) → KindBy a b c Begins line kind → KindBy a b c Begins line why → kind ≡ why
one_by false b c Begins short line kind why x y = x ∙ sym y
one_by true false c Begins short line kind why x y = x ∙ sym y
one_by true true true Begins short line kind why x y = x ∙ sym y
one_by true true false Begins short line kind why x y = one_place Begins short line kind why x y

pub one_kind : (before : List RawLine) (line : List ℕ) (kind why : ReadKind) → LineKind before line kind → LineKind before line why → kind ≡ why
one_kind before line kind why x y =
    one_by (list_all is_printed line) (is_spaced line) (is_closed_by (stage_behind start before).last) (Begun before) (line_shortens before) line kind why x y

pub one_term_kind : (bytes : List ℕ) (kind why : ReadKind) → TermKind bytes kind → TermKind bytes why → kind ≡ why
one_term_kind bytes kind why x y = one_by (list_all is_printed bytes) (is_spaced bytes) false BegunTerm term_shortens bytes kind why x y
