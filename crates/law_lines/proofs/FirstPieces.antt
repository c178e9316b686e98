-- The first piece of some bytes.
use Rattle.std.proofs.Common.{◌≡◌, ◌≢◌, ℕ, suc, ◌+◌, ◌<◌, ◌==◌, Bool, true, false, List, [], ◌∷◌, ◌++◌, take, drop, length, refl, ap, sym, ◌∙◌, arith, cond, subst, ◌&&◌, get_or}
use Rattle.std.specs.List.{prefix_len, list_all}
use Rattle.std.proofs.lemmas.List.{take-append-drop}
use Rattle.std.proofs.lemmas.Bool.Decides.{nat_tests}
use Rattle.law_lines.specs.Pieces.{Piece, pieces, is_plain, begun_by, lengthened, FirstPiece}
use Rattle.law_lines.specs.Pieces.Piece.{word}

begun_plain : (x y z : Bool) (b : ℕ) (ps : List Piece) → cond x false (cond y false (cond z false true)) ≡ true → begun_by x y z b ps ≡ lengthened b ps
begun_plain true y z b ps h = absurd cc
begun_plain false true z b ps h = absurd cc
begun_plain false false true b ps h = absurd cc
begun_plain false false false b ps h = refl

-- a byte that stands in a word lengthens it
pub plain_first : (b : ℕ) (bs : List ℕ) → is_plain b ≡ true → pieces (b ∷ bs) ≡ lengthened b (pieces bs)
plain_first b bs h = begun_plain (b == 32) (b == 40) (b == 41) b (pieces bs) h

-- what no word begins: it is empty, or its first byte is a space or a bracket
unfoldable pub begins_apart : List ℕ → Bool
begins_apart [] = true
begins_apart (b ∷ bs) = cond (is_plain b) false true

apart_by : (x y z : Bool) (b c : ℕ) (ps : List Piece) → cond (cond x false (cond y false (cond z false true))) false true ≡ true
    → lengthened c (begun_by x y z b ps) ≡ word (c ∷ []) ∷ begun_by x y z b ps
apart_by true y z b c ps h = refl
apart_by false true z b c ps h = refl
apart_by false false true b c ps h = refl
apart_by false false false b c ps h = absurd cc

last_of_word : (c : ℕ) (bs : List ℕ) → begins_apart bs ≡ true → lengthened c (pieces bs) ≡ word (c ∷ []) ∷ pieces bs
unfolding begins_apart
last_of_word c [] h = refl
last_of_word c (b ∷ bs) h = apart_by (b == 32) (b == 40) (b == 41) b c (pieces bs) h

pub both : (a b : Bool) → (a && b) ≡ true → (a ≡ true) × (b ≡ true)
both true true h = (refl, refl)
both true false h = absurd cc
both false b h = absurd cc

-- a word, and what comes after it: nothing, or a space or a bracket
pub word_first : (b : ℕ) (w bs : List ℕ) → list_all is_plain (b ∷ w) ≡ true → begins_apart bs ≡ true → pieces ((b ∷ w) ++ bs) ≡ word (b ∷ w) ∷ pieces bs
word_first b [] bs h e = plain_first b bs (both (is_plain b) true h).0 ∙ last_of_word b bs e
word_first b (c ∷ w) bs h e = let p = both (is_plain b) (list_all is_plain (c ∷ w)) h in plain_first b ((c ∷ w) ++ bs) p.0 ∙ ap (lengthened b) (word_first c w bs p.1 e)

one_more : (n : ℕ) → 1 + n ≡ suc n
one_more n = omega arith

abbrev IsFront : ℕ → List ℕ → Type 0
IsFront n bs = (list_all is_plain (take n bs) ≡ true) × (begins_apart (drop n bs) ≡ true)

front_by : (x : Bool) (b : ℕ) (bs : List ℕ) → is_plain b ≡ x → IsFront (prefix_len is_plain bs) bs → IsFront (cond x (1 + prefix_len is_plain bs) 0) (b ∷ bs)
unfolding begins_apart
front_by true b bs e f = subst (λ n. IsFront n (b ∷ bs)) (sym (one_more (prefix_len is_plain bs))) (ap (λ x. x && list_all is_plain (take (prefix_len is_plain bs) bs)) e ∙ f.0, f.1)
front_by false b bs e f = (refl, ap (λ x. cond x false true) e)

-- the plain bytes in front
front : (bs : List ℕ) → IsFront (prefix_len is_plain bs) bs
unfolding begins_apart
front [] = (refl, refl)
front (b ∷ bs) = front_by (is_plain b) b bs refl (front bs)

some_plain : (b : ℕ) (bs : List ℕ) → is_plain b ≡ true → prefix_len is_plain (b ∷ bs) ≡ suc (prefix_len is_plain bs)
some_plain b bs h = ap (λ x. cond x (1 + prefix_len is_plain bs) 0) h ∙ one_more (prefix_len is_plain bs)

pub first_word : (bs w rest : List ℕ) → 0 < length bs → get_or bs 0 0 ≢ 32 → get_or bs 0 0 ≢ 40 → get_or bs 0 0 ≢ 41
    → w ≡ take (prefix_len is_plain bs) bs → rest ≡ drop (prefix_len is_plain bs) bs → FirstPiece bs (word w) rest
first_word [] w rest some x y z is_w is_rest = absurd (omega arith)
first_word (b ∷ bs) w rest some x y z is_w is_rest =
    let plain : is_plain b ≡ true = grind (arith, nat_tests) in
    let n = prefix_len is_plain bs in
    let more = some_plain b bs plain in
    let f : IsFront (suc n) (b ∷ bs) = subst (λ k. IsFront k (b ∷ bs)) more (front (b ∷ bs)) in
    let wd : w ≡ b ∷ take n bs = is_w ∙ ap (λ k. take k (b ∷ bs)) more in
    let rd : rest ≡ drop n bs = is_rest ∙ ap (λ k. drop k (b ∷ bs)) more in
    let whole : (b ∷ bs) ≡ (b ∷ take n bs) ++ drop n bs = ap (λ l. b ∷ l) (sym (take-append-drop n bs)) in
    record {
      first = ap pieces whole ∙ word_first b (take n bs) (drop n bs) f.0 f.1 ∙ ap (λ l. word l ∷ pieces (drop n bs)) (sym wd) ∙ ap (λ l. word w ∷ pieces l) (sym rd);
      text = whole ∙ ap (λ l. l ++ drop n bs) (sym wd) ∙ ap (λ l. w ++ l) (sym rd);
    }
