-- Some bytes have a first piece.
use Rattle.std.proofs.Common.{◌≡◌, ◌≢◌, ℕ, ◌+◌, ◌<◌, ◌==◌, Bool, true, false, List, ◌∷◌, take, drop, length, refl, ap, ◌∙◌, arith, cond}
use Rattle.std.specs.List.{prefix_len}
use Rattle.std.proofs.lemmas.Bool.{eqb-true}
use Rattle.std.proofs.lemmas.Bool.Decides.{nat_tests}
use Rattle.std.proofs.lemmas.List.{length-drop}
use Rattle.law_lines.specs.Pieces.{FirstPiece, Piece, begun_by, is_plain, pieces}
use Rattle.law_lines.specs.Pieces.Piece.{space, opening, closing, word}
use Rattle.law_lines.proofs.FirstPieces.{first_word}

pub record SomeFirst (bs : List ℕ) : Type 0 where
  pub piece : Piece
  pub rest : List ℕ
  pub first : FirstPiece bs piece rest
  pub shorter : length rest < length bs

no_byte : (b k : ℕ) → (b == k) ≡ false → b ≢ k
no_byte b k h e = grind (arith, nat_tests)

some_first_by : (x y z : Bool) (b : ℕ) (bs : List ℕ) → (b == 32) ≡ x → (b == 40) ≡ y → (b == 41) ≡ z → SomeFirst (b ∷ bs)
some_first_by true y z b bs e f g = record {
  piece = space;
  rest = bs;
  first = record { first = ap (λ t. begun_by t (b == 40) (b == 41) b (pieces bs)) e; text = ap (λ n. n ∷ bs) (eqb-true b 32 e) };
  shorter = omega arith;
}
some_first_by false true z b bs e f g = record {
  piece = opening;
  rest = bs;
  first = record {
    first = ap (λ t. begun_by t (b == 40) (b == 41) b (pieces bs)) e ∙ ap (λ t. begun_by false t (b == 41) b (pieces bs)) f;
    text = ap (λ n. n ∷ bs) (eqb-true b 40 f);
  };
  shorter = omega arith;
}
some_first_by false false true b bs e f g = record {
  piece = closing;
  rest = bs;
  first = record {
    first = ap (λ t. begun_by t (b == 40) (b == 41) b (pieces bs)) e ∙ ap (λ t. begun_by false t (b == 41) b (pieces bs)) f ∙ ap (λ t. begun_by false false t b (pieces bs)) g;
    text = ap (λ n. n ∷ bs) (eqb-true b 41 g);
  };
  shorter = omega arith;
}
some_first_by false false false b bs e f g =
    let n = prefix_len is_plain (b ∷ bs) in
    let plain : is_plain b ≡ true = ap (λ t. cond t false (cond (b == 40) false (cond (b == 41) false true))) e ∙ ap (λ t. cond t false (cond (b == 41) false true)) f ∙ ap (λ t. cond t false true) g in
    let more : n ≡ 1 + prefix_len is_plain bs = ap (λ x. cond x (1 + prefix_len is_plain bs) 0) plain in
    record {
      piece = word (take n (b ∷ bs));
      rest = drop n (b ∷ bs);
      first = first_word (b ∷ bs) (take n (b ∷ bs)) (drop n (b ∷ bs)) (omega arith) (no_byte b 32 e) (no_byte b 40 f) (no_byte b 41 g) refl refl;
      shorter = let d = length-drop n (b ∷ bs) in omega arith;
    }

pub some_first : (b : ℕ) (bs : List ℕ) → SomeFirst (b ∷ bs)
some_first b bs = some_first_by (b == 32) (b == 40) (b == 41) b bs refl refl refl
