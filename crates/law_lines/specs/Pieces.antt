-- A line as pieces: spaces, brackets, and the words between them.
use Rattle.std.specs.Prelude.{◌≡◌, ℕ, ◌+◌, Bool, true, false, ◌==◌, List, [], ◌∷◌, ◌++◌, length, if◌then◌else◌}
use Rattle.law_lines.specs.declared.token.Token.{Token}
use Rattle.law_lines.specs.declared.token.Token.TheVariants.{Open, Close, Space, Word}
use Rattle.law_lines.specs.declared.token.Span.{Span}

pub data Piece : Type 0 where
  space : Piece
  opening : Piece
  closing : Piece
  word : List ℕ → Piece

-- the byte goes before the first piece, where that is a word, and is a word of its own elsewhere
abbrev pub lengthened : ℕ → List Piece → List Piece
lengthened b (word bs ∷ rest) = word (b ∷ bs) ∷ rest
lengthened b rest = word (b ∷ []) ∷ rest

abbrev pub begun_by : Bool → Bool → Bool → ℕ → List Piece → List Piece
begun_by true is_open is_close b rest = space ∷ rest
begun_by false true is_close b rest = opening ∷ rest
begun_by false false true b rest = closing ∷ rest
begun_by false false false b rest = lengthened b rest

-- The pieces of a line: each space and each bracket is one, and so is what stands between two of
-- them, or between one of them and an end of the line.
abbrev pub pieces : List ℕ → List Piece
pieces [] = []
pieces (b ∷ bs) = begun_by (b == 32) (b == 40) (b == 41) b (pieces bs)

abbrev pub piece_text : Piece → List ℕ
piece_text space = 32 ∷ []
piece_text opening = 40 ∷ []
piece_text closing = 41 ∷ []
piece_text (word bs) = bs

-- neither a space nor a bracket
abbrev pub is_plain : ℕ → Bool
is_plain b = if b == 32 then false else (if b == 40 then false else (if b == 41 then false else true))

abbrev pub piece_of : Token → Piece
piece_of Open = opening
piece_of Close = closing
piece_of Space = space
piece_of (Word bytes) = word bytes.now

-- the first piece of the bytes, and what is left behind it
pub record FirstPiece (bytes : List ℕ) (piece : Piece) (rest : List ℕ) : Type 0 where
  pub first : pieces bytes ≡ piece ∷ pieces rest
  pub text : bytes ≡ piece_text piece ++ rest

-- where one is in a line: what is left of it, and how many bytes stand before that
pub record Place : Type 0 where
  pub left : List ℕ
  pub at : ℕ

-- The token is the first piece of what was left, and its span is where it stood.
pub record IsNext (before after : Place) (token : Token) (span : Span) : Type 0 where
  pub first : pieces before.left ≡ piece_of token ∷ pieces after.left
  pub text : before.left ≡ piece_text (piece_of token) ++ after.left
  pub from : span.start ≡ before.at
  pub to : span.end ≡ after.at
  pub long : span.end ≡ span.start + length (piece_text (piece_of token))

pub record IsAtEnd (before after : Place) : Type 0 where
  pub nothing : before.left ≡ []
  pub same : after ≡ before
