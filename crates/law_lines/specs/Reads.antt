-- What the readers of the parts of a line say, by the walk.
use Rattle.std.specs.Prelude.{◌≡◌, ℕ, true, List, [], ◌∷◌, ◌++◌, Option, Some, None}
use Rattle.law_lines.specs.Pieces.{pieces, piece_of, piece_text}
use Rattle.law_lines.specs.Pieces.Piece.{word}
use Rattle.law_lines.specs.declared.token.Token.{Token}
use Rattle.law_lines.specs.declared.error.ReadKind.{ReadKind}
use Rattle.law_lines.specs.declared.error.Stop.{Stop}
use Rattle.law_lines.specs.declared.error.Stop.TheVariants as s
use Rattle.law_lines.specs.declared.want.Want.{Want}
use Rattle.law_lines.specs.declared.want.Bounds.TheVariants.{Kept}
use Rattle.law_lines.specs.Walk.{walk, takes, takes_word, may_end}

-- a reader that stops for a fault stops with the fault of the walk
abbrev pub Stops : Stop → Option ReadKind → Type 0
Stops (s.Form kind) fault = fault ≡ Some kind
Stops s.NoMemory fault = Unit {0}

-- whatever is wanted behind
abbrev pub StopsAt : ℕ → Want → List ℕ → Stop → Type 0
StopsAt nodes want left stop = (rest : List Want) → Stops stop (walk nodes (want ∷ rest) (pieces left))

pub record Took (nodes : ℕ) (want : Want) (old new : List ℕ) (token : Token) : Type 0 where
  pub first : pieces old ≡ piece_of token ∷ pieces new
  pub text : old ≡ piece_text (piece_of token) ++ new
  pub taken : takes Kept nodes want (piece_of token) ≡ true

-- a word was taken
pub record TookWord (nodes : ℕ) (want : Want) (old new bytes : List ℕ) : Type 0 where
  pub first : pieces old ≡ word bytes ∷ pieces new
  pub text : old ≡ bytes ++ new
  pub taken : takes_word Kept nodes want bytes ≡ true

pub record Ended (want : Want) (old new : List ℕ) : Type 0 where
  pub all : old ≡ []
  pub none : new ≡ []
  pub may : may_end want ≡ true

abbrev pub Wanted : ℕ → Want → List ℕ → List ℕ → Option Token → Type 0
Wanted nodes want old new None = Ended want old new
Wanted nodes want old new (Some token) = Took nodes want old new token

-- A part was read that has this text, and the walk goes on behind it.
pub record Reads (want : Want) (old new said : List ℕ) : Type 0 where
  pub text : old ≡ said ++ new
  pub walked : (rest : List Want) → walk 0 (want ∷ rest) (pieces old) ≡ walk 0 rest (pieces new)
