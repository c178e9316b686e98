-- What the readers of whole lines say.
use Rattle.std.specs.Prelude.{◌≡◌, ℕ, ◌<◌, ◌^◌, Bool, true, false, List, [], ◌∷◌, ◌++◌, length, map, None, codes, decimal}
use Rattle.law_lines.specs.Pieces.{pieces}
use Rattle.law_lines.specs.declared.raw.RawLine.{RawLine}
use Rattle.law_lines.specs.declared.want.Bounds.TheVariants.{Kept}
use Rattle.law_lines.specs.declared.stage.Version.{Version}
use Rattle.law_lines.specs.declared.stage.Key.{Key}
use Rattle.law_lines.specs.declared.stage.Key.TheVariants.{Signature}
use Rattle.law_lines.specs.declared.stage.Stage.{Stage}
use Rattle.law_lines.specs.declared.want.Want.TheVariants as w
use Rattle.law_lines.specs.declared.want.Want.{Want}
use Rattle.law_lines.specs.declared.want.Row.TheVariants as row
use Rattle.law_lines.specs.declared.want.Ending.TheVariants as e
use Rattle.law_lines.specs.declared.raw.RawTerm.{RawTerm}
use Rattle.law_lines.specs.Spelling.{arg_spelling, line_spelling, spaced}
use Rattle.law_lines.specs.Lines.{AreValues, IsLine}
use Rattle.law_lines.specs.Stages.{IsOfVersion, allows, key_text, line_key}
use Rattle.law_lines.specs.Walk.{walk, line_wants, pools_wants, seed_wants, setting}

pub record SettingRead (old : List ℕ) (number : ℕ) : Type 0 where
  pub text : old ≡ 32 ∷ decimal number
  pub walked : walk 0 setting (pieces old) ≡ None
  pub small : number < 2 ^ 63

-- A line was read from behind its key on.
pub record RestRead (version : Version) (key : Key) (old : List ℕ) (line : RawLine) : Type 0 where
  pub text : line_spelling line ≡ key_text key ++ old
  pub walked : walk 0 (line_wants version key) (pieces old) ≡ None
  pub spelled : IsLine Kept line
  pub begun : line_key line ≡ key
  pub form : IsOfVersion version line

-- how pools are made from a seed, from behind `seed` on
pub record SeedRead (old : List ℕ) (line : RawLine) : Type 0 where
  pub text : line_spelling line ≡ codes "pools seed" ++ old
  pub walked : walk 0 seed_wants (pieces old) ≡ None
  pub spelled : IsLine Kept line

-- the first line, by its number
pub record HeadRead (number : List ℕ) (line : RawLine) : Type 0 where
  pub text : line_spelling line ≡ codes "signature " ++ number
  pub spelled : IsLine Kept line
  pub begun : line_key line ≡ Signature
  pub form : (version : Version) → IsOfVersion version line

-- whether pools are given was read
abbrev pub rule_text : Bool → List ℕ
rule_text true = codes "given"
rule_text false = codes "seed"

pub record RuleRead (old new : List ℕ) (given : Bool) : Type 0 where
  pub text : old ≡ rule_text given ++ new
  pub walked : walk 0 (w.Pools ∷ []) (pieces old) ≡ walk 0 (pools_wants given) (pieces new)

-- the values of a pool
pub record ValuesRead (old new : List ℕ) (terms : List RawTerm) : Type 0 where
  pub text : old ≡ spaced (map arg_spelling terms) ++ new
  pub walked : (rest : List Want) → walk 0 (w.Row row.Values 1 0 e.Line ∷ rest) (pieces old) ≡ walk 0 rest (pieces new)
  pub each : AreValues Kept terms
  pub some : 0 < length terms

-- A whole line was read that may come at this stage.
pub record LineRead (stage : Stage) (bytes : List ℕ) (line : RawLine) : Type 0 where
  pub text : line_spelling line ≡ bytes
  pub walked : walk 0 (w.Key stage ∷ []) (pieces bytes) ≡ None
  pub spelled : IsLine Kept line
  pub allowed : allows stage (line_key line) ≡ true
  pub form : IsOfVersion stage.version line
