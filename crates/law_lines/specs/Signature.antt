-- Which lists of lines are a signature.
use Rattle.std.specs.Prelude.{List, map}
use Rattle.std.specs.List.{AllByRecursion}
use Rattle.law_lines.specs.declared.raw.RawLine.{RawLine}
use Rattle.law_lines.specs.declared.want.Bounds.TheVariants.{Kept}
use Rattle.law_lines.specs.Lines.{IsLine}
use Rattle.law_lines.specs.Grammar.{Spells}
use Rattle.law_lines.specs.Order.{order, shape_of}

-- The lines stand in order, and the grammar spells each.
pub record IsRawSig (lines : List RawLine) : Type 0 where
  pub order : Spells order (map shape_of lines)
  pub each : AllByRecursion (IsLine Kept) lines
