use Rattle.std.proofs.Common.{◌≡◌, ◌++◌, drop}
use Rattle.law_typing.specs.Declarations.{gathered}
use Rattle.law_typing.specs.Stated.{equation_of}
use Rattle.law_types.proofs.stated.background.Given as goal

abbrev pub invariant-loop-line : goal.invariant-loop-line
invariant-loop-line l = l.found ++ gathered (equation_of l.text) (drop l.line-index l.lines) ≡ gathered (equation_of l.text) l.lines
