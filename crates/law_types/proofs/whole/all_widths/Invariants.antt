use Rattle.std.proofs.Common.{◌≡◌, ◌++◌, drop}
use Rattle.law_typing.specs.Declarations.{gathered, width_of}
use Rattle.law_types.proofs.whole.all_widths.Given as goal

abbrev pub invariant-loop-line : goal.invariant-loop-line
invariant-loop-line l = l.found ++ gathered (width_of l.common) (drop l.line-index l.lines) ≡ gathered (width_of l.common) l.lines
