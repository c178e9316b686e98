use Rattle.std.proofs.Common.{◌≡◌, ◌++◌, drop}
use Rattle.law_typing.specs.Declarations.{gathered}
use Rattle.law_typing.specs.Stated.{explored_of}
use Rattle.law_types.proofs.stated.explored.Given as goal

abbrev pub invariant-loop-line : goal.invariant-loop-line
invariant-loop-line l = l.found ++ gathered (explored_of l.text) (drop l.line-index l.lines) ≡ gathered (explored_of l.text) l.lines
