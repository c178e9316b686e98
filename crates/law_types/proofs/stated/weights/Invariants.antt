use Rattle.std.proofs.Common.{◌≡◌, ◌++◌, drop}
use Rattle.law_typing.specs.Declarations.{gathered}
use Rattle.law_typing.specs.Stated.{weight_of}
use Rattle.law_types.proofs.stated.weights.Given as goal

abbrev pub invariant-loop-line : goal.invariant-loop-line
invariant-loop-line l = l.found ++ gathered weight_of (drop l.line-index l.lines) ≡ gathered weight_of l.lines
