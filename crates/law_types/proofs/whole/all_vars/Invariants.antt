use Rattle.std.proofs.Common.{◌≡◌, ◌++◌, drop}
use Rattle.law_typing.specs.Declarations.{gathered, vars_of}
use Rattle.law_types.proofs.whole.all_vars.Given as goal

abbrev pub invariant-loop-line : goal.invariant-loop-line
invariant-loop-line l = l.found ++ gathered (vars_of l.common) (drop l.line-index l.lines) ≡ gathered (vars_of l.common) l.lines
