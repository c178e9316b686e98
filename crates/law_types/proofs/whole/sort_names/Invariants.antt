use Rattle.std.proofs.Common.{◌≡◌, ◌++◌, drop}
use Rattle.law_typing.specs.Declarations.{sort_names}
use Rattle.law_types.proofs.whole.sort_names.Given as goal

abbrev pub invariant-loop-line : goal.invariant-loop-line
invariant-loop-line l = l.names ++ sort_names (drop l.line-index l.lines) ≡ sort_names l.lines
