use Rattle.std.proofs.Common.{◌≡◌, ◌++◌, drop}
use Rattle.law_typing.specs.Declarations.{symbol_names}
use Rattle.law_types.proofs.whole.symbol_names.Given as goal

abbrev pub invariant-loop-line : goal.invariant-loop-line
invariant-loop-line l = l.names ++ symbol_names (drop l.line-index l.lines) ≡ symbol_names l.lines
