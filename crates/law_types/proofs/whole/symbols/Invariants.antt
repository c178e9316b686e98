use Rattle.std.proofs.Common.{◌≡◌, ◌+◌, ◌++◌, drop, length}
use Rattle.law_typing.specs.Declarations.{sort_names, symbols_from}
use Rattle.law_types.proofs.whole.symbols.Given as goal

abbrev pub invariant-loop-line : goal.invariant-loop-line
invariant-loop-line l = (l.symbols ++ symbols_from l.sorts l.before (drop l.line-index l.lines) ≡ symbols_from l.sorts 0 l.lines)
    × (l.before + length (sort_names (drop l.line-index l.lines)) ≡ l.count)
