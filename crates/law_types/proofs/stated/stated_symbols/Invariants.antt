use Rattle.std.proofs.Common.{◌≡◌, ◌+◌, ◌++◌, drop, length}
use Rattle.law_typing.specs.Declarations.{sort_names}
use Rattle.law_typing.specs.Stated.{stated_symbols}
use Rattle.law_types.proofs.stated.stated_symbols.Given as goal

abbrev pub invariant-loop-at : goal.invariant-loop-at
invariant-loop-at l = (l.symbols ++ stated_symbols l.text l.before (drop l.at l.lines) ≡ stated_symbols l.text 0 l.lines)
    × (l.before + length (sort_names (drop l.at l.lines)) ≡ l.count)
