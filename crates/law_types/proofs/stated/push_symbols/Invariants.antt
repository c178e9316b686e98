use Rattle.std.proofs.Common.{◌≡◌, ◌++◌, take, map}
use Rattle.law_typing.specs.Stated.{symbol_id}
use Rattle.law_types.proofs.stated.push_symbols.Given as goal

abbrev pub invariant-loop-name : goal.invariant-loop-name
invariant-loop-name l = l.found ≡ l.initial.found ++ map (symbol_id l.text) (take l.name-index l.names)
