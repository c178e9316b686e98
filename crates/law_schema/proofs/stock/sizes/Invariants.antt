use Rattle.std.proofs.Common.{◌≡◌, length, map, take}
use Rattle.law_schema.proofs.stock.sizes.Given as goal

abbrev pub invariant-loop-own : goal.invariant-loop-own
invariant-loop-own l = l.sizes ≡ map length (take l.own l.column)
