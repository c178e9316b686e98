use Rattle.std.proofs.Common.{◌≡◌, take, map}
use Rattle.law_typing.specs.Stated.{short}
use Rattle.law_types.proofs.stated.shorts.Given as goal

abbrev pub invariant-loop-n : goal.invariant-loop-n
invariant-loop-n l = l.found ≡ map short (take l.n-index l.numbers)
