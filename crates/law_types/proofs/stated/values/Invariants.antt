use Rattle.std.proofs.Common.{◌≡◌, take, map}
use Rattle.law_typing.specs.Stated.{stated_tree}
use Rattle.law_types.proofs.stated.values.Given as goal

abbrev pub invariant-loop-term : goal.invariant-loop-term
invariant-loop-term l = l.found ≡ map (stated_tree l.text) (take l.term-index l.terms)
