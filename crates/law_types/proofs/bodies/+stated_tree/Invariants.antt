use Rattle.std.proofs.Common.{◌≡◌, take, map}
use Rattle.law_typing.specs.Stated.{stated_tree}
use Rattle.law_types.proofs.bodies.+stated_tree.Given as goal

abbrev pub invariant-loop-arg : goal.invariant-loop-arg
invariant-loop-arg l = l.args ≡ map (stated_tree l.text) (take l.arg-index l.arg-items)
