use Rattle.std.proofs.Common.{◌≡◌, map, take, Some}
use Rattle.law_typing.specs.TypedTerm.{tree_of}
use Rattle.law_types.proofs.typing.+tree_of.Given as goal

abbrev pub invariant-loop-arg : goal.invariant-loop-arg
invariant-loop-arg l = map Some l.args ≡ map (tree_of l.sig) (take l.arg-index l.arg-items)
