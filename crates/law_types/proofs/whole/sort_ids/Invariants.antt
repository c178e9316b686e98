use Rattle.std.proofs.Common.{◌≡◌, take, map}
use Rattle.law_typing.specs.Declarations.{sort_id}
use Rattle.law_types.proofs.whole.sort_ids.Given as goal

abbrev pub invariant-loop-name : goal.invariant-loop-name
invariant-loop-name l = l.ids ≡ map (sort_id l.sorts) (take l.name-index l.names)
