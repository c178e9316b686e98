use Rattle.std.proofs.Common.{◌≡◌, drop, []}
use Rattle.law_typing.specs.LineFaults.{explored_faults}
use Rattle.law_types.proofs.tail.explored_faults.Given as goal

abbrev pub invariant-loop-name : goal.invariant-loop-name
invariant-loop-name l = explored_faults l.text l.before (drop l.name-index l.names) ≡ explored_faults l.text [] l.names
