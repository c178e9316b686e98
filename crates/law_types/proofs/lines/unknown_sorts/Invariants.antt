use Rattle.std.proofs.Common.{◌≡◌, drop}
use Rattle.law_typing.specs.LineFaults.{unknown_sorts}
use Rattle.law_types.proofs.lines.unknown_sorts.Given as goal

abbrev pub invariant-loop-name : goal.invariant-loop-name
invariant-loop-name l = unknown_sorts l.text (drop l.name-index l.names) ≡ unknown_sorts l.text l.names
