use Rattle.std.proofs.Common.{◌≡◌, take, map}
use Rattle.law_typing.specs.Stated.{stated_case}
use Rattle.law_types.proofs.bodies.each_case.Given as goal

abbrev pub invariant-loop-con : goal.invariant-loop-con
invariant-loop-con l = l.bodies ≡ map (stated_case l.text l.lines) (take l.con-index l.cons)
