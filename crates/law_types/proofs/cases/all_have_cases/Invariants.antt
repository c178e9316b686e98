use Rattle.std.proofs.Common.{◌≡◌, drop}
use Rattle.std.specs.List.{list_all}
use Rattle.law_typing.specs.LineFaults.{has_case}
use Rattle.law_types.proofs.cases.all_have_cases.Given as goal

abbrev pub invariant-loop-con : goal.invariant-loop-con
invariant-loop-con l = list_all (has_case l.text l.cases) (drop l.con-index l.cons) ≡ list_all (has_case l.text l.cases) l.cons
