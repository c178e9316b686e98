use Rattle.std.proofs.Common.{◌≡◌, ◌++◌, drop}
use Rattle.law_sig.specs.Signature.{constructors_from}
use Rattle.law_types.proofs.cases.constructors.Given as goal

abbrev pub invariant-loop-at : goal.invariant-loop-at
invariant-loop-at l = l.found ++ constructors_from l.at (drop l.at l.symbols) l.sort ≡ constructors_from 0 l.symbols l.sort
