use Rattle.std.proofs.Common.{◌≡◌, map, drop}
use Rattle.law_sig.specs.Signature.{same_sorts, sort_of}
use Rattle.law_sig.proofs.sig.Sig.+sort_of.Given as goal

abbrev pub invariant-loop-at : goal.invariant-loop-at
invariant-loop-at l =
    same_sorts (drop l.at (map (sort_of l.self) l.arg-items)) (drop l.at l.wanted) ≡ same_sorts (map (sort_of l.self) l.arg-items) l.wanted
