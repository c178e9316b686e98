use Rattle.std.proofs.Common.{◌≡◌, take, map}
use Rattle.law_named.specs.Named.{term_named}
use Rattle.law_check.proofs.pools.are_terms.Given as goal

abbrev pub invariant-loop-at : goal.invariant-loop-at
invariant-loop-at l = take l.at (map (term_named l.names) l.written) ≡ take l.at l.terms
