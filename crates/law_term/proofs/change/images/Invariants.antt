use Rattle.std.proofs.Common.{◌≡◌, ◌++◌, map, drop, Some}
use denote.Bor.{Bor}
use Rattle.law_bank.specs.declared.node.Node.{Node}
use Rattle.law_bank.specs.Terms.{id_of}
use Rattle.law_term.specs.Walks.{found}
use Rattle.law_term.proofs.change.images.Given as goal

abbrev pub invariant-loop-term : goal.invariant-loop-term
invariant-loop-term l = map (λ (m : Bor Node). Some m) l.made.items ++ map (λ (a : Bor Node). found l.done.entries (id_of a.now)) (drop l.term-index l.terms)
    ≡ map (λ (a : Bor Node). found l.done.entries (id_of a.now)) l.terms
