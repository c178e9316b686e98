use Rattle.std.proofs.Common.{◌≡◌, ◌++◌, drop}
use Rattle.law_bank.specs.Terms.{trees_of}
use Rattle.law_term.proofs.written.+written.Given as goal

abbrev pub invariant-loop-arg : goal.invariant-loop-arg
invariant-loop-arg l = l.args ++ trees_of (drop l.arg-index l.arg-items) ≡ trees_of l.arg-items
