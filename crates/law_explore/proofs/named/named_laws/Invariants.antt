use Rattle.std.proofs.Common.{◌≡◌, ◌+◌, ◌++◌, drop, length}
use Rattle.law_explore.specs.Named.{named_laws}
use Rattle.law_explore.proofs.named.named_laws.Given as goal

abbrev pub invariant-loop-law : goal.invariant-loop-law
invariant-loop-law l = record {
  number : l.number ≡ length l.sig.settings.background + 1 + l.law-index;
  rest : l.found ++ named_laws l.sig l.number (drop l.law-index l.laws) ≡ named_laws l.sig (length l.sig.settings.background + 1) l.laws;
}
