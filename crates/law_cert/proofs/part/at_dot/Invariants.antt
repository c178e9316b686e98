use Rattle.std.proofs.Common.{◌≡◌, take, true}
use Rattle.law_cert_text.specs.Words.{is_undotted}
use Rattle.law_cert.proofs.part.at_dot.Given as goal

abbrev pub invariant-loop-at : goal.invariant-loop-at
invariant-loop-at l = is_undotted (take l.at l.bytes) ≡ true
