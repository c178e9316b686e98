use Rattle.std.proofs.Common.{◌≡◌, take, true}
use Rattle.law_cert_text.specs.Words.{is_unspaced}
use Rattle.law_cert.proofs.part.first_word.Given as goal

abbrev pub invariant-loop-at : goal.invariant-loop-at
invariant-loop-at l = is_unspaced (take l.at l.bytes) ≡ true
