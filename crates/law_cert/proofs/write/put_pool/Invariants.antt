use Rattle.std.proofs.Common.{◌≡◌, ◌++◌, take, map}
use Rattle.law_lines.specs.Spelling.{text_of}
use Rattle.law_cert_text.specs.Spelling.{values_spelling}
use Rattle.law_cert.proofs.write.put_pool.Given as goal

abbrev pub invariant-loop-values : goal.invariant-loop-values
invariant-loop-values l = l.out ≡ l.initial.out ++ text_of (map values_spelling (take l.values-index l.pool))
