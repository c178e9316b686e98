use Rattle.std.proofs.Common.{◌≡◌, ◌++◌, take, map}
use Rattle.law_lines.specs.Spelling.{spaced}
use Rattle.law_cert_text.specs.Spelling.{bind_text}
use Rattle.law_cert.proofs.write.put_binds.Given as goal

abbrev pub invariant-loop-bind : goal.invariant-loop-bind
invariant-loop-bind l = l.out ≡ l.initial.out ++ spaced (map bind_text (take l.bind-index l.binds))
