use Rattle.std.proofs.Common.{◌≡◌, ◌++◌, take, map}
use Rattle.law_lines.specs.Spelling.{text_of}
use Rattle.law_cert_text.specs.Spelling.{step_spelling}
use Rattle.law_cert.proofs.write.put_steps.Given as goal

abbrev pub invariant-loop-step : goal.invariant-loop-step
invariant-loop-step l = l.out ≡ l.initial.out ++ text_of (map step_spelling (take l.step-index l.steps))
