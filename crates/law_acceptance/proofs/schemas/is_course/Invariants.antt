use Rattle.law_acceptance.specs.Playing.{IsReady, MayGo}
use Rattle.law_acceptance.proofs.schemas.is_course.Given as goal

abbrev pub invariant-loop-entry : goal.invariant-loop-entry
invariant-loop-entry l = IsReady l.bank l.schemas × MayGo l.going l.schemas
