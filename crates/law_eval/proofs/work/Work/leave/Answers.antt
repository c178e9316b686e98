use Rattle.std.proofs.Common.{refl}
use Rattle.law_eval.specs.Work.{running}
use Rattle.law_eval.proofs.Tops.{same_ids}
use Rattle.law_ids.proofs.Tops.{pushed}
use Rattle.law_eval.proofs.work.Work.leave.Goals as goal

pub returns-clause-ok : goal.returns-clause-ok
returns-clause-ok c = record {
  frame = running c.in-Some.frame;
  before = same_ids refl refl (pushed running _ _ _ c.in-Some.ensures.items) refl;
}
