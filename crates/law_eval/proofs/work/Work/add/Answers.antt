use Rattle.std.proofs.Common.{◌∷◌, ap, ◌∙◌}
use Rattle.law_eval.specs.Work.{ids_of}
use Rattle.law_ids.specs.Tops.{tops}
use Rattle.law_ids.proofs.Tops.{pushed}
use Rattle.law_eval.proofs.work.Work.add.Goals as goal

pub returns-clause-ok : goal.returns-clause-ok
returns-clause-ok c = record {
  row = c.in-Some.row.items;
  rows = tops (λ r. r.items) c.pop.new.self.items;
  before = pushed _ _ _ _ c.in-Some.ensures.items;
  after = ap (λ rows. record (ids_of c.args.self.now) { rows = rows }) (pushed _ _ _ _ c.in_ok-push-2.ensures.items ∙ ap (λ l. l ∷ tops (λ r. r.items) c.pop.new.self.items) c.in_ok-push.ensures.items);
}
