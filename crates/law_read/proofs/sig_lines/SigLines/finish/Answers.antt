use Rattle.std.proofs.Common.{rules, sym, subst, ◌∙◌}
use Rattle.law_places.specs.Progress.{Finished}
use Rattle.law_places.proofs.Grown.{finished, whole}
use Rattle.law_read.proofs.sig_lines.SigLines.finish.Goals as goal

pub build-requires : goal.build-requires
build-requires c = whole c.self.inside.stage c.self.inside.lines c.self.invariant (sym c.is_closed.ensures ∙ c.if-is_closed.true)

pub returns-then-is_closed-clause-ok : goal.returns-then-is_closed-clause-ok
returns-then-is_closed-clause-ok c =
    subst (λ reader. Finished reader c.build.result) c.self.view_is
    (finished c.self.inside.stage c.self.inside.lines c.build.result c.self.inside.refused c.self.invariant (sym c.is_closed.ensures ∙ c.if-is_closed.true) (search rules) c.build.ensures)
