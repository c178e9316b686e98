use Rattle.std.proofs.Common.{refl, sym, ◌∙◌}
use Rattle.law_checking.proofs.Falling.{falls_by, light}
use Rattle.law_check.proofs.rules.falls.Goals as goal

pub compare-requires-clause-left : goal.compare-requires-clause-left
compare-requires-clause-left c = light c.args.sig.now c.settings-settings.ensures.well_formed c.requires.sort c.args.q.now.right _ c.requires.right c.in_ok-lower.ensures

pub compare-requires-clause-right : goal.compare-requires-clause-right
compare-requires-clause-right c = light c.args.sig.now c.settings-settings.ensures.well_formed c.requires.sort c.args.q.now.left _ c.requires.left c.in_ok-upper.ensures

pub returns-in-Less : goal.returns-in-Less
returns-in-Less c = (λ e. (falls_by c.args.sig.now _ _ _ _ _ c.in_ok-lower.ensures c.in_ok-upper.ensures c.compare.ensures).1 c.in-Less.is, λ h. refl)

pub returns-in-Equal : goal.returns-in-Equal
returns-in-Equal c = (λ e. cc, λ h. cc (sym c.in-Equal.is ∙ (falls_by c.args.sig.now _ _ _ _ _ c.in_ok-lower.ensures c.in_ok-upper.ensures c.compare.ensures).0 h))

pub returns : goal.returns
returns c = (λ e. cc, λ h. cc (sym c.in-Greater.is ∙ (falls_by c.args.sig.now _ _ _ _ _ c.in_ok-lower.ensures c.in_ok-upper.ensures c.compare.ensures).0 h))
