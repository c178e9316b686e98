use Rattle.std.proofs.Common.{get_or, ap, ◌∙◌}
use Rattle.std.specs.Option.{unwrap_or}
use Rattle.std.proofs.lemmas.Option.{unwrap_or-slice_get}
use Rattle.law_sig.specs.declared.parts.Settings.{Settings}
use Rattle.law_sig.specs.declared.parts.SigParts.{SigParts}
use Rattle.law_agenda.proofs.universe.Universe.weight_at.Goals as goal

pub returns-in-None-clause-weight : goal.returns-in-None-clause-weight
returns-in-None-clause-weight c =
    ap (λ o. unwrap_or o 1) c.in-None.ensures.value ∙ unwrap_or-slice_get c.settings.result.now.weights c.args.sym.0 1
    ∙ ap (λ (s : Settings). get_or s.weights c.args.sym.0 1) c.settings.ensures.settings
    ∙ ap (λ (p : SigParts). get_or p.settings.weights c.args.sym.0 1) c.self.view_is
