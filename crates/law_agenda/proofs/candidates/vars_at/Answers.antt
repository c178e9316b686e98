use Rattle.std.proofs.Common.{get_or, ap, ◌∙◌}
use Rattle.std.specs.Option.{unwrap_or}
use Rattle.std.proofs.lemmas.Option.{unwrap_or-slice_get}
use Rattle.law_sig.specs.declared.parts.Settings.{Settings}
use Rattle.law_agenda.proofs.candidates.vars_at.Goals as goal

pub returns-in-None : goal.returns-in-None
returns-in-None c =
    ap (λ o. unwrap_or o 0) c.in-None.ensures.value ∙ unwrap_or-slice_get c.settings.result.now.vars c.args.sort.0 0
    ∙ ap (λ (s : Settings). get_or s.vars c.args.sort.0 0) c.settings.ensures.settings
