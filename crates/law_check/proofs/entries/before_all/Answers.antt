use Rattle.std.proofs.Common.{◌∙◌, ap, rules}
use Rattle.law_sig.specs.declared.parts.Settings.{Settings}
use Rattle.law_sig.specs.declared.parts.SigParts.{SigParts}
use Rattle.law_checking.proofs.StepFacts.{none_seen}
use Rattle.law_check.proofs.entries.before_all.Goals as goal

pub returns : goal.returns
returns c = none_seen c.args.universe.now _
    (c.in_ok-known.ensures ∙ c.as_slice.ensures
    ∙ ap (λ (s : Settings). s.background) c.settings.ensures.settings ∙ ap (λ (p : SigParts). p.settings.background) c.sig.ensures)
    (search rules) (search rules) c.in_ok-agenda.ensures
