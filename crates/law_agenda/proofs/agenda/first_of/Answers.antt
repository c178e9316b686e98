use Rattle.std.proofs.Common.{subst₂}
use Rattle.law_agenda.proofs.Spreading.{Firsts}
use Rattle.law_agenda.proofs.Storing.{if_ok}
use Rattle.law_agenda.proofs.agenda.first_of.Goals as goal

pub returns : goal.returns
returns c = if_ok _ _ c.first_instance.result (λ r go. subst₂ (λ s l. Firsts s l c.args.schema.now r) c.sig.ensures c.as_slice.ensures go) c.first_instance.ensures
