use Rattle.law_cert_text.proofs.Refusals.{stays}
use Rattle.law_cert_text.proofs.laws.readers_stay_stopped.Goals as goal

pub returns : goal.returns
returns c = stays
