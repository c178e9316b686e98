-- Each law is proved by a lemma.
use Rattle.law_laws.proofs.Renaming.{test_renamed, flat_value}
use Rattle.law_laws.proofs.Filling.{filled}
use Rattle.law_laws.proofs.test_laws.Goals as goal

pub returns : goal.returns
returns c = record { renamed = test_renamed; flat = flat_value; filled = filled }
