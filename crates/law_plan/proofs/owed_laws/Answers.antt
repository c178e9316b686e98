-- Each law is proved by a lemma.
use Rattle.law_plan.proofs.Owing.{owed_valid, owed_covers}
use Rattle.law_plan.proofs.Writing.{found_owed}
use Rattle.law_plan.proofs.owed_laws.Goals as goal

pub returns : goal.returns
returns c = record { found = found_owed; valid = owed_valid; covers = owed_covers }
