use Rattle.law_bank.proofs.BankFacts.{stays}
use Rattle.law_acceptance.proofs.towers.leaning.Goals as goal

pub twice-requires-2-clause-right : goal.twice-requires-2-clause-right
twice-requires-2-clause-right c = stays _ _ _ c.twice.ensures.grows c.in_ok-below.ensures.held
