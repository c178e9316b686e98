-- The law is proved by a lemma.
use Rattle.law_checking.specs.Parts.{IsYes}
use Rattle.law_checking.proofs.Planting.{tree_judged}
use Rattle.law_checking.proofs.laws.tree_laws.Goals as goal

pub returns : goal.returns
returns c = λ parts pools all tree full entry. tree_judged parts pools all tree full entry IsYes
