use Rattle.law_bank.proofs.BankFacts.{weight_is}
use Rattle.law_term.proofs.measure.weight.Goals as goal

pub returns-clause-tree : goal.returns-clause-tree
returns-clause-tree c = λ bank parts held e. weight_is bank parts c.args.term.now held e
