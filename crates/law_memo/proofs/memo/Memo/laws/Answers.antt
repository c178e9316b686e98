use Rattle.law_memo.proofs.RightFacts.{all_stay}
use Rattle.law_memo.proofs.memo.Memo.laws.Goals as goal

pub returns-clause-stays : goal.returns-clause-stays
returns-clause-stays c = all_stay c.args.self.now.entries
