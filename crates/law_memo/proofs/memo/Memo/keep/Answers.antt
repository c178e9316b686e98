use Rattle.law_memo.proofs.RightFacts.{after_put}
use Rattle.law_memo.proofs.memo.Memo.keep.Goals as goal

pub returns-clause-right : goal.returns-clause-right
returns-clause-right c = after_put c.self.inside.cache c.args.self.now _ c.args.call c.args.known c.put.result c.self.view_is c.put.ensures.entries c.put.ensures.err
