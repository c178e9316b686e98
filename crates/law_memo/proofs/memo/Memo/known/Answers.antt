use Rattle.std.proofs.Common.{◌∙◌}
use Rattle.law_memo.proofs.RightFacts.{found, after_get}
use Rattle.law_memo.proofs.memo.Memo.known.Goals as goal

pub returns-clause-found : goal.returns-clause-found
returns-clause-found c = found c.args.call.now c.self.inside.cache c.args.self.now c.copied.result c.self.view_is (c.copied.ensures ∙ c.get.ensures.value)

pub returns-clause-right : goal.returns-clause-right
returns-clause-right c = after_get c.args.call.now c.self.inside.cache c.args.self.now _ c.self.view_is c.get.follows.holds-at-none
