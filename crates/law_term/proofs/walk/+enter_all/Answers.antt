use Rattle.law_term.proofs.Bound.{first_rest}
use Rattle.law_term.proofs.Walking.{entered_more}
use Rattle.law_term.proofs.walk.+enter_all.Goals as goal

pub returns-in-Ok : goal.returns-in-Ok
returns-in-Ok t c = entered_more c.args.visits.now.items _ _ _ _ _ (first_rest _ _ c.in-len1-up.len_at_least) c.in_ok-enter_all-in-len1-up.ensures c.in-Ok.ensures.items
