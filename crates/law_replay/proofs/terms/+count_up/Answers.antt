use Rattle.law_chains.proofs.Counted.{more_counted, none_counted}
use Rattle.law_replay.proofs.terms.+count_up.Goals as goal

pub returns-in_default : goal.returns-in_default
returns-in_default t c = none_counted c.args.sort _ _ _ _ c.loop-arg-test.true c.arg-item.is _ _ c.count_up.ensures c.in_default.is c.loop-arg.invariant

pub loop-arg-preserved : goal.loop-arg-preserved
loop-arg-preserved t c = more_counted c.args.sort _ _ _ _ c.loop-arg-test.true c.arg-item.is _ _ _ c.count_up.ensures c.in-Some.is c.loop-arg.invariant
