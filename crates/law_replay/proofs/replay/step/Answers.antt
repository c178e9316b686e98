use Rattle.std.proofs.Common.{rules}
use Rattle.law_chains.proofs.Stepping.{stepped_by}
use Rattle.law_replay.proofs.replay.step.Goals as goal

pub returns : goal.returns
returns c = stepped_by c.args.sig.now c.args.known.now c.args.step.now _ _ _ _ _ _ _ (search rules) (c.are_binds.ensures.0 c.if-not-are_binds.false) c.as_slice-binds.ensures c.as_slice-place.ensures c.start.ensures c.end.ensures c.in_ok-found.ensures
