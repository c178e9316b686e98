use Rattle.std.proofs.Common.{◌-◌, sym, ◌∙◌, arith}
use Rattle.law_chains.proofs.Binding.{rises_end}
use Rattle.law_replay.proofs.replay.rises.Goals as goal

pub returns : goal.returns
returns c = sym (rises_end c.args.binds.now (c.loop-at.at - 1) (omega (arith, c.loop-at-test.false, c.loop-at.auto.at))) ∙ c.loop-at.invariant
