use Rattle.law_replay.proofs.Descending.{up}
use Rattle.law_replay.proofs.term.ascend.Goals as goal

pub loop-done-preserved : goal.loop-done-preserved
loop-done-preserved c = up c.args.frames.now c.loop-done.done c.index-frames-frames.result c.loop-done.made c.in_ok-row.row.items _ c.loop-done-test.true c.index-frames-frames.is
    c.in_ok-row.ensures c.loop-done.invariant
