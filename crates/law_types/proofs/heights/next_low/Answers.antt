use Rattle.law_types.proofs.HeightFacts.{end_low}
use Rattle.law_types.proofs.heights.next_low.Goals as goal

pub returns : goal.returns
returns c = end_low c.args.text.now c.args.height c.loop-symbol.next.items c.as_slice-symbol-items.result.now c.loop-symbol.symbol-index
    c.loop-symbol-test.false c.as_slice-symbol-items.ensures c.loop-symbol.invariant
