use Rattle.std.proofs.Common.{◌≡◌, ◌≤◌, length, slice_get, Some, refl, subst}
use Rattle.std.proofs.lemmas.Option.{slice_get_read}
use Rattle.law_types.proofs.ValuedFacts.{all_looked, holds_on, next_symbol}
use Rattle.law_types.proofs.valued.look_at_all.Goals as goal

pub loop-symbol-preserved : goal.loop-symbol-preserved
loop-symbol-preserved c =
    let text = c.args.text.now in
    let i = c.loop-symbol.symbol-index in
    let s = c.symbol-item.result in
    let items = c.as_slice-symbol-items.result.now in
    let old = c.loop-symbol.found in
    let new = c.look.new.found in
    let at = subst (λ l. slice_get l i ≡ Some s) c.as_slice-symbol-items.ensures (slice_get_read items (length items) i s refl c.loop-symbol-test.true c.symbol-item.is) in
    record {
      found = holds_on text i s old.has.items new.has.items old.queue.items new.queue.items c.loop-symbol.invariant.found at c.in_ok-look.ensures;
      left = next_symbol text i s old.has.items new.has.items old.queue.items new.queue.items at c.loop-symbol.invariant.left c.in_ok-look.ensures;
    }

pub returns-clause-left : goal.returns-clause-left
returns-clause-left c =
    all_looked c.args.text.now c.loop-symbol.found.has.items c.loop-symbol.found.queue.items c.loop-symbol.symbol-index
    (subst (λ l. length l ≤ c.loop-symbol.symbol-index) c.as_slice-symbol-items.ensures c.loop-symbol-test.false) c.loop-symbol.invariant.left
