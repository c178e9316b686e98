use Rattle.std.proofs.Common.{rules, ◌≡◌, ◌+◌, ◌≤◌, length, slice_get, slice_index_or, Some, None, drop, sym, subst}
use Rattle.std.proofs.lemmas.Option.{slice_get-get_or}
use Rattle.law_sig.specs.Lists.{In}
use Rattle.law_types.specs.Valued.{AreLeft, IsFound}
use Rattle.law_types.specs.declared.valued.Found.{Found}
use Rattle.law_types.proofs.ValuedFacts.{holds_on, longer, next_taker, no_taker, row_looked}
use Rattle.law_types.proofs.valued.look_at_takers.Goals.{in-Some+in_ok-look, in_default}
use Rattle.law_types.proofs.valued.look_at_takers.Goals as goal

pub loop-number-preserved : goal.loop-number-preserved
loop-number-preserved c =
    let text = c.args.text.now in
    let row = c.args.row.now in
    let i = c.loop-number.number-index in
    let number = slice_index_or row i 0 in
    let old = c.loop-number.found in
    let was = c.loop-number.invariant in
    let is = slice_get-get_or row i 0 c.loop-number-test.true in
    elim c.match-get.branch [
      | in-Some+in_ok-look w ↦
          let s = w.in-Some.symbol.now in
          let new = w.look.new.found in
          let found : slice_get text.symbols number ≡ Some s = search rules in
          record {
            within = subst (λ (f : Found). c.args.from ≤ length f.queue.items) (sym w.found-is)
                (longer c.args.from s old.has.items new.has.items old.queue.items new.queue.items was.within w.in_ok-look.ensures);
            found = subst (λ (f : Found). IsFound text f.has.items f.queue.items) (sym w.found-is)
                (holds_on text number s old.has.items new.has.items old.queue.items new.queue.items was.found found w.in_ok-look.ensures);
            left = subst (λ (f : Found). AreLeft text f.has.items (λ n. In n (drop (i + 1) row)) (drop c.args.from f.queue.items)) (sym w.found-is)
                (next_taker text row i number c.args.from s old.has.items new.has.items old.queue.items new.queue.items is found was.within was.left w.in_ok-look.ensures);
          }
      | in_default w ↦
          let found : slice_get text.symbols number ≡ None = search rules in
          record {
            within = subst (λ (f : Found). c.args.from ≤ length f.queue.items) (sym w.found-is) was.within;
            found = subst (λ (f : Found). IsFound text f.has.items f.queue.items) (sym w.found-is) was.found;
            left = subst (λ (f : Found). AreLeft text f.has.items (λ n. In n (drop (i + 1) row)) (drop c.args.from f.queue.items)) (sym w.found-is)
                (no_taker text row i number old.has.items (drop c.args.from old.queue.items) is found was.left);
          }
    ]

pub returns-clause-left : goal.returns-clause-left
returns-clause-left c =
    row_looked c.args.text.now c.loop-number.found.has.items c.args.row.now (drop c.args.from c.loop-number.found.queue.items) c.loop-number.number-index
    c.loop-number-test.false c.loop-number.invariant.left
