use Rattle.std.proofs.Common.{rules, ◌≡◌, ◌+◌, ◌≤◌, List, ℕ, length, slice_get, Some, None, drop, refl, sym, subst}
use Rattle.std.proofs.lemmas.Option.{slice_get_read}
use Rattle.law_sig.specs.Lists.{In}
use Rattle.law_types.specs.Valued.{AreLeft, IsFound}
use Rattle.law_types.specs.declared.valued.Found.{Found}
use Rattle.law_types.proofs.ValuedFacts.{all_found, has_row, next_row, none_past}
use Rattle.law_types.proofs.valued.valued.Goals.{else-sort-len, then-sort-len+in_ok-look_at_takers}
use Rattle.law_types.proofs.valued.valued.Goals as goal

pub returns-in_default : goal.returns-in_default
returns-in_default c =
    let none : slice_get c.loop-at.found.queue.items c.loop-at.at ≡ None = search rules in
    all_found c.args.text.now c.loop-at.found.has.items c.loop-at.found.queue.items c.loop-at.at c.loop-at.invariant.found c.loop-at.invariant.left
    (none_past c.loop-at.found.queue.items c.loop-at.at none)

pub look_at_takers-requires-clause-left : goal.look_at_takers-requires-clause-left
look_at_takers-requires-clause-left c =
    let text = c.args.text.now in
    let found = c.loop-at.found in
    let table = c.in_ok-takers.takers.items in
    let row = c.index.result.now in
    let is : slice_get found.queue.items c.loop-at.at ≡ Some c.in-Some.sort = search rules in
    let in_table = slice_get_read table (length table) c.in-Some.sort row refl (search rules) c.index.ensures in
    subst (λ (l : List ℕ). AreLeft text found.has.items (λ n. In n l) (drop (c.loop-at.at + 1) found.queue.items)) (sym c.as_slice-then-sort-len.ensures.value)
    (next_row text table row found.has.items found.queue.items c.loop-at.at c.in-Some.sort c.in_ok-takers.ensures is in_table c.loop-at.invariant.left)

pub loop-at-preserved : goal.loop-at-preserved
loop-at-preserved c =
    let text = c.args.text.now in
    let found = c.loop-at.found in
    let is : slice_get found.queue.items c.loop-at.at ≡ Some c.in-Some.sort = search rules in
    elim c.if-sort-len.branch [
      | then-sort-len+in_ok-look_at_takers w ↦ record {
        found = subst (λ (f : Found). IsFound text f.has.items f.queue.items) (sym w.found-is) w.in_ok-look_at_takers.ensures.found;
        left = subst (λ (f : Found). AreLeft text f.has.items (λ n. ⊥) (drop (c.loop-at.at + 1) f.queue.items)) (sym w.found-is) w.in_ok-look_at_takers.ensures.left;
      }
      | else-sort-len w ↦
          let beyond : length c.in_ok-takers.takers.items ≤ c.in-Some.sort = search rules in
          has_row text c.in_ok-takers.takers.items found.has.items found.queue.items c.loop-at.at c.in-Some.sort c.in_ok-takers.ensures c.loop-at.invariant.found is beyond
    ]

pub returns : goal.returns
returns c =
    all_found c.args.text.now c.loop-at.found.has.items c.loop-at.found.queue.items c.loop-at.at c.loop-at.invariant.found c.loop-at.invariant.left (search rules)
