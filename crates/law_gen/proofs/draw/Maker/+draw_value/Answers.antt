use Rattle.std.proofs.Common.{◌≡◌, ℕ, ◌+◌, ◌-◌, true, length, drop, slice_index_or, sym, refl, ap, ◌∙◌, arith}
use Rattle.std.proofs.lemmas.Result.{err_from_is_err_and}
use Rattle.rand_pcg.specs.Lcg.{Lcg}
use Rattle.law_sig.specs.WellFormed.{is_within_height}
use Rattle.law_sig.specs.declared.tree.Tree.TheVariants.{App}
use Rattle.law_ids.specs.Values.{IsOf, tree_of, trees_of}
use Rattle.law_ids.proofs.BankFacts.{length_map}
use Rattle.law_ids.proofs.Reading.{id_keeps}
use Rattle.law_draws.specs.Draws.{chosen, in_turn, value_drawn}
use Rattle.law_gen.proofs.Turns.{going_here, going_more, going_last, means_more, at_next, drop_past}
use Rattle.law_gen.proofs.RoomFacts.{height_within, sort_within, looked_up, some_node, large_field, room_more, room_whole, large_on, sort_declared, lower}
use Rattle.law_draws.proofs.DrawFacts.{some_within, word_within, above_zero, chosen_within, drawing, each_index, in_turn_length}
use Rattle.law_gen.proofs.draw.Maker.+draw_value.Goals as goal

pub bounds-as_slice-height : goal.bounds-as_slice-height
bounds-as_slice-height t c = height_within c.args.self.now.sig.now c.args.height c.args.self.now.choices c.as_slice.result.now c.requires.ready c.as_slice.ensures

pub bounds-level-sort : goal.bounds-level-sort
bounds-level-sort t c = sort_within c.args.self.now.sig.now c.args.height c.args.sort c.args.self.now.choices c.as_slice.result.now c.index-as_slice-height.result c.as_slice-level.result.now
    c.requires.ready c.requires.declared c.as_slice.ensures c.index-as_slice-height.is c.as_slice-level.ensures

pub nonzero_rem-sym : goal.nonzero_rem-sym
nonzero_rem-sym t c = some_within c.args.self.now.sig.now c.args.height c.args.sort c.as_slice-choices.result.now c.requires.within
    (looked_up c.args.self.now.sig.now c.args.height c.args.sort c.args.self.now.choices c.as_slice.result.now c.index-as_slice-height.result c.as_slice-level.result.now
    c.index-level-sort.result c.as_slice-choices.result.now
    c.requires.ready c.requires.declared c.as_slice.ensures c.index-as_slice-height.is c.as_slice-level.ensures c.index-level-sort.is c.as_slice-choices.ensures)

pub bounds-choices-word : goal.bounds-choices-word
bounds-choices-word t c = word_within c.args.self.now.sig.now c.args.height c.args.sort c.as_slice-choices.result.now c.next_word-word.result c.requires.within
    (looked_up c.args.self.now.sig.now c.args.height c.args.sort c.args.self.now.choices c.as_slice.result.now c.index-as_slice-height.result c.as_slice-level.result.now
    c.index-level-sort.result c.as_slice-choices.result.now
    c.requires.ready c.requires.declared c.as_slice.ensures c.index-as_slice-height.is c.as_slice-level.ensures c.index-level-sort.is c.as_slice-choices.ensures)

pub args_of-field_sort-items-requires : goal.args_of-field_sort-items-requires
args_of-field_sort-items-requires t c = chosen_within c.args.self.now.sig.now c.args.height c.args.sort c.as_slice-choices.result.now c.next_word-word.result c.requires.within
    (looked_up c.args.self.now.sig.now c.args.height c.args.sort c.args.self.now.choices c.as_slice.result.now c.index-as_slice-height.result c.as_slice-level.result.now
    c.index-level-sort.result c.as_slice-choices.result.now
    c.requires.ready c.requires.declared c.as_slice.ensures c.index-as_slice-height.is c.as_slice-level.ensures c.index-level-sort.is c.as_slice-choices.ensures)

pub overflow_sub-height : goal.overflow_sub-height
overflow_sub-height t c = above_zero c.args.self.now.sig.now c.args.height c.args.sort c.requires.within

pub returns-then-draws-eq0-clause-large : goal.returns-then-draws-eq0-clause-large
returns-then-draws-eq0-clause-large t c =
    let some = some_node (value_drawn c.args.self.now.sig.now c.args.height c.args.sort c.args.draws.now.rng).made in
    omega arith

pub draw_value-requires : goal.draw_value-requires
draw_value-requires t c =
    let d = drawing c.args.self.now.sig.now c.args.height c.args.sort c.args.draws.now.rng c.next_word-word.new.self c.as_slice-choices.result.now c.next_word-word.result c.args_of-field_sort-items.result.now
    c.requires.ready.well_formed c.requires.within (looked_up c.args.self.now.sig.now c.args.height c.args.sort c.args.self.now.choices c.as_slice.result.now c.index-as_slice-height.result c.as_slice-level.result.now
    c.index-level-sort.result c.as_slice-choices.result.now
    c.requires.ready c.requires.declared c.as_slice.ensures c.index-as_slice-height.is c.as_slice-level.ensures c.index-level-sort.is c.as_slice-choices.ensures)
    (ap (λ (p : ℕ × Lcg). p.0) c.next_word-word.ensures) (ap (λ (p : ℕ × Lcg). p.1) c.next_word-word.ensures) c.args_of-field_sort-items.ensures in (
      (omega (arith, d.positive, c.if-draws-eq0.false)),
      (
        lower c.args.self.now.sig.now c.args.height c.args.self.now.choices c.requires.ready,
        (
          sort_declared c.args.self.now.sig.now c.args_of-field_sort-items.result.now c.loop-field_sort.field_sort-index (record { 0 = 0 }) d.declared c.loop-field_sort-test.true,
          each_index (λ s. is_within_height c.args.self.now.sig.now (c.args.height - 1) s ≡ true) c.args_of-field_sort-items.result.now c.loop-field_sort.field_sort-index (record { 0 = 0 }) d.within c.loop-field_sort-test.true,
        ),
      ),
    )

pub returns-in_err-field-clause-large : goal.returns-in_err-field-clause-large
returns-in_err-field-clause-large t c =
    let d = drawing c.args.self.now.sig.now c.args.height c.args.sort c.args.draws.now.rng c.next_word-word.new.self c.as_slice-choices.result.now c.next_word-word.result c.args_of-field_sort-items.result.now
    c.requires.ready.well_formed c.requires.within (looked_up c.args.self.now.sig.now c.args.height c.args.sort c.args.self.now.choices c.as_slice.result.now c.index-as_slice-height.result c.as_slice-level.result.now
    c.index-level-sort.result c.as_slice-choices.result.now
    c.requires.ready c.requires.declared c.as_slice.ensures c.index-as_slice-height.is c.as_slice-level.ensures c.index-level-sort.is c.as_slice-choices.ensures)
    (ap (λ (p : ℕ × Lcg). p.0) c.next_word-word.ensures) (ap (λ (p : ℕ × Lcg). p.1) c.next_word-word.ensures) c.args_of-field_sort-items.ensures in
    let p = err_from_is_err_and c.from_residual.result c.from_residual.ensures.1 in
    let going = c.loop-field_sort.invariant.going in
    let here = going_here IsOf tree_of (value_drawn c.args.self.now.sig.now (c.args.height - 1)) (in_turn (value_drawn c.args.self.now.sig.now (c.args.height - 1)) c.args_of-field_sort-items.result.now c.next_word-word.new.self) c.args.bank.now c.loop-field_sort.bank c.loop-field_sort.fields (slice_index_or c.args_of-field_sort-items.result.now c.loop-field_sort.field_sort-index (record { 0 = 0 }))
    (drop c.loop-field_sort.field_sort-index c.args_of-field_sort-items.result.now) (drop (c.loop-field_sort.field_sort-index + 1) c.args_of-field_sort-items.result.now) c.loop-field_sort.draws.rng going (at_next c.args_of-field_sort-items.result.now c.loop-field_sort.field_sort-index (record { 0 = 0 }) c.loop-field_sort-test.true) in
    rw (p.1, p.2) (large_on _ _ (λ less. large_field (value_drawn c.args.self.now.sig.now c.args.height c.args.sort c.args.draws.now.rng).made
    (value_drawn c.args.self.now.sig.now (c.args.height - 1) (slice_index_or c.args_of-field_sort-items.result.now c.loop-field_sort.field_sort-index (record { 0 = 0 })) c.loop-field_sort.draws.rng).made (chosen c.as_slice-choices.result.now c.next_word-word.result)
    (in_turn (value_drawn c.args.self.now.sig.now (c.args.height - 1)) c.args_of-field_sort-items.result.now c.next_word-word.new.self).made (trees_of c.loop-field_sort.bank c.loop-field_sort.fields) _ c.args.draws.now.room (c.args.draws.now.room - 1) c.loop-field_sort.draws.room
    d.made here refl (omega arith) c.loop-field_sort.invariant.room less) c.in_err-field.field-0.0 c.in_err-field.ensures.large)

pub loop-field_sort-preserved : goal.loop-field_sort-preserved
loop-field_sort-preserved t c =
    let going = c.loop-field_sort.invariant.going in
    record {
      going = going_more IsOf tree_of (value_drawn c.args.self.now.sig.now (c.args.height - 1)) id_keeps (in_turn (value_drawn c.args.self.now.sig.now (c.args.height - 1)) c.args_of-field_sort-items.result.now c.next_word-word.new.self) c.args.bank.now c.loop-field_sort.bank c.draw_value.new.bank c.loop-field_sort.fields c.push.new.self c.in_ok-field.field (slice_index_or c.args_of-field_sort-items.result.now c.loop-field_sort.field_sort-index (record { 0 = 0 }))
          (drop c.loop-field_sort.field_sort-index c.args_of-field_sort-items.result.now) (drop (c.loop-field_sort.field_sort-index + 1) c.args_of-field_sort-items.result.now) c.loop-field_sort.draws.rng c.draw_value.new.draws.rng going (at_next c.args_of-field_sort-items.result.now c.loop-field_sort.field_sort-index (record { 0 = 0 }) c.loop-field_sort-test.true)
          c.draw_value.ensures.grows c.in_ok-field.ensures.made.held c.in_ok-field.ensures.made.tree c.in_ok-field.ensures.made.after c.in-Ok.ensures.ok;
      room = room_more (c.args.draws.now.room - 1) c.loop-field_sort.draws.room c.draw_value.new.draws.room (trees_of c.loop-field_sort.bank c.loop-field_sort.fields) (trees_of c.draw_value.new.bank c.push.new.self)
          (tree_of c.draw_value.new.bank c.in_ok-field.field) (value_drawn c.args.self.now.sig.now (c.args.height - 1) (slice_index_or c.args_of-field_sort-items.result.now c.loop-field_sort.field_sort-index (record { 0 = 0 })) c.loop-field_sort.draws.rng).made c.loop-field_sort.invariant.room
          (means_more IsOf tree_of id_keeps c.loop-field_sort.bank c.draw_value.new.bank c.loop-field_sort.fields c.push.new.self c.in_ok-field.field going.held c.draw_value.ensures.grows c.in-Ok.ensures.ok)
          c.in_ok-field.ensures.made.tree c.in_ok-field.ensures.made.taken;
    }

pub make-requires-clause-few : goal.make-requires-clause-few
make-requires-clause-few t c =
    let d = drawing c.args.self.now.sig.now c.args.height c.args.sort c.args.draws.now.rng c.next_word-word.new.self c.as_slice-choices.result.now c.next_word-word.result c.args_of-field_sort-items.result.now
    c.requires.ready.well_formed c.requires.within (looked_up c.args.self.now.sig.now c.args.height c.args.sort c.args.self.now.choices c.as_slice.result.now c.index-as_slice-height.result c.as_slice-level.result.now
    c.index-level-sort.result c.as_slice-choices.result.now
    c.requires.ready c.requires.declared c.as_slice.ensures c.index-as_slice-height.is c.as_slice-level.ensures c.index-level-sort.is c.as_slice-choices.ensures)
    (ap (λ (p : ℕ × Lcg). p.0) c.next_word-word.ensures) (ap (λ (p : ℕ × Lcg). p.1) c.next_word-word.ensures) c.args_of-field_sort-items.ensures in
    let last = going_last IsOf tree_of (value_drawn c.args.self.now.sig.now (c.args.height - 1)) (in_turn (value_drawn c.args.self.now.sig.now (c.args.height - 1)) c.args_of-field_sort-items.result.now c.next_word-word.new.self) c.args.bank.now c.loop-field_sort.bank c.loop-field_sort.fields (drop c.loop-field_sort.field_sort-index c.args_of-field_sort-items.result.now) c.loop-field_sort.draws.rng c.loop-field_sort.invariant.going
    (drop_past c.args_of-field_sort-items.result.now c.loop-field_sort.field_sort-index c.loop-field_sort-test.false) in
    let count : length c.as_slice-2.result.now ≡ length c.args_of-field_sort-items.result.now =
    ap length c.as_slice-2.ensures ∙ sym (length_map (tree_of c.loop-field_sort.bank) c.loop-field_sort.fields) ∙ ap length (sym last.0) ∙ in_turn_length (value_drawn c.args.self.now.sig.now (c.args.height - 1)) c.args_of-field_sort-items.result.now c.next_word-word.new.self in
    omega (arith, d.few)

pub returns-in-Ok-make-clause-made : goal.returns-in-Ok-make-clause-made
returns-in-Ok-make-clause-made t c =
    let d = drawing c.args.self.now.sig.now c.args.height c.args.sort c.args.draws.now.rng c.next_word-word.new.self c.as_slice-choices.result.now c.next_word-word.result c.args_of-field_sort-items.result.now
    c.requires.ready.well_formed c.requires.within (looked_up c.args.self.now.sig.now c.args.height c.args.sort c.args.self.now.choices c.as_slice.result.now c.index-as_slice-height.result c.as_slice-level.result.now
    c.index-level-sort.result c.as_slice-choices.result.now
    c.requires.ready c.requires.declared c.as_slice.ensures c.index-as_slice-height.is c.as_slice-level.ensures c.index-level-sort.is c.as_slice-choices.ensures)
    (ap (λ (p : ℕ × Lcg). p.0) c.next_word-word.ensures) (ap (λ (p : ℕ × Lcg). p.1) c.next_word-word.ensures) c.args_of-field_sort-items.ensures in
    let last = going_last IsOf tree_of (value_drawn c.args.self.now.sig.now (c.args.height - 1)) (in_turn (value_drawn c.args.self.now.sig.now (c.args.height - 1)) c.args_of-field_sort-items.result.now c.next_word-word.new.self) c.args.bank.now c.loop-field_sort.bank c.loop-field_sort.fields (drop c.loop-field_sort.field_sort-index c.args_of-field_sort-items.result.now) c.loop-field_sort.draws.rng c.loop-field_sort.invariant.going
    (drop_past c.args_of-field_sort-items.result.now c.loop-field_sort.field_sort-index c.loop-field_sort-test.false) in
    let f = chosen c.as_slice-choices.result.now c.next_word-word.result in
    record {
      held = c.in-Ok-make.ensures.id;
      tree = c.in-Ok-make.ensures.tree ∙ ap (λ l. App f (trees_of c.loop-field_sort.bank l)) c.as_slice-2.ensures ∙ ap (App f) (sym last.0) ∙ sym d.made;
      after = sym (d.left ∙ last.1);
      taken = room_whole (value_drawn c.args.self.now.sig.now c.args.height c.args.sort c.args.draws.now.rng).made f (in_turn (value_drawn c.args.self.now.sig.now (c.args.height - 1)) c.args_of-field_sort-items.result.now c.next_word-word.new.self).made (trees_of c.loop-field_sort.bank c.loop-field_sort.fields) c.args.draws.now.room
          (c.args.draws.now.room - 1) c.loop-field_sort.draws.room d.made last.0 refl (omega arith) c.loop-field_sort.invariant.room;
    }
