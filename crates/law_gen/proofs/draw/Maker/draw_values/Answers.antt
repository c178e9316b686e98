use Rattle.std.proofs.Common.{◌≡◌, ℕ, ◌+◌, ◌<◌, ◌≤◌, List, [], ◌∷◌, drop, slice_index_or, sym, refl, subst, arith}
use Rattle.std.proofs.lemmas.Result.{err_from_is_err_and}
use Rattle.law_sig.specs.Trees.{node_count}
use Rattle.law_sig.specs.Signature.{width_at}
use Rattle.law_sig.specs.Tests.{first_of}
use Rattle.law_sig.specs.declared.tree.SortId.{SortId}
use Rattle.law_sig.specs.declared.parts.SigParts.{SigParts}
use Rattle.law_ids.specs.Values.{IsOf, tree_of, trees_of}
use Rattle.law_ids.proofs.Reading.{id_keeps}
use Rattle.law_draws.specs.Draws.{value_drawn, values_drawn}
use Rattle.law_draws.specs.Sizes.{AreSmall}
use Rattle.law_draws.proofs.First.{first_from, first_past}
use Rattle.law_gen.proofs.Turns.{going_here, going_more, going_last, each_means}
use Rattle.law_gen.proofs.RoomFacts.{large_on}
use Rattle.law_gen.proofs.PoolFacts.{width_is, large_among, small_by}
use Rattle.law_gen.proofs.draw.Maker.draw_values.Goals as goal

-- the sort once for each place
abbrev same_sorts : SigParts → SortId → List SortId
same_sorts parts sort = first_of (width_at parts sort) (λ place. sort)

place_next : (parts : SigParts) (sort : SortId) (place width : ℕ) → place < width → width ≡ width_at parts sort → drop place (same_sorts parts sort) ≡ sort ∷ drop (place + 1) (same_sorts parts sort)
place_next parts sort place width below is = first_from (width_at parts sort) (λ place. sort) place (omega arith)

place_past : (parts : SigParts) (sort : SortId) (place width : ℕ) → width ≤ place → width ≡ width_at parts sort → drop place (same_sorts parts sort) ≡ []
place_past parts sort place width past is = first_past (width_at parts sort) (λ place. sort) place (λ h. omega arith)

pub returns-in_err-value-clause-large : goal.returns-in_err-value-clause-large
returns-in_err-value-clause-large c =
    let p = err_from_is_err_and c.from_residual.result c.from_residual.ensures.1 in
    let here = going_here IsOf tree_of (value_drawn c.args.self.now.sig.now c.args.height) (values_drawn c.args.self.now.sig.now c.args.height c.args.sort c.args.draws.now.rng) c.args.bank.now c.loop-place.bank c.loop-place.values c.args.sort (drop c.loop-place.place (same_sorts c.args.self.now.sig.now c.args.sort)) (drop (c.loop-place.place + 1) (same_sorts c.args.self.now.sig.now c.args.sort)) c.loop-place.draws.rng c.loop-place.invariant.going (place_next c.args.self.now.sig.now c.args.sort c.loop-place.place (slice_index_or c.as_slice.result.now c.args.sort.0 0) c.loop-place-test.true (width_is c.args.self.now.sig.now c.args.sort c.settings.result.now c.as_slice.result.now c.requires.ready.well_formed c.requires.declared c.settings.ensures.settings c.as_slice.ensures)) in
    rw (p.1, p.2) (large_on _ _ (λ large. large_among (values_drawn c.args.self.now.sig.now c.args.height c.args.sort c.args.draws.now.rng).made (trees_of c.loop-place.bank c.loop-place.values) _ (value_drawn c.args.self.now.sig.now c.args.height c.args.sort c.loop-place.draws.rng).made here large)
    c.in_err-value.field-0.0 c.in_err-value.ensures.large)

pub loop-place-preserved : goal.loop-place-preserved
loop-place-preserved c = record {
  going = going_more IsOf tree_of (value_drawn c.args.self.now.sig.now c.args.height) id_keeps (values_drawn c.args.self.now.sig.now c.args.height c.args.sort c.args.draws.now.rng) c.args.bank.now c.loop-place.bank c.draw_value.new.bank c.loop-place.values c.push.new.self c.in_ok-value.value c.args.sort (drop c.loop-place.place (same_sorts c.args.self.now.sig.now c.args.sort)) (drop (c.loop-place.place + 1) (same_sorts c.args.self.now.sig.now c.args.sort))
      c.loop-place.draws.rng c.draw_value.new.draws.rng c.loop-place.invariant.going (place_next c.args.self.now.sig.now c.args.sort c.loop-place.place (slice_index_or c.as_slice.result.now c.args.sort.0 0) c.loop-place-test.true (width_is c.args.self.now.sig.now c.args.sort c.settings.result.now c.as_slice.result.now c.requires.ready.well_formed c.requires.declared c.settings.ensures.settings c.as_slice.ensures)) c.draw_value.ensures.grows c.in_ok-value.ensures.made.held c.in_ok-value.ensures.made.tree
      c.in_ok-value.ensures.made.after c.in-Ok.ensures.ok;
  small = each_means IsOf tree_of id_keeps (λ v. node_count v ≤ 4096) c.loop-place.bank c.draw_value.new.bank c.loop-place.values c.push.new.self c.in_ok-value.value c.loop-place.invariant.going.held c.draw_value.ensures.grows
      c.in-Ok.ensures.ok c.loop-place.invariant.small
      (small_by 4096 c.draw_value.new.draws.room (tree_of c.draw_value.new.bank c.in_ok-value.value) (value_drawn c.args.self.now.sig.now c.args.height c.args.sort c.loop-place.draws.rng).made c.in_ok-value.ensures.made.tree
      c.in_ok-value.ensures.made.taken refl);
}

pub returns-clause-made : goal.returns-clause-made
returns-clause-made c =
    let last = going_last IsOf tree_of (value_drawn c.args.self.now.sig.now c.args.height) (values_drawn c.args.self.now.sig.now c.args.height c.args.sort c.args.draws.now.rng) c.args.bank.now c.loop-place.bank c.loop-place.values (drop c.loop-place.place (same_sorts c.args.self.now.sig.now c.args.sort)) c.loop-place.draws.rng c.loop-place.invariant.going
    (place_past c.args.self.now.sig.now c.args.sort c.loop-place.place (slice_index_or c.as_slice.result.now c.args.sort.0 0) c.loop-place-test.false (width_is c.args.self.now.sig.now c.args.sort c.settings.result.now c.as_slice.result.now c.requires.ready.well_formed c.requires.declared c.settings.ensures.settings c.as_slice.ensures)) in
    record { held = c.loop-place.invariant.going.held; made = sym last.0; after = sym last.1 }

pub returns-clause-small : goal.returns-clause-small
returns-clause-small c =
    let last = going_last IsOf tree_of (value_drawn c.args.self.now.sig.now c.args.height) (values_drawn c.args.self.now.sig.now c.args.height c.args.sort c.args.draws.now.rng) c.args.bank.now c.loop-place.bank c.loop-place.values (drop c.loop-place.place (same_sorts c.args.self.now.sig.now c.args.sort)) c.loop-place.draws.rng c.loop-place.invariant.going
    (place_past c.args.self.now.sig.now c.args.sort c.loop-place.place (slice_index_or c.as_slice.result.now c.args.sort.0 0) c.loop-place-test.false (width_is c.args.self.now.sig.now c.args.sort c.settings.result.now c.as_slice.result.now c.requires.ready.well_formed c.requires.declared c.settings.ensures.settings c.as_slice.ensures)) in
    subst AreSmall (sym last.0) c.loop-place.invariant.small
