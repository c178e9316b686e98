use Rattle.std.proofs.Common.{◌≡◌, ℕ, ◌+◌, ◌-◌, ◌%◌, ◌<◌, ◌^◌, drop, sym, refl, ap, ◌∙◌, subst, arith, rules}
use Rattle.std.proofs.lemmas.List.{drop_all}
use Rattle.law_pool.specs.Wheels.{Track, places_of, AreSound}
use Rattle.law_pool.proofs.Turning.{sound_at, ways_fit, own_fits, own_places}
use Rattle.law_pool.proofs.own.OwnTests.own.Goals as goal

pub nonzero_rem-own : goal.nonzero_rem-own
nonzero_rem-own c = ways_fit 1 c.self.inside.wheels c.self.inside.assignments c.self.invariant.fit

pub nonzero_div-own : goal.nonzero_div-own
nonzero_div-own c = (sound_at c.as_slice-wheel-items.result.now c.self.inside.wheels c.self.inside.assignments c.loop-wheel.wheel-index _
    c.as_slice-wheel-items.ensures c.self.invariant c.loop-wheel-test.true).some

pub nonzero_rem-own-in-loop-wheel : goal.nonzero_rem-own-in-loop-wheel
nonzero_rem-own-in-loop-wheel c = (sound_at c.as_slice-wheel-items.result.now c.self.inside.wheels c.self.inside.assignments c.loop-wheel.wheel-index _
    c.as_slice-wheel-items.ensures c.self.invariant c.loop-wheel-test.true).wide

pub overflow_add-own : goal.overflow_add-own
overflow_add-own c =
    let sound : AreSound c.as_slice-wheel-items.result.now c.self.inside.assignments = subst (λ ws. AreSound ws c.self.inside.assignments) (sym c.as_slice-wheel-items.ensures) c.self.invariant in
    let so_far : c.loop-wheel.own + places_of (drop c.loop-wheel.wheel-index c.as_slice-wheel-items.result.now) c.args.test
    ≡ c.args.test - c.args.test % c.self.inside.assignments + places_of c.as_slice-wheel-items.result.now c.args.test =
    c.loop-wheel.invariant ∙ ap (λ (t : Track). c.args.test - c.args.test % t.above + places_of t.wheels c.args.test) (sym c.self.view_is)
    ∙ ap (λ ws. c.args.test - c.args.test % c.self.inside.assignments + places_of ws c.args.test) (sym c.as_slice-wheel-items.ensures) in
    let fits = own_fits c.as_slice-wheel-items.result.now c.self.inside.assignments c.loop-wheel.wheel-index (record { step = 0; width = 0 }) c.args.test c.loop-wheel.own
    sound c.loop-wheel-test.true so_far c.requires in
    search (rules, fits)

at_end : (own rest all : ℕ) → own + rest ≡ all → rest ≡ 0 → own ≡ all
at_end own rest all e none = omega arith

pub returns : goal.returns
returns c parts vars is = at_end _ _ _ c.loop-wheel.invariant
    (ap (λ ws. places_of ws c.args.test) (drop_all c.loop-wheel.wheel-index c.as_slice-wheel-items.result.now c.loop-wheel-test.false))
    ∙ own_places parts vars c.args.self.now is c.args.test
