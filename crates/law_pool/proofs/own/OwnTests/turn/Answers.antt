use Rattle.std.proofs.Common.{ℕ, ◌+◌, ◌^◌, ◌<◌, ◌≤◌, arith, rules}
use Rattle.law_pool.specs.declared.own.Wheel.{Wheel}
use Rattle.law_pool.proofs.Turning.{IsSound, sound_at}
use Rattle.law_pool.proofs.own.OwnTests.turn.Goals as goal

pub nonzero_div-place : goal.nonzero_div-place
nonzero_div-place c = (sound_at c.as_slice-wheel-items.result.now c.self.inside.wheels c.self.inside.assignments c.loop-wheel.wheel-index _
    c.as_slice-wheel-items.ensures c.self.invariant c.loop-wheel-test.true).some

pub nonzero_rem-place : goal.nonzero_rem-place
nonzero_rem-place c = (sound_at c.as_slice-wheel-items.result.now c.self.inside.wheels c.self.inside.assignments c.loop-wheel.wheel-index _
    c.as_slice-wheel-items.ensures c.self.invariant c.loop-wheel-test.true).wide

pub overflow_add-result : goal.overflow_add-result
overflow_add-result c =
    let sound = sound_at c.as_slice-wheel-items.result.now c.self.inside.wheels c.self.inside.assignments c.loop-wheel.wheel-index (record { step = 0; width = 0 })
    c.as_slice-wheel-items.ensures c.self.invariant c.loop-wheel-test.true in
    let few = c.self.invariant.few in
    search (rules, sound, few)
