use Rattle.std.proofs.Common.{◌≡◌, ℕ, ◌+◌, ◌*◌, ◌<◌, ◌≤◌, ◌++◌, suc, length, sym, ap, ap₂, ◌∙◌, subst, arith}
use Rattle.law_sig.specs.declared.parts.Settings.{Settings}
use Rattle.law_laws.proofs.Renaming.{has_width}
use Rattle.law_own.specs.Own.{vars_of}
use Rattle.law_pool.specs.Wheels.{wheels_in, ways_in}
use Rattle.law_pool.proofs.Slots.{slots_from, sort_made, sort_ways, sort_fits, ways_all, all_wheels, all_sound, all_made, all_ways}
use Rattle.law_pool.proofs.own.OwnTests.of.Goals as goal

lower : (a b n m : ℕ) → a ≤ b → b ≡ n → n ≤ m → a ≤ m
lower a b n m h e k = omega arith

pub push_wheels-requires : goal.push_wheels-requires
push_wheels-requires c =
    let parts = c.args.sig.now in
    let below : c.loop-sort.sort < length parts.settings.vars =
    subst (λ n. c.loop-sort.sort < n) (c.len-sort-end.ensures ∙ ap (λ (s : Settings). length s.vars) c.settings.ensures.settings) c.loop-sort-test.true in
    let h = sort_fits parts (vars_of c.args.left.now c.args.right.now) (has_width parts c.settings.ensures.well_formed) c.loop-sort.sort c.loop-sort.step
    (ways_in (slots_from parts (vars_of c.args.left.now c.args.right.now) 0)) below c.loop-sort.invariant.ways in
    let e = ways_all parts (vars_of c.args.left.now c.args.right.now) in
    let k = c.requires in
    record { few = lower _ _ _ _ h e k }

pub loop-sort-preserved : goal.loop-sort-preserved
loop-sort-preserved c =
    let parts = c.args.sig.now in
    let vars = vars_of c.args.left.now c.args.right.now in
    let below : c.loop-sort.sort < length parts.settings.vars =
    subst (λ n. c.loop-sort.sort < n) (c.len-sort-end.ensures ∙ ap (λ (s : Settings). length s.vars) c.settings.ensures.settings) c.loop-sort-test.true in
    let next : suc c.loop-sort.sort ≡ c.loop-sort.sort + 1 = omega arith in
    let turn = ap₂ (λ n m. c.push_wheels.new.wheels ++ wheels_in (slots_from parts vars n) m) next (sym c.in_ok-step.ensures.step) in
    let turn' = ap₂ (λ n m. m * ways_in (slots_from parts vars n)) next (sym c.in_ok-step.ensures.step) in
    record {
      made = sym turn ∙ sort_made parts vars c.loop-sort.wheels c.push_wheels.new.wheels c.loop-sort.sort c.loop-sort.step (wheels_in (slots_from parts vars 0) 1) below
          c.in_ok-step.ensures.wheels c.loop-sort.invariant.made;
      ways = sym turn' ∙ sort_ways parts vars c.loop-sort.sort c.loop-sort.step (ways_in (slots_from parts vars 0)) below c.loop-sort.invariant.ways;
    }

pub invariant_of-result : goal.invariant_of-result
invariant_of-result c =
    let parts = c.args.sig.now in
    let vars = vars_of c.args.left.now c.args.right.now in
    let end : length parts.settings.vars ≤ c.loop-sort.sort =
    subst (λ n. n ≤ c.loop-sort.sort) (c.len-sort-end.ensures ∙ ap (λ (s : Settings). length s.vars) c.settings.ensures.settings) c.loop-sort-test.false in
    all_sound parts vars (has_width parts c.settings.ensures.well_formed) c.requires c.loop-sort.wheels
    (all_made parts vars c.loop-sort.wheels c.loop-sort.sort c.loop-sort.step end c.loop-sort.invariant.made)
    c.loop-sort.step (all_ways parts vars c.loop-sort.sort c.loop-sort.step end c.loop-sort.invariant.ways)

pub returns : goal.returns
returns c =
    let parts = c.args.sig.now in
    let vars = vars_of c.args.left.now c.args.right.now in
    let end : length parts.settings.vars ≤ c.loop-sort.sort =
    subst (λ n. n ≤ c.loop-sort.sort) (c.len-sort-end.ensures ∙ ap (λ (s : Settings). length s.vars) c.settings.ensures.settings) c.loop-sort-test.false in
    record {
      wide = has_width parts c.settings.ensures.well_formed;
      wheels = all_wheels parts vars c.loop-sort.wheels (all_made parts vars c.loop-sort.wheels c.loop-sort.sort c.loop-sort.step end c.loop-sort.invariant.made);
      above = all_ways parts vars c.loop-sort.sort c.loop-sort.step end c.loop-sort.invariant.ways;
    }
