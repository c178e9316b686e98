-- The wheels count the numbers with wanted digits alone.
use Rattle.std.proofs.Common.{◌≡◌, ℕ, zero, suc, ◌+◌, ◌-◌, ◌*◌, ◌/◌, ◌%◌, ◌^◌, ◌<◌, ◌≤◌, min, Bool, true, false, ◌&&◌, nat_lt, if◌then◌else◌, List, [], ◌∷◌, length, drop, slice_index_or, sym, refl, ap, ap₂, ◌∙◌, subst, arith}
use Rattle.std.proofs.Math.Nat.{mod-add-div, mul-le-mul_left, mul-div_cancel_left, mul_assoc, mul-le-mul_right, mod-lt, div-mul-le_self, div-one, div-div-eq-div-mul}
use Rattle.std.proofs.lemmas.List.{drop_more}
use Rattle.law_sig.specs.Lists.{product}
use Rattle.law_sig.specs.Tests.{radices, assignments}
use Rattle.law_sig.specs.declared.parts.SigParts.{SigParts}
use Rattle.law_own.specs.Kept.{where_wanted, kept}
use Rattle.law_own.specs.Own.{VarSet, by_number, own, IsOwn, IsNextOwn}
use Rattle.law_own.proofs.Keeping.{AreWide, later}
use Rattle.law_own.proofs.NextKept.{next_kept, own_low, own_high, next_is}
use Rattle.law_own.proofs.OwnTests.{radices_are_wide}
use Rattle.law_pool.specs.declared.own.Wheel.{Wheel}
use Rattle.law_pool.specs.Wheels.{Track, wheels_of, IsTrackOf, turned, places_of, Fit, AreSound}

more_ways : (step w : ℕ) → 1 ≤ step → 1 ≤ w → 1 ≤ step * w
more_ways step w some wide =
    let k : step * 1 ≤ step * w = mul-le-mul_left step wide in
    omega arith

pub turned_next : (wanted : ℕ → Bool) (ws : List ℕ) (step above n : ℕ) → AreWide ws → 1 ≤ step → above ≡ step * product ws → kept wanted ws n ≡ n
    → turned above (wheels_of wanted ws step) (step * n) ≡ step * next_kept wanted ws n
turned_next wanted [] step above n wide some is own = one step n above is
  where
    one : (s n a : ℕ) → a ≡ s * 1 → s * n + a ≡ s * (n + 1)
    one s n a e = omega arith
turned_next wanted (w ∷ ws) step above n wide some is own =
    by (turned_next (later wanted) ws (step * w) above (n / w) wide.1 (more_ways step w some wide.0) (is ∙ sym (mul_assoc step w (product ws))) (own_high wanted w ws wide.0 n own))
    (wanted 0) refl
  where
    one : (s n : ℕ) → s * n + s ≡ s * (n + 1)
    one s n = omega arith

    back : (s n d q : ℕ) → d + w * q ≡ n → s * n - d * s ≡ (s * w) * q
    back s n d q e = ap (λ k. s * k - d * s) (sym e) ∙ many s d (w * q) ∙ sym (mul_assoc s w q)
      where
        many : (s d x : ℕ) → s * (d + x) - d * s ≡ s * x
        many s d x = omega arith

    none : (s n d q : ℕ) → d + w * q ≡ n → d ≡ 0 → s * n ≡ (s * w) * q
    none s n d q e zero' = ap (λ k. s * k) (sym e ∙ ap (λ k. k + w * q) zero') ∙ many s (w * q) ∙ sym (mul_assoc s w q)
      where
        many : (s x : ℕ) → s * (0 + x) ≡ s * x
        many s x = omega arith

    by : turned above (wheels_of (later wanted) ws (step * w)) ((step * w) * (n / w)) ≡ (step * w) * next_kept (later wanted) ws (n / w)
        → (b : Bool) → wanted 0 ≡ b
        → turned above (if b then record { step = step; width = w } ∷ wheels_of (later wanted) ws (step * w) else wheels_of (later wanted) ws (step * w)) (step * n)
        ≡ step * (if b && nat_lt (n % w + 1) w then n + 1 else w * next_kept (later wanted) ws (n / w))
    by rest false not = ap (turned above (wheels_of (later wanted) ws (step * w)))
        (none step n (n % w) (n / w) (mod-add-div n w) (sym (own_low wanted w ws wide.0 n own) ∙ ap (λ b. where_wanted b (n % w)) not))
        ∙ rest ∙ mul_assoc step w (next_kept (later wanted) ws (n / w))
    by rest true is' = ap (λ q. if nat_lt (q % w + 1) w then step * n + step else turned above (wheels_of (later wanted) ws (step * w)) (step * n - q % w * step))
        (mul-div_cancel_left n some) ∙ decide (nat_lt (n % w + 1) w)
      where
        decide : (c : Bool) → (if c then step * n + step else turned above (wheels_of (later wanted) ws (step * w)) (step * n - n % w * step))
            ≡ step * (if c then n + 1 else w * next_kept (later wanted) ws (n / w))
        decide true = one step n
        decide false = ap (turned above (wheels_of (later wanted) ws (step * w))) (back step n (n % w) (n / w) (mod-add-div n w))
            ∙ rest ∙ mul_assoc step w (next_kept (later wanted) ws (n / w))

-- Sound wheels

sooner : (ways more : ℕ) (wheels : List Wheel) (above : ℕ) → ways ≤ more → Fit more wheels above → Fit ways wheels above
sooner ways more [] above less fit = omega arith
sooner ways more (w ∷ wheels) above less fit = (omega arith, fit.1, fit.2)

pub wheels_fit : (wanted : ℕ → Bool) (ws : List ℕ) (step : ℕ) → AreWide ws → Fit step (wheels_of wanted ws step) (step * product ws)
wheels_fit wanted [] step wide = omega arith
wheels_fit wanted (w ∷ ws) step wide = by (subst (Fit (step * w) (wheels_of (later wanted) ws (step * w))) (mul_assoc step w (product ws)) (wheels_fit (later wanted) ws (step * w) wide.1)) (wanted 0)
  where
    by : Fit (step * w) (wheels_of (later wanted) ws (step * w)) (step * (w * product ws)) → (b : Bool)
        → Fit step (if b then record { step = step; width = w } ∷ wheels_of (later wanted) ws (step * w) else wheels_of (later wanted) ws (step * w)) (step * (w * product ws))
    by rest true = (omega arith, wide.0, rest)
    by rest false =
        let more : step * 1 ≤ step * w = mul-le-mul_left step wide.0 in
        sooner step (step * w) (wheels_of (later wanted) ws (step * w)) (step * (w * product ws)) (omega arith) rest

-- what is known of a wheel
pub record IsSound (wheel : Wheel) (above : ℕ) : Type 0 where
  pub some : 1 ≤ wheel.step
  pub wide : 1 ≤ wheel.width
  pub few : wheel.step ≤ above

pub ways_fit : (ways : ℕ) (wheels : List Wheel) (above : ℕ) → Fit ways wheels above → ways ≤ above
ways_fit ways [] above fit = fit
ways_fit ways (w ∷ wheels) above fit =
    let h : w.step * w.width ≤ above = ways_fit (w.step * w.width) wheels above fit.2 in
    let k : w.step * 1 ≤ w.step * w.width = mul-le-mul_left w.step fit.1 in
    let l : ways ≤ w.step = fit.0 in
    omega arith

first_sound : (ways : ℕ) (w : Wheel) (wheels : List Wheel) (above : ℕ) → 1 ≤ ways → Fit ways (w ∷ wheels) above → IsSound w above
first_sound ways w wheels above some fit =
    let h : w.step * w.width ≤ above = ways_fit (w.step * w.width) wheels above fit.2 in
    let k : w.step * 1 ≤ w.step * w.width = mul-le-mul_left w.step fit.1 in
    let l : ways ≤ w.step = fit.0 in
    record { some = omega arith; wide = fit.1; few = omega arith }

sound_from : (ways : ℕ) (wheels : List Wheel) (above at : ℕ) (other : Wheel) → 1 ≤ ways → Fit ways wheels above → at < length wheels → IsSound (slice_index_or wheels at other) above
sound_from ways [] above at other some fit less = absurd (omega arith)
sound_from ways (w ∷ wheels) above zero other some fit less = first_sound ways w wheels above some fit
sound_from ways (w ∷ wheels) above (suc k) other some fit less = sound_from (w.step * w.width) wheels above k other (more_ways w.step w.width (first_sound ways w wheels above some fit).some fit.1) fit.2 (omega arith)

pub sound_at : (items wheels : List Wheel) (above at : ℕ) (other : Wheel) → items ≡ wheels → AreSound wheels above → at < length items → IsSound (slice_index_or items at other) above
sound_at items wheels above at other same sound less = sound_from 1 items above at other (omega arith) (subst (λ ws. Fit 1 ws above) (sym same) sound.fit) less

-- the places add less than all ways
pub places_few : (ways : ℕ) (wheels : List Wheel) (above n : ℕ) → Fit ways wheels above → places_of wheels n + ways ≤ above
places_few ways [] above n fit = omega (arith, fit)
places_few ways (w ∷ wheels) above n fit = few (n / w.step % w.width) w.step w.width (places_of wheels n) ways above
    (mod-lt (n / w.step) fit.1) (places_few (w.step * w.width) wheels above n fit.2) fit.0
  where
    few : (p s w rest ways above : ℕ) → p < w → rest + s * w ≤ above → ways ≤ s → p * s + rest + ways ≤ above
    few p s w rest ways above less h k =
        let l : s * suc p ≤ s * w = mul-le-mul_left s less in
        omega arith

-- what is added so far, with the place of the next wheel, is a number of the machine
pub own_fits : (wheels : List Wheel) (above at : ℕ) (other : Wheel) (test own : ℕ) → AreSound wheels above → at < length wheels
    → own + places_of (drop at wheels) test ≡ test - test % above + places_of wheels test → test < 2 ^ 63
    → own + test / (slice_index_or wheels at other).step % (slice_index_or wheels at other).width * (slice_index_or wheels at other).step < 2 ^ 64
own_fits wheels above at other test own sound less so_far small =
    let wheel = slice_index_or wheels at other in
    let cut : places_of (drop at wheels) test ≡ test / wheel.step % wheel.width * wheel.step + places_of (drop (at + 1) wheels) test = ap (λ l. places_of l test) (drop_more wheels at other less) in
    low own (test / wheel.step % wheel.width * wheel.step) (places_of (drop at wheels) test) (places_of (drop (at + 1) wheels) test) test (test % above) (places_of wheels test) above
    so_far cut (places_few 1 wheels above test sound.fit) sound.few small
  where
    low : (own x a b t r p above : ℕ) → own + a ≡ t - r + p → a ≡ x + b → p + 1 ≤ above → above ≤ 4096 → t < 2 ^ 63 → own + x < 2 ^ 64
    low own x a b t r p above e cut few most small = omega arith

-- the places of the wheels are the wanted digits
pub kept_places : (wanted : ℕ → Bool) (ws : List ℕ) (step all n : ℕ) → all / step ≡ n
    → step * kept wanted ws n ≡ step * product ws * (n / product ws) + places_of (wheels_of wanted ws step) all
kept_places wanted [] step all n is = plain step n ∙ ap (λ k. step * 1 * k + 0) (sym (div-one n))
  where
    plain : (s n : ℕ) → s * n ≡ s * 1 * n + 0
    plain s n = omega arith
kept_places wanted (w ∷ ws) step all n is =
    by (kept_places (later wanted) ws (step * w) all (n / w) (sym (div-div-eq-div-mul all step w) ∙ ap (λ k. k / w) is)) (wanted 0)
  where
    group : (s b w k r q : ℕ) (p : ℕ) → (s * w) * k ≡ (s * w) * p * q + r → s * (b + w * k) ≡ s * (w * p) * q + (b * s + r)
    group s b w k r q p e = many s b (w * k) ∙ ap (λ x. s * b + x) (sym (mul_assoc s w k) ∙ e ∙ ap (λ x. x * q + r) (mul_assoc s w p)) ∙ turn s b (s * (w * p) * q) r
      where
        many : (s b x : ℕ) → s * (b + x) ≡ s * b + s * x
        many s b x = omega arith

        turn : (s b x r : ℕ) → s * b + (x + r) ≡ x + (b * s + r)
        turn s b x r = omega arith

    by : (step * w) * kept (later wanted) ws (n / w) ≡ (step * w) * product ws * (n / w / product ws) + places_of (wheels_of (later wanted) ws (step * w)) all → (b : Bool)
        → step * (where_wanted b (n % w) + w * kept (later wanted) ws (n / w))
        ≡ step * (w * product ws) * (n / (w * product ws)) + places_of (if b then record { step = step; width = w } ∷ wheels_of (later wanted) ws (step * w) else wheels_of (later wanted) ws (step * w)) all
    by rest true = group step (n % w) w (kept (later wanted) ws (n / w)) (places_of (wheels_of (later wanted) ws (step * w)) all) (n / w / product ws) (product ws) rest
        ∙ ap₂ (λ q d. step * (w * product ws) * q + (d % w * step + places_of (wheels_of (later wanted) ws (step * w)) all)) (div-div-eq-div-mul n w (product ws)) (sym is)
    by rest false = group step 0 w (kept (later wanted) ws (n / w)) (places_of (wheels_of (later wanted) ws (step * w)) all) (n / w / product ws) (product ws) rest
        ∙ ap (λ q. step * (w * product ws) * q + (0 * step + places_of (wheels_of (later wanted) ws (step * w)) all)) (div-div-eq-div-mul n w (product ws))
        ∙ none (step * (w * product ws) * (n / (w * product ws))) step (places_of (wheels_of (later wanted) ws (step * w)) all)
      where
        none : (a s r : ℕ) → a + (0 * s + r) ≡ a + r
        none a s r = omega arith

-- One turn, wheel by wheel

pub next_item : {A : Type 0} (xs : List A) (at : ℕ) (x : A) → at < length xs → x ≡ slice_index_or xs at x → drop at xs ≡ x ∷ drop (at + 1) xs
next_item xs at x less is = drop_more xs at x less ∙ ap (λ y. y ∷ drop (at + 1) xs) (sym is)

pub turn_at : (above : ℕ) (wheels : List Wheel) (at : ℕ) (wheel : Wheel) (n : ℕ) → at < length wheels → wheel ≡ slice_index_or wheels at wheel
    → turned above (drop at wheels) n
    ≡ (if nat_lt (n / wheel.step % wheel.width + 1) wheel.width then n + wheel.step else turned above (drop (at + 1) wheels) (n - n / wheel.step % wheel.width * wheel.step))
turn_at above wheels at wheel n less is = ap (λ l. turned above l n) (next_item wheels at wheel less is)

-- what is taken off is there
pub place_fits : (n step width : ℕ) → n / step % width * step ≤ n
place_fits n step width = fits (n / step % width) (n / step) step n (low (n / step)) (div-mul-le_self n step)
  where
    fits : (a b s n : ℕ) → a ≤ b → b * s ≤ n → a * s ≤ n
    fits a b s n h k =
        let l : a * s ≤ b * s = mul-le-mul_right s h in
        omega arith

    low : (q : ℕ) → q % width ≤ q
    low q =
        let e : q % width + width * (q / width) ≡ q = mod-add-div q width in
        omega arith

-- Own tests

module _ (parts : SigParts) (vars : VarSet) (track : Track) (is : IsTrackOf parts vars track) where
  plain : (n : ℕ) → 1 * n ≡ n
  plain n = omega arith

  pub next_own : (test : ℕ) → IsOwn parts vars test → IsNextOwn parts vars test (turned track.above track.wheels test)
  next_own test own = subst (IsNextOwn parts vars test) (sym turns) (next_is (by_number parts vars) (radices parts) test (radices_are_wide parts is.wide) own)
    where
      turns : turned track.above track.wheels test ≡ next_kept (by_number parts vars) (radices parts) test
      turns = ap (λ ws. turned track.above ws test) is.wheels
          ∙ ap (turned track.above (wheels_of (by_number parts vars) (radices parts) 1)) (sym (plain test))
          ∙ turned_next (by_number parts vars) (radices parts) 1 track.above test (radices_are_wide parts is.wide) (omega arith) (is.above ∙ sym (plain (assignments parts))) own
          ∙ plain (next_kept (by_number parts vars) (radices parts) test)

  pub own_places : (test : ℕ) → test - test % track.above + places_of track.wheels test ≡ own parts vars test
  own_places test = ap₂ (λ a ws. test - test % a + places_of ws test) is.above is.wheels
      ∙ ap (λ k. k + places_of (wheels_of (by_number parts vars) (radices parts) 1) test) (whole test (assignments parts))
      ∙ sym (kept_places (by_number parts vars) (radices parts) 1 test test (div-one test)) ∙ plain (own parts vars test)
    where
      whole : (n p : ℕ) → n - n % p ≡ 1 * p * (n / p)
      whole n p =
          let h : n % p + p * (n / p) ≡ n = mod-add-div n p in
          omega arith
