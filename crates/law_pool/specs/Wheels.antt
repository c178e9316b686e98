-- Counting with the wanted digits alone: a wheel for each of them.
use Rattle.std.specs.Prelude.{◌≡◌, ℕ, suc, ◌+◌, ◌*◌, ◌-◌, ◌/◌, ◌%◌, ◌≤◌, List, [], ◌∷◌, Bool, nat_lt, if◌then◌else◌}
use Rattle.law_sig.specs.Signature.{vars_at, width_at}
use Rattle.law_sig.specs.Tests.{first_of, radices, assignments}
use Rattle.law_sig.specs.declared.parts.SigParts.{SigParts}
use Rattle.law_laws.specs.Renaming.{HasWidth}
use Rattle.law_own.specs.Own.{VarSet, by_number}
use Rattle.law_pool.specs.declared.own.Wheel.{Wheel}

-- what is known of the own tests of a set of variables: a wheel for each of them, and how many ways there are to give all
-- variables places, which is what one more pool adds
pub record Track : Type 0 where
  pub wheels : List Wheel
  pub above : ℕ

-- a wheel for each wanted digit below these radices, where one more in the first digit adds this step
abbrev pub wheels_of : (ℕ → Bool) → List ℕ → ℕ → List Wheel
wheels_of wanted [] step = []
wheels_of wanted (w ∷ ws) step =
    if wanted 0
    then record { step = step; width = w } ∷ wheels_of (λ k. wanted (suc k)) ws (step * w)
    else wheels_of (λ k. wanted (suc k)) ws (step * w)

-- the wheels of a set of variables
pub record IsTrackOf (parts : SigParts) (vars : VarSet) (track : Track) : Type 0 where
  pub wide : HasWidth parts
  pub wheels : track.wheels ≡ wheels_of (by_number parts vars) (radices parts) 1
  pub above : track.above ≡ assignments parts

-- the number after one turn: the first wheel that can goes on by one place, those before it go back to place 0, and where
-- none can, one more is added above them
abbrev pub turned : ℕ → List Wheel → ℕ → ℕ
turned above [] n = n + above
turned above (wheel ∷ wheels) n =
    if nat_lt (n / wheel.step % wheel.width + 1) wheel.width
    then n + wheel.step
    else turned above wheels (n - n / wheel.step % wheel.width * wheel.step)

-- what the places of all wheels add
abbrev pub places_of : List Wheel → ℕ → ℕ
places_of [] n = 0
places_of (wheel ∷ wheels) n = n / wheel.step % wheel.width * wheel.step + places_of wheels n

-- no width is 0; the step of each wheel is no less than the ways of those before it, which are this many at first; and there
-- are no more than so many ways in all
abbrev pub Fit : ℕ → List Wheel → ℕ → Type 0
Fit ways [] above = ways ≤ above
Fit ways (wheel ∷ wheels) above = (ways ≤ wheel.step) × (1 ≤ wheel.width) × Fit (wheel.step * wheel.width) wheels above

pub record AreSound (wheels : List Wheel) (above : ℕ) : Type 0 where
  pub fit : Fit 1 wheels above
  pub few : above ≤ 4096

-- While wheels are made, variable by variable: whether a variable is wanted, and its radix

pub record Slot : Type 0 where
  pub wanted : Bool
  pub width : ℕ

abbrev pub slot : SigParts → VarSet → ℕ → ℕ → Slot
slot parts vars sort index = record { wanted = vars (record { 0 = sort }) index; width = width_at parts (record { 0 = sort }) }

-- the slots of a sort's variables
abbrev pub sort_slots : SigParts → VarSet → ℕ → List Slot
sort_slots parts vars sort = first_of (vars_at parts (record { 0 = sort })) (slot parts vars sort)

-- a wheel, where the variable is wanted
abbrev pub where_wanted : Bool → Wheel → List Wheel
where_wanted wanted wheel = if wanted then wheel ∷ [] else []

-- the wheels of the wanted slots, and the ways of them all
abbrev pub wheels_in : List Slot → ℕ → List Wheel
wheels_in [] step = []
wheels_in (s ∷ slots) step =
    if s.wanted
    then record { step = step; width = s.width } ∷ wheels_in slots (step * s.width)
    else wheels_in slots (step * s.width)

abbrev pub ways_in : List Slot → ℕ
ways_in [] = 1
ways_in (s ∷ slots) = s.width * ways_in slots
