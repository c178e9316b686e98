-- Wheels made slot by slot.
use Rattle.std.proofs.Common.{◌≡◌, ℕ, zero, suc, ◌+◌, ◌*◌, ◌<◌, ◌≤◌, Bool, true, false, if◌then◌else◌, List, [], ◌∷◌, ◌++◌, map, length, drop, slice_index_or, sym, refl, ap, ap₂, ◌∙◌, subst, arith, append_assoc, append-nil}
use Rattle.std.proofs.Math.Nat.{mul_assoc, mul-le-mul_left}
use Rattle.law_sig.specs.Lists.{product}
use Rattle.law_sig.specs.Signature.{vars_at}
use Rattle.law_sig.specs.Tests.{first_of, per_variable, radices, assignments}
use Rattle.law_sig.specs.declared.parts.SigParts.{SigParts}
use Rattle.law_own.specs.Own.{VarSet, by_number}
use Rattle.law_pool.specs.declared.own.Wheel.{Wheel}
use Rattle.law_pool.specs.Wheels.{wheels_of, Slot, slot, wheels_in, ways_in, sort_slots, where_wanted, Fit, AreSound}
use Rattle.law_own.proofs.OwnTests.{radices_are_wide}
use Rattle.law_laws.specs.Renaming.{HasWidth}
use Rattle.law_sig.specs.Lists.{Each}
use Rattle.law_pool.proofs.Turning.{wheels_fit}

abbrev wanted_of : List Slot → List Bool
wanted_of slots = map (λ (s : Slot). s.wanted) slots

abbrev widths_of : List Slot → List ℕ
widths_of slots = map (λ (s : Slot). s.width) slots

-- the same by number
wheels_by_number : (slots : List Slot) (step : ℕ) → wheels_in slots step ≡ wheels_of (λ k. slice_index_or (wanted_of slots) k false) (widths_of slots) step
wheels_by_number [] step = refl
wheels_by_number (s ∷ slots) step =
    ap (λ rest. if s.wanted then record { step = step; width = s.width } ∷ rest else rest) (wheels_by_number slots (step * s.width))

ways_product : (slots : List Slot) → ways_in slots ≡ product (widths_of slots)
ways_product [] = refl
ways_product (s ∷ slots) = ap (λ n. s.width * n) (ways_product slots)

-- something of each slot
map_append : {A B : Type 0} (g : A → B) (xs ys : List A) → map g (xs ++ ys) ≡ map g xs ++ map g ys
map_append g [] ys = refl
map_append g (x ∷ xs) ys = ap (λ l. g x ∷ l) (map_append g xs ys)

map_first : {A B : Type 0} (g : A → B) (n : ℕ) (f : ℕ → A) → map g (first_of n f) ≡ first_of n (λ i. g (f i))
map_first g zero f = refl
map_first g (suc n) f = ap (λ l. g (f 0) ∷ l) (map_first g n (λ i. f (suc i)))

map_variables : {A B : Type 0} (g : A → B) (base : ℕ) (vars : List ℕ) (f : ℕ → ℕ → A) → map g (per_variable base vars f) ≡ per_variable base vars (λ s i. g (f s i))
map_variables g base [] f = refl
map_variables g base (n ∷ vars) f = map_append g (first_of n (f base)) (per_variable (suc base) vars f) ∙ ap₂ ◌++◌ (map_first g n (f base)) (map_variables g (suc base) vars f)

-- one slot after another
pub ways_append : (xs ys : List Slot) → ways_in (xs ++ ys) ≡ ways_in xs * ways_in ys
ways_append [] ys = omega arith
ways_append (x ∷ xs) ys = ap (λ n. x.width * n) (ways_append xs ys) ∙ sym (mul_assoc x.width (ways_in xs) (ways_in ys))

pub wheels_append : (xs ys : List Slot) (step : ℕ) → wheels_in (xs ++ ys) step ≡ wheels_in xs step ++ wheels_in ys (step * ways_in xs)
wheels_append [] ys step = ap (wheels_in ys) (one step)
  where
    one : (n : ℕ) → n ≡ n * 1
    one n = omega arith
wheels_append (x ∷ xs) ys step =
    ap (λ rest. if x.wanted then record { step = step; width = x.width } ∷ rest else rest)
    (wheels_append xs ys (step * x.width) ∙ ap (λ n. wheels_in xs (step * x.width) ++ wheels_in ys n) (mul_assoc step x.width (ways_in xs))) ∙ out x.wanted
  where
    out : (b : Bool) → (if b then record { step = step; width = x.width } ∷ (wheels_in xs (step * x.width) ++ wheels_in ys (step * (x.width * ways_in xs)))
        else wheels_in xs (step * x.width) ++ wheels_in ys (step * (x.width * ways_in xs)))
        ≡ (if b then record { step = step; width = x.width } ∷ wheels_in xs (step * x.width) else wheels_in xs (step * x.width)) ++ wheels_in ys (step * (x.width * ways_in xs))
    out true = refl
    out false = refl

pub drop_first : {A : Type 0} (n : ℕ) (f : ℕ → A) (k : ℕ) → k < n → drop k (first_of n f) ≡ f k ∷ drop (k + 1) (first_of n f)
drop_first zero f k less = absurd (omega arith)
drop_first (suc n) f zero less = refl
drop_first (suc n) f (suc k) less =
    let next : suc k + 1 ≡ suc (k + 1) = omega arith in
    drop_first n (λ i. f (suc i)) k (omega arith) ∙ ap (λ j. f (suc k) ∷ drop j (first_of (suc n) f)) (sym next)

pub drop_none : {A : Type 0} (n : ℕ) (f : ℕ → A) (k : ℕ) → n ≤ k → drop k (first_of n f) ≡ []
drop_none zero f zero h = refl
drop_none zero f (suc k) h = refl
drop_none (suc n) f zero h = absurd (omega arith)
drop_none (suc n) f (suc k) h = drop_none n (λ i. f (suc i)) k (omega arith)

-- one more slot is done
pub made_more : (old before after : List Wheel) (slots : List Slot) (k : ℕ) (s : Slot) (step first width : ℕ) → drop k slots ≡ s ∷ drop (k + 1) slots → width ≡ s.width
    → after ≡ before ++ where_wanted s.wanted (record { step = step; width = width })
    → before ++ wheels_in (drop k slots) step ≡ old ++ wheels_in slots first
    → after ++ wheels_in (drop (k + 1) slots) (step * width) ≡ old ++ wheels_in slots first
made_more old before after slots k s step first width here is grows made =
    ap (λ l. l ++ wheels_in (drop (k + 1) slots) (step * width)) grows
    ∙ append_assoc before (where_wanted s.wanted (record { step = step; width = width })) (wheels_in (drop (k + 1) slots) (step * width))
    ∙ ap (λ w. before ++ (where_wanted s.wanted (record { step = step; width = w }) ++ wheels_in (drop (k + 1) slots) (step * w))) is
    ∙ ap (λ l. before ++ l) (front s.wanted) ∙ ap (λ l. before ++ wheels_in l step) (sym here) ∙ made
  where
    front : (b : Bool) → where_wanted b (record { step = step; width = s.width }) ++ wheels_in (drop (k + 1) slots) (step * s.width)
        ≡ (if b then record { step = step; width = s.width } ∷ wheels_in (drop (k + 1) slots) (step * s.width) else wheels_in (drop (k + 1) slots) (step * s.width))
    front true = refl
    front false = refl

pub ways_more : (slots : List Slot) (k : ℕ) (s : Slot) (step all width : ℕ) → drop k slots ≡ s ∷ drop (k + 1) slots → width ≡ s.width
    → step * ways_in (drop k slots) ≡ all → (step * width) * ways_in (drop (k + 1) slots) ≡ all
ways_more slots k s step all width here is ways = mul_assoc step width (ways_in (drop (k + 1) slots))
    ∙ ap (λ w. step * (w * ways_in (drop (k + 1) slots))) is ∙ ap (λ l. step * ways_in l) (sym here) ∙ ways

-- no slot is left
pub made_end : (wheels all : List Wheel) (slots : List Slot) (k step : ℕ) → drop k slots ≡ [] → wheels ++ wheels_in (drop k slots) step ≡ all → wheels ≡ all
made_end wheels all slots k step none made = sym (append-nil wheels) ∙ ap (λ l. wheels ++ wheels_in l step) (sym none) ∙ made

pub ways_end : (slots : List Slot) (k step all : ℕ) → drop k slots ≡ [] → step * ways_in (drop k slots) ≡ all → step ≡ all
ways_end slots k step all none ways = one step ∙ ap (λ l. step * ways_in l) (sym none) ∙ ways
  where
    one : (n : ℕ) → n ≡ n * 1
    one n = omega arith

-- no width is 0
abbrev AreBroad : List Slot → Type 0
AreBroad slots = Each (λ (s : Slot). 1 ≤ s.width) slots

ways_some : (slots : List Slot) → AreBroad slots → 1 ≤ ways_in slots
ways_some [] broad = omega arith
ways_some (s ∷ slots) broad =
    let h : 1 ≤ ways_in slots = ways_some slots broad.1 in
    let k : s.width * 1 ≤ s.width * ways_in slots = mul-le-mul_left s.width h in
    let l : 1 ≤ s.width = broad.0 in
    omega arith

broad_drop : (slots : List Slot) (k : ℕ) → AreBroad slots → AreBroad (drop k slots)
broad_drop slots zero broad = broad
broad_drop [] (suc k) broad = tt
broad_drop (s ∷ slots) (suc k) broad = broad_drop slots k broad.1

broad_first : (n : ℕ) (f : ℕ → Slot) (rest : List Slot) → ((i : ℕ) → 1 ≤ (f i).width) → AreBroad rest → AreBroad (first_of n f ++ rest)
broad_first zero f rest h k = k
broad_first (suc n) f rest h k = (h 0, broad_first n (λ i. f (suc i)) rest (λ i. h (suc i)) k)

broad_alone : (n : ℕ) (f : ℕ → Slot) → ((i : ℕ) → 1 ≤ (f i).width) → AreBroad (first_of n f)
broad_alone zero f h = tt
broad_alone (suc n) f h = (h 0, broad_alone n (λ i. f (suc i)) (λ i. h (suc i)))

broad_variables : (base : ℕ) (ns : List ℕ) (f : ℕ → ℕ → Slot) → ((s i : ℕ) → 1 ≤ (f s i).width) → AreBroad (per_variable base ns f)
broad_variables base [] f h = tt
broad_variables base (n ∷ ns) f h = broad_first n (f base) (per_variable (suc base) ns f) (h base) (broad_variables (suc base) ns f h)

first_part : (a b c : ℕ) → a * b ≤ c → 1 ≤ b → a ≤ c
first_part a b c h k =
    let l : a * 1 ≤ a * b = mul-le-mul_left a k in
    omega arith

module _ (parts : SigParts) (vars : VarSet) where
  -- the step behind a variable stays small
  pub step_fits : HasWidth parts → (sort k : ℕ) (step all : ℕ) → step * ways_in (drop k (sort_slots parts vars sort)) ≡ all → step ≤ all
  step_fits has sort k step all e = first_part step (ways_in (drop k (sort_slots parts vars sort))) all (subst (λ n. n ≤ all) (sym e) (omega arith))
      (ways_some (drop k (sort_slots parts vars sort)) (broad_drop (sort_slots parts vars sort) k
      (broad_alone (vars_at parts (record { 0 = sort })) (slot parts vars sort) (λ i. has (record { 0 = sort })))))

  -- the slots of the sorts from this one on
  abbrev pub slots_from : ℕ → List Slot
  slots_from sort = per_variable sort (drop sort parts.settings.vars) (slot parts vars)

  pub slots_more : (sort : ℕ) → sort < length parts.settings.vars → slots_from sort ≡ sort_slots parts vars sort ++ slots_from (suc sort)
  slots_more sort less = ap (λ ns. per_variable sort ns (slot parts vars)) (cut parts.settings.vars sort less)
    where
      cut : (ns : List ℕ) (k : ℕ) → k < length ns → drop k ns ≡ slice_index_or ns k 0 ∷ drop (suc k) ns
      cut [] k h = absurd (omega arith)
      cut (n ∷ ns) zero h = refl
      cut (n ∷ ns) (suc k) h = cut ns k (omega arith)

  pub slots_none : (sort : ℕ) → length parts.settings.vars ≤ sort → slots_from sort ≡ []
  slots_none sort h = ap (λ ns. per_variable sort ns (slot parts vars)) (none parts.settings.vars sort h)
    where
      none : (ns : List ℕ) (k : ℕ) → length ns ≤ k → drop k ns ≡ []
      none [] zero h = refl
      none [] (suc k) h = refl
      none (n ∷ ns) zero h = absurd (omega arith)
      none (n ∷ ns) (suc k) h = none ns k (omega arith)

  -- the next sort's slots are done
  pub sort_made : (before after : List Wheel) (sort step : ℕ) (all : List Wheel) → sort < length parts.settings.vars
      → after ≡ before ++ wheels_in (sort_slots parts vars sort) step → before ++ wheels_in (slots_from sort) step ≡ all
      → after ++ wheels_in (slots_from (suc sort)) (step * ways_in (sort_slots parts vars sort)) ≡ all
  sort_made before after sort step all less grows made =
      ap (λ l. l ++ wheels_in (slots_from (suc sort)) (step * ways_in (sort_slots parts vars sort))) grows
      ∙ append_assoc before (wheels_in (sort_slots parts vars sort) step) (wheels_in (slots_from (suc sort)) (step * ways_in (sort_slots parts vars sort)))
      ∙ ap (λ l. before ++ l) (sym (wheels_append (sort_slots parts vars sort) (slots_from (suc sort)) step))
      ∙ ap (λ l. before ++ wheels_in l step) (sym (slots_more sort less)) ∙ made

  pub sort_ways : (sort step all : ℕ) → sort < length parts.settings.vars → step * ways_in (slots_from sort) ≡ all
      → (step * ways_in (sort_slots parts vars sort)) * ways_in (slots_from (suc sort)) ≡ all
  sort_ways sort step all less ways = mul_assoc step (ways_in (sort_slots parts vars sort)) (ways_in (slots_from (suc sort)))
      ∙ ap (λ n. step * n) (sym (ways_append (sort_slots parts vars sort) (slots_from (suc sort))))
      ∙ ap (λ l. step * ways_in l) (sym (slots_more sort less)) ∙ ways

  pub sort_fits : HasWidth parts → (sort step all : ℕ) → sort < length parts.settings.vars → step * ways_in (slots_from sort) ≡ all
      → step * ways_in (sort_slots parts vars sort) ≤ all
  sort_fits has sort step all less ways = first_part (step * ways_in (sort_slots parts vars sort)) (ways_in (slots_from (suc sort))) all
      (subst (λ n. n ≤ all) (sym (sort_ways sort step all less ways)) (omega arith))
      (ways_some (slots_from (suc sort)) (broad_variables (suc sort) (drop (suc sort) parts.settings.vars) (slot parts vars) (λ s i. has (record { 0 = s }))))

  pub ways_all : ways_in (slots_from 0) ≡ assignments parts
  ways_all = ways_product (slots_from 0) ∙ ap product (map_variables (λ (s : Slot). s.width) 0 parts.settings.vars (slot parts vars))

  -- the slots of all sorts make the walk
  pub all_wheels : (wheels : List Wheel) → wheels ≡ wheels_in (slots_from 0) 1 → wheels ≡ wheels_of (by_number parts vars) (radices parts) 1
  all_wheels wheels is = is ∙ wheels_by_number (slots_from 0) 1
      ∙ ap₂ (λ bs ws. wheels_of (λ k. slice_index_or bs k false) ws 1)
      (map_variables (λ (s : Slot). s.wanted) 0 parts.settings.vars (slot parts vars)) (map_variables (λ (s : Slot). s.width) 0 parts.settings.vars (slot parts vars))

  pub all_sound : HasWidth parts → assignments parts ≤ 4096 → (wheels : List Wheel) → wheels ≡ wheels_in (slots_from 0) 1 → (above : ℕ) → above ≡ assignments parts → AreSound wheels above
  all_sound has few wheels is above count = subst (AreSound wheels) (sym count) (subst (λ ws. AreSound ws (assignments parts)) (sym (all_wheels wheels is)) (record {
    fit = subst (Fit 1 (wheels_of (by_number parts vars) (radices parts) 1)) (one (assignments parts)) (wheels_fit (by_number parts vars) (radices parts) 1 (radices_are_wide parts has));
    few = few;
  }))
    where
      one : (n : ℕ) → 1 * n ≡ n
      one n = omega arith

  pub all_made : (wheels : List Wheel) (sort step : ℕ) → length parts.settings.vars ≤ sort → wheels ++ wheels_in (slots_from sort) step ≡ wheels_in (slots_from 0) 1
      → wheels ≡ wheels_in (slots_from 0) 1
  all_made wheels sort step end made = sym (append-nil wheels) ∙ ap (λ l. wheels ++ wheels_in l step) (sym (slots_none sort end)) ∙ made

  pub all_ways : (sort step : ℕ) → length parts.settings.vars ≤ sort → step * ways_in (slots_from sort) ≡ ways_in (slots_from 0) → step ≡ assignments parts
  all_ways sort step end ways = one step ∙ ap (λ l. step * ways_in l) (sym (slots_none sort end)) ∙ ways ∙ ways_all
    where
      one : (n : ℕ) → n ≡ n * 1
      one n = omega arith
