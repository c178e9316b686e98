-- What is known while the places of the sorts are set up.
use Rattle.std.proofs.Common.{◌≡◌, ℕ, zero, suc, ◌+◌, ◌*◌, ◌^◌, ◌<◌, ◌≤◌, ◌⊎◌, inl, inr, List, [], ◌∷◌, ◌++◌, map, length, take, slice_get, slice_index_or, Some, sym, refl, ap, ap₂, ◌∙◌, subst, arith}
use Rattle.law_sig.specs.Lists.{Each, total, product}
use Rattle.law_sig.specs.Tests.{first_of, per_variable}
use Rattle.law_sig.specs.WellFormed.{IsBetween, IsWellFormed}
use Rattle.law_sig.specs.declared.parts.Settings.{Settings}
use Rattle.law_sig.specs.declared.parts.SigParts.{SigParts}
use Rattle.law_laws.proofs.ListFacts.{each_map}
use Rattle.law_ids.proofs.BankFacts.{get_more, take_all}
use Rattle.law_ids.specs.Table.{Ids, HasShape, radices_by}
use Rattle.law_pool.specs.Kept.{vars_kept, widths_kept, ways_before, AreKept}
use Rattle.law_pool.specs.declared.pools.SortPlaces.{SortPlaces}
use Rattle.law_pool.proofs.Ways.{take_behind, ways_in, IsFew, few_ways}

-- the sorts so far
pub record IsBuilt (vars width : List ℕ) (at : ℕ) (places : List SortPlaces) (step : ℕ) : Type 0 where
  pub kept_vars : vars_kept places ≡ take at vars
  pub kept_widths : widths_kept places ≡ take at width
  pub steps : (sort : ℕ) (p : SortPlaces) → slice_get places sort ≡ Some p → p.step ≡ ways_before vars width sort
  pub next : step ≡ ways_before vars width at

pub wide_widths : (parts : SigParts) → IsWellFormed parts → Each (λ w. 1 ≤ w) parts.settings.width
wide_widths parts well = each_map (IsBetween 1 16) (λ n. 1 ≤ n) (λ n h. h.0) parts.settings.width well.settings.width.in_range

pub same_lengths : (parts : SigParts) → IsWellFormed parts → length parts.settings.vars ≡ length parts.settings.width
same_lengths parts well = well.settings.vars.one_each ∙ sym well.settings.width.one_each

map_more : {A : Type 0} (f : A → ℕ) (xs : List A) (x : A) → map f (xs ++ x ∷ []) ≡ map f xs ++ f x ∷ []
map_more f [] x = refl
map_more f (y ∷ xs) x = ap (λ l. f y ∷ l) (map_more f xs x)

take_more : (xs : List ℕ) (at d : ℕ) → at < length xs → take (at + 1) xs ≡ take at xs ++ slice_index_or xs at d ∷ []
take_more [] at d h = absurd (omega arith)
take_more (x ∷ xs) zero d h = refl
take_more (x ∷ xs) (suc n) d h =
    let next : suc n + 1 ≡ suc (n + 1) = omega arith in
    ap (λ k. take k (x ∷ xs)) next ∙ ap (λ l. x ∷ l) (take_more xs n d (omega arith))

total_more : (xs : List ℕ) (n : ℕ) → total (xs ++ n ∷ []) ≡ total xs + n
total_more [] n = omega arith
total_more (x ∷ xs) n = let h : total (xs ++ n ∷ []) ≡ total xs + n = total_more xs n in omega arith

length_take : (xs : List ℕ) (at : ℕ) → at ≤ length xs → length (take at xs) ≡ at
length_take xs zero h = refl
length_take [] (suc n) h = absurd (omega arith)
length_take (x ∷ xs) (suc n) h = ap suc (length_take xs n (omega arith))

length_map : {A : Type 0} (f : A → ℕ) (xs : List A) → length (map f xs) ≡ length xs
length_map f [] = refl
length_map f (x ∷ xs) = ap suc (length_map f xs)

one_more : (vars width : List ℕ) (at d : ℕ) → at < length vars → d ≡ slice_index_or vars at 0 → ways_before vars width (at + 1) ≡ ways_before vars width at * slice_index_or width at 1 ^ d
one_more vars width at d h is =
    ap (λ l. product (take (total l) (radices_by vars width))) (take_more vars at 0 h)
    ∙ ap (λ n. product (take n (radices_by vars width))) (total_more (take at vars) (slice_index_or vars at 0))
    ∙ ways_in vars width at (slice_index_or vars at 0) (omega arith) ∙ ap (λ n. ways_before vars width at * slice_index_or width at 1 ^ n) (sym is)

-- one sort more
pub built_more : (vars width : List ℕ) (at : ℕ) (places more : List SortPlaces) (step power next : ℕ) (p : SortPlaces) → IsBuilt vars width at places step
    → at < length vars → at < length width → p.vars ≡ slice_index_or vars at 0 → p.width ≡ slice_index_or width at 1 → p.step ≡ step → more ≡ places ++ p ∷ []
    → power ≡ p.width ^ p.vars → next ≡ step * power → IsBuilt vars width (at + 1) more next
built_more vars width at places more step power next p built below within is_vars is_width is_step is_more is_power is_next = record {
  kept_vars = ap vars_kept is_more ∙ map_more (λ (p : SortPlaces). p.vars) places p ∙ ap₂ (λ l n. l ++ n ∷ []) built.kept_vars is_vars ∙ sym (take_more vars at 0 below);
  kept_widths = ap widths_kept is_more ∙ map_more (λ (p : SortPlaces). p.width) places p ∙ ap₂ (λ l n. l ++ n ∷ []) built.kept_widths is_width ∙ sym (take_more width at 1 within);
  steps = λ sort q e. by sort q (get_more places p sort q (ap (λ l. slice_get l sort) (sym is_more) ∙ e));
  next = is_next ∙ ap₂ (λ s n. s * n) built.next (is_power ∙ ap (λ w. w ^ p.vars) is_width) ∙ sym (one_more vars width at p.vars below is_vars);
}
  where
    count : length places ≡ at
    count = sym (length_map (λ (p : SortPlaces). p.vars) places) ∙ ap length built.kept_vars ∙ length_take vars at (omega arith)

    by : (sort : ℕ) (q : SortPlaces) → (slice_get places sort ≡ Some q) ⊎ ((sort ≡ length places) × (p ≡ q)) → q.step ≡ ways_before vars width sort
    by sort q (inl k) = built.steps sort q k
    by sort q (inr k) = ap (λ (r : SortPlaces). r.step) (sym k.1) ∙ is_step ∙ built.next ∙ ap (ways_before vars width) (sym (k.0 ∙ count))

-- the step to the next sort is few
pub few_next : (vars width : List ℕ) (at step power v w : ℕ) → Each (λ w. 1 ≤ w) width → v ≡ slice_index_or vars at 0 → w ≡ slice_index_or width at 1
    → step ≡ ways_before vars width at → power ≡ w ^ v → IsFew step power (product (radices_by vars width))
few_next vars width at step power v w wide is_v is_w is_step is_power =
    few_ways vars width at v step power wide (omega arith) is_step (is_power ∙ ap (λ w. w ^ v) is_w)

-- at the end all is kept
ways_all : (vars width : List ℕ) (at : ℕ) → length vars ≤ at → ways_before vars width at ≡ product (radices_by vars width)
ways_all vars width at h = ap (λ l. product (take (total l) (radices_by vars width))) (take_all vars at h) ∙ ap product (all_variables vars 0 (λ s. slice_index_or width s 1))
  where
    all_variables : (vars : List ℕ) (base : ℕ) (g : ℕ → ℕ) → take (total vars) (per_variable base vars (λ s i. g s)) ≡ per_variable base vars (λ s i. g s)
    all_variables [] base g = refl
    all_variables (n ∷ vars) base g = take_behind n (total vars) (g base) (per_variable (suc base) vars (λ s i. g s))
        ∙ ap (λ l. first_of n (λ i. g base) ++ l) (all_variables vars (suc base) g)

pub built_all : (parts : SigParts) (at : ℕ) (places : List SortPlaces) (step : ℕ) (ids : Ids) → IsWellFormed parts → product (radices_by parts.settings.vars parts.settings.width) ≤ 4096
    → HasShape parts.settings.width ids → length ids < 2 ^ 32 → length parts.settings.vars ≤ at → IsBuilt parts.settings.vars parts.settings.width at places step
    → (vars_kept places ≡ parts.settings.vars) × (widths_kept places ≡ parts.settings.width) × AreKept places step ids
built_all parts at places step ids well few shape count past built =
    let is_vars : vars_kept places ≡ parts.settings.vars = built.kept_vars ∙ take_all parts.settings.vars at past in
    let is_width : widths_kept places ≡ parts.settings.width = built.kept_widths ∙ take_all parts.settings.width at (subst (λ n. n ≤ at) (same_lengths parts well) past) in
    let is_step : step ≡ product (radices_by parts.settings.vars parts.settings.width) = built.next ∙ ways_all parts.settings.vars parts.settings.width at past in
    let sorts : length places ≡ length parts.sort_names = sym (length_map (λ (p : SortPlaces). p.vars) places) ∙ ap length is_vars ∙ well.settings.vars.one_each in (
      is_vars,
      is_width,
      record {
        few_sorts = omega (arith, sorts, well.sorts_range.1);
        wide = subst (Each (λ w. 1 ≤ w)) (sym is_width) (wide_widths parts well);
        steps = λ sort p e. built.steps sort p e ∙ ap₂ (λ vs ws. ways_before vs ws sort) (sym is_vars) (sym is_width);
        count = is_step ∙ ap₂ (λ vs ws. product (radices_by vs ws)) (sym is_vars) (sym is_width);
        few = omega (arith, is_step);
        shape = subst (λ ws. HasShape ws ids) (sym is_width) shape;
        few_pools = count;
      },
    )

-- In the words of a signature's settings

pub in_range : (xs : List ℕ) (at d e : ℕ) → at < length xs → slice_index_or xs at d ≡ slice_index_or xs at e
in_range [] at d e h = absurd (omega arith)
in_range (x ∷ xs) zero d e h = refl
in_range (x ∷ xs) (suc n) d e h = in_range xs n d e (omega arith)

pub few_step : (parts : SigParts) (s : Settings) (at step power v w : ℕ) → IsWellFormed parts → product (radices_by parts.settings.vars parts.settings.width) ≤ 4096
    → s ≡ parts.settings → step ≡ ways_before s.vars s.width at → v ≡ slice_index_or s.vars at 0 → w ≡ slice_index_or s.width at 1 → power ≡ w ^ v → IsFew step power 4096
few_step parts s at step power v w well few is is_step is_v is_w is_power =
    let fewer = few_next s.vars s.width at step power v w (subst (λ (t : Settings). Each (λ w. 1 ≤ w) t.width) (sym is) (wide_widths parts well)) is_v is_w is_step is_power in
    let most : product (radices_by s.vars s.width) ≤ 4096 = subst (λ (t : Settings). product (radices_by t.vars t.width) ≤ 4096) (sym is) few in
    record { alone = omega (arith, fewer.alone, most); before = omega (arith, fewer.before, most); some = fewer.some }

pub width_within : (parts : SigParts) (s : Settings) (at : ℕ) → IsWellFormed parts → s ≡ parts.settings → at < length s.vars → at < length s.width
width_within parts s at well is h = subst (λ n. at < n) (subst (λ (t : Settings). length t.vars ≡ length t.width) (sym is) (same_lengths parts well)) h
