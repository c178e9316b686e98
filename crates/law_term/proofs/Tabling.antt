-- The places of variables in a table, one variable after another.
use Rattle.std.proofs.Common.{◌≡◌, ℕ, ◌+◌, ◌-◌, ◌^◌, ◌<◌, ◌≤◌, min, Bool, true, false, ◌&&◌, ◌==◌, if◌then◌else◌, List, [], ◌∷◌, length, drop, slice_index_or, Option, Some, None, MatchOption, ap, sym, ◌∙◌, refl, subst, arith}
use Rattle.std.proofs.lemmas.List.{drop_all}
use Rattle.std.proofs.lemmas.Bool.{eqb-true, eq-eqb}
use Rattle.law_sig.specs.Trees.{same_sort}
use Rattle.law_sig.specs.declared.tree.SortId.{SortId}
use Rattle.law_laws.proofs.Sorts.{same_sort_is, both_true}
use Rattle.law_rewriting.specs.Pairs.{place_of}
use Rattle.law_term.specs.Variables.{Variable, indices, place_in}
use Rattle.law_term.specs.Tables.{Table, same_key, number_by, number_or, var_key, count_in, IsCounted, first_number, IsNumberPut, HavePlaces}
use Rattle.law_term.proofs.Bound.{drop_get}
use Rattle.law_term.proofs.Firsts.{place_within}

-- The place of a variable among others

module _ (s : SortId) (i : ℕ) where
  abbrev pub place_on : ℕ → List Variable → ℕ
  place_on place vs = min (place + place_of i (indices s vs)) (2 ^ 32 - 1)

  place_here : (v : Variable) (vs : List Variable) → (same_sort v.0 s && (v.1 == i)) ≡ true → place_of i (indices s (v ∷ vs)) ≡ 0
  place_here v vs e =
      let p = both_true (same_sort v.0 s) (v.1 == i) e in
      ap (λ b. place_of i (if b then v.1 ∷ indices s vs else indices s vs)) p.0 ∙ ap (λ b. if b then 0 else 1 + place_of i (indices s vs)) (eq-eqb i v.1 (sym (eqb-true v.1 i p.1)))

  place_same : (v : Variable) (vs : List Variable) → (same_sort v.0 s && (v.1 == i)) ≡ false → same_sort v.0 s ≡ true → place_of i (indices s (v ∷ vs)) ≡ 1 + place_of i (indices s vs)
  place_same v vs e p =
      ap (λ b. place_of i (if b then v.1 ∷ indices s vs else indices s vs)) p ∙ by (i == v.1) refl
    where
      by : (b : Bool) → (i == v.1) ≡ b → (if b then 0 else 1 + place_of i (indices s vs)) ≡ 1 + place_of i (indices s vs)
      by true q = let k : (same_sort v.0 s && (v.1 == i)) ≡ true = ap (λ b. b && (v.1 == i)) p ∙ eq-eqb v.1 i (sym (eqb-true i v.1 q)) in absurd (cc)
      by false q = refl

  place_other : (v : Variable) (vs : List Variable) → same_sort v.0 s ≡ false → place_of i (indices s (v ∷ vs)) ≡ place_of i (indices s vs)
  place_other v vs p = ap (λ b. place_of i (if b then v.1 ∷ indices s vs else indices s vs)) p

  module _ (vs : List Variable) (at : ℕ) (d : Variable) (within : at < length vs) (place : ℕ) (small : place < 2 ^ 32) (is : place_on place (drop at vs) ≡ place_in vs s i) where
    at_item : place_on place (slice_index_or vs at d ∷ drop (at + 1) vs) ≡ place_in vs s i
    at_item = ap (place_on place) (sym (drop_get vs at d within)) ∙ is

    place_found : (same_sort (slice_index_or vs at d).0 s && ((slice_index_or vs at d).1 == i)) ≡ true → place ≡ place_in vs s i
    place_found e = let z = place_here (slice_index_or vs at d) (drop (at + 1) vs) e in let a = at_item in omega (arith, z, a, small)

    place_counted : (next : ℕ) → (same_sort (slice_index_or vs at d).0 s && ((slice_index_or vs at d).1 == i)) ≡ false → same_sort (slice_index_or vs at d).0 s ≡ true
        → next ≡ min (place + 1) (2 ^ 32 - 1) → place_on next (drop (at + 1) vs) ≡ place_in vs s i
    place_counted next e p n = let z = place_same (slice_index_or vs at d) (drop (at + 1) vs) e p in let a = at_item in omega (arith, z, a, n)

    place_passed : same_sort (slice_index_or vs at d).0 s ≡ false → place_on place (drop (at + 1) vs) ≡ place_in vs s i
    place_passed p = let z = place_other (slice_index_or vs at d) (drop (at + 1) vs) p in let a = at_item in omega (arith, z, a)

-- While places are given

-- what is said of a variable: its place is given, or it is so many behind the variables that were met
abbrev IsPlacedFrom : List Variable → ℕ → Table → SortId → ℕ → Option ℕ → Type 0
IsPlacedFrom vs at counts s i o = MatchOption o (place_on s i (count_in counts s.0) (drop at vs) ≡ place_in vs s i) (λ p. p ≡ place_in vs s i)

pub record IsPlacing (vs : List Variable) (at : ℕ) (counts places : Table) : Type 0 where
  pub small : (key : ℕ) → count_in counts key < 2 ^ 32
  pub counted : (s : SortId) → min (count_in counts s.0 + length (indices s (drop at vs))) (2 ^ 32 - 1) ≡ min (length (indices s vs)) (2 ^ 32 - 1)
  pub placed : (s : SortId) (i : ℕ) → i < 2 ^ 32 → IsPlacedFrom vs at counts s i (number_by places (var_key s i))

placing_start : (vs : List Variable) → IsPlacing vs 0 [] []
placing_start vs = record { small = λ key. omega arith; counted = λ s. omega arith; placed = λ s i less. omega arith }

pub placing_begun : (vs : List Variable) (counts places : Table) → counts ≡ [] → places ≡ [] → IsPlacing vs 0 counts places
placing_begun vs counts places c p = subst (λ z. IsPlacing vs 0 z places) (sym c) (subst (λ z. IsPlacing vs 0 [] z) (sym p) (placing_start vs))

module _ (vs : List Variable) (at : ℕ) (counts places : Table) (d : Variable) (within : at < length vs) (w : IsPlacing vs at counts places) where
  abbrev item : Variable
  item = slice_index_or vs at d

  -- the variables that are left, by one
  left_own : (s : SortId) → same_sort item.0 s ≡ true → length (indices s (drop at vs)) ≡ 1 + length (indices s (drop (at + 1) vs))
  left_own s e = ap (λ l. length (indices s l)) (drop_get vs at d within)
      ∙ ap (λ b. length (if b then item.1 ∷ indices s (drop (at + 1) vs) else indices s (drop (at + 1) vs))) e ∙ omega arith

  left_other : (s : SortId) → same_sort item.0 s ≡ false → length (indices s (drop at vs)) ≡ length (indices s (drop (at + 1) vs))
  left_other s e = ap (λ l. length (indices s l)) (drop_get vs at d within) ∙ ap (λ b. length (if b then item.1 ∷ indices s (drop (at + 1) vs) else indices s (drop (at + 1) vs))) e

  module _ (n : ℕ) (counts' places' : Table) (c : IsCounted item.0.0 n counts counts') (p : IsNumberPut (var_key item.0 item.1) n places places') (less : item.1 < 2 ^ 32) where
    now_own : (s : SortId) → same_sort item.0 s ≡ true → count_in counts' s.0 ≡ min (count_in counts s.0 + 1) (2 ^ 32 - 1)
    now_own s e = c.counts s.0 ∙ ap (λ b. if b then min (n + 1) (2 ^ 32 - 1) else count_in counts s.0) e
        ∙ ap (λ k. min (k + 1) (2 ^ 32 - 1)) (c.is ∙ ap (λ (u : SortId). count_in counts u.0) (same_sort_is item.0 s e))

    now_other : (s : SortId) → same_sort item.0 s ≡ false → count_in counts' s.0 ≡ count_in counts s.0
    now_other s e = c.counts s.0 ∙ ap (λ b. if b then min (n + 1) (2 ^ 32 - 1) else count_in counts s.0) e

    small_on : (key : ℕ) → count_in counts' key < 2 ^ 32
    small_on key = subst (λ k. k < 2 ^ 32) (sym (c.counts key)) (by (same_key item.0.0 key))
      where
        by : (b : Bool) → (if b then min (n + 1) (2 ^ 32 - 1) else count_in counts key) < 2 ^ 32
        by true = omega arith
        by false = w.small key

    counted_on : (s : SortId) → min (count_in counts' s.0 + length (indices s (drop (at + 1) vs))) (2 ^ 32 - 1) ≡ min (length (indices s vs)) (2 ^ 32 - 1)
    counted_on s = by (same_sort item.0 s) refl
      where
        by : (b : Bool) → same_sort item.0 s ≡ b → min (count_in counts' s.0 + length (indices s (drop (at + 1) vs))) (2 ^ 32 - 1) ≡ min (length (indices s vs)) (2 ^ 32 - 1)
        by true e = let a = now_own s e in let l = left_own s e in let h = w.counted s in omega (arith, a, l, h)
        by false e = let a = now_other s e in let l = left_other s e in let h = w.counted s in omega (arith, a, l, h)

    same_variable : (s : SortId) (i : ℕ) → i < 2 ^ 32 → var_key item.0 item.1 ≡ var_key s i → (same_sort item.0 s && (item.1 == i)) ≡ true
    same_variable s i small e =
        let x : item.0.0 ≡ s.0 = omega (arith, less, small, e) in
        let y : item.1 ≡ i = omega (arith, less, small, e) in
        ap (λ b. b && (item.1 == i)) (eq-eqb item.0.0 s.0 x) ∙ eq-eqb item.1 i y

    same_keys : (s : SortId) (i : ℕ) → (same_sort item.0 s && (item.1 == i)) ≡ true → same_key (var_key item.0 item.1) (var_key s i) ≡ true
    same_keys s i e =
        let h = both_true (same_sort item.0 s) (item.1 == i) e in
        eq-eqb (var_key item.0 item.1) (var_key s i) (ap (λ (u : SortId). var_key u item.1) (same_sort_is item.0 s h.0) ∙ ap (var_key s) (eqb-true item.1 i h.1))

    other_variable : (s : SortId) (i : ℕ) → same_key (var_key item.0 item.1) (var_key s i) ≡ false → (same_sort item.0 s && (item.1 == i)) ≡ false
    other_variable s i e = by (same_sort item.0 s && (item.1 == i)) refl
      where
        by : (b : Bool) → (same_sort item.0 s && (item.1 == i)) ≡ b → b ≡ false
        by true q = let k = same_keys s i q in absurd (cc)
        by false q = refl

    -- a variable whose place isn't given stands behind one more
    behind : (s : SortId) (i : ℕ) → same_key (var_key item.0 item.1) (var_key s i) ≡ false → place_on s i (count_in counts s.0) (drop at vs) ≡ place_in vs s i
        → place_on s i (count_in counts' s.0) (drop (at + 1) vs) ≡ place_in vs s i
    behind s i e h = by (same_sort item.0 s) refl
      where
        by : (b : Bool) → same_sort item.0 s ≡ b → place_on s i (count_in counts' s.0) (drop (at + 1) vs) ≡ place_in vs s i
        by true q = place_counted s i vs at d within (count_in counts s.0) (w.small s.0) h (count_in counts' s.0) (other_variable s i e) q (now_own s q)
        by false q = ap (λ k. place_on s i k (drop (at + 1) vs)) (now_other s q) ∙ place_passed s i vs at d within (count_in counts s.0) (w.small s.0) h q

    own_place : (s : SortId) (i : ℕ) → i < 2 ^ 32 → same_key (var_key item.0 item.1) (var_key s i) ≡ true → place_on s i (count_in counts s.0) (drop at vs) ≡ place_in vs s i → n ≡ place_in vs s i
    own_place s i small e h =
        let v = same_variable s i small (eqb-true (var_key item.0 item.1) (var_key s i) e) in
        let sort = same_sort_is item.0 s (both_true (same_sort item.0 s) (item.1 == i) v).0 in
        let own : n ≡ count_in counts s.0 = c.is ∙ ap (λ (u : SortId). count_in counts u.0) sort in
        own ∙ place_found s i vs at d within (count_in counts s.0) (w.small s.0) h v

    placed_on : (s : SortId) (i : ℕ) → i < 2 ^ 32 → IsPlacedFrom vs (at + 1) counts' s i (number_by places' (var_key s i))
    placed_on s i small = subst (IsPlacedFrom vs (at + 1) counts' s i) (sym (p (var_key s i)))
        (by (number_by places (var_key s i)) (w.placed s i small) (same_key (var_key item.0 item.1) (var_key s i)) refl)
      where
        by : (o : Option ℕ) → IsPlacedFrom vs at counts s i o → (b : Bool) → same_key (var_key item.0 item.1) (var_key s i) ≡ b
            → IsPlacedFrom vs (at + 1) counts' s i (first_number o (if b then Some n else None))
        by (Some q) h b e = h
        by None h true e = own_place s i small e h
        by None h false e = behind s i e h

    pub placing_on : IsPlacing vs (at + 1) counts' places'
    placing_on = record { small = small_on; counted = counted_on; placed = placed_on }

pub placing_end : (vs : List Variable) (at : ℕ) (counts places : Table) → length vs ≤ at → IsPlacing vs at counts places → HavePlaces vs places
placing_end vs at counts places over w s i small listed = by (number_by places (var_key s i)) (w.placed s i small)
  where
    by : (o : Option ℕ) → IsPlacedFrom vs at counts s i o → number_or (2 ^ 32 - 1) o ≡ place_in vs s i
    by (Some q) h = h
    by None h =
        let a = ap (λ l. length (indices s l)) (drop_all at vs over) in
        let z = ap (λ l. place_of i (indices s l)) (drop_all at vs over) in
        let c = w.counted s in
        let b = place_within listed in omega (arith, a, z, c, b, h)
