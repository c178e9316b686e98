-- Going through things in order, each of which is the one expected: that comes to standing in order and being exactly those
-- with the property.
use Rattle.std.proofs.Common.{◌≡◌, ◌⊎◌, inl, inr, List, [], ◌∷◌, ◌++◌, map, sym, subst, append_assoc, append-nil}
use Rattle.law_sig.specs.Lists.{In, Each, Rising}
use Rattle.law_sig.specs.Lists.In.{here, there}
use Rattle.law_sig.specs.Trees.{joined}
use Rattle.law_laws.proofs.ListFacts.{each_of, of_each, each_map, in_left, in_split, in_rest, rising_right, each_both, rising_both, rising_at}
use Rattle.law_sig.specs.Expected.{IsAbove, IsFirstAbove, IsSpent}

-- what stands in an order, each with what it adds to what is known
abbrev pub items_of : {A : Type 0} → List (A × List A) → List A
items_of ps = map (λ p. p.0) ps

abbrev pub added_by : {A : Type 0} → List (A × List A) → List A
added_by ps = joined (map (λ p. p.1) ps)

-- it adds nothing but itself
abbrev pub AddThemselves : {A : Type 0} → List (A × List A) → Type 0
AddThemselves ps = Each (λ p. Each (λ d. d ≡ p.0) p.1) ps

-- each is the expected one by what is known, and then none is expected
abbrev pub Walk : {A : Type 0} → (A → A → Type 0) → (List A → A → Type 0) → List A → List A → List (A × List A) → Type 0
Walk R P known done [] = IsSpent R (P known) done
Walk R P known done (p ∷ ps) = IsFirstAbove R (P known) done p.0 × Walk R P (known ++ p.1) (done ++ p.0 ∷ []) ps

-- w is d, or stands before it
abbrev pub IsUptoBy : {A : Type 0} → (A → A → Type 0) → A → A → Type 0
IsUptoBy R w d = (w ≡ d) ⊎ R w d

module _ {A : Type 0} (R : A → A → Type 0) (strict : (x : A) → R x x → ⊥) (chain : (x y z : A) → R x y → R y z → R x z) where
  -- Lists that are exact, from one place on

  pub exact_next : (P Q : A → Type 0) (done : List A) (x : A) (xs : List A) → Rising R (done ++ x ∷ xs) → ((w : A) → Q w → In w (done ++ x ∷ xs)) → ((w : A) → P w → Q w) → P x
      → IsFirstAbove R P done x
  exact_next P Q done x xs rising all to holds = record {
    is = holds;
    above = each_of _ done (λ y at. rising_at R done x xs rising at);
    least = λ y y_is above. by y above (in_split done (x ∷ xs) (all y (to y y_is)));
  }
    where
      last : (y : A) → (y ≡ x) ⊎ In y xs → (y ≡ x) ⊎ R x y
      last y (inl same) = inl same
      last y (inr at) = inr (of_each (R x) at (rising_right R done (x ∷ xs) rising).0)

      by : (y : A) → IsAbove R done y → In y done ⊎ In y (x ∷ xs) → (y ≡ x) ⊎ R x y
      by y above (inl at) = absurd (strict y (of_each (λ z. R z y) at above))
      by y above (inr at) = last y (in_rest at)

  pub exact_spent : (P Q : A → Type 0) (done : List A) → ((w : A) → Q w → In w done) → ((w : A) → P w → Q w) → IsSpent R P done
  exact_spent P Q done all to y y_is above = strict y (of_each (λ z. R z y) (all y (to y y_is)) above)

  -- Walks

  rising_more : (done : List A) (x : A) → Rising R done → IsAbove R done x → Rising R (done ++ x ∷ [])
  rising_more done x rising above = rising_both R done (x ∷ []) rising (tt, tt) (each_map (λ y. R y x) _ (λ y h. (h, tt)) done above)

  pub walk_rising : (P : List A → A → Type 0) (known done : List A) (ps : List (A × List A)) → Walk R P known done ps → Rising R done → Rising R (done ++ items_of ps)
  walk_rising P known done [] walk rising = subst (Rising R) (sym (append-nil done)) rising
  walk_rising P known done (p ∷ ps) walk rising = subst (Rising R) (append_assoc done (p.0 ∷ []) (items_of ps))
      (walk_rising P (known ++ p.1) (done ++ p.0 ∷ []) ps walk.1 (rising_more done p.0 rising walk.0.above))

  -- what is added stands where the items do
  added_each : (Q : A → Type 0) (ps : List (A × List A)) → AddThemselves ps → Each Q (items_of ps) → Each Q (added_by ps)
  added_each Q [] themselves h = tt
  added_each Q (p ∷ ps) themselves h = each_both Q p.1 (added_by ps) (each_map _ Q (λ d same. subst Q (sym same) h.0) p.1 themselves.0) (added_each Q ps themselves.1 h.1)

  module _ (P : List A → A → Type 0) (more : (known others : List A) (w : A) → ((a : A) → In a known → In a others) → P known w → P others w)
      (fewer : (known late : List A) (w : A) → Each (IsUptoBy R w) late → P (known ++ late) w → P known w)
      (compared : (x y : A) → (x ≡ y) ⊎ (R x y ⊎ R y x)) where
    -- each has the property by all that is known in the end
    pub walk_each : (known done : List A) (ps : List (A × List A)) → Walk R P known done ps → (all : List A) → ((a : A) → In a (known ++ added_by ps) → In a all)
        → Each (P all) (items_of ps)
    walk_each known done [] walk all to = tt
    walk_each known done (p ∷ ps) walk all to = (
      more known all p.0 (λ a at. to a (in_left (p.1 ++ added_by ps) at)) walk.0.is,
      walk_each (known ++ p.1) (done ++ p.0 ∷ []) ps walk.1 all (λ a at. to a (subst (In a) (append_assoc known p.1 (added_by ps)) at)),
    )

    -- and what has it is found, where what is known later stands after it
    pub walk_finds : (known done : List A) (ps : List (A × List A)) → Walk R P known done ps → Rising R done → AddThemselves ps
        → (late : List A) (w : A) → Each (IsUptoBy R w) late → P ((known ++ added_by ps) ++ late) w → IsAbove R done w → In w (items_of ps)
    walk_finds known done [] walk rising themselves late w after holds above =
        absurd (walk w (fewer known late w after (subst (λ l. P (l ++ late) w) (append-nil known) holds)) above)
    walk_finds known done (p ∷ ps) walk rising themselves late w after holds above = by (walk_finds (known ++ p.1) (done ++ p.0 ∷ []) ps walk.1 risen themselves.1 late w after
        (subst (λ l. P (l ++ late) w) (sym (append_assoc known p.1 (added_by ps))) holds)) (compared w p.0)
      where
        risen : Rising R (done ++ p.0 ∷ [])
        risen = rising_more done p.0 rising walk.0.above

        later : Each (R p.0) (items_of ps)
        later = (rising_right R done (p.0 ∷ items_of ps) (subst (Rising R) (append_assoc done (p.0 ∷ []) (items_of ps)) (walk_rising P (known ++ p.1) (done ++ p.0 ∷ []) ps walk.1 risen))).0

        -- what is added from here on doesn't stand before what stands before this one
        all_after : R w p.0 → Each (IsUptoBy R w) ((p.1 ++ added_by ps) ++ late)
        all_after h = each_both (IsUptoBy R w) (p.1 ++ added_by ps) late
            (each_both (IsUptoBy R w) p.1 (added_by ps)
            (each_map (λ d. d ≡ p.0) (IsUptoBy R w) (λ d same. inr (subst (R w) (sym same) h)) p.1 themselves.0)
            (each_map (R p.0) (IsUptoBy R w) (λ d k. inr (chain w p.0 d h k)) (added_by ps) (added_each (R p.0) ps themselves.1 later)))
            after

        not_before : R w p.0 → (w ≡ p.0) ⊎ R p.0 w → ⊥
        not_before h (inl same) = strict w (subst (R w) (sym same) h)
        not_before h (inr k) = strict w (chain w p.0 w h k)

        by : (IsAbove R (done ++ p.0 ∷ []) w → In w (items_of ps)) → (w ≡ p.0) ⊎ (R w p.0 ⊎ R p.0 w) → In w (p.0 ∷ items_of ps)
        by rest (inl same) = subst (λ z. In z (p.0 ∷ items_of ps)) (sym same) here
        by rest (inr (inr h)) = there (rest (each_both (λ y. R y w) done (p.0 ∷ []) above (h, tt)))
        by rest (inr (inl h)) = absurd (not_before h (walk.0.least w
            (fewer known ((p.1 ++ added_by ps) ++ late) w (all_after h) (subst (λ l. P l w) (append_assoc known (p.1 ++ added_by ps) late) holds)) above))
