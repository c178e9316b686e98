-- The order of items, lists of entries in order, and what entries state.
use Rattle.std.proofs.Common.{◌≡◌, ◌<◌, ◌⊎◌, inl, inr, List, [], ◌∷◌, ◌++◌, map, refl, sym, ap, ◌∙◌, subst, subst₂}
use Rattle.law_sig.specs.Lists.{In, Each, Rising}
use Rattle.law_sig.specs.Lists.In.{here, there}
use Rattle.law_sig.specs.Trees.{schema_of}
use Rattle.law_sig.specs.Tests.{weight}
use Rattle.law_sig.specs.Order.{IsBefore}
use Rattle.law_sig.specs.declared.tree.Tree.{Tree}
use Rattle.law_sig.specs.declared.parts.SigParts.{SigParts}
use Rattle.law_laws.proofs.ListFacts.{in_left, in_right, in_split, in_none, in_rest}
use Rattle.law_laws.proofs.Orders.{schema_weight, never_before_itself, before_chain, before_decided, lighter_before}
use Rattle.law_valid.specs.Stated.{stated}
use Rattle.law_plan.specs.Plan.{Item, schema, term, schema_in, StandsWithin, Precedes, Entry, spread, killed, live, moved, spread_at, live_at}
use Rattle.law_plan.proofs.Terms.{before_schemas}

-- The order of items is total

module _ (parts : SigParts) where
  never_within : (x : Item) → StandsWithin parts x x → ⊥
  never_within (schema c) h = h
  never_within (term t) h = never_before_itself parts t h

  pub never_itself : (x : Item) → Precedes parts x x → ⊥
  never_itself x (inl h) = never_before_itself parts (schema_in x) h
  never_itself x (inr h) = never_within x h.1

  within_chain : (x y z : Item) → StandsWithin parts x y → StandsWithin parts y z → StandsWithin parts x z
  within_chain (schema c) (schema d) z h k = absurd h
  within_chain (schema c) (term s) (schema d) h k = absurd k
  within_chain (schema c) (term s) (term t) h k = tt
  within_chain (term r) (schema d) z h k = absurd h
  within_chain (term r) (term s) (schema d) h k = absurd k
  within_chain (term r) (term s) (term t) h k = before_chain parts r s t h k

  pub item_chain : (x y z : Item) → Precedes parts x y → Precedes parts y z → Precedes parts x z
  item_chain x y z (inl h) (inl k) = inl (before_chain parts (schema_in x) (schema_in y) (schema_in z) h k)
  item_chain x y z (inl h) (inr k) = inl (subst (IsBefore parts (schema_in x)) k.0 h)
  item_chain x y z (inr h) (inl k) = inl (subst (λ c. IsBefore parts c (schema_in z)) (sym h.0) k)
  item_chain x y z (inr h) (inr k) = inr (h.0 ∙ k.0, within_chain x y z h.1 k.1)

  pub never_both : (x y : Item) → Precedes parts x y → Precedes parts y x → ⊥
  never_both x y h k = never_itself x (item_chain x y x h k)

  pub items_decided : (x y : Item) → (x ≡ y) ⊎ (Precedes parts x y ⊎ Precedes parts y x)
  items_decided x y = by (before_decided parts (schema_in x) (schema_in y))
    where
      terms : (s t : Tree) → schema_of s ≡ schema_of t → (s ≡ t) ⊎ (IsBefore parts s t ⊎ IsBefore parts t s)
          → (term s ≡ term t) ⊎ (Precedes parts (term s) (term t) ⊎ Precedes parts (term t) (term s))
      terms s t e (inl same) = inl (ap term same)
      terms s t e (inr (inl h)) = inr (inl (inr (e, h)))
      terms s t e (inr (inr h)) = inr (inr (inr (sym e, h)))

      within : (x y : Item) → schema_in x ≡ schema_in y → (x ≡ y) ⊎ (Precedes parts x y ⊎ Precedes parts y x)
      within (schema c) (schema d) e = inl (ap schema e)
      within (schema c) (term t) e = inr (inl (inr (e, tt)))
      within (term s) (schema d) e = inr (inr (inr (sym e, tt)))
      within (term s) (term t) e = terms s t e (before_decided parts s t)

      by : (schema_in x ≡ schema_in y) ⊎ (IsBefore parts (schema_in x) (schema_in y) ⊎ IsBefore parts (schema_in y) (schema_in x))
          → (x ≡ y) ⊎ (Precedes parts x y ⊎ Precedes parts y x)
      by (inl e) = within x y e
      by (inr (inl h)) = inr (inl (inl h))
      by (inr (inr h)) = inr (inr (inl h))

  -- among terms it is the order of exploring
  pub term_precedes : (s t : Tree) → IsBefore parts s t → Precedes parts (term s) (term t)
  term_precedes s t h = by (before_schemas parts s t h)
    where
      by : IsBefore parts (schema_of s) (schema_of t) ⊎ (schema_of s ≡ schema_of t) → Precedes parts (term s) (term t)
      by (inl k) = inl k
      by (inr e) = inr (e, h)

  -- a schema stands before its terms, and what weighs less before what weighs more
  pub schema_precedes : (t : Tree) → Precedes parts (schema (schema_of t)) (term t)
  schema_precedes t = inr (refl, tt)

  pub lighter_term : (s t : Tree) → weight parts s < weight parts t → Precedes parts (term s) (term t)
  lighter_term s t less = inl (lighter_before parts (schema_of s) (schema_of t) (subst₂ ◌<◌ (sym (schema_weight parts s)) (sym (schema_weight parts t)) less))

  pub lighter_schema : (c d : Tree) → weight parts c < weight parts d → Precedes parts (schema c) (schema d)
  lighter_schema c d less = inl (lighter_before parts c d less)

-- Lists

pub each_end : {A : Type 0} (P : A → Type 0) (xs : List A) (e : A) → Each P xs → P e → Each P (xs ++ e ∷ [])
each_end P [] e have last = (last, tt)
each_end P (x ∷ xs) e have last = (have.0, each_end P xs e have.1 last)

pub rising_end : {A : Type 0} (R : A → A → Type 0) (xs : List A) (e : A) → Rising R xs → Each (λ x. R x e) xs → Rising R (xs ++ e ∷ [])
rising_end R [] e rising last = (tt, tt)
rising_end R (x ∷ xs) e rising last = (each_end (R x) xs e rising.0 last.0, rising_end R xs e rising.1 last.1)

pub in_end : {A : Type 0} (xs : List A) (e x : A) → In x (xs ++ e ∷ []) → In x xs ⊎ (x ≡ e)
in_end xs e x at = by (in_split xs (e ∷ []) at)
  where
    last : (x ≡ e) ⊎ In x [] → In x xs ⊎ (x ≡ e)
    last (inl same) = inr same
    last (inr at) = in_none at

    by : In x xs ⊎ In x (e ∷ []) → In x xs ⊎ (x ≡ e)
    by (inl h) = inl h
    by (inr h) = last (in_rest h)

pub each_mapped : {A B : Type 0} (g : A → B) (P : B → Type 0) (xs : List A) → Each (λ x. P (g x)) xs → Each P (map g xs)
each_mapped g P [] have = tt
each_mapped g P (x ∷ xs) have = (have.0, each_mapped g P xs have.1)

pub mapped_each : {A B : Type 0} (g : A → B) (P : B → Type 0) (xs : List A) → Each P (map g xs) → Each (λ x. P (g x)) xs
mapped_each g P [] have = tt
mapped_each g P (x ∷ xs) have = (have.0, mapped_each g P xs have.1)

-- What entries state

pub stated_in : {E A : Type 0} (f : E → List A) {a : A} {x : E} {xs : List E} → In x xs → In a (f x) → In a (stated f xs)
stated_in f (here {xs = xs}) at = in_left (stated f xs) at
stated_in f (there {y = y} to) at = in_right (f y) (stated_in f to at)

pub stated_back : {A : Type 0} (f : Entry → List A) (a : A) (xs : List Entry) → In a (stated f xs) → (x : Entry) × In x xs × In a (f x)
stated_back f a [] at = in_none at
stated_back f a (x ∷ xs) at = by (stated_back f a xs) (in_split (f x) (stated f xs) at)
  where
    by : (In a (stated f xs) → (y : Entry) × In y xs × In a (f y)) → In a (f x) ⊎ In a (stated f xs) → (y : Entry) × In y (x ∷ xs) × In a (f y)
    by later (inl h) = (x, here, h)
    by later (inr h) = let (y, to, k) = later h in (y, there to, k)

spread_is : (x : Entry) (c : Tree) → In c (spread_at x) → x ≡ spread c
spread_is (spread d) c at = by (in_rest at)
  where
    by : (c ≡ d) ⊎ In c [] → spread d ≡ spread c
    by (inl e) = ap spread (sym e)
    by (inr h) = in_none h
spread_is (killed g u) c at = in_none at
spread_is (live t) c at = in_none at
spread_is (moved t u) c at = in_none at

live_is : (x : Entry) (t : Tree) → In t (live_at x) → x ≡ live t
live_is (spread c) t at = in_none at
live_is (killed g u) t at = in_none at
live_is (live s) t at = by (in_rest at)
  where
    by : (t ≡ s) ⊎ In t [] → live s ≡ live t
    by (inl e) = ap live (sym e)
    by (inr h) = in_none h
live_is (moved s u) t at = in_none at

pub in_spread : {c : Tree} {xs : List Entry} → In (spread c) xs → In c (stated spread_at xs)
in_spread at = stated_in spread_at at here

pub spread_in : (xs : List Entry) (c : Tree) → In c (stated spread_at xs) → In (spread c) xs
spread_in xs c at = let (x, to, is) = stated_back spread_at c xs at in subst (λ y. In y xs) (spread_is x c is) to

pub in_live : {t : Tree} {xs : List Entry} → In (live t) xs → In t (stated live_at xs)
in_live at = stated_in live_at at here

pub live_in : (xs : List Entry) (t : Tree) → In t (stated live_at xs) → In (live t) xs
live_in xs t at = let (x, to, is) = stated_back live_at t xs at in subst (λ y. In y xs) (live_is x t is) to
