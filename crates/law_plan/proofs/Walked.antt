-- To go schema by schema and instance by instance is to go in order.
use Rattle.std.proofs.Common.{◌≡◌, ◌⊎◌, inl, inr, List, [], ◌∷◌, ◌++◌, map, Option, Some, None, refl, sym, ap, ◌∙◌, subst}
use Rattle.law_sig.specs.Lists.{In}
use Rattle.law_sig.specs.Lists.In.{here, there}
use Rattle.law_sig.specs.Trees.{schema_of}
use Rattle.law_sig.specs.Tests.{Pools}
use Rattle.law_sig.specs.Order.{IsBefore}
use Rattle.law_sig.specs.declared.tree.Tree.{Tree}
use Rattle.law_sig.specs.declared.parts.SigParts.{SigParts}
use Rattle.law_laws.specs.Orders.{WeighsSomething}
use Rattle.law_laws.specs.Renaming.{HasWidth}
use Rattle.law_laws.proofs.ListFacts.{in_none, in_rest, in_split, in_left, in_right, in_map, mapped, each_of, of_each}
use Rattle.law_laws.proofs.Orders.{never_before_itself, before_chain, IsUpto}
use Rattle.law_sig.specs.Schemas.{IsInstance}
use Rattle.law_sig.specs.Expected.{IsAbove, IsFirstAbove}
use Rattle.law_valid.specs.Stated.{stated}
use Rattle.law_plan.specs.Plan.{Item, schema, term, schema_in, Precedes, Entry, spread, killed, live, moved, decision_of, decisions_of, item_in, item_of, spread_at, schema_at, live_at, IsPlanned, IsEntry, IsPlan}
use Rattle.law_plan.specs.Search.{IsDueTerm, IsDue, AreFollowed, AreAll}
use Rattle.law_plan.specs.Search.AreFollowed.{start, next}
use Rattle.law_valid.specs.Order.{Block, Progress, at_start, Decision, after, after_all, IsBlockSpent, IsSchemaNext, IsExpected, AreExpected, IsNoneExpected, GoInOrder}
use Rattle.law_valid.proofs.Going.{expected_on, after_both}
use Rattle.law_valid.proofs.StatedFacts.{grown, kept}
use Rattle.law_valid.specs.Order as order
use Rattle.law_plan.specs.Blocks.{progress, AreWalked}
use Rattle.law_plan.specs.Blocks.AreWalked.{begun, goes}
use Rattle.law_laws.proofs.Orders.{schema_before}
use Rattle.law_plan.proofs.Items.{term_precedes, in_end, stated_in, stated_back, in_spread, spread_in}
use Rattle.law_plan.proofs.Planned.{schema_parts, term_parts, apart}
use Rattle.law_plan.proofs.Followed.{AreRight, followed_right, followed_plan}

-- Items of entries

item_back : (x : Item) (xs : List Entry) → In x (map item_of xs) → (d : Entry) × In d xs × (x ≡ item_of d)
item_back x [] at = in_none at
item_back x (d ∷ xs) at = by (item_back x xs) (in_rest at)
  where
    by : (In x (map item_of xs) → (d : Entry) × In d xs × (x ≡ item_of d)) → (x ≡ item_of d) ⊎ In x (map item_of xs) → (b : Entry) × In b (d ∷ xs) × (x ≡ item_of b)
    by later (inl same) = (d, here, same)
    by later (inr at) = let (b, to, same) = later at in (b, there to, same)

entry_item : (x : Item) (d : Entry) (xs : List Entry) → In d xs → x ≡ item_of d → In x (map item_of xs)
entry_item x d xs at same = subst (λ y. In y (map item_of xs)) (sym same) (in_map item_of at)

item_more : (x : Item) (xs : List Entry) (e : Entry) → In x (map item_of xs) → In x (map item_of (xs ++ e ∷ []))
item_more x xs e at = let (d, to, same) = item_back x xs at in entry_item x d (xs ++ e ∷ []) (in_left (e ∷ []) to) same

item_last : (xs : List Entry) (e : Entry) → In (item_of e) (map item_of (xs ++ e ∷ []))
item_last xs e = in_map item_of (in_right xs here)

item_end : (x : Item) (xs : List Entry) (e : Entry) → In x (map item_of (xs ++ e ∷ [])) → In x (map item_of xs) ⊎ (x ≡ item_of e)
item_end x xs e at = let (d, to, same) = item_back x (xs ++ e ∷ []) at in by d same (in_end xs e d to)
  where
    by : (d : Entry) → x ≡ item_of d → In d xs ⊎ (d ≡ e) → In x (map item_of xs) ⊎ (x ≡ item_of e)
    by d same (inl at) = inl (entry_item x d xs at same)
    by d same (inr k) = inr (same ∙ ap item_of k)

-- schemas among them

pub schema_item : (d : Entry) (s : Tree) → In s (schema_at d) → schema s ≡ item_of d
schema_item (spread c) s at = by (in_rest at)
  where
    by : (s ≡ c) ⊎ In s [] → schema s ≡ schema c
    by (inl e) = ap schema e
    by (inr h) = in_none h
schema_item (killed g u) s at = by (in_rest at)
  where
    by : (s ≡ schema_of g) ⊎ In s [] → schema s ≡ schema (schema_of g)
    by (inl e) = ap schema e
    by (inr h) = in_none h
schema_item (live t) s at = in_none at
schema_item (moved t u) s at = in_none at

pub item_schema : (d : Entry) (s : Tree) → schema s ≡ item_of d → In s (schema_at d)
item_schema (spread c) s e = subst (λ x. In s (x ∷ [])) (schema_parts s c e) here
item_schema (killed g u) s e = subst (λ x. In s (x ∷ [])) (schema_parts s (schema_of g) e) here
item_schema (live t) s e = absurd (apart s t e)
item_schema (moved t u) s e = absurd (apart s t e)

pub stated_item : (xs : List Entry) (s : Tree) → In s (stated schema_at xs) → In (schema s) (map item_of xs)
stated_item xs s at = let (d, to, is) = stated_back schema_at s xs at in entry_item (schema s) d xs to (schema_item d s is)

pub item_stated : (xs : List Entry) (s : Tree) → In (schema s) (map item_of xs) → In s (stated schema_at xs)
item_stated xs s at = let (d, to, same) = item_back (schema s) xs at in stated_in schema_at to (item_schema d s same)

spread_item : (xs : List Entry) (c : Tree) → In c (stated spread_at xs) → In (schema c) (map item_of xs)
spread_item xs c at = in_map item_of (spread_in xs c at)

-- How far entries come

module _ (parts : SigParts) where
  abbrev place : List Tree → List Tree → List Tree → Option Block → Progress
  place spreads schemas lives block = record { parts = parts; spreads = spreads; schemas = schemas; lives = lives; block = block }

  same_place : (a b c x y z : List Tree) (block : Option Block) → a ≡ x → b ≡ y → c ≡ z → place a b c block ≡ place x y z block
  same_place a b c x y z block p q r = ap (λ l. place l b c block) p ∙ ap (λ l. place x l c block) q ∙ ap (λ l. place x y l block) r

  progress_after : (xs : List Entry) (block : Option Block) (e : Entry)
      → after (progress parts xs block) (decision_of e) ≡ progress parts (xs ++ e ∷ []) (after (progress parts xs block) (decision_of e)).block
  progress_after xs block (spread c) = let e = spread c in same_place _ _ _ _ _ _ _ (grown spread_at xs e) (grown schema_at xs e) (kept live_at xs e refl)
  progress_after xs block (killed g u) = let e = killed g u in same_place _ _ _ _ _ _ None (kept spread_at xs e refl) (grown schema_at xs e) (kept live_at xs e refl)
  progress_after xs block (live t) = let e = live t in same_place _ _ _ _ _ _ _ (kept spread_at xs e refl) (kept schema_at xs e refl) (grown live_at xs e)
  progress_after xs block (moved t u) = let e = moved t u in same_place _ _ _ _ _ _ _ (kept spread_at xs e refl) (kept schema_at xs e refl) (kept live_at xs e refl)

  record HaveGone (xs : List Entry) (block : Option Block) : Type 0 where
    pub each : AreExpected (at_start parts) (decisions_of xs)
    pub ends : after_all (at_start parts) (decisions_of xs) ≡ progress parts xs block

  walked_goes : (pools : Pools) {xs : List Entry} {block : Option Block} → AreWalked parts pools xs block → HaveGone xs block
  walked_goes pools begun = record { each = tt; ends = refl }
  walked_goes pools (goes xs block e before expected decided) = by (walked_goes pools before)
    where
      grows : decisions_of xs ++ decision_of e ∷ [] ≡ decisions_of (xs ++ e ∷ [])
      grows = sym (mapped decision_of xs [] e)

      by : HaveGone xs block → HaveGone (xs ++ e ∷ []) (after (progress parts xs block) (decision_of e)).block
      by h = record {
        each = subst (AreExpected (at_start parts)) grows (expected_on (at_start parts) (decisions_of xs) (decision_of e ∷ []) h.each
            (subst (λ p. IsExpected p (decision_of e)) (sym h.ends) expected, tt));
        ends = ap (after_all (at_start parts)) (sym grows) ∙ after_both (at_start parts) (decisions_of xs) (decision_of e ∷ [])
            ∙ ap (λ p. after p (decision_of e)) h.ends ∙ progress_after xs block e;
      }

module _ (parts : SigParts) where
  upto_not_before : (s t : Tree) → IsUpto parts s t → IsBefore parts t s → ⊥
  upto_not_before s t (inl e) h = never_before_itself parts t (subst (IsBefore parts t) e h)
  upto_not_before s t (inr k) h = never_before_itself parts t (before_chain parts t s t h k)

  pub precedes_term : (s t : Tree) → Precedes parts (term s) (term t) → IsBefore parts s t
  precedes_term s t (inl h) = schema_before parts s t h
  precedes_term s t (inr h) = h.1

  pub precedes_schema : (s t : Tree) → Precedes parts (schema s) (schema t) → IsBefore parts s t
  precedes_schema s t (inl h) = h
  precedes_schema s t (inr h) = absurd h.1

  -- The block at hand fits the entries so far: it has the last schema, and the terms of that; and without a block each
  -- spread schema has one behind it

  pub record IsBehind (xs : List Entry) (c : Tree) : Type 0 where
    pub later : Tree
    pub at : In (schema later) (map item_of xs)
    pub before : IsBefore parts c later

  pub record FitsBlock (xs : List Entry) (block : Block) : Type 0 where
    pub held : In block.schema (stated spread_at xs)
    pub last : (s : Tree) → In (schema s) (map item_of xs) → IsUpto parts s block.schema
    pub into : (u : Tree) → In (term u) (map item_of xs) → schema_of u ≡ block.schema → In u block.terms
    pub from : (u : Tree) → In u block.terms → In (term u) (map item_of xs)

  abbrev pub Fits : List Entry → Option Block → Type 0
  Fits xs None = (c : Tree) → In c (stated spread_at xs) → IsBehind xs c
  Fits xs (Some block) = FitsBlock xs block

  -- a due term behind all entries is one of the block, behind all of that
  in_block : (xs : List Entry) (block : Block) → FitsBlock xs block → (t : Tree) → IsDueTerm parts (stated spread_at xs) (stated live_at xs) t
      → IsAbove (Precedes parts) (map item_of xs) (term t) → (schema_of t ≡ block.schema) × IsAbove (IsBefore parts) block.terms t
  in_block xs block fits t due above = (
    by (of_each (λ x. Precedes parts x (term t)) (spread_item xs block.schema fits.held) above),
    each_of (λ u. IsBefore parts u t) block.terms (λ u at. precedes_term u t (of_each (λ x. Precedes parts x (term t)) (fits.from u at) above)),
  )
    where
      by : Precedes parts (schema block.schema) (term t) → schema_of t ≡ block.schema
      by (inl h) = absurd (upto_not_before (schema_of t) block.schema (fits.last (schema_of t) (spread_item xs (schema_of t) due.owned)) h)
      by (inr h) = sym h.0

  moved_instance : (lives : List Tree) (c t : Tree) → c ≡ schema_of t → IsInstance parts lives (schema_of t) t → IsInstance parts lives c t
  moved_instance lives c t e is = record { sort = is.sort; bounded = is.bounded; schema = sym e; args = is.args }

  none_out : (xs : List Entry) (block : Option Block) → Fits xs block → IsBlockSpent parts (stated live_at xs) block
      → (t : Tree) → IsDueTerm parts (stated spread_at xs) (stated live_at xs) t → IsAbove (Precedes parts) (map item_of xs) (term t) → ⊥
  none_out xs None fits spent t due above = by (of_each (λ x. Precedes parts x (term t)) b.at above)
    where
      b : IsBehind xs (schema_of t)
      b = fits (schema_of t) due.owned

      by : Precedes parts (schema b.later) (term t) → ⊥
      by (inl h) = never_before_itself parts b.later (before_chain parts b.later (schema_of t) b.later h b.before)
      by (inr h) = never_before_itself parts (schema_of t) (subst (IsBefore parts (schema_of t)) h.0 b.before)
  none_out xs (Some block) fits spent t due above =
      let (same, behind) = in_block xs block fits t due above in
      spent t (moved_instance (stated live_at xs) block.schema t (sym same) due.instance_of) behind

  schemas_above : (xs : List Entry) (d : Tree) → IsAbove (Precedes parts) (map item_of xs) (schema d) → IsAbove (IsBefore parts) (stated schema_at xs) d
  schemas_above xs d above = each_of (λ s. IsBefore parts s d) (stated schema_at xs)
      (λ s at. precedes_schema s d (of_each (λ x. Precedes parts x (schema d)) (stated_item xs s at) above))

  module _ (pools : Pools) (weighs : WeighsSomething parts) (wide : HasWidth parts) (xs : List Entry) (right : AreRight parts pools weighs wide xs) where
    -- the schema of a term so far is spread
    owned : (u : Tree) → In (term u) (map item_of xs) → In (schema_of u) (stated spread_at xs)
    owned u at = let (d, to, same) = item_back (term u) xs at in by d same (right.sound d to)
      where
        of_term : IsPlanned parts pools (stated spread_at xs) (term u) → In (schema_of u) (stated spread_at xs)
        of_term p = p.owned

        by : (d : Entry) → term u ≡ item_of d → IsEntry parts pools (stated spread_at xs) d → In (schema_of u) (stated spread_at xs)
        by d same h = of_term (subst (IsPlanned parts pools (stated spread_at xs)) (sym same) h.planned)

    schema_stated : (x : Item) → In x (map item_of xs) → In (schema_in x) (stated schema_at xs)
    schema_stated (schema s) at = item_stated xs s at
    schema_stated (term u) at = item_stated xs (schema_of u) (spread_item xs (schema_of u) (owned u at))

    -- an instance of the block that is behind its terms is due, behind all entries
    due_term : (block : Block) → FitsBlock xs block → (t : Tree) → IsInstance parts (stated live_at xs) block.schema t → IsDueTerm parts (stated spread_at xs) (stated live_at xs) t
    due_term block fits t is = record {
      owned = subst (λ c. In c (stated spread_at xs)) (sym is.schema) fits.held;
      instance_of = record { sort = is.sort; bounded = is.bounded; schema = refl; args = is.args };
    }

    above_term : (block : Block) → FitsBlock xs block → (t : Tree) → schema_of t ≡ block.schema → IsAbove (IsBefore parts) block.terms t → IsAbove (Precedes parts) (map item_of xs) (term t)
    above_term block fits t same above = each_of (λ x. Precedes parts x (term t)) (map item_of xs) one
      where
        from_schema : (s : Tree) → IsUpto parts s block.schema → Precedes parts (schema s) (term t)
        from_schema s (inl e) = inr (e ∙ sym same, tt)
        from_schema s (inr h) = inl (subst (IsBefore parts s) (sym same) h)

        from_term : (u : Tree) → In (term u) (map item_of xs) → IsUpto parts (schema_of u) block.schema → Precedes parts (term u) (term t)
        from_term u at (inl e) = inr (e ∙ sym same, of_each (λ y. IsBefore parts y t) (fits.into u at e) above)
        from_term u at (inr h) = inl (subst (IsBefore parts (schema_of u)) (sym same) h)

        one : (x : Item) → In x (map item_of xs) → Precedes parts x (term t)
        one (schema s) at = from_schema s (fits.last s at)
        one (term u) at = from_term u at (fits.last (schema_of u) (spread_item xs (schema_of u) (owned u at)))

    above_schema : (d : Tree) → IsAbove (IsBefore parts) (stated schema_at xs) d → IsAbove (Precedes parts) (map item_of xs) (schema d)
    above_schema d above = each_of (λ x. Precedes parts x (schema d)) (map item_of xs) (λ x at. inl (of_each (λ s. IsBefore parts s d) (schema_stated x at) above))

    -- the next schema is next

    next_schema : (block : Option Block) → Fits xs block → IsBlockSpent parts (stated live_at xs) block → (c : Tree) → IsSchemaNext (progress parts xs None) c
        → IsFirstAbove (Precedes parts) (IsDue parts xs) (map item_of xs) (schema c)
    next_schema block fits spent c n = record {
      is = n.is;
      above = each_of (λ x. Precedes parts x (schema c)) (map item_of xs) (λ x at. inl (of_each (λ s. IsBefore parts s c) (schema_stated x at) n.above));
      least = least;
    }
      where
        of_schemas : (d : Tree) → (d ≡ c) ⊎ IsBefore parts c d → (schema d ≡ schema c) ⊎ Precedes parts (schema c) (schema d)
        of_schemas d (inl e) = inl (ap schema e)
        of_schemas d (inr h) = inr (inl h)

        least : (y : Item) → IsDue parts xs y → IsAbove (Precedes parts) (map item_of xs) y → (y ≡ schema c) ⊎ Precedes parts (schema c) y
        least (schema d) due above = of_schemas d (n.least d due (schemas_above xs d above))
        least (term t) due above = absurd (none_out xs block fits spent t due above)

    -- the next instance is next

    next_term : (block : Block) → FitsBlock xs block → (t : Tree) → IsFirstAbove (IsBefore parts) (IsInstance parts (stated live_at xs) block.schema) block.terms t
        → IsFirstAbove (Precedes parts) (IsDue parts xs) (map item_of xs) (term t)
    next_term block fits t n = record { is = due_term block fits t n.is; above = above_term block fits t n.is.schema n.above; least = least }
      where
        of_terms : (u : Tree) → (u ≡ t) ⊎ IsBefore parts t u → (term u ≡ term t) ⊎ Precedes parts (term t) (term u)
        of_terms u (inl e) = inl (ap term e)
        of_terms u (inr h) = inr (term_precedes parts t u h)

        least : (y : Item) → IsDue parts xs y → IsAbove (Precedes parts) (map item_of xs) y → (y ≡ term t) ⊎ Precedes parts (term t) y
        least (schema d) due above = inr (inl (subst (λ c. IsBefore parts c d) (sym n.is.schema)
            (precedes_schema block.schema d (of_each (λ x. Precedes parts x (schema d)) (spread_item xs block.schema fits.held) above))))
        least (term u) due above =
            let (same, behind) = in_block xs block fits u due above in
            of_terms u (n.least u (moved_instance (stated live_at xs) block.schema u (sym same) due.instance_of) behind)

    -- the block fits after the next entry

    fits_spread : (c : Tree) → IsSchemaNext (progress parts xs None) c → FitsBlock (xs ++ spread c ∷ []) (record { schema = c; terms = [] })
    fits_spread c n = record {
      held = in_spread (in_right xs here);
      last = λ s at. last s (item_end (schema s) xs (spread c) at);
      into = λ u at same. into u same (item_end (term u) xs (spread c) at);
      from = λ u at. in_none at;
    }
      where
        last : (s : Tree) → In (schema s) (map item_of xs) ⊎ (schema s ≡ schema c) → IsUpto parts s c
        last s (inl at) = inr (of_each (λ x. IsBefore parts x c) (item_stated xs s at) n.above)
        last s (inr e) = inl (schema_parts s c e)

        into : (u : Tree) → schema_of u ≡ c → In (term u) (map item_of xs) ⊎ (term u ≡ schema c) → In u []
        into u same (inl at) = absurd (never_before_itself parts c (subst (λ x. IsBefore parts x c) same
            (of_each (λ x. IsBefore parts x c) (schema_stated (term u) at) n.above)))
        into u same (inr e) = absurd (apart c u (sym e))

    fits_killed : (g u : Tree) → IsSchemaNext (progress parts xs None) (schema_of g) → (c : Tree) → In c (stated spread_at (xs ++ killed g u ∷ [])) → IsBehind (xs ++ killed g u ∷ []) c
    fits_killed g u n c at = record { later = schema_of g; at = item_last xs (killed g u); before = by (in_end xs (killed g u) (spread c) (spread_in (xs ++ killed g u ∷ []) c at)) }
      where
        other : spread c ≡ killed g u → ⊥
        other e = cc

        by : In (spread c) xs ⊎ (spread c ≡ killed g u) → IsBefore parts c (schema_of g)
        by (inl to) = of_each (λ x. IsBefore parts x (schema_of g)) (item_stated xs c (in_map item_of to)) n.above
        by (inr e) = absurd (other e)

    fits_term : (block : Block) → FitsBlock xs block → (t : Tree) (e : Entry) → term t ≡ item_of e
        → FitsBlock (xs ++ e ∷ []) (record { schema = block.schema; terms = block.terms ++ t ∷ [] })
    fits_term block fits t e is = record {
      held = in_spread (in_left (e ∷ []) (spread_in xs block.schema fits.held));
      last = λ s at. last s (item_end (schema s) xs e at);
      into = λ u at same. into u same (item_end (term u) xs e at);
      from = λ u at. from u (in_split block.terms (t ∷ []) at);
    }
      where
        last : (s : Tree) → In (schema s) (map item_of xs) ⊎ (schema s ≡ item_of e) → IsUpto parts s block.schema
        last s (inl at) = fits.last s at
        last s (inr k) = absurd (apart s t (k ∙ sym is))

        into : (u : Tree) → schema_of u ≡ block.schema → In (term u) (map item_of xs) ⊎ (term u ≡ item_of e) → In u (block.terms ++ t ∷ [])
        into u same (inl at) = in_left (t ∷ []) (fits.into u at same)
        into u same (inr k) = in_right block.terms (subst (λ x. In u (x ∷ [])) (term_parts u t (k ∙ sym is)) here)

        last_one : (u : Tree) → (u ≡ t) ⊎ In u [] → In (term u) (map item_of (xs ++ e ∷ []))
        last_one u (inl k) = subst (λ x. In x (map item_of (xs ++ e ∷ []))) (sym (ap term k ∙ is)) (item_last xs e)
        last_one u (inr at) = in_none at

        from : (u : Tree) → In u block.terms ⊎ In u (t ∷ []) → In (term u) (map item_of (xs ++ e ∷ []))
        from u (inl at) = item_more (term u) xs e (fits.from u at)
        from u (inr at) = last_one u (in_rest at)

    -- one step: what is expected is the first that is due, and the other way round

    pub expected_first : (block : Option Block) → Fits xs block → (x : Decision) → IsExpected (progress parts xs block) x
        → IsFirstAbove (Precedes parts) (IsDue parts xs) (map item_of xs) (item_in x)
    expected_first block fits (order.spread c) h = next_schema block fits h.0 c h.1
    expected_first block fits (order.killed c) h = next_schema block fits h.0 c h.1
    expected_first None fits (order.live t) h = absurd h
    expected_first (Some block) fits (order.live t) h = next_term block fits t h
    expected_first None fits (order.moved t) h = absurd h
    expected_first (Some block) fits (order.moved t) h = next_term block fits t h

    -- where no due term is left the block is spent
    spent_of : (block : Option Block) → Fits xs block → ((t : Tree) → IsDueTerm parts (stated spread_at xs) (stated live_at xs) t → IsAbove (Precedes parts) (map item_of xs) (term t) → ⊥)
        → IsBlockSpent parts (stated live_at xs) block
    spent_of None fits none = tt
    spent_of (Some block) fits none = λ t is above. none t (due_term block fits t is) (above_term block fits t is.schema above)

    first_schema : (block : Option Block) → Fits xs block → (c : Tree) → IsFirstAbove (Precedes parts) (IsDue parts xs) (map item_of xs) (schema c)
        → IsBlockSpent parts (stated live_at xs) block × IsSchemaNext (progress parts xs None) c
    first_schema block fits c n = (
      spent_of block fits (λ t due above. none t due above (n.least (term t) due above)),
      record { is = n.is; above = schemas_above xs c n.above; least = λ d is above. of_schemas d (n.least (schema d) is (above_schema d above)) },
    )
      where
        of_schemas : (d : Tree) → (schema d ≡ schema c) ⊎ Precedes parts (schema c) (schema d) → (d ≡ c) ⊎ IsBefore parts c d
        of_schemas d (inl e) = inl (schema_parts d c e)
        of_schemas d (inr h) = inr (precedes_schema c d h)

        none : (t : Tree) → IsDueTerm parts (stated spread_at xs) (stated live_at xs) t → IsAbove (Precedes parts) (map item_of xs) (term t)
            → (term t ≡ schema c) ⊎ Precedes parts (schema c) (term t) → ⊥
        none t due above (inl e) = apart c t (sym e)
        none t due above (inr h) = by (of_each (λ x. Precedes parts x (schema c)) (spread_item xs (schema_of t) due.owned) n.above) h
          where
            by : Precedes parts (schema (schema_of t)) (schema c) → Precedes parts (schema c) (term t) → ⊥
            by k (inl l) = never_before_itself parts c (before_chain parts c (schema_of t) c l (precedes_schema (schema_of t) c k))
            by k (inr l) = never_before_itself parts c (subst (λ d. IsBefore parts d c) (sym l.0) (precedes_schema (schema_of t) c k))

    first_term : (block : Option Block) → Fits xs block → (t : Tree) → IsFirstAbove (Precedes parts) (IsDue parts xs) (map item_of xs) (term t)
        → IsExpected (progress parts xs block) (order.live t)
    first_term None fits t n = absurd (none_out xs None fits tt t n.is n.above)
    first_term (Some block) fits t n =
        let (same, behind) = in_block xs block fits t n.is n.above in
        record { is = moved_instance (stated live_at xs) block.schema t (sym same) n.is.instance_of; above = behind; least = least }
      where
        of_terms : (u : Tree) → (term u ≡ term t) ⊎ Precedes parts (term t) (term u) → (u ≡ t) ⊎ IsBefore parts t u
        of_terms u (inl e) = inl (term_parts u t e)
        of_terms u (inr h) = inr (precedes_term t u h)

        least : (u : Tree) → IsInstance parts (stated live_at xs) block.schema u → IsAbove (IsBefore parts) block.terms u → (u ≡ t) ⊎ IsBefore parts t u
        least u is above = of_terms u (n.least (term u) (due_term block fits u is) (above_term block fits u is.schema above))

    pub first_expected : (block : Option Block) → Fits xs block → (x : Decision) → IsFirstAbove (Precedes parts) (IsDue parts xs) (map item_of xs) (item_in x)
        → IsExpected (progress parts xs block) x
    first_expected block fits (order.spread c) n = first_schema block fits c n
    first_expected block fits (order.killed c) n = first_schema block fits c n
    first_expected block fits (order.live t) n = first_term block fits t n
    first_expected block fits (order.moved t) n = first_term block fits t n

    fits_after : (block : Option Block) → Fits xs block → (e : Entry) → IsExpected (progress parts xs block) (decision_of e)
        → Fits (xs ++ e ∷ []) (after (progress parts xs block) (decision_of e)).block
    fits_after block fits (spread c) h = fits_spread c h.1
    fits_after block fits (killed g u) h = fits_killed g u h.1
    fits_after None fits (live t) h = absurd h
    fits_after (Some block) fits (live t) h = fits_term block fits t (live t) refl
    fits_after None fits (moved t u) h = absurd h
    fits_after (Some block) fits (moved t u) h = fits_term block fits t (moved t u) refl

    all_of : (block : Option Block) → Fits xs block → IsNoneExpected (progress parts xs block) → AreAll parts xs
    all_of block fits ends (schema d) due above = ends.1 d due (schemas_above xs d above)
    all_of block fits ends (term t) due above = none_out xs block fits ends.0 t due above

    none_of : (block : Option Block) → Fits xs block → AreAll parts xs → IsNoneExpected (progress parts xs block)
    none_of block fits all = (spent_of block fits (λ t. all (term t)), λ d due above. all (schema d) due (above_schema d above))

  -- The whole walk

  module _ (pools : Pools) (weighs : WeighsSomething parts) (wide : HasWidth parts) where
    pub record IsInOrder (xs : List Entry) (block : Option Block) : Type 0 where
      pub followed : AreFollowed parts pools xs
      pub fits : Fits xs block

    pub walked : {xs : List Entry} {block : Option Block} → AreWalked parts pools xs block → IsInOrder xs block
    walked begun = record { followed = start; fits = λ c at. in_none at }
    walked (goes xs block e before expected decided) = by (walked before)
      where
        by : IsInOrder xs block → IsInOrder (xs ++ e ∷ []) (after (progress parts xs block) (decision_of e)).block
        by o =
            let right : AreRight parts pools weighs wide xs = followed_right parts pools weighs wide o.followed in
            record {
              followed = next xs e o.followed (record { first = expected_first pools weighs wide xs right block o.fits (decision_of e) expected; decided = decided });
              fits = fits_after pools weighs wide xs right block o.fits e expected;
            }

    pub walked_first : (xs : List Entry) (block : Option Block) → AreWalked parts pools xs block → (x : Decision) → IsExpected (progress parts xs block) x
        → IsFirstAbove (Precedes parts) (IsDue parts xs) (map item_of xs) (item_in x)
    walked_first xs block w x h =
        let o : IsInOrder xs block = walked w in
        expected_first pools weighs wide xs (followed_right parts pools weighs wide o.followed) block o.fits x h

    pub walked_plan : (xs : List Entry) (block : Option Block) → AreWalked parts pools xs block → IsNoneExpected (progress parts xs block) → IsPlan parts pools xs
    walked_plan xs block w ends =
        let o : IsInOrder xs block = walked w in
        followed_plan parts pools weighs wide xs o.followed (all_of pools weighs wide xs (followed_right parts pools weighs wide o.followed) block o.fits ends)

    -- the other way round: what is followed is walked, and in order

    followed_walked : {xs : List Entry} → AreFollowed parts pools xs → (block : Option Block) × AreWalked parts pools xs block
    followed_walked start = (None, begun)
    followed_walked (next xs e before is) = by (followed_walked before)
      where
        by : (block : Option Block) × AreWalked parts pools xs block → (block : Option Block) × AreWalked parts pools (xs ++ e ∷ []) block
        by (block, w) =
            let o : IsInOrder xs block = walked w in (
              (after (progress parts xs block) (decision_of e)).block,
              goes xs block e w (first_expected pools weighs wide xs (followed_right parts pools weighs wide before) block o.fits (decision_of e) is.first) is.decided,
            )

    pub plan_in_order : (xs : List Entry) → AreFollowed parts pools xs → AreAll parts xs → GoInOrder (at_start parts) (decisions_of xs)
    plan_in_order xs followed all = by (followed_walked followed)
      where
        by : (block : Option Block) × AreWalked parts pools xs block → GoInOrder (at_start parts) (decisions_of xs)
        by (block, w) =
            let o : IsInOrder xs block = walked w in
            let k = walked_goes parts pools w in
            record {
              each = k.each;
              ends = subst IsNoneExpected (sym k.ends) (none_of pools weighs wide xs (followed_right parts pools weighs wide followed) block o.fits all);
            }
