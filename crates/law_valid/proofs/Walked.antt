-- Who goes in order has exactly the considered schemas, and after a spread one exactly its instances.
use Rattle.std.proofs.Common.{◌≡◌, ◌⊎◌, inl, inr, Option, Some, None, List, [], ◌∷◌, ◌++◌, sym, refl, ap, ◌∙◌, subst, append_assoc, append-nil}
use Rattle.law_sig.specs.Lists.{In, Each, Rising}
use Rattle.law_sig.specs.Lists.In.{here, there}
use Rattle.law_sig.specs.Trees.{schema_of}
use Rattle.law_sig.specs.Order.{IsBefore}
use Rattle.law_sig.specs.Schemas.{AreExactly, IsConsidered, IsInstance}
use Rattle.law_sig.specs.declared.tree.Tree.{Tree}
use Rattle.law_sig.specs.declared.parts.SigParts.{SigParts}
use Rattle.law_laws.specs.Orders.{WeighsSomething}
use Rattle.law_laws.proofs.ListFacts.{in_left, each_map, each_of, of_each}
use Rattle.law_laws.proofs.Orders.{IsUpto, never_before_itself, before_chain, before_decided, schema_before}
use Rattle.law_laws.proofs.Walks.{items_of, added_by, AddThemselves, Walk, walk_rising, walk_each, walk_finds}
use Rattle.law_laws.proofs.Considering.{considered_more, considered_fewer, instance_more, instance_fewer}
use Rattle.law_valid.specs.Stated.{stated}
use Rattle.law_valid.specs.Order.{Block, Progress, at_start, with_term, Decision, spread, killed, live, moved, AreExpected, after_all, IsNoneExpected, GoInOrder, spread_in, schema_in, live_in, terms_first, HaveInstances, AreWhole}
use Rattle.law_valid.proofs.Blocks.{from_schema, spread_among}

-- Schemas and terms with what they add

abbrev schema_adds : Decision → List (Tree × List Tree)
schema_adds (spread c) = (c, c ∷ []) ∷ []
schema_adds (killed c) = (c, []) ∷ []
schema_adds (live t) = []
schema_adds (moved t) = []

schemas_items : (ds : List Decision) → items_of (stated schema_adds ds) ≡ stated schema_in ds
schemas_items [] = refl
schemas_items (spread c ∷ ds) = ap (λ l. c ∷ l) (schemas_items ds)
schemas_items (killed c ∷ ds) = ap (λ l. c ∷ l) (schemas_items ds)
schemas_items (live t ∷ ds) = schemas_items ds
schemas_items (moved t ∷ ds) = schemas_items ds

schemas_added : (ds : List Decision) → added_by (stated schema_adds ds) ≡ stated spread_in ds
schemas_added [] = refl
schemas_added (spread c ∷ ds) = ap (λ l. c ∷ l) (schemas_added ds)
schemas_added (killed c ∷ ds) = schemas_added ds
schemas_added (live t ∷ ds) = schemas_added ds
schemas_added (moved t ∷ ds) = schemas_added ds

schemas_themselves : (ds : List Decision) → AddThemselves (stated schema_adds ds)
schemas_themselves [] = tt
schemas_themselves (spread c ∷ ds) = ((refl, tt), schemas_themselves ds)
schemas_themselves (killed c ∷ ds) = (tt, schemas_themselves ds)
schemas_themselves (live t ∷ ds) = schemas_themselves ds
schemas_themselves (moved t ∷ ds) = schemas_themselves ds

-- the terms up to the next schema
abbrev term_adds : List Decision → List (Tree × List Tree)
term_adds [] = []
term_adds (spread c ∷ ds) = []
term_adds (killed c ∷ ds) = []
term_adds (live t ∷ ds) = (t, t ∷ []) ∷ term_adds ds
term_adds (moved t ∷ ds) = (t, []) ∷ term_adds ds

terms_items : (ds : List Decision) → items_of (term_adds ds) ≡ terms_first ds
terms_items [] = refl
terms_items (spread c ∷ ds) = refl
terms_items (killed c ∷ ds) = refl
terms_items (live t ∷ ds) = ap (λ l. t ∷ l) (terms_items ds)
terms_items (moved t ∷ ds) = ap (λ l. t ∷ l) (terms_items ds)

terms_added : (ds : List Decision) → stated live_in ds ≡ added_by (term_adds ds) ++ stated live_in (from_schema ds)
terms_added [] = refl
terms_added (spread c ∷ ds) = refl
terms_added (killed c ∷ ds) = refl
terms_added (live t ∷ ds) = ap (λ l. t ∷ l) (terms_added ds)
terms_added (moved t ∷ ds) = terms_added ds

terms_themselves : (ds : List Decision) → AddThemselves (term_adds ds)
terms_themselves [] = tt
terms_themselves (spread c ∷ ds) = tt
terms_themselves (killed c ∷ ds) = tt
terms_themselves (live t ∷ ds) = ((refl, tt), terms_themselves ds)
terms_themselves (moved t ∷ ds) = (tt, terms_themselves ds)

only_later : {A : Type 0} → ⊥ ⊎ A → A
only_later (inl never) = absurd never
only_later (inr at) = at

first_or_later : {A : Type 0} {x y : A} {xs : List A} → (x ≡ y) ⊎ In x xs → In x (y ∷ xs)
first_or_later {x = x} {xs = xs} (inl same) = subst (λ z. In x (z ∷ xs)) (same) here
first_or_later (inr at) = there at

-- the schema of the open block
abbrev IsOpen : Option Block → Tree → Type 0
IsOpen None c = ⊥
IsOpen (Some block) c = c ≡ block.schema

module _ (parts : SigParts) where
  abbrev place : List Tree → List Tree → List Tree → Option Block → Progress
  place spreads schemas lives block = record { parts = parts; spreads = spreads; schemas = schemas; lives = lives; block = block }

  abbrev block_of : Tree → List Tree → Block
  block_of c terms = record { schema = c; terms = terms }

  abbrev SchemaWalk : List Tree → List Tree → List (Tree × List Tree) → Type 0
  SchemaWalk = Walk (IsBefore parts) (IsConsidered parts)

  abbrev TermWalk : Tree → List Tree → List Tree → List (Tree × List Tree) → Type 0
  TermWalk c = Walk (IsBefore parts) (λ lives. IsInstance parts lives c)

  -- the schemas are walked
  schemas_walk : (spreads schemas lives : List Tree) (block : Option Block) (ds : List Decision) → AreExpected (place spreads schemas lives block) ds
      → IsNoneExpected (after_all (place spreads schemas lives block) ds) → SchemaWalk spreads schemas (stated schema_adds ds)
  schemas_walk spreads schemas lives block [] h ends = ends.1
  schemas_walk spreads schemas lives block (spread c ∷ ds) h ends =
      (h.0.1, schemas_walk (spreads ++ c ∷ []) (schemas ++ c ∷ []) lives (Some (block_of c [])) ds h.1 ends)
  schemas_walk spreads schemas lives block (killed c ∷ ds) h ends =
      (h.0.1, subst (λ known. SchemaWalk known (schemas ++ c ∷ []) (stated schema_adds ds)) (sym (append-nil spreads)) (schemas_walk spreads (schemas ++ c ∷ []) lives None ds h.1 ends))
  schemas_walk spreads schemas lives block (live t ∷ ds) h ends = schemas_walk spreads schemas (lives ++ t ∷ []) (with_term block t) ds h.1 ends
  schemas_walk spreads schemas lives block (moved t ∷ ds) h ends = schemas_walk spreads schemas lives (with_term block t) ds h.1 ends

  -- the terms of an open block are walked
  terms_walk : (spreads schemas lives : List Tree) (c : Tree) (terms : List Tree) (ds : List Decision) → AreExpected (place spreads schemas lives (Some (block_of c terms))) ds
      → IsNoneExpected (after_all (place spreads schemas lives (Some (block_of c terms))) ds) → TermWalk c lives terms (term_adds ds)
  terms_walk spreads schemas lives c terms [] h ends = ends.0
  terms_walk spreads schemas lives c terms (spread d ∷ ds) h ends = h.0.0
  terms_walk spreads schemas lives c terms (killed d ∷ ds) h ends = h.0.0
  terms_walk spreads schemas lives c terms (live t ∷ ds) h ends = (h.0, terms_walk spreads schemas (lives ++ t ∷ []) c (terms ++ t ∷ []) ds h.1 ends)
  terms_walk spreads schemas lives c terms (moved t ∷ ds) h ends =
      (h.0, subst (λ known. TermWalk c known (terms ++ t ∷ []) (term_adds ds)) (sym (append-nil lives)) (terms_walk spreads schemas lives c (terms ++ t ∷ []) ds h.1 ends))

  -- where no block is open no term stands
  no_terms : (spreads schemas lives : List Tree) (ds : List Decision) → AreExpected (place spreads schemas lives None) ds → terms_first ds ≡ []
  no_terms spreads schemas lives [] h = refl
  no_terms spreads schemas lives (spread c ∷ ds) h = refl
  no_terms spreads schemas lives (killed c ∷ ds) h = refl
  no_terms spreads schemas lives (live t ∷ ds) h = absurd h.0
  no_terms spreads schemas lives (moved t ∷ ds) h = absurd h.0

  -- every live term is of the open block or of a spread schema after it
  open_or_later : (spreads schemas lives : List Tree) (block : Option Block) (ds : List Decision) → AreExpected (place spreads schemas lives block) ds
      → Each (λ t. IsOpen block (schema_of t) ⊎ In (schema_of t) (stated spread_in ds)) (stated live_in ds)
  open_or_later spreads schemas lives block [] h = tt
  open_or_later spreads schemas lives block (spread c ∷ ds) h = each_map _ _ (λ t k. inr (first_or_later k)) (stated live_in ds)
      (open_or_later (spreads ++ c ∷ []) (schemas ++ c ∷ []) lives (Some (block_of c [])) ds h.1)
  open_or_later spreads schemas lives block (killed c ∷ ds) h =
      each_map _ _ (λ t k. inr (only_later k)) (stated live_in ds) (open_or_later spreads (schemas ++ c ∷ []) lives None ds h.1)
  open_or_later spreads schemas lives None (live t ∷ ds) h = absurd h.0
  open_or_later spreads schemas lives (Some block) (live t ∷ ds) h =
      (inl h.0.is.schema, open_or_later spreads schemas (lives ++ t ∷ []) (Some (block_of block.schema (block.terms ++ t ∷ []))) ds h.1)
  open_or_later spreads schemas lives None (moved t ∷ ds) h = absurd h.0
  open_or_later spreads schemas lives (Some block) (moved t ∷ ds) h = open_or_later spreads schemas lives (Some (block_of block.schema (block.terms ++ t ∷ []))) ds h.1

  -- those from the next schema on are of a spread schema there
  later_lives : (spreads schemas lives : List Tree) (block : Option Block) (ds : List Decision) → AreExpected (place spreads schemas lives block) ds
      → Each (λ t. In (schema_of t) (stated spread_in ds)) (stated live_in (from_schema ds))
  later_lives spreads schemas lives block [] h = tt
  later_lives spreads schemas lives block (spread c ∷ ds) h = each_map _ _ (λ t. first_or_later) (stated live_in ds)
      (open_or_later (spreads ++ c ∷ []) (schemas ++ c ∷ []) lives (Some (block_of c [])) ds h.1)
  later_lives spreads schemas lives block (killed c ∷ ds) h =
      each_map _ _ (λ t. only_later) (stated live_in ds) (open_or_later spreads (schemas ++ c ∷ []) lives None ds h.1)
  later_lives spreads schemas lives block (live t ∷ ds) h = later_lives spreads schemas (lives ++ t ∷ []) (with_term block t) ds h.1
  later_lives spreads schemas lives block (moved t ∷ ds) h = later_lives spreads schemas lives (with_term block t) ds h.1

  module _ (weighs : WeighsSomething parts) where
    -- an open block has exactly its instances, where the schemas behind it are later ones
    block_exact : (spreads schemas known : List Tree) (c : Tree) (ds : List Decision) → AreExpected (place spreads schemas known (Some (block_of c []))) ds
        → IsNoneExpected (after_all (place spreads schemas known (Some (block_of c []))) ds) → Each (IsBefore parts c) (stated schema_in ds)
        → AreExactly parts (IsInstance parts (known ++ stated live_in ds) c) (terms_first ds)
    block_exact spreads schemas known c ds h ends later = record {
      rising = subst (Rising (IsBefore parts)) (terms_items ds)
          (walk_rising (IsBefore parts) (never_before_itself parts) (before_chain parts) (λ lives. IsInstance parts lives c) known [] (term_adds ds) walked tt);
      members = λ t. (
        λ at. of_each (IsInstance parts (known ++ stated live_in ds) c) (subst (In t) (sym (terms_items ds)) at)
            (walk_each (IsBefore parts) (never_before_itself parts) (before_chain parts) (λ lives. IsInstance parts lives c) (instance_more parts c) (instance_fewer parts weighs c) (before_decided parts)
            known [] (term_adds ds) walked (known ++ stated live_in ds) (λ a at. subst (In a) (sym all_lives) (in_left late at))),
        λ is. subst (In t) (terms_items ds)
            (walk_finds (IsBefore parts) (never_before_itself parts) (before_chain parts) (λ lives. IsInstance parts lives c) (instance_more parts c) (instance_fewer parts weighs c) (before_decided parts)
            known [] (term_adds ds) walked tt (terms_themselves ds) late t (all_late t is.schema)
            (subst (λ l. IsInstance parts l c t) all_lives is) tt),
      );
    }
      where
        late : List Tree
        late = stated live_in (from_schema ds)

        walked : TermWalk c known [] (term_adds ds)
        walked = terms_walk spreads schemas known c [] ds h ends

        all_lives : known ++ stated live_in ds ≡ (known ++ added_by (term_adds ds)) ++ stated live_in (from_schema ds)
        all_lives = ap (λ l. known ++ l) (terms_added ds) ∙ sym (append_assoc known (added_by (term_adds ds)) (stated live_in (from_schema ds)))

        all_late : (t : Tree) → schema_of t ≡ c → Each (IsUpto parts t) (stated live_in (from_schema ds))
        all_late t is = each_of (IsUpto parts t) (stated live_in (from_schema ds)) (λ d at. inr (schema_before parts t d (subst (λ z. IsBefore parts z (schema_of d)) (sym is)
            (of_each (IsBefore parts c) (spread_among (schema_of d) ds
            (of_each (λ t. In (schema_of t) (stated spread_in ds)) at (later_lives spreads schemas known (Some (block_of c [])) ds h))) later))))

    -- so has each spread schema
    instances_from : (spreads schemas known : List Tree) (block : Option Block) (ds : List Decision) → AreExpected (place spreads schemas known block) ds
        → IsNoneExpected (after_all (place spreads schemas known block) ds) → Rising (IsBefore parts) (stated schema_in ds)
        → HaveInstances parts (known ++ stated live_in ds) ds
    instances_from spreads schemas known block [] h ends rising = tt
    instances_from spreads schemas known block (spread c ∷ ds) h ends rising = (
      block_exact (spreads ++ c ∷ []) (schemas ++ c ∷ []) known c ds h.1 ends rising.0,
      instances_from (spreads ++ c ∷ []) (schemas ++ c ∷ []) known (Some (block_of c [])) ds h.1 ends rising.1,
    )
    instances_from spreads schemas known block (killed c ∷ ds) h ends rising = (
      no_terms spreads (schemas ++ c ∷ []) known ds h.1,
      instances_from spreads (schemas ++ c ∷ []) known None ds h.1 ends rising.1,
    )
    instances_from spreads schemas known block (live t ∷ ds) h ends rising = subst (λ l. HaveInstances parts l ds) (append_assoc known (t ∷ []) (stated live_in ds))
        (instances_from spreads schemas (known ++ t ∷ []) (with_term block t) ds h.1 ends rising)
    instances_from spreads schemas known block (moved t ∷ ds) h ends rising = instances_from spreads schemas known (with_term block t) ds h.1 ends rising

    pub in_order_whole : (ds : List Decision) → GoInOrder (at_start parts) ds → AreWhole parts ds
    in_order_whole ds goes = record {
      schemas = record {
        rising = schemas_rise;
        members = λ c. (
          λ at. of_each (IsConsidered parts (stated spread_in ds)) (subst (In c) (sym (schemas_items ds)) at)
              (walk_each (IsBefore parts) (never_before_itself parts) (before_chain parts) (IsConsidered parts) (considered_more parts) (considered_fewer parts weighs) (before_decided parts)
              [] [] (stated schema_adds ds) walk (stated spread_in ds) (λ a at. subst (In a) (schemas_added ds) at)),
          λ is. subst (In c) (schemas_items ds)
              (walk_finds (IsBefore parts) (never_before_itself parts) (before_chain parts) (IsConsidered parts) (considered_more parts) (considered_fewer parts weighs) (before_decided parts)
              [] [] (stated schema_adds ds) walk tt (schemas_themselves ds) [] c tt
              (subst (λ l. IsConsidered parts l c) (sym (append-nil (added_by (stated schema_adds ds)) ∙ schemas_added ds)) is) tt),
        );
      };
      first = no_terms [] [] [] ds goes.each;
      instances = instances_from [] [] [] None ds goes.each goes.ends schemas_rise;
    }
      where
        walk : SchemaWalk [] [] (stated schema_adds ds)
        walk = schemas_walk [] [] [] None ds goes.each goes.ends

        schemas_rise : Rising (IsBefore parts) (stated schema_in ds)
        schemas_rise = subst (Rising (IsBefore parts)) (schemas_items ds)
            (walk_rising (IsBefore parts) (never_before_itself parts) (before_chain parts) (IsConsidered parts) [] [] (stated schema_adds ds) walk tt)
