-- Where exactly the considered schemas stand in order, each with exactly its instances, each is expected when its turn comes.
use Rattle.std.proofs.Common.{◌≡◌, inl, inr, Option, Some, None, List, [], ◌∷◌, ◌++◌, sym, refl, ap, ◌∙◌, subst, append_assoc, append-nil}
use Rattle.law_sig.specs.Lists.{In, Each, Rising}
use Rattle.law_sig.specs.Lists.In.{here}
use Rattle.law_sig.specs.Order.{IsBefore}
use Rattle.law_sig.specs.Schemas.{AreExactly, IsConsidered, IsInstance}
use Rattle.law_sig.specs.Expected.{IsFirstAbove}
use Rattle.law_sig.specs.declared.tree.Tree.{Tree}
use Rattle.law_sig.specs.declared.parts.SigParts.{SigParts}
use Rattle.law_laws.specs.Orders.{WeighsSomething}
use Rattle.law_laws.proofs.ListFacts.{in_left, in_right, each_of, of_each, rising_right}
use Rattle.law_laws.proofs.Orders.{IsUpto, never_before_itself, before_chain}
use Rattle.law_laws.proofs.Walks.{exact_next, exact_spent}
use Rattle.law_laws.proofs.Considering.{considered_more, considered_fewer, instance_more, instance_fewer}
use Rattle.law_valid.specs.Stated.{stated}
use Rattle.law_valid.specs.Order.{Block, Progress, at_start, Decision, spread, killed, live, moved, after, IsBlockSpent, IsExpected, GoInOrder, spread_in, schema_in, live_in, terms_first, HaveInstances, AreWhole}
use Rattle.law_valid.proofs.Blocks.{term_in, spread_among, live_among, whole_ordered}

one_more : (p : Progress) (x : Decision) (ds : List Decision) → IsExpected p x → GoInOrder (after p x) ds → GoInOrder p (x ∷ ds)
one_more p x ds is later = record { each = (is, later.each); ends = later.ends }

never_empty : (t : Tree) (ts : List Tree) → t ∷ ts ≡ [] → ⊥
never_empty t ts same = cc

module _ (parts : SigParts) (weighs : WeighsSomething parts) (all : List Decision) (whole : AreWhole parts all) where
  abbrev place : List Tree → List Tree → List Tree → Option Block → Progress
  place spreads schemas lives block = record { parts = parts; spreads = spreads; schemas = schemas; lives = lives; block = block }

  -- what has been stated, and what is still to come
  record IsAhead (spreads schemas lives : List Tree) (ds : List Decision) : Type 0 where
    pub spreads_are : stated spread_in all ≡ spreads ++ stated spread_in ds
    pub schemas_are : stated schema_in all ≡ schemas ++ stated schema_in ds
    pub lives_are : stated live_in all ≡ lives ++ stated live_in ds
    pub rising : Rising (IsBefore parts) (stated term_in ds)
    pub instances : HaveInstances parts (stated live_in all) ds

  -- the instances of the open block are its terms so far and those that follow; without one none follow
  abbrev IsState : Option Block → List Decision → Type 0
  IsState None ds = terms_first ds ≡ []
  IsState (Some block) ds = AreExactly parts (IsInstance parts (stated live_in all) block.schema) (block.terms ++ terms_first ds)

  known_in : {A : Type 0} (xs ys zs : List A) → zs ≡ xs ++ ys → (a : A) → In a xs → In a zs
  known_in xs ys zs e a at = subst (In a) (sym e) (in_left ys at)

  -- where no term follows, the block is spent
  block_spent : (lives later : List Tree) (block : Option Block) (ds : List Decision) → stated live_in all ≡ lives ++ later → terms_first ds ≡ [] → IsState block ds → IsBlockSpent parts lives block
  block_spent lives later None ds are bare state = tt
  block_spent lives later (Some block) ds are bare state = exact_spent (IsBefore parts) (never_before_itself parts) (before_chain parts)
      (IsInstance parts lives block.schema) (IsInstance parts (stated live_in all) block.schema) block.terms
      (λ w is. subst (In w) (ap (λ l. block.terms ++ l) bare ∙ append-nil block.terms) ((state.members w).1 is))
      (λ w. instance_more parts block.schema lives (stated live_in all) w (known_in lives later (stated live_in all) are))

  -- a term that stands in the open block is the next instance
  next_term : (lives later : List Tree) (block : Block) (t : Tree) (rest : List Tree) → stated live_in all ≡ lives ++ later → Each (IsUpto parts t) later
      → AreExactly parts (IsInstance parts (stated live_in all) block.schema) (block.terms ++ t ∷ rest)
      → IsFirstAbove (IsBefore parts) (IsInstance parts lives block.schema) block.terms t
  next_term lives later block t rest are behind state = exact_next (IsBefore parts) (never_before_itself parts) (before_chain parts)
      (IsInstance parts lives block.schema) (IsInstance parts (stated live_in all) block.schema) block.terms t rest state.rising
      (λ w. (state.members w).1)
      (λ w. instance_more parts block.schema lives (stated live_in all) w (known_in lives later (stated live_in all) are))
      (instance_fewer parts weighs block.schema lives later t behind
      (subst (λ l. IsInstance parts l block.schema t) are ((state.members t).0 (in_right block.terms here))))

  more_terms : (block : Block) (t : Tree) (rest : List Tree) → AreExactly parts (IsInstance parts (stated live_in all) block.schema) (block.terms ++ t ∷ rest)
      → AreExactly parts (IsInstance parts (stated live_in all) block.schema) ((block.terms ++ t ∷ []) ++ rest)
  more_terms block t rest state = subst (AreExactly parts (IsInstance parts (stated live_in all) block.schema)) (sym (append_assoc block.terms (t ∷ []) rest)) state

  -- live terms behind a term
  lives_behind : (t : Tree) (ds : List Decision) → Each (IsBefore parts t) (stated term_in ds) → Each (IsUpto parts t) (stated live_in ds)
  lives_behind t ds behind = each_of (IsUpto parts t) (stated live_in ds) (λ d at. inr (of_each (IsBefore parts t) (live_among d ds at) behind))

  -- the schema of a decision is the next considered one
  next_schema : (spreads later schemas : List Tree) (c : Tree) (rest : List Tree) → stated spread_in all ≡ spreads ++ later → stated schema_in all ≡ schemas ++ c ∷ rest
      → Each (IsUpto parts c) later → IsFirstAbove (IsBefore parts) (IsConsidered parts spreads) schemas c
  next_schema spreads later schemas c rest are schemas_are behind = exact_next (IsBefore parts) (never_before_itself parts) (before_chain parts)
      (IsConsidered parts spreads) (IsConsidered parts (stated spread_in all)) schemas c rest (subst (Rising (IsBefore parts)) schemas_are whole.schemas.rising)
      (λ w is. subst (In w) schemas_are ((whole.schemas.members w).1 is))
      (λ w. considered_more parts spreads (stated spread_in all) w (known_in spreads later (stated spread_in all) are))
      (considered_fewer parts weighs spreads later c behind
      (subst (λ l. IsConsidered parts l c) are ((whole.schemas.members c).0 (subst (In c) (sym schemas_are) (in_right schemas here)))))

  -- spread schemas behind a schema
  spreads_behind : (schemas : List Tree) (c : Tree) (ds : List Decision) → stated schema_in all ≡ schemas ++ c ∷ stated schema_in ds → Each (IsUpto parts c) (stated spread_in ds)
  spreads_behind schemas c ds are = each_of (IsUpto parts c) (stated spread_in ds) (λ d at. inr (of_each (IsBefore parts c) (spread_among d ds at)
      (rising_right (IsBefore parts) schemas (c ∷ stated schema_in ds) (subst (Rising (IsBefore parts)) are whole.schemas.rising)).0))

  from_here : (spreads schemas lives : List Tree) (block : Option Block) (ds : List Decision) → IsAhead spreads schemas lives ds → IsState block ds → GoInOrder (place spreads schemas lives block) ds
  from_here spreads schemas lives block [] a state = record {
    each = tt;
    ends = (
      block_spent lives [] block [] a.lives_are refl state,
      exact_spent (IsBefore parts) (never_before_itself parts) (before_chain parts) (IsConsidered parts spreads) (IsConsidered parts (stated spread_in all)) schemas
          (λ w is. subst (In w) (a.schemas_are ∙ append-nil schemas) ((whole.schemas.members w).1 is))
          (λ w. considered_more parts spreads (stated spread_in all) w (known_in spreads [] (stated spread_in all) a.spreads_are)),
    );
  }
  from_here spreads schemas lives block (spread c ∷ ds) a state =
      let spent = block_spent lives (stated live_in ds) block (spread c ∷ ds) a.lives_are refl state in
      let next = next_schema spreads (c ∷ stated spread_in ds) schemas c (stated schema_in ds) a.spreads_are a.schemas_are (inl refl, spreads_behind schemas c ds a.schemas_are) in
      one_more (place spreads schemas lives block) (spread c) ds (spent, next)
      (from_here (spreads ++ c ∷ []) (schemas ++ c ∷ []) lives (Some (record { schema = c; terms = [] })) ds (record {
        spreads_are = a.spreads_are ∙ sym (append_assoc spreads (c ∷ []) (stated spread_in ds));
        schemas_are = a.schemas_are ∙ sym (append_assoc schemas (c ∷ []) (stated schema_in ds));
        lives_are = a.lives_are;
        rising = a.rising;
        instances = a.instances.1;
      }) a.instances.0)
  from_here spreads schemas lives block (killed c ∷ ds) a state =
      let spent = block_spent lives (stated live_in ds) block (killed c ∷ ds) a.lives_are refl state in
      let next = next_schema spreads (stated spread_in ds) schemas c (stated schema_in ds) a.spreads_are a.schemas_are (spreads_behind schemas c ds a.schemas_are) in
      one_more (place spreads schemas lives block) (killed c) ds (spent, next)
      (from_here spreads (schemas ++ c ∷ []) lives None ds (record {
        spreads_are = a.spreads_are;
        schemas_are = a.schemas_are ∙ sym (append_assoc schemas (c ∷ []) (stated schema_in ds));
        lives_are = a.lives_are;
        rising = a.rising;
        instances = a.instances.1;
      }) a.instances.0)
  from_here spreads schemas lives None (live t ∷ ds) a state = absurd (never_empty t (terms_first ds) state)
  from_here spreads schemas lives (Some block) (live t ∷ ds) a state = one_more (place spreads schemas lives (Some block)) (live t) ds
      (next_term lives (t ∷ stated live_in ds) block t (terms_first ds) a.lives_are (inl refl, lives_behind t ds a.rising.0) state)
      (from_here spreads schemas (lives ++ t ∷ []) (Some (record { schema = block.schema; terms = block.terms ++ t ∷ [] })) ds (record {
        spreads_are = a.spreads_are;
        schemas_are = a.schemas_are;
        lives_are = a.lives_are ∙ sym (append_assoc lives (t ∷ []) (stated live_in ds));
        rising = a.rising.1;
        instances = a.instances;
      }) (more_terms block t (terms_first ds) state))
  from_here spreads schemas lives None (moved t ∷ ds) a state = absurd (never_empty t (terms_first ds) state)
  from_here spreads schemas lives (Some block) (moved t ∷ ds) a state = one_more (place spreads schemas lives (Some block)) (moved t) ds
      (next_term lives (stated live_in ds) block t (terms_first ds) a.lives_are (lives_behind t ds a.rising.0) state)
      (from_here spreads schemas lives (Some (record { schema = block.schema; terms = block.terms ++ t ∷ [] })) ds (record {
        spreads_are = a.spreads_are;
        schemas_are = a.schemas_are;
        lives_are = a.lives_are;
        rising = a.rising.1;
        instances = a.instances;
      }) (more_terms block t (terms_first ds) state))

  pub whole_in_order : GoInOrder (at_start parts) all
  whole_in_order = from_here [] [] [] None all (record {
    spreads_are = refl;
    schemas_are = refl;
    lives_are = refl;
    rising = (whole_ordered parts all whole).rising;
    instances = whole.instances;
  }) whole.first
