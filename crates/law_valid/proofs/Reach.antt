-- Each term of the universe reaches a live term: one that is it or stands before it, with the same values, and derivable as
-- equal. By induction in the order of exploring.
use Rattle.std.proofs.Common.{◌≡◌, ℕ, ◌≤◌, ◌⊎◌, inl, inr, Some, List, [], ◌∷◌, ◌++◌, map, sym, refl, ap, ◌∙◌, subst, subst₂, arith}
use Rattle.law_sig.specs.Lists.{In, Each}
use Rattle.law_sig.specs.Lists.In.{here, there}
use Rattle.law_sig.specs.Trees.{schema_of, substituted}
use Rattle.law_sig.specs.Signature.{args_of, sort_of}
use Rattle.law_sig.specs.Derive.{Derivable}
use Rattle.law_sig.specs.Derive.Derivable.{reflexive, transitive}
use Rattle.law_sig.specs.Tests.{weight, InU, Pools, Same, Agrees}
use Rattle.law_sig.specs.Order.{IsBefore}
use Rattle.law_sig.specs.declared.tree.SortId.{SortId}
use Rattle.law_sig.specs.declared.tree.SymId.{SymId}
use Rattle.law_sig.specs.declared.tree.Tree.{Tree}
use Rattle.law_sig.specs.declared.tree.Tree.TheVariants.{Var, App, outs-Var, outs-App}
use Rattle.law_sig.specs.declared.tree.Tree.TheViews.{out-Tree}
use Rattle.law_sig.specs.declared.parts.Equation.{Equation}
use Rattle.law_sig.specs.declared.parts.SigParts.{SigParts}
use Rattle.law_laws.specs.Orders.{WeighsSomething}
use Rattle.law_laws.specs.Renaming.{HasWidth, renamed}
use Rattle.law_sig.specs.General.{filling}
use Rattle.law_laws.proofs.TreeFacts.{tree_induct, tree_cases, schema-Var, schema-App, substituted-Var, substituted-App}
use Rattle.law_laws.proofs.ListFacts.{in_none, in_left, in_right, in_rest, of_each}
use Rattle.law_laws.proofs.BodyFacts.{some_is}
use Rattle.law_laws.proofs.Sorts.{schema_sort}
use Rattle.law_laws.proofs.Orders.{lighter_before, before_weight, schema_weight, IsUpto, upto_then, before_chain, AreUpto, all_upto, schema_before}
use Rattle.law_laws.proofs.Descents.{weighs_something, explore_induct}
use Rattle.law_laws.proofs.Agreement.{same_itself, same_chain, AreSame, same_app_args}
use Rattle.law_laws.proofs.Derivation.{derivable_instance, AreDerivable, derivable_args}
use Rattle.law_laws.proofs.Renaming.{has_width, bounded_vars, same_renamed, renaming_keeps}
use Rattle.law_laws.proofs.Filling.{filled, filling_renames}
use Rattle.law_laws.proofs.Universe.{AreInU, IsVarOf, in_var, in_app, app_in, arg_weight, renamed_in}
use Rattle.law_valid.specs.declared.certificate.Entry.{Entry}
use Rattle.law_valid.specs.declared.certificate.Entry.TheVariants as e
use Rattle.law_valid.specs.declared.certificate.SortTree.{SortTree}
use Rattle.law_sig.specs.declared.chain.Step.{Step}
use Rattle.law_valid.specs.Stated.{stated, schema_at, spread_at, live_at, terms_after}
use Rattle.law_sig.specs.Schemas.{IsConsidered, IsInstance, arguments_of}
use Rattle.law_sig.specs.Schemas.IsConsidered.{variable, application}
use Rattle.law_valid.specs.Valid.{IsEntry, IsKilled, IsValid}
use Rattle.law_valid.proofs.StatedFacts.{stated_by, stated_parts}
use Rattle.law_valid.proofs.Derive.{base_of, derivable_before}
use Rattle.law_valid.proofs.Blocks.{AreOrdered}
use Rattle.law_valid.proofs.Decisions.{term_at, after_term, live_term, valid_ordered, earlier_before}

-- a renamed term has the same schema
pub renamed_schema : (r : SortId → ℕ → ℕ) (t : Tree) → schema_of (substituted (renamed r) t) ≡ schema_of t
renamed_schema r = tree_induct (λ t. schema_of (substituted (renamed r) t) ≡ schema_of t)
    (λ s i. ap schema_of (substituted-Var (renamed r) s i) ∙ schema-Var s (r s i) ∙ sym (schema-Var s i))
    (λ f args have. ap schema_of (substituted-App (renamed r) f args) ∙ schema-App f (map (substituted (renamed r)) args) ∙ ap (App f) (all args have) ∙ sym (schema-App f args))
  where
    all : (ts : List Tree) → Each (λ t. schema_of (substituted (renamed r) t) ≡ schema_of t) ts → map schema_of (map (substituted (renamed r)) ts) ≡ map schema_of ts
    all [] have = refl
    all (t ∷ ts) have = cc (have.0, all ts have.1)

module _ (parts : SigParts) (pools : Pools) (all : List Entry) (trees : List SortTree) (valid : IsValid parts pools all trees) where
  lives : List Tree
  lives = stated live_at all

  weighs : WeighsSomething parts
  weighs = weighs_something parts valid.limits.well_formed

  wide : HasWidth parts
  wide = has_width parts valid.limits.well_formed

  pub in_order : AreOrdered parts (stated live_at all) (stated spread_at all) (stated term_at all)
  in_order = valid_ordered parts pools all trees valid

  -- a live term is an instance of a spread schema
  pub live_instance : (u : Tree) → In u (stated live_at all) → (c : Tree) × In c (stated spread_at all) × IsInstance parts (stated live_at all) c u
  live_instance u at = of_each _ (live_term u all at) in_order.instances

  -- a live term, with the sort at which it is wanted
  live_bounded : (sort : SortId) (u : Tree) → In u (stated live_at all) → sort_of parts u ≡ Some sort → InU parts sort u
  live_bounded sort u at sorted = let (c, c_in, is) = live_instance u at in
      subst (λ s. InU parts s u) (some_is is.sort sort (sym is.bounded.sorted ∙ sorted)) is.bounded

  -- what a term reaches
  pub record Reached (sort : SortId) (t : Tree) : Type 0 where
    pub to : Tree
    pub is_live : In to (stated live_at all)
    pub upto : IsUpto parts to t
    pub bounded : InU parts sort to
    pub same : Same parts pools t to
    pub derivable : Derivable parts (base_of parts all) t to

  -- by way of another term
  by_way_of : (sort : SortId) (t w : Tree) → IsUpto parts w t → Same parts pools t w → Derivable parts (base_of parts all) t w → Reached sort w → Reached sort t
  by_way_of sort t w upto same derivable r = record {
    to = r.to;
    is_live = r.is_live;
    upto = upto_then parts r.to w t r.upto upto;
    bounded = r.bounded;
    same = same_chain parts pools t w r.to same r.same;
    derivable = transitive t w r.to derivable r.derivable;
  }

  -- Terms whose arguments are live

  -- the schema of such a term is considered
  considered : (sort : SortId) (t : Tree) → InU parts sort t → Each (λ a. In a (stated live_at all)) (arguments_of (out-Tree t))
      → IsConsidered parts (stated spread_at all) (schema_of t)
  considered sort = tree_cases (λ t. InU parts sort t → Each (λ a. In a (stated live_at all)) (arguments_of (out-Tree t)) → IsConsidered parts (stated spread_at all) (schema_of t))
      (λ s i bounded live. subst (IsConsidered parts (stated spread_at all)) (sym (schema-Var s i)) (at_var s i (in_var parts sort s i bounded)))
      (λ f args bounded live. subst (IsConsidered parts (stated spread_at all)) (sym (schema-App f args))
      (application f (map schema_of args) sort (in_app parts f args sort bounded).explored
      (spread args (subst (λ x. Each (λ a. In a (stated live_at all)) (arguments_of x)) (outs-App f args) live))
      (ap (sort_of parts) (sym (schema-App f args)) ∙ schema_sort parts (App f args) ∙ bounded.sorted)
      (subst (λ n. n ≤ parts.settings.size) (sym (schema_weight parts (App f args)) ∙ ap (weight parts) (schema-App f args)) bounded.small)))
    where
      at_var : (s : SortId) (i : ℕ) → IsVarOf parts sort s i → IsConsidered parts (stated spread_at all) (Var s 0)
      at_var s i v = let h = v.below in variable s v.declared (omega arith)

      spread : (args : List Tree) → Each (λ a. In a (stated live_at all)) args → Each (λ c. In c (stated spread_at all)) (map schema_of args)
      spread [] h = tt
      spread (a ∷ args) h = let (c, c_in, is) = live_instance a h.0 in (subst (λ x. In x (stated spread_at all)) (sym is.schema) c_in, spread args h.1)

  -- by its own entry
  by_term : (sort : SortId) (t : Tree) → InU parts sort t → (front : List Entry) (x : Entry) (back : List Entry) → all ≡ front ++ x ∷ back
      → IsEntry parts pools all front x back → In t (term_at x) → Reached sort t
  by_term sort t bounded front (e.Live u) back split is at = by (in_rest at)
    where
      there_is : In u (stated live_at all)
      there_is = subst (In u) (sym (ap (stated live_at) split ∙ stated_parts live_at front (e.Live u ∷ back))) (in_right (stated live_at front) here)

      by : (t ≡ u) ⊎ In t [] → Reached sort t
      by (inl same) = record { to = t; is_live = subst (λ z. In z (stated live_at all)) (sym same) there_is; upto = inl refl; bounded = bounded; same = same_itself parts pools t; derivable = reflexive t }
      by (inr no_more) = in_none no_more
  by_term sort t bounded front (e.Moved q steps) back split is at = by (in_rest at)
    where
      there_is : In q.right (stated live_at all)
      there_is = subst (In q.right) (sym (ap (stated live_at) split ∙ stated_parts live_at front (e.Moved q steps ∷ back))) (in_left (stated live_at (e.Moved q steps ∷ back)) is.0.earlier)

      moved : InU parts sort q.left → Reached sort q.left
      moved left = record {
        to = q.right;
        is_live = there_is;
        upto = inr (earlier_before parts all front q steps back split in_order.rising q.right is.0.earlier);
        bounded = live_bounded sort q.right there_is (sym is.0.sorts ∙ left.sorted);
        same = is.1.same;
        derivable = derivable_before parts pools all valid.each front (e.Moved q steps ∷ back) split steps q.left q.right is.0.chain;
      }

      by : (t ≡ q.left) ⊎ In t [] → Reached sort t
      by (inl same) = subst (Reached sort) (sym same) (moved (subst (InU parts sort) same bounded))
      by (inr no_more) = in_none no_more
  by_term sort t bounded front x back split is at = in_none at

  -- by the target of its killed schema, renamed
  by_killed : (sort : SortId) (t : Tree) → InU parts sort t → ((w : Tree) → IsBefore parts w t → InU parts sort w → Reached sort w)
      → (front : List Entry) (q : Equation) (steps : List Step) (back : List Entry) → all ≡ front ++ e.Killed q steps ∷ back
      → IsKilled parts front q steps → Agrees parts pools q.left q.right → schema_of t ≡ schema_of q.left → Reached sort t
  by_killed sort t bounded have front q steps back split is agree schema = by_way_of sort t w (inr before) same derivable (have w before w_bounded)
    where
      is_t : substituted (renamed (filling t)) q.left ≡ t
      is_t = filled q.left t is.general (sym schema)

      w : Tree
      w = substituted (renamed (filling t)) q.right

      before : IsBefore parts (substituted (renamed (filling t)) q.right) t
      before = schema_before parts (substituted (renamed (filling t)) q.right) t
          (subst₂ (IsBefore parts) (sym (renamed_schema (filling t) q.right)) (sym schema) is.falls)

      sorts : is.sort ≡ sort
      sorts = some_is is.sort sort (sym is.left.sorted ∙ sym (schema_sort parts q.left) ∙ ap (sort_of parts) (sym schema) ∙ schema_sort parts t ∙ bounded.sorted)

      w_bounded : InU parts sort (substituted (renamed (filling t)) q.right)
      w_bounded = subst (λ s. InU parts s (substituted (renamed (filling t)) q.right)) sorts
          (renamed_in parts (filling t) (filling_renames parts t (bounded_vars parts t bounded.bounded)) is.sort q.right is.right)

      same : Same parts pools t (substituted (renamed (filling t)) q.right)
      same = subst (λ x. Same parts pools x (substituted (renamed (filling t)) q.right)) is_t
          (same_renamed parts pools wide (filling t) (filling_renames parts t (bounded_vars parts t bounded.bounded)) q.left q.right
          (bounded_vars parts q.left is.left.bounded) (bounded_vars parts q.right is.right.bounded) agree.same)

      derivable : Derivable parts (base_of parts all) t (substituted (renamed (filling t)) q.right)
      derivable = subst (λ x. Derivable parts (base_of parts all) x (substituted (renamed (filling t)) q.right)) is_t
          (derivable_instance parts (base_of parts all) (renamed (filling t)) (renaming_keeps parts (filling t))
          (derivable_before parts pools all valid.each front (e.Killed q steps ∷ back) split steps q.left q.right is.chain))

  -- such a term is an instance of a spread schema, or of a killed one
  by_schema : (sort : SortId) (t : Tree) → InU parts sort t → Each (λ a. In a (stated live_at all)) (arguments_of (out-Tree t))
      → ((w : Tree) → IsBefore parts w t → InU parts sort w → Reached sort w)
      → (front : List Entry) (x : Entry) (back : List Entry) → all ≡ front ++ x ∷ back → IsEntry parts pools all front x back → In (schema_of t) (schema_at x) → Reached sort t
  by_schema sort t bounded live have front (e.Killed q steps) back split is at = by (in_rest at)
    where
      by : (schema_of t ≡ schema_of q.left) ⊎ In (schema_of t) [] → Reached sort t
      by (inl same) = by_killed sort t bounded have front q steps back split is.0 is.1 same
      by (inr no_more) = in_none no_more
  by_schema sort t bounded live have front (e.Spread c) back split is at = by (in_rest at)
    where
      in_all : In t (terms_after back) → In t (stated term_at all)
      in_all h = subst (In t) (sym (ap (stated term_at) split ∙ stated_parts term_at front (e.Spread c ∷ back))) (in_right (stated term_at front) (after_term t back h))

      by : (schema_of t ≡ c) ⊎ In (schema_of t) [] → Reached sort t
      by (inl same) = let p = stated_by term_at t all (in_all ((is.members t).1 (record { sort = sort; bounded = bounded; schema = same; args = live }))) in
          by_term sort t bounded p.before p.entry p.after p.split (valid.each p.before p.entry p.after p.split) p.at
      by (inr no_more) = in_none no_more
  by_schema sort t bounded live have front x back split is at = in_none at

  settled : (sort : SortId) (t : Tree) → InU parts sort t → Each (λ a. In a (stated live_at all)) (arguments_of (out-Tree t))
      → ((w : Tree) → IsBefore parts w t → InU parts sort w → Reached sort w) → Reached sort t
  settled sort t bounded live have =
      let p = stated_by schema_at (schema_of t) all ((valid.schemas.members (schema_of t)).1 (considered sort t bounded live)) in
      by_schema sort t bounded live have p.before p.entry p.after p.split (valid.each p.before p.entry p.after p.split) p.at

  -- Arguments

  -- what a list of arguments reaches, one by one
  record AllReached (ts : List Tree) (ws : List SortId) : Type 0 where
    pub tos : List Tree
    pub are_live : Each (λ a. In a (stated live_at all)) tos
    pub upto : AreUpto parts tos ts
    pub bounded : AreInU parts tos ws
    pub same : AreSame parts pools ts tos
    pub derivable : AreDerivable parts (base_of parts all) ts tos

  all_reached : (ts : List Tree) (ws : List SortId) → AreInU parts ts ws → ((t : Tree) → In t ts → (sort : SortId) → InU parts sort t → Reached sort t) → AllReached ts ws
  all_reached [] [] h have = record { tos = []; are_live = tt; upto = tt; bounded = tt; same = tt; derivable = tt }
  all_reached [] (w ∷ ws) h have = absurd h
  all_reached (t ∷ ts) [] h have = absurd h
  all_reached (t ∷ ts) (w ∷ ws) h have =
      let r = have t here w h.0 in
      let rest = all_reached ts ws h.1 (λ a at. have a (there at)) in
      record {
        tos = r.to ∷ rest.tos;
        are_live = (r.is_live, rest.are_live);
        upto = (r.upto, rest.upto);
        bounded = (r.bounded, rest.bounded);
        same = (r.same, rest.same);
        derivable = (r.derivable, rest.derivable);
      }

  -- what is before an earlier term is before the term
  before_upto : (w s t : Tree) → IsBefore parts w s → IsUpto parts s t → IsBefore parts w t
  before_upto w s t before (inl same) = subst (IsBefore parts w) same before
  before_upto w s t before (inr h) = before_chain parts w s t before h

  lighter_upto : (s t : Tree) → IsUpto parts s t → weight parts s ≤ weight parts t
  lighter_upto s t (inl same) = subst (λ x. weight parts s ≤ weight parts x) same (omega arith)
  lighter_upto s t (inr h) = before_weight parts s t h

  abbrev Claim : Tree → Type 0
  Claim t = (sort : SortId) → InU parts sort t → Reached sort t

  at_app : (f : SymId) (args : List Tree) → ((s : Tree) → IsBefore parts s (App f args) → Claim s) → Claim (App f args)
  at_app f args have sort bounded =
      let a = in_app parts f args sort bounded in
      let r = all_reached args (args_of a.symbol) a.arguments (λ x at. have x (lighter_before parts x (App f args) (arg_weight parts weighs f args x at))) in
      let upto = all_upto parts f r.tos args r.upto in
      let lighter = lighter_upto (App f r.tos) (App f args) upto in
      let small = bounded.small in
      by_way_of sort (App f args) (App f r.tos) upto (same_app_args parts pools f args r.tos r.same) (derivable_args parts (base_of parts all) f args r.tos r.derivable)
      (settled sort (App f r.tos)
      (app_in parts f r.tos sort (record { explored = a.explored; symbol = a.symbol; declared = a.declared; result = a.result; arguments = r.bounded; small = omega arith }))
      (subst (λ x. Each (λ a. In a (stated live_at all)) (arguments_of x)) (sym (outs-App f r.tos)) r.are_live)
      (λ w before. have w (before_upto w (App f r.tos) (App f args) before upto) sort))

  at_var : (s : SortId) (i : ℕ) → ((w : Tree) → IsBefore parts w (Var s i) → Claim w) → Claim (Var s i)
  at_var s i have sort bounded = settled sort (Var s i) bounded (subst (λ x. Each (λ a. In a (stated live_at all)) (arguments_of x)) (sym (outs-Var s i)) tt)
      (λ w before. have w before sort)

  pub reached : (t : Tree) → (sort : SortId) → InU parts sort t → Reached sort t
  reached = explore_induct parts weighs Claim (tree_cases (λ t. ((s : Tree) → IsBefore parts s t → Claim s) → Claim t) at_var at_app)
