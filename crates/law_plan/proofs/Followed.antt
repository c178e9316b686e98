-- Whoever goes in order finds the plan: the entries so far are right, and what they lack stands behind them.
use Rattle.std.proofs.Common.{◌≡◌, ◌≢◌, ℕ, ◌<◌, ◌≤◌, ◌⊎◌, ◌↔◌, inl, inr, List, [], ◌∷◌, ◌++◌, map, refl, sym, ap, ◌∙◌, subst, arith}
use Rattle.law_sig.specs.Lists.{In, Each, Rising}
use Rattle.law_sig.specs.Lists.In.{here}
use Rattle.law_sig.specs.Trees.{schema_of}
use Rattle.law_sig.specs.Signature.{sort_of, vars_at}
use Rattle.law_sig.specs.Tests.{weight, InU, Pools}
use Rattle.law_sig.specs.Order.{IsBefore}
use Rattle.law_sig.specs.Laws.{IsLeast}
use Rattle.law_sig.specs.declared.tree.SortId.{SortId}
use Rattle.law_sig.specs.declared.tree.SymId.{SymId}
use Rattle.law_sig.specs.declared.tree.Tree.{Tree}
use Rattle.law_sig.specs.declared.tree.Tree.TheVariants.{Var, App, outs-Var, outs-App}
use Rattle.law_sig.specs.declared.tree.Tree.TheViews.{out-Tree}
use Rattle.law_sig.specs.declared.parts.SigParts.{SigParts}
use Rattle.law_laws.specs.Orders.{WeighsSomething}
use Rattle.law_laws.specs.Renaming.{HasWidth}
use Rattle.law_laws.proofs.TreeFacts.{tree_induct, schema-Var, schema-App}
use Rattle.law_laws.proofs.ListFacts.{in_none, in_left, in_right, in_map, each_of, of_each, each_map}
use Rattle.law_laws.proofs.Sorts.{schema_sort}
use Rattle.law_laws.proofs.Orders.{schema_weight, IsUpto}
use Rattle.law_laws.proofs.Descents.{explore_induct}
use Rattle.law_laws.proofs.Agreement.{one_order}
use Rattle.law_laws.proofs.Orders.{lighter_before}
use Rattle.law_laws.proofs.Universe.{IsVarOf, in_var, in_app}
use Rattle.law_sig.specs.Schemas.{IsConsidered, arguments_of}
use Rattle.law_sig.specs.Schemas.IsConsidered.{variable, application}
use Rattle.law_sig.specs.Expected.{IsAbove}
use Rattle.law_sig.specs.Least.{HasLeast, IsOwnLeast}
use Rattle.law_plan.specs.Kills.{IsGeneral, Kills, IsSpared}
use Rattle.law_valid.specs.Stated.{stated}
use Rattle.law_plan.specs.Plan.{Item, schema, term, Precedes, Entry, spread, killed, live, moved, item_of, spread_at, live_at, IsPlannedTerm, IsPlanned, IsRight, IsEntry, StandsBefore, IsPlan}
use Rattle.law_plan.specs.Search.{IsDue, IsFound, NoneFound, IsDecided, IsNext, AreFollowed, AreAll}
use Rattle.law_plan.specs.Search.AreFollowed.{start, next}
use Rattle.law_laws.proofs.Enumeration.{has_least}
use Rattle.law_plan.proofs.Leasts.{least_alike, alike_least, own_least, least_upto, own_args, killed_none}
use Rattle.law_plan.proofs.Items.{never_itself, item_chain, never_both, items_decided, term_precedes, schema_precedes, lighter_term, each_end, rising_end, in_end, each_mapped, in_spread, spread_in, in_live, live_in}
use Rattle.law_plan.proofs.Planned.{arg_lighter, considered_by, entry_more, planned_before, one_entry}

module _ (parts : SigParts) (pools : Pools) (weighs : WeighsSomething parts) (wide : HasWidth parts) where
  -- these entries are of the plan as far as they go, and every other entry that their spread schemas give stands behind them
  pub record AreRight (xs : List Entry) : Type 0 where
    pub rising : Rising (StandsBefore parts) xs
    pub sound : (e : Entry) → In e xs → IsEntry parts pools (stated spread_at xs) e
    pub whole : (e : Entry) → IsEntry parts pools (stated spread_at xs) e → In e xs ⊎ IsAbove (Precedes parts) (map item_of xs) (item_of e)

  -- Where an entry that is due isn't missing, all least terms are live

  module _ (xs : List Entry) (sound : (e : Entry) → In e xs → IsEntry parts pools (stated spread_at xs) e) (Reached : Item → Type 0)
      (down : (x y : Item) → Precedes parts x y → Reached y → Reached x)
      (has : (e : Entry) → IsEntry parts pools (stated spread_at xs) e → IsDue parts xs (item_of e) → Reached (item_of e) → In e xs) where
    pub own_live : (a : Tree) → In a (stated live_at xs) → IsOwnLeast parts pools a
    own_live a at = (sound (live a) (live_in xs a at)).right

    own_spread : (a : Tree) → In a (stated live_at xs) → In (schema_of a) (stated spread_at xs)
    own_spread a at = (sound (live a) (live_in xs a at)).planned.owned

    spread_here : (c : Tree) → IsConsidered parts (stated spread_at xs) c → IsSpared parts pools c → Reached (schema c) → In c (stated spread_at xs)
    spread_here c considered spared reached = in_spread (has (spread c) (record { planned = considered; right = spared }) considered reached)

    live_here : (t : Tree) → IsOwnLeast parts pools t → IsConsidered parts (stated spread_at xs) (schema_of t)
        → Each (λ a. In a (stated live_at xs)) (arguments_of (out-Tree t)) → Reached (term t) → In t (stated live_at xs)
    live_here t own considered held reached = in_live (has (live t) (record { planned = planned; right = own })
        (record { owned = owned; instance_of = record { sort = own.sort; bounded = own.least.bounded; schema = refl; args = held } }) reached)
      where
        owned : In (schema_of t) (stated spread_at xs)
        owned = spread_here (schema_of t) considered (λ g u k. killed_none parts pools wide (schema_of t) g u t k refl own)
            (down (schema (schema_of t)) (term t) (schema_precedes parts t) reached)

        planned : IsPlannedTerm parts pools (stated spread_at xs) t
        planned = record { sort = own.sort; bounded = own.least.bounded; owned = owned; args = each_map _ _ own_live (arguments_of (out-Tree t)) held }

    pub reached_live : (t : Tree) → IsOwnLeast parts pools t → Reached (term t) → In t (stated live_at xs)
    reached_live = tree_induct (λ t. IsOwnLeast parts pools t → Reached (term t) → In t (stated live_at xs)) at_var at_app
      where
        some : (n i : ℕ) → i < n → 1 ≤ n
        some n i h = omega arith

        at_var : (s : SortId) (i : ℕ) → IsOwnLeast parts pools (Var s i) → Reached (term (Var s i)) → In (Var s i) (stated live_at xs)
        at_var s i own reached =
            let v : IsVarOf parts own.sort s i = in_var parts own.sort s i own.least.bounded in
            live_here (Var s i) own
            (subst (IsConsidered parts (stated spread_at xs)) (sym (schema-Var s i)) (variable s v.declared (some (vars_at parts s) i v.below)))
            (subst (λ x. Each (λ a. In a (stated live_at xs)) (arguments_of x)) (sym (outs-Var s i)) tt) reached

        at_app : (f : SymId) (args : List Tree) → Each (λ t. IsOwnLeast parts pools t → Reached (term t) → In t (stated live_at xs)) args
            → IsOwnLeast parts pools (App f args) → Reached (term (App f args)) → In (App f args) (stated live_at xs)
        at_app f args have own reached = live_here (App f args) own
            (subst (IsConsidered parts (stated spread_at xs)) (sym (schema-App f args)) (application f (map schema_of args) own.sort
            (in_app parts f args own.sort own.least.bounded).explored
            (each_mapped schema_of (λ c. In c (stated spread_at xs)) args (each_map _ _ own_spread args held))
            (ap (sort_of parts) (sym (schema-App f args)) ∙ schema_sort parts (App f args) ∙ own.least.bounded.sorted)
            (subst (λ x. weight parts x ≤ parts.settings.size) (schema-App f args)
            (subst (λ n. n ≤ parts.settings.size) (sym (schema_weight parts (App f args))) own.least.bounded.small))))
            (subst (λ x. Each (λ a. In a (stated live_at xs)) (arguments_of x)) (sym (outs-App f args)) held) reached
          where
            held : Each (λ a. In a (stated live_at xs)) args
            held = each_of (λ a. In a (stated live_at xs)) args (λ a at. of_each _ at have
                (of_each (IsOwnLeast parts pools) at (own_args parts pools weighs f args own))
                (down (term a) (term (App f args)) (lighter_term parts a (App f args)
                (arg_lighter parts weighs (App f args) a (subst (λ x. In a (arguments_of x)) (sym (outs-App f args)) at))) reached))

    -- so what is planned there is due
    pub planned_due : (x : Item) → IsPlanned parts pools (stated spread_at xs) x → Reached x → IsDue parts xs x
    planned_due (schema c) p reached = p
    planned_due (term t) p reached = record {
      owned = p.owned;
      instance_of = record {
        sort = p.sort;
        bounded = p.bounded;
        schema = refl;
        args = each_of (λ a. In a (stated live_at xs)) (arguments_of (out-Tree t)) (λ a at. reached_live a (of_each (IsOwnLeast parts pools) at p.args)
            (down (term a) (term t) (lighter_term parts a t (arg_lighter parts weighs t a at)) reached));
      };
    }

    -- and nothing of the plan is missing there
    pub none_missing : (e : Entry) → IsEntry parts pools (stated spread_at xs) e → Reached (item_of e) → In e xs
    none_missing e h reached = has e h (planned_due (item_of e) h.planned reached) reached

  -- One more entry

  module _ (xs : List Entry) (right : AreRight xs) (e : Entry) (is : IsNext parts pools xs e) where
    abbrev Reached : Item → Type 0
    Reached x = Precedes parts x (item_of e)

    down : (x y : Item) → Precedes parts x y → Reached y → Reached x
    down x y h k = item_chain parts x y (item_of e) h k

    has : (d : Entry) → IsEntry parts pools (stated spread_at xs) d → IsDue parts xs (item_of d) → Reached (item_of d) → In d xs
    has d h due reached = at_one (right.whole d h)
      where
        later : (item_of d ≡ item_of e) ⊎ Precedes parts (item_of e) (item_of d) → In d xs
        later (inl same) = absurd (never_itself parts (item_of e) (subst (λ y. Precedes parts y (item_of e)) same reached))
        later (inr after) = absurd (never_both parts (item_of d) (item_of e) reached after)

        at_one : In d xs ⊎ IsAbove (Precedes parts) (map item_of xs) (item_of d) → In d xs
        at_one (inl at) = at
        at_one (inr above) = later (is.first.least (item_of d) due above)

    pub before_it : (d : Entry) → In d xs → StandsBefore parts d e
    before_it d at = of_each (λ x. Precedes parts x (item_of e)) (in_map item_of at) is.first.above

    -- the live terms so far are the least terms before it
    live_before : (u : Tree) → IsOwnLeast parts pools u → Precedes parts (term u) (item_of e) → In u (stated live_at xs)
    live_before u own h = reached_live xs right.sound Reached down has u own h

    own_before : (u : Tree) → In u (stated live_at xs) → IsOwnLeast parts pools u
    own_before u at = own_live xs right.sound Reached down has u at

    stands_before : (u : Tree) → In u (stated live_at xs) → Precedes parts (term u) (item_of e)
    stands_before u at = before_it (live u) (live_in xs u at)

    found_least : (t u : Tree) → IsFound parts pools (stated live_at xs) t u → HasLeast parts pools t u
    found_least t u f = alike_least parts pools t u f.alike (own_before u f.held)

    least_found : (t u : Tree) → HasLeast parts pools t u → Precedes parts (term u) (item_of e) → IsFound parts pools (stated live_at xs) t u
    least_found t u l h = record { held = live_before u (own_least parts pools t u l) h; alike = least_alike parts pools t u l }

    -- so it is right

    spared_right : (c : Tree) → item_of e ≡ schema c → ((g : Tree) → IsGeneral parts c g → NoneFound parts pools (stated live_at xs) g) → IsSpared parts pools c
    spared_right c same nothing g u k = nothing g k.general u (least_found g u k.least (subst (Precedes parts (term u)) (sym same) (inl k.falls)))

    killed_right : (g u : Tree) → item_of e ≡ schema (schema_of g) → IsGeneral parts (schema_of g) g → IsFound parts pools (stated live_at xs) g u
        → Kills parts pools (schema_of g) g u
    killed_right g u same general f = record { general = general; least = found_least g u f; falls = falls (subst (Precedes parts (term u)) same (stands_before u f.held)) }
      where
        falls : Precedes parts (term u) (schema (schema_of g)) → IsBefore parts (schema_of u) (schema_of g)
        falls (inl h) = h
        falls (inr h) = absurd h.1

    live_right : (t : Tree) → item_of e ≡ term t → (sort : SortId) → InU parts sort t → NoneFound parts pools (stated live_at xs) t → IsOwnLeast parts pools t
    live_right t same sort t_in nothing = by (has_least parts pools weighs sort t t_in)
      where
        by : (u : Tree) × IsLeast parts pools sort t u → IsOwnLeast parts pools t
        by (u, l) = at (least_upto parts pools sort t u t_in l)
          where
            at : IsUpto parts u t → IsOwnLeast parts pools t
            at (inl k) = record { sort = sort; least = subst (IsLeast parts pools sort t) k l }
            at (inr h) = absurd (nothing u (least_found t u (record { sort = sort; least = l }) (subst (Precedes parts (term u)) (sym same) (term_precedes parts u t h))))

    moved_right : (t u : Tree) → item_of e ≡ term t → IsFound parts pools (stated live_at xs) t u → HasLeast parts pools t u × (t ≢ u)
    moved_right t u same f = (found_least t u f, λ k. never_itself parts (term u) (subst (Precedes parts (term u)) (same ∙ ap term k) (stands_before u f.held)))

    pub next_right : (d : Entry) → d ≡ e → IsDue parts xs (item_of d) → IsDecided parts pools (stated live_at xs) d → IsRight parts pools d
    next_right (spread c) same due decided = spared_right c (ap item_of (sym same)) decided
    next_right (killed g u) same due decided = killed_right g u (ap item_of (sym same)) decided.0 decided.1
    next_right (live t) same due decided = live_right t (ap item_of (sym same)) due.instance_of.sort due.instance_of.bounded decided
    next_right (moved t u) same due decided = moved_right t u (ap item_of (sym same)) decided

    due_planned : (x : Item) → IsDue parts xs x → IsPlanned parts pools (stated spread_at xs) x
    due_planned (schema c) due = due
    due_planned (term t) due = record {
      sort = due.instance_of.sort;
      bounded = due.instance_of.bounded;
      owned = due.owned;
      args = each_map _ _ own_before (arguments_of (out-Tree t)) due.instance_of.args;
    }

    -- no planned item stands between the entries so far and the next
    pub nothing_between : (x : Item) → IsPlanned parts pools (stated spread_at xs) x → IsAbove (Precedes parts) (map item_of xs) x → Precedes parts x (item_of e) → ⊥
    nothing_between x p above reached = by (is.first.least x (planned_due xs right.sound Reached down has x p reached) above)
      where
        by : (x ≡ item_of e) ⊎ Precedes parts (item_of e) x → ⊥
        by (inl same) = never_itself parts (item_of e) (subst (λ y. Precedes parts y (item_of e)) same reached)
        by (inr after) = never_both parts x (item_of e) reached after

    more : (c : Tree) → In c (stated spread_at xs) → In c (stated spread_at (xs ++ e ∷ []))
    more c at = in_spread (in_left (e ∷ []) (spread_in xs c at))

    pub is_entry : IsEntry parts pools (stated spread_at xs) e
    is_entry = record { planned = due_planned (item_of e) is.first.is; right = next_right e refl is.first.is is.decided }

    pub one_more : AreRight (xs ++ e ∷ [])
    one_more = record {
      rising = rising_end (StandsBefore parts) xs e right.rising (each_of (λ d. StandsBefore parts d e) xs before_it);
      sound = λ d at. sound d (in_end xs e d at);
      whole = λ d h. whole d h (items_decided parts (item_of d) (item_of e));
    }
      where
        sound : (d : Entry) → In d xs ⊎ (d ≡ e) → IsEntry parts pools (stated spread_at (xs ++ e ∷ [])) d
        sound d (inl at) = entry_more parts weighs pools (stated spread_at xs) (stated spread_at (xs ++ e ∷ [])) d more (right.sound d at)
        sound d (inr same) = subst (IsEntry parts pools (stated spread_at (xs ++ e ∷ []))) (sym same)
            (entry_more parts weighs pools (stated spread_at xs) (stated spread_at (xs ++ e ∷ [])) e more is_entry)

        above : (d : Entry) → Precedes parts (item_of e) (item_of d) → IsAbove (Precedes parts) (map item_of (xs ++ e ∷ [])) (item_of d)
        above d h = each_mapped item_of (λ x. Precedes parts x (item_of d)) (xs ++ e ∷ [])
            (each_end (λ b. Precedes parts (item_of b) (item_of d)) xs e
            (each_of (λ b. Precedes parts (item_of b) (item_of d)) xs (λ b at. item_chain parts (item_of b) (item_of e) (item_of d) (before_it b at) h)) h)

        whole : (d : Entry) → IsEntry parts pools (stated spread_at (xs ++ e ∷ [])) d
            → (item_of d ≡ item_of e) ⊎ (Precedes parts (item_of d) (item_of e) ⊎ Precedes parts (item_of e) (item_of d))
            → In d (xs ++ e ∷ []) ⊎ IsAbove (Precedes parts) (map item_of (xs ++ e ∷ [])) (item_of d)
        whole d h (inl same) = inl (subst (λ x. In x (xs ++ e ∷ [])) (sym (one_entry parts pools d e same h.right is_entry.right)) (in_right xs here))
        whole d h (inr (inl before)) = inl (in_left (e ∷ []) (none_missing xs right.sound Reached down has d
            (record { planned = planned_before parts weighs pools xs e (item_of d) before h.planned; right = h.right }) before))
        whole d h (inr (inr after)) = inr (above d after)

  -- All entries

  pub followed_right : {xs : List Entry} → AreFollowed parts pools xs → AreRight xs
  followed_right start = record { rising = tt; sound = λ e at. in_none at; whole = λ e h. inr tt }
  followed_right (next xs e followed is) = one_more xs (followed_right followed) e is

  pub followed_plan : (xs : List Entry) → AreFollowed parts pools xs → AreAll parts xs → IsPlan parts pools xs
  followed_plan xs followed all = record {
    rising = right.rising;
    members = λ e. (right.sound e, λ h. none_missing xs right.sound (λ x. Unit {0}) (λ x y h k. tt) has e h tt);
  }
    where
      right : AreRight xs
      right = followed_right followed

      has : (e : Entry) → IsEntry parts pools (stated spread_at xs) e → IsDue parts xs (item_of e) → Unit {0} → In e xs
      has e h due reached = by (right.whole e h)
        where
          by : In e xs ⊎ IsAbove (Precedes parts) (map item_of xs) (item_of e) → In e xs
          by (inl at) = at
          by (inr above) = absurd (all (item_of e) due above)

  -- Of any plan

  -- its live terms are the least ones
  pub plan_live : (xs : List Entry) → IsPlan parts pools xs → (t : Tree) → In (live t) xs ↔ IsOwnLeast parts pools t
  plan_live xs plan t = (
    λ at. ((plan.members (live t)).0 at).right,
    λ own. live_in xs t (reached_live xs (λ e. (plan.members e).0) (λ x. Unit {0}) (λ x y h k. tt) (λ e h due reached. (plan.members e).1 h) t own tt),
  )

-- Two plans are the same

module _ (parts : SigParts) (pools : Pools) (weighs : WeighsSomething parts) where
  same_spreads : (xs ys : List Entry) → IsPlan parts pools xs → IsPlan parts pools ys → (c : Tree) → In c (stated spread_at xs) → In c (stated spread_at ys)
  same_spreads xs ys p q = explore_induct parts weighs (λ c. In c (stated spread_at xs) → In c (stated spread_at ys)) step
    where
      step : (c : Tree) → ((a : Tree) → IsBefore parts a c → In a (stated spread_at xs) → In a (stated spread_at ys)) → In c (stated spread_at xs) → In c (stated spread_at ys)
      step c have at =
          let h : IsEntry parts pools (stated spread_at xs) (spread c) = (p.members (spread c)).0 (spread_in xs c at) in
          in_spread ((q.members (spread c)).1 (record {
            planned = considered_by parts weighs (stated spread_at xs) (stated spread_at ys) c (λ a less at. have a (lighter_before parts a c less) at) h.planned;
            right = h.right;
          }))

  pub one_plan : (xs ys : List Entry) → IsPlan parts pools xs → IsPlan parts pools ys → xs ≡ ys
  one_plan xs ys p q = one_order (StandsBefore parts) (λ d e h k. never_both parts (item_of d) (item_of e) h k) xs ys p.rising q.rising (to xs ys p q) (to ys xs q p)
    where
      to : (xs ys : List Entry) → IsPlan parts pools xs → IsPlan parts pools ys → (e : Entry) → In e xs → In e ys
      to xs ys p q e at = (q.members e).1 (entry_more parts weighs pools (stated spread_at xs) (stated spread_at ys) e (same_spreads xs ys p q) ((p.members e).0 at))
