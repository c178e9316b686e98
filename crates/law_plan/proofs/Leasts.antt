-- Least terms: that a term has one, that the arguments of a least term are least, and that a killed schema has no instance
-- that is least.
use Rattle.std.proofs.Common.{◌≡◌, ◌≢◌, ◌≤◌, ◌⊎◌, ◌↔◌, inl, inr, List, [], ◌∷◌, sym, ap, ◌∙◌, subst, subst₂, arith}
use Rattle.law_sig.specs.Lists.{In, Each}
use Rattle.law_sig.specs.Trees.{schema_of, substituted}
use Rattle.law_sig.specs.Signature.{args_of, sort_of}
use Rattle.law_sig.specs.Tests.{weight, InU, Pools, Same}
use Rattle.law_sig.specs.Order.{IsBefore}
use Rattle.law_sig.specs.Laws.{IsLeast}
use Rattle.law_sig.specs.declared.tree.SortId.{SortId}
use Rattle.law_sig.specs.declared.tree.SymId.{SymId}
use Rattle.law_sig.specs.declared.tree.Tree.{Tree}
use Rattle.law_sig.specs.declared.tree.Tree.TheVariants.{App}
use Rattle.law_sig.specs.declared.parts.SigParts.{SigParts}
use Rattle.law_laws.specs.Orders.{WeighsSomething}
use Rattle.law_laws.specs.Renaming.{HasWidth, Renames, renamed}
use Rattle.law_sig.specs.General.{filling}
use Rattle.law_laws.proofs.TreeFacts.{same_app}
use Rattle.law_laws.proofs.BodyFacts.{some_is}
use Rattle.law_laws.proofs.Sorts.{substituted_sort}
use Rattle.law_laws.proofs.Orders.{never_before_itself, before_chain, before_weight, IsUpto, AreUpto, all_upto}
use Rattle.law_laws.proofs.Agreement.{same_itself, same_back, least_moves, one_least, least_itself, AreSame, same_app_args}
use Rattle.law_laws.proofs.Renaming.{bounded_vars, same_renamed, renaming_keeps}
use Rattle.law_laws.proofs.Filling.{filled, filling_renames}
use Rattle.law_laws.proofs.Universe.{AreInU, IsAppOf, in_app, app_in, renamed_in}
use Rattle.law_sig.specs.Least.{AreAlike, HasLeast, IsOwnLeast}
use Rattle.law_plan.specs.Kills.{IsGeneral, Kills}
use Rattle.law_plan.specs.Search.{IsFound}
use Rattle.law_laws.proofs.Orders.{schema_before}
use Rattle.law_laws.proofs.Enumeration.{has_least}
use Rattle.law_plan.proofs.Terms.{renamed_schema}

module _ (parts : SigParts) (pools : Pools) where
  pub least_alike : (t u : Tree) → HasLeast parts pools t u → AreAlike parts pools t u
  least_alike t u l = record { sort = l.sort; left = l.least.sorted; right = l.least.bounded.sorted; same = l.least.same }

  -- a least term is the least of each that is like it
  pub alike_least : (t u : Tree) → AreAlike parts pools t u → IsOwnLeast parts pools u → HasLeast parts pools t u
  alike_least t u a own = record {
    sort = own.sort;
    least = least_moves parts pools own.sort u t u (a.left ∙ sym a.right ∙ own.least.sorted) (same_back parts pools t u a.same) own.least;
  }

  pub own_least : (t u : Tree) → HasLeast parts pools t u → IsOwnLeast parts pools u
  own_least t u l = record { sort = l.sort; least = least_itself parts pools l.sort t u l.least }

  pub same_least : (t u w : Tree) → HasLeast parts pools t u → HasLeast parts pools t w → u ≡ w
  same_least t u w l m = one_least parts pools l.sort t u w l.least
      (subst (λ s. IsLeast parts pools s t w) (some_is m.sort l.sort (sym m.least.sorted ∙ l.least.sorted)) m.least)

  -- it is the term, or stands before it
  pub least_upto : (sort : SortId) (t u : Tree) → InU parts sort t → IsLeast parts pools sort t u → IsUpto parts u t
  least_upto sort t u t_in l = by (l.least t t_in (same_itself parts pools t))
    where
      by : (t ≡ u) ⊎ IsBefore parts u t → IsUpto parts u t
      by (inl e) = inl (sym e)
      by (inr h) = inr h

  -- The arguments of a least term

  module _ (weighs : WeighsSomething parts) where
    -- terms replaced by their leasts
    pub record IsLowered (ts : List Tree) (ws : List SortId) (us : List Tree) : Type 0 where
      pub upto : AreUpto parts us ts
      pub same : AreSame parts pools ts us
      pub bounded : AreInU parts us ws
      pub own : Each (IsOwnLeast parts pools) us

    lowered : (ts : List Tree) (ws : List SortId) → AreInU parts ts ws → (us : List Tree) × IsLowered ts ws us
    lowered [] [] h = ([], record { upto = tt; same = tt; bounded = tt; own = tt })
    lowered [] (w ∷ ws) h = absurd h
    lowered (t ∷ ts) [] h = absurd h
    lowered (t ∷ ts) (w ∷ ws) h = by (has_least parts pools weighs w t h.0) (lowered ts ws h.1)
      where
        by : (u : Tree) × IsLeast parts pools w t u → (us : List Tree) × IsLowered ts ws us → (us : List Tree) × IsLowered (t ∷ ts) (w ∷ ws) us
        by (u, l) (us, k) = (
          u ∷ us,
          record {
            upto = (least_upto w t u h.0 l, k.upto);
            same = (l.same, k.same);
            bounded = (l.bounded, k.bounded);
            own = (record { sort = w; least = least_itself parts pools w t u l }, k.own);
          },
        )

    pub own_args : (f : SymId) (args : List Tree) → IsOwnLeast parts pools (App f args) → Each (IsOwnLeast parts pools) args
    own_args f args own = by (lowered args (args_of a.symbol) a.arguments)
      where
        a : IsAppOf parts f args own.sort
        a = in_app parts f args own.sort own.least.bounded

        light : (us : List Tree) → IsUpto parts (App f us) (App f args) → weight parts (App f us) ≤ parts.settings.size
        light us (inl e) = subst (λ x. weight parts x ≤ parts.settings.size) (sym e) a.small
        light us (inr h) = let k = before_weight parts (App f us) (App f args) h in let l = a.small in omega arith

        same_args : (us : List Tree) → IsUpto parts (App f us) (App f args) → (App f us ≡ App f args) ⊎ IsBefore parts (App f args) (App f us) → us ≡ args
        same_args us (inl e) k = (same_app f f us args e).1
        same_args us (inr h) (inl e) = (same_app f f us args e).1
        same_args us (inr h) (inr k) = absurd (never_before_itself parts (App f us) (before_chain parts (App f us) (App f args) (App f us) h k))

        by : (us : List Tree) × IsLowered args (args_of a.symbol) us → Each (IsOwnLeast parts pools) args
        by (us, l) =
            let upto : IsUpto parts (App f us) (App f args) = all_upto parts f us args l.upto in
            let us_in : InU parts own.sort (App f us) = app_in parts f us own.sort (record {
              explored = a.explored;
              symbol = a.symbol;
              declared = a.declared;
              result = a.result;
              arguments = l.bounded;
              small = light us upto;
            }) in
            subst (Each (IsOwnLeast parts pools))
            (same_args us upto (own.least.least (App f us) us_in (same_app_args parts pools f args us l.same))) l.own

  -- A killed schema has no least instance

  pub killed_none : HasWidth parts → (c g u t : Tree) → Kills parts pools c g u → schema_of t ≡ c → IsOwnLeast parts pools t → ⊥
  killed_none wide c g u t k e own = by (own.least.least v v_in v_same)
    where
      renames : Renames parts (filling t)
      renames = filling_renames parts t (bounded_vars parts t own.least.bounded.bounded)

      v : Tree
      v = substituted (renamed (filling t)) u

      is : substituted (renamed (filling t)) g ≡ t
      is = filled g t k.general.numbered (k.general.schema ∙ sym e)

      v_same : Same parts pools t v
      v_same = subst (λ x. Same parts pools x v) is (same_renamed parts pools wide (filling t) renames g u
          (bounded_vars parts g k.general.bounded.bounded) (bounded_vars parts u k.least.least.bounded.bounded) k.least.least.same)

      sorts : k.least.sort ≡ own.sort
      sorts = some_is k.least.sort own.sort (sym (substituted_sort parts (renamed (filling t)) (renaming_keeps parts (filling t)) g k.least.sort k.least.least.sorted)
          ∙ ap (sort_of parts) is ∙ own.least.sorted)

      v_in : InU parts own.sort v
      v_in = subst (λ s. InU parts s v) sorts (renamed_in parts (filling t) renames k.least.sort u k.least.least.bounded)

      before : IsBefore parts v t
      before = schema_before parts v t (subst₂ (IsBefore parts) (sym (renamed_schema (filling t) u)) (sym e) k.falls)

      by : (v ≡ t) ⊎ IsBefore parts t v → ⊥
      by (inl same) = never_before_itself parts t (subst (λ x. IsBefore parts x t) same before)
      by (inr after) = never_before_itself parts t (before_chain parts t v t after before)

  -- What the live terms so far decide

  pub schema_decided : (lives : List Tree) (c g : Tree) → IsGeneral parts c g
      → ((u : Tree) → In u lives ↔ (IsOwnLeast parts pools u × IsBefore parts (schema_of u) c))
      → (u : Tree) → IsFound parts pools lives g u ↔ Kills parts pools c g u
  schema_decided lives c g general are u = (
    λ f. let h = (are u).0 f.held in record { general = general; least = alike_least g u f.alike h.0; falls = h.1 },
    λ k. record { held = (are u).1 (own_least g u k.least, k.falls); alike = least_alike g u k.least },
  )

  pub term_decided : (lives : List Tree) (sort : SortId) (t : Tree) → InU parts sort t
      → ((u : Tree) → In u lives ↔ (IsOwnLeast parts pools u × IsBefore parts u t))
      → (u : Tree) → IsFound parts pools lives t u ↔ (HasLeast parts pools t u × (t ≢ u))
  term_decided lives sort t t_in are u = (
    λ f. let h = (are u).0 f.held in (alike_least t u f.alike h.0, λ e. never_before_itself parts u (subst (IsBefore parts u) e h.1)),
    λ k. record { held = (are u).1 (own_least t u k.0, earlier k.0 k.1); alike = least_alike t u k.0 },
  )
    where
      earlier : HasLeast parts pools t u → t ≢ u → IsBefore parts u t
      earlier l other = by (least_upto l.sort t u (subst (λ s. InU parts s t) (some_is sort l.sort (sym t_in.sorted ∙ l.least.sorted)) t_in) l.least)
        where
          by : IsUpto parts u t → IsBefore parts u t
          by (inl e) = absurd (other (sym e))
          by (inr h) = h
