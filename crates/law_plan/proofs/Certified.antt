-- The plan meets what a valid certificate asks of its schemas and terms, apart from the chains.
use Rattle.std.proofs.Common.{◌≡◌, ◌≤◌, ◌⊎◌, inl, inr, List, ◌∷◌, ◌++◌, sym, ◌∙◌, subst}
use Rattle.law_sig.specs.Lists.{In, Rising}
use Rattle.law_sig.specs.Lists.In.{here}
use Rattle.law_sig.specs.Trees.{schema_of}
use Rattle.law_sig.specs.Tests.{Pools}
use Rattle.law_sig.specs.declared.tree.Tree.{Tree}
use Rattle.law_sig.specs.declared.parts.SigParts.{SigParts}
use Rattle.law_laws.specs.Orders.{WeighsSomething}
use Rattle.law_laws.specs.Renaming.{HasWidth}
use Rattle.law_laws.proofs.ListFacts.{in_rest, in_right, in_split, of_each}
use Rattle.law_laws.proofs.Orders.{IsUpto}
use Rattle.law_valid.specs.Order.{at_start, GoInOrder}
use Rattle.law_valid.specs.Stated.{stated}
use Rattle.law_valid.proofs.Walked.{in_order_whole}
use Rattle.law_plan.specs.Kills.{Kills}
use Rattle.law_plan.specs.Plan.{term, Precedes, Entry, killed, live, moved, decisions_of, spread_at, IsEntry, StandsBefore, IsPlan}
use Rattle.law_plan.specs.Existence.{IsFoundInOrder}
use Rattle.law_plan.specs.Certified.{IsKilledBy, IsMovedTo, IsCertified}
use Rattle.law_plan.proofs.Leasts.{own_least, least_upto}
use Rattle.law_plan.proofs.Items.{never_both, term_precedes, in_live}
use Rattle.law_plan.proofs.Followed.{plan_live}
use Rattle.law_plan.proofs.Beginnings.{rising_back}
use Rattle.law_plan.proofs.Walked.{plan_in_order}
use Rattle.law_plan.proofs.Exists.{plan_followed}

module _ (parts : SigParts) (weighs : WeighsSomething parts) (some : 1 ≤ parts.settings.size) (pools : Pools) (wide : HasWidth parts) (xs : List Entry) (plan : IsPlan parts pools xs) where
  kills_of : (g u : Tree) → In (killed g u) xs → IsKilledBy parts pools g u
  kills_of g u at = by ((plan.members (killed g u)).0 at).right
    where
      by : Kills parts pools (schema_of g) g u → IsKilledBy parts pools g u
      by k = record {
        sort = k.least.sort;
        left = record { sorted = k.least.least.sorted; bounded = k.general.bounded.bounded; small = k.general.bounded.small };
        general = k.general.numbered;
        right = k.least.least.bounded;
        falls = k.falls;
        same = k.least.least.same;
      }

  moves_of : (before : List Entry) (t u : Tree) (after : List Entry) → xs ≡ before ++ moved t u ∷ after → IsMovedTo parts pools before t u
  moves_of before t u after split = record {
    earlier = in_live (by (place (in_split before (moved t u ∷ after) (subst (In (live u)) split to))));
    sorts = h.right.0.least.sorted ∙ sym h.right.0.least.bounded.sorted;
    same = h.right.0.least.same;
  }
    where
      h : IsEntry parts pools (stated spread_at xs) (moved t u)
      h = (plan.members (moved t u)).0 (subst (In (moved t u)) (sym split) (in_right before here))

      to : In (live u) xs
      to = (plan_live parts pools weighs wide xs plan u).1 (own_least parts pools t u h.right.0)

      other : live u ≡ moved t u → ⊥
      other e = cc

      place : In (live u) before ⊎ In (live u) (moved t u ∷ after) → In (live u) before ⊎ ((live u ≡ moved t u) ⊎ In (live u) after)
      place (inl at) = inl at
      place (inr at) = inr (in_rest at)

      later : Precedes parts (term t) (term u) → IsUpto parts u t → ⊥
      later k (inl e) = h.right.1 (sym e)
      later k (inr b) = never_both parts (term t) (term u) k (term_precedes parts u t b)

      by : In (live u) before ⊎ ((live u ≡ moved t u) ⊎ In (live u) after) → In (live u) before
      by (inl at) = at
      by (inr (inl e)) = absurd (other e)
      by (inr (inr at)) = absurd (later (of_each (StandsBefore parts (moved t u)) at (rising_back (StandsBefore parts) before (moved t u) after (subst (Rising (StandsBefore parts)) split plan.rising)))
          (least_upto parts pools h.right.0.sort t u (record { sorted = h.right.0.least.sorted; bounded = h.planned.bounded.bounded; small = h.planned.bounded.small }) h.right.0.least))

  pub goes_in_order : GoInOrder (at_start parts) (decisions_of xs)
  goes_in_order = let f : IsFoundInOrder parts pools xs = plan_followed parts weighs some pools wide xs plan in plan_in_order parts pools weighs wide xs f.followed f.all

  pub plan_certified : IsCertified parts pools xs
  plan_certified = record { whole = in_order_whole parts weighs (decisions_of xs) goes_in_order; kills = kills_of; moves = moves_of }
