-- The goals of the plan agree at every test.
use Rattle.std.proofs.Common.{◌≡◌, ◌⊎◌, inl, inr, List, [], sym, subst}
use Rattle.law_sig.specs.Lists.{In, Each}
use Rattle.law_sig.specs.Trees.{schema_of}
use Rattle.law_sig.specs.Tests.{Pools, IsDefined}
use Rattle.law_sig.specs.Order.{IsBefore}
use Rattle.law_sig.specs.Laws.{IsLaw}
use Rattle.law_sig.specs.declared.parts.Equation.{Equation}
use Rattle.law_sig.specs.declared.parts.SigParts.{SigParts}
use Rattle.law_laws.proofs.ListFacts.{in_none, in_rest, each_of, of_each}
use Rattle.law_laws.proofs.Orders.{never_before_itself}
use Rattle.law_valid.specs.Stated.{stated}
use Rattle.law_plan.specs.Plan.{Entry, spread, killed, live, moved, spread_at, IsEntry, IsPlan}
use Rattle.law_plan.specs.Goals.{goal_at, IsGoal}
use Rattle.law_plan.proofs.Items.{stated_back}

module _ (parts : SigParts) (pools : Pools) (xs : List Entry) (plan : IsPlan parts pools xs) where
  of_entry : (d : Entry) (e : Equation) → In e (goal_at d) → IsEntry parts pools (stated spread_at xs) d → IsGoal parts pools e
  of_entry (spread c) e at h = in_none at
  of_entry (live t) e at h = in_none at
  of_entry (killed g u) e at h = subst (IsGoal parts pools) (sym (one (in_rest at))) (record {
    sort = h.right.least.sort;
    left_in = record { sorted = h.right.least.least.sorted; bounded = h.right.general.bounded.bounded; small = h.right.general.bounded.small };
    right_in = h.right.least.least.bounded;
    same = h.right.least.least.same;
    differ = λ k. never_before_itself parts (schema_of g) (subst (λ x. IsBefore parts (schema_of x) (schema_of g)) (sym k) h.right.falls);
  })
    where
      one : (e ≡ record { left = g; right = u }) ⊎ In e [] → e ≡ record { left = g; right = u }
      one (inl k) = k
      one (inr k) = in_none k
  of_entry (moved t u) e at h = subst (IsGoal parts pools) (sym (one (in_rest at))) (record {
    sort = h.right.0.sort;
    left_in = record { sorted = h.right.0.least.sorted; bounded = h.planned.bounded.bounded; small = h.planned.bounded.small };
    right_in = h.right.0.least.bounded;
    same = h.right.0.least.same;
    differ = h.right.1;
  })
    where
      one : (e ≡ record { left = t; right = u }) ⊎ In e [] → e ≡ record { left = t; right = u }
      one (inl k) = k
      one (inr k) = in_none k

  pub goals_agree : Each (IsGoal parts pools) (stated goal_at xs)
  goals_agree = each_of (IsGoal parts pools) (stated goal_at xs) (λ e at. let (d, to, is) = stated_back goal_at e xs at in of_entry d e is ((plan.members d).0 to))

  pub defined_laws : (e : Equation) → In e (stated goal_at xs) → IsDefined parts pools e.left → IsLaw parts pools e
  defined_laws e at defined =
      let h : IsGoal parts pools e = of_each (IsGoal parts pools) at goals_agree in
      record { sort = h.sort; left = h.left_in; right = h.right_in; agree = record { same = h.same; defined = defined } }
