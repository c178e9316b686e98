-- The goals of the plan: what a killed schema and a moved term are to be led to.
use Rattle.std.specs.Prelude.{◌≢◌, List, [], ◌∷◌}
use Rattle.law_sig.specs.Lists.{In, Each}
use Rattle.law_sig.specs.Tests.{InU, Pools, Same, IsDefined}
use Rattle.law_sig.specs.Laws.{IsLaw}
use Rattle.law_sig.specs.declared.tree.SortId.{SortId}
use Rattle.law_sig.specs.declared.parts.Equation.{Equation}
use Rattle.law_sig.specs.declared.parts.SigParts.{SigParts}
use Rattle.law_valid.specs.Stated.{stated}
use Rattle.law_plan.specs.Plan.{Entry, spread, killed, live, moved, IsPlan}

-- the equation of a killed or moved entry
abbrev pub goal_at : Entry → List Equation
goal_at (spread c) = []
goal_at (killed g u) = record { left = g; right = u } ∷ []
goal_at (live t) = []
goal_at (moved t u) = record { left = t; right = u } ∷ []

-- two different terms of the universe, of one sort, with the same value or none at every test
pub record IsGoal (parts : SigParts) (pools : Pools) (e : Equation) : Type 0 where
  pub sort : SortId
  pub left_in : InU parts sort e.left
  pub right_in : InU parts sort e.right
  pub same : Same parts pools e.left e.right
  pub differ : e.left ≢ e.right

abbrev pub GoalsAgree : Type 0
GoalsAgree = (parts : SigParts) (pools : Pools) (xs : List Entry) → IsPlan parts pools xs → Each (IsGoal parts pools) (stated goal_at xs)

-- so a goal whose left side has a value at every test is a law
abbrev pub DefinedGoalsAreLaws : Type 0
DefinedGoalsAreLaws = (parts : SigParts) (pools : Pools) (xs : List Entry) → IsPlan parts pools xs → (e : Equation) → In e (stated goal_at xs)
    → IsDefined parts pools e.left → IsLaw parts pools e
