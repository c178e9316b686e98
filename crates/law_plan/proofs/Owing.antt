-- A plan with laws, lemmas, steps and trees is a valid certificate.
use Rattle.std.proofs.Common.{◌≡◌, List, [], ◌∷◌, ◌++◌, sym, refl, ap, ◌∙◌, subst, subst₂}
use Rattle.law_sig.specs.Lists.{In}
use Rattle.law_sig.specs.Lists.In.{here}
use Rattle.law_sig.specs.Trees.{schema_of}
use Rattle.law_sig.specs.Tests.{Pools, Agrees}
use Rattle.law_sig.specs.Laws.{IsCovered}
use Rattle.law_sig.specs.Schemas.{AreExactly, IsConsidered, IsInstance}
use Rattle.law_sig.specs.declared.chain.Step.{Step}
use Rattle.law_sig.specs.declared.tree.Tree.{Tree}
use Rattle.law_sig.specs.declared.parts.Equation.{Equation}
use Rattle.law_sig.specs.declared.parts.SigParts.{SigParts}
use Rattle.law_laws.proofs.Descents.{weighs_something}
use Rattle.law_laws.proofs.ListFacts.{in_right}
use Rattle.law_laws.proofs.Renaming.{has_width}
use Rattle.law_valid.specs.declared.certificate.Entry.{Entry as Stating}
use Rattle.law_valid.specs.declared.certificate.Entry.TheVariants as e
use Rattle.law_valid.specs.declared.certificate.SortTree.{SortTree}
use Rattle.law_valid.specs.Stated.{stated, law_at}
use Rattle.law_valid.specs.Stated as held
use Rattle.law_valid.specs.Order.{Decision, spread, killed, live, moved, HaveInstances, AreWhole}
use Rattle.law_valid.specs.Valid.{IsEntry, IsKilled, IsMoved, IsValid}
use Rattle.law_valid.specs.Judged.{decision_at}
use Rattle.law_valid.proofs.Covered.{covers}
use Rattle.law_valid.proofs.Decisions.{spread_decided, schema_decided, live_decided, first_decided}
use Rattle.law_valid.proofs.StatedFacts.{stated_parts}
use Rattle.law_plan.specs.Plan.{Entry, decisions_of}
use Rattle.law_plan.specs.Plan as plan
use Rattle.law_plan.specs.Certified.{IsKilledBy, IsMovedTo, IsCertified}
use Rattle.law_plan.specs.Owed.{planned_at, planned, IsLed, IsOwed, Owed}
use Rattle.law_plan.proofs.Certified.{plan_certified}
use Rattle.law_plan.proofs.Items.{stated_in}
use Rattle.law_plan.proofs.PlanGoals.{defined_laws}

-- What the plan decides and states is what the certificate does

decided : (xs : List Stating) → decisions_of (planned xs) ≡ stated decision_at xs
decided [] = refl
decided (e.Law n q ∷ xs) = decided xs
decided (e.Lemma n q steps ∷ xs) = decided xs
decided (e.Spread c ∷ xs) = ap (λ ds. spread c ∷ ds) (decided xs)
decided (e.Killed q steps ∷ xs) = ap (λ ds. killed (schema_of q.left) ∷ ds) (decided xs)
decided (e.Live t ∷ xs) = ap (λ ds. live t ∷ ds) (decided xs)
decided (e.Moved q steps ∷ xs) = ap (λ ds. moved q.left ∷ ds) (decided xs)

lives : (xs : List Stating) → stated plan.live_at (planned xs) ≡ stated held.live_at xs
lives [] = refl
lives (e.Law n q ∷ xs) = lives xs
lives (e.Lemma n q steps ∷ xs) = lives xs
lives (e.Spread c ∷ xs) = lives xs
lives (e.Killed q steps ∷ xs) = lives xs
lives (e.Live t ∷ xs) = ap (λ l. t ∷ l) (lives xs)
lives (e.Moved q steps ∷ xs) = lives xs

-- instances from some place on
from_here : (parts : SigParts) (lives : List Tree) (before after : List Decision) → HaveInstances parts lives (before ++ after) → HaveInstances parts lives after
from_here parts lives [] after h = h
from_here parts lives (spread c ∷ before) after h = from_here parts lives before after h.1
from_here parts lives (killed c ∷ before) after h = from_here parts lives before after h.1
from_here parts lives (live t ∷ before) after h = from_here parts lives before after h
from_here parts lives (moved t ∷ before) after h = from_here parts lives before after h

module _ (parts : SigParts) (pools : Pools) (entries : List Stating) (trees : List SortTree) (owed : Owed parts pools entries trees) where
  certified : IsCertified parts pools (planned entries)
  certified = plan_certified parts (weighs_something parts owed.limits.well_formed) owed.limits.well_formed.settings.size.0 pools
      (has_width parts owed.limits.well_formed) (planned entries) owed.plan

  whole : AreWhole parts (stated decision_at entries)
  whole = subst (AreWhole parts) (decided entries) certified.whole

  module _ (before : List Stating) (x : Stating) (after : List Stating) (split : entries ≡ before ++ x ∷ after) where
    instances : HaveInstances parts (stated held.live_at entries) (stated decision_at (x ∷ after))
    instances = from_here parts (stated held.live_at entries) (stated decision_at before) (stated decision_at (x ∷ after))
        (subst₂ (HaveInstances parts) (live_decided entries) (ap (stated decision_at) split ∙ stated_parts decision_at before (x ∷ after)) whole.instances)

    planned_here : {a : Entry} → In a (planned_at x) → In a (planned entries)
    planned_here at = stated_in planned_at (subst (In x) (sym split) (in_right before here)) at

    planned_split : planned entries ≡ planned before ++ planned (x ∷ after)
    planned_split = ap planned split ∙ stated_parts planned_at before (x ∷ after)

  is_killed : (before : List Stating) (q : Equation) (steps : List Step) → IsKilledBy parts pools q.left q.right → IsLed parts pools before q steps
      → IsKilled parts before q steps × Agrees parts pools q.left q.right
  is_killed before q steps k led = (
    record { sort = k.sort; left = k.left; general = k.general; right = k.right; falls = k.falls; chain = led.chain },
    record { same = k.same; defined = led.defined },
  )

  is_moved : (before : List Stating) (q : Equation) (steps : List Step) → IsMovedTo parts pools (planned before) q.left q.right → IsLed parts pools before q steps
      → IsMoved parts before q steps × Agrees parts pools q.left q.right
  is_moved before q steps m led = (
    record { earlier = subst (In q.right) (lives before) m.earlier; sorts = m.sorts; chain = led.chain },
    record { same = m.same; defined = led.defined },
  )

  each_entry : (before : List Stating) (x : Stating) (after : List Stating) → entries ≡ before ++ x ∷ after → IsOwed parts pools entries before x
      → IsEntry parts pools entries before x after
  each_entry before (e.Law n q) after split o = (o.numbered, defined_laws parts pools (planned entries) owed.plan q o.goal o.defined)
  each_entry before (e.Lemma n q steps) after split o = o
  each_entry before (e.Spread c) after split o =
      subst (AreExactly parts (IsInstance parts (stated held.live_at entries) c)) (first_decided after) (instances before (e.Spread c) after split).0
  each_entry before (e.Killed q steps) after split o =
      let k = is_killed before q steps (certified.kills q.left q.right (planned_here before (e.Killed q steps) after split here)) o in
      (k.0, k.1, sym (first_decided after) ∙ (instances before (e.Killed q steps) after split).0)
  each_entry before (e.Live t) after split o = tt
  each_entry before (e.Moved q steps) after split o =
      is_moved before q steps (certified.moves (planned before) q.left q.right (planned after) (planned_split before (e.Moved q steps) after split)) o

  pub owed_valid : IsValid parts pools entries trees
  owed_valid = record {
    limits = owed.limits;
    pools_are = owed.pools_are;
    background = owed.background;
    schemas = subst₂ (λ spreads. AreExactly parts (IsConsidered parts spreads)) (spread_decided entries) (schema_decided entries) whole.schemas;
    first = sym (first_decided entries) ∙ whole.first;
    each = λ before x after split. each_entry before x after split (owed.each before x after split);
    trees_are = owed.trees_are;
  }

  pub owed_covers : IsCovered parts pools (stated law_at entries)
  owed_covers = covers parts pools entries trees owed_valid
