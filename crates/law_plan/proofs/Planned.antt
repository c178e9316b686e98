-- What is planned given some spread schemas: it stays with more of them, and doesn't depend on those that stand behind it;
-- and an item has one right entry.
use Rattle.std.proofs.Common.{◌≡◌, ◌≢◌, ◌<◌, ◌⊎◌, inl, inr, List, [], ◌∷◌, ◌++◌, sym, ap, ap₂, subst}
use Rattle.law_sig.specs.Lists.{In}
use Rattle.law_sig.specs.Trees.{schema_of}
use Rattle.law_sig.specs.Tests.{weight, Pools}
use Rattle.law_sig.specs.declared.tree.Tree.{Tree}
use Rattle.law_sig.specs.declared.tree.Tree.TheVariants.{outs-Var, outs-App}
use Rattle.law_sig.specs.declared.tree.Tree.TheViews.{out-Tree}
use Rattle.law_sig.specs.declared.parts.SigParts.{SigParts}
use Rattle.law_laws.specs.Orders.{WeighsSomething}
use Rattle.law_laws.proofs.TreeFacts.{tree_cases}
use Rattle.law_laws.proofs.ListFacts.{in_none, each_of, of_each}
use Rattle.law_laws.proofs.Universe.{arg_weight}
use Rattle.law_sig.specs.Schemas.{IsConsidered, arguments_of}
use Rattle.law_sig.specs.Schemas.IsConsidered.{variable, application}
use Rattle.law_sig.specs.Least.{HasLeast}
use Rattle.law_plan.specs.Kills.{Kills}
use Rattle.law_valid.specs.Stated.{stated}
use Rattle.law_plan.specs.Plan.{Item, schema, term, Precedes, Entry, spread, killed, live, moved, item_of, spread_at, IsPlanned, IsRight, IsEntry}
use Rattle.law_plan.proofs.Terms.{one_general}
use Rattle.law_plan.proofs.Leasts.{same_least}
use Rattle.law_plan.proofs.Items.{never_both, schema_precedes, lighter_schema, in_end, in_spread, spread_in}

module _ (parts : SigParts) (weighs : WeighsSomething parts) where
  -- arguments weigh less
  pub arg_lighter : (t a : Tree) → In a (arguments_of (out-Tree t)) → weight parts a < weight parts t
  arg_lighter = tree_cases (λ t. (a : Tree) → In a (arguments_of (out-Tree t)) → weight parts a < weight parts t)
      (λ s i a at. in_none (subst (λ x. In a (arguments_of x)) (outs-Var s i) at))
      (λ f args a at. arg_weight parts weighs f args a (subst (λ x. In a (arguments_of x)) (outs-App f args) at))

  -- what is considered depends on lighter spread schemas alone
  pub considered_by : (spreads others : List Tree) (c : Tree) → ((a : Tree) → weight parts a < weight parts c → In a spreads → In a others)
      → IsConsidered parts spreads c → IsConsidered parts others c
  considered_by spreads others c to (variable sort declared some) = variable sort declared some
  considered_by spreads others c to (application f cs sort explored each sorted small) = application f cs sort explored
      (each_of (λ a. In a others) cs (λ a at. to a (arg_weight parts weighs f cs a at) (of_each (λ a. In a spreads) at each))) sorted small

  module _ (pools : Pools) where
    pub planned_more : (spreads others : List Tree) (x : Item) → ((a : Tree) → In a spreads → In a others)
        → IsPlanned parts pools spreads x → IsPlanned parts pools others x
    planned_more spreads others (schema c) to p = considered_by spreads others c (λ a less at. to a at) p
    planned_more spreads others (term t) to p = record { sort = p.sort; bounded = p.bounded; owned = to (schema_of t) p.owned; args = p.args }

    pub entry_more : (spreads others : List Tree) (e : Entry) → ((a : Tree) → In a spreads → In a others)
        → IsEntry parts pools spreads e → IsEntry parts pools others e
    entry_more spreads others e to h = record { planned = planned_more spreads others (item_of e) to h.planned; right = h.right }

    -- an item needs no spread schemas but those that stand before it
    pub planned_by : (spreads others : List Tree) (x : Item) → ((c : Tree) → Precedes parts (schema c) x → In c spreads → In c others)
        → IsPlanned parts pools spreads x → IsPlanned parts pools others x
    planned_by spreads others (schema c) to p = considered_by spreads others c (λ a less at. to a (lighter_schema parts a c less) at) p
    planned_by spreads others (term t) to p = record {
      sort = p.sort;
      bounded = p.bounded;
      owned = to (schema_of t) (schema_precedes parts t) p.owned;
      args = p.args;
    }

    pub planned_before : (xs : List Entry) (e : Entry) (x : Item) → Precedes parts x (item_of e)
        → IsPlanned parts pools (stated spread_at (xs ++ e ∷ [])) x → IsPlanned parts pools (stated spread_at xs) x
    planned_before xs e x h p = planned_by (stated spread_at (xs ++ e ∷ [])) (stated spread_at xs) x
        (λ c k at. by c k (in_end xs e (spread c) (spread_in (xs ++ e ∷ []) c at))) p
      where
        by : (c : Tree) → Precedes parts (schema c) x → In (spread c) xs ⊎ (spread c ≡ e) → In c (stated spread_at xs)
        by c k (inl to) = in_spread to
        by c k (inr same) = absurd (never_both parts x (schema c) (subst (Precedes parts x) (sym (ap item_of same)) h) k)

-- an item has one right entry

pub schema_parts : (c d : Tree) → schema c ≡ schema d → c ≡ d
schema_parts c d e = cc

pub term_parts : (s t : Tree) → term s ≡ term t → s ≡ t
term_parts s t e = cc

pub apart : (c t : Tree) → schema c ≡ term t → ⊥
apart c t e = cc

module _ (parts : SigParts) (pools : Pools) where
  one_killed : (g u h v : Tree) → schema_of g ≡ schema_of h → Kills parts pools (schema_of g) g u → Kills parts pools (schema_of h) h v → killed g u ≡ killed h v
  one_killed g u h v e k l =
      let same : g ≡ h = one_general g h k.general.numbered l.general.numbered e in
      ap₂ killed same (same_least parts pools h u v (subst (λ x. HasLeast parts pools x u) same k.least) l.least)

  one_moved : (s u t v : Tree) → s ≡ t → HasLeast parts pools s u → HasLeast parts pools t v → moved s u ≡ moved t v
  one_moved s u t v e k l = ap₂ moved e (same_least parts pools t u v (subst (λ x. HasLeast parts pools x u) e k) l)

  no_move : (s t v : Tree) → s ≡ t → HasLeast parts pools s s → HasLeast parts pools t v → t ≢ v → ⊥
  no_move s t v e own l other = other (same_least parts pools t t v (subst (λ x. HasLeast parts pools x x) e own) l)

  pub one_entry : (d e : Entry) → item_of d ≡ item_of e → IsRight parts pools d → IsRight parts pools e → d ≡ e
  one_entry (spread c) (spread d) same p q = ap spread (schema_parts c d same)
  one_entry (spread c) (killed g u) same p q = absurd (p g u (subst (λ x. Kills parts pools x g u) (sym (schema_parts c (schema_of g) same)) q))
  one_entry (spread c) (live t) same p q = absurd (apart c t same)
  one_entry (spread c) (moved t u) same p q = absurd (apart c t same)
  one_entry (killed g u) (spread c) same p q = absurd (q g u (subst (λ x. Kills parts pools x g u) (schema_parts (schema_of g) c same) p))
  one_entry (killed g u) (killed h v) same p q = one_killed g u h v (schema_parts (schema_of g) (schema_of h) same) p q
  one_entry (killed g u) (live t) same p q = absurd (apart (schema_of g) t same)
  one_entry (killed g u) (moved t v) same p q = absurd (apart (schema_of g) t same)
  one_entry (live t) (spread c) same p q = absurd (apart c t (sym same))
  one_entry (live t) (killed g u) same p q = absurd (apart (schema_of g) t (sym same))
  one_entry (live s) (live t) same p q = ap live (term_parts s t same)
  one_entry (live s) (moved t v) same p q = absurd (no_move s t v (term_parts s t same) p q.0 q.1)
  one_entry (moved t u) (spread c) same p q = absurd (apart c t (sym same))
  one_entry (moved t u) (killed g v) same p q = absurd (apart (schema_of g) t (sym same))
  one_entry (moved s u) (live t) same p q = absurd (no_move t s u (sym (term_parts s t same)) q p.0 p.1)
  one_entry (moved s u) (moved t v) same p q = one_moved s u t v (term_parts s t same) p.0 q.0
