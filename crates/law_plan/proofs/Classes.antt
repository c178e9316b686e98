-- Asking for the class first misses nothing, and each class has a live term.
use Rattle.std.proofs.Common.{◌≡◌, ◌<◌, ◌≤◌, true, ◌&&◌, List, [], ◌∷◌, map, refl, sym, ap, ap₂, ◌∙◌, subst}
use Rattle.law_sig.specs.Lists.{In, Each}
use Rattle.law_sig.specs.Trees.{schema_of}
use Rattle.law_sig.specs.Tests.{weight, is_bounded, InU, Pools}
use Rattle.law_sig.specs.declared.tree.SortId.{SortId}
use Rattle.law_sig.specs.declared.tree.Tree.{Tree}
use Rattle.law_sig.specs.declared.tree.Tree.TheVariants.{App}
use Rattle.law_sig.specs.declared.parts.SigParts.{SigParts}
use Rattle.law_laws.specs.Orders.{WeighsSomething}
use Rattle.law_laws.specs.Renaming.{HasWidth, has_vars}
use Rattle.law_laws.proofs.TreeFacts.{schema-Var, schema-App, bounded-App}
use Rattle.law_laws.proofs.ListFacts.{each_of, of_each}
use Rattle.law_laws.proofs.Sorts.{schema_sort}
use Rattle.law_laws.proofs.Orders.{lighter_before}
use Rattle.law_laws.proofs.Descents.{explore_induct}
use Rattle.law_laws.proofs.Renaming.{all_true, bounded_vars, flat_value}
use Rattle.law_laws.proofs.Universe.{var_in, arg_weight}
use Rattle.law_sig.specs.Schemas.{IsConsidered}
use Rattle.law_sig.specs.Schemas.IsConsidered.{variable, application}
use Rattle.law_sig.specs.Least.{AreAlike, HasLeast}
use Rattle.law_valid.specs.Stated.{stated}
use Rattle.law_plan.specs.Plan.{Entry, spread, live, spread_at, live_at, IsEntry, IsPlan}
use Rattle.law_plan.specs.Search.{IsFound, NoneFound, AreFollowed}
use Rattle.law_plan.specs.Classes.{AreOfClass, AreOwned, HasLiveOfClass, IsEquivalenceOfClasses}
use Rattle.law_laws.proofs.Enumeration.{has_least}
use Rattle.law_plan.proofs.Leasts.{least_alike, own_least}
use Rattle.law_plan.proofs.Items.{spread_in, in_live, live_in}
use Rattle.law_plan.proofs.Followed.{followed_right, plan_live}

module _ (parts : SigParts) (pools : Pools) where
  -- terms that are alike have schemas of one class
  pub alike_class : (t u : Tree) → has_vars parts t ≡ true → has_vars parts u ≡ true → AreAlike parts pools t u → AreOfClass parts pools (schema_of t) (schema_of u)
  alike_class t u t_vars u_vars a = record {
    sort = a.sort;
    left = schema_sort parts t ∙ a.left;
    right = schema_sort parts u ∙ a.right;
    same = λ test within flat. flat_value parts pools test flat t t_vars ∙ a.same test within ∙ sym (flat_value parts pools test flat u u_vars);
  }

  pub found_in_class : (spreads lives : List Tree) → AreOwned parts pools spreads lives → (sort : SortId) (t u : Tree) → InU parts sort t
      → IsFound parts pools lives t u → In (schema_of u) spreads × AreOfClass parts pools (schema_of t) (schema_of u)
  found_in_class spreads lives owned sort t u t_in f = (
    (owned u f.held).1,
    alike_class t u (bounded_vars parts t t_in.bounded) (bounded_vars parts u (owned u f.held).0.least.bounded.bounded) f.alike,
  )

  pub no_class : (spreads lives : List Tree) → AreOwned parts pools spreads lives → (sort : SortId) (t : Tree) → InU parts sort t
      → ((d : Tree) → In d spreads → AreOfClass parts pools (schema_of t) d → ⊥) → NoneFound parts pools lives t
  no_class spreads lives owned sort t t_in nowhere u f = let h = found_in_class spreads lives owned sort t u t_in f in nowhere (schema_of u) h.0 h.1

-- Classes

pub classes_partition : (parts : SigParts) (pools : Pools) → IsEquivalenceOfClasses parts pools
classes_partition parts pools = record {
  itself = λ sort c e. record { sort = sort; left = e; right = e; same = λ test within flat. refl };
  back = λ c d h. record { sort = h.sort; left = h.right; right = h.left; same = λ test within flat. sym (h.same test within flat) };
  chain = λ c d e h k. record {
    sort = h.sort;
    left = h.left;
    right = k.right ∙ sym k.left ∙ h.right;
    same = λ test within flat. h.same test within flat ∙ k.same test within flat;
  };
}

-- Considered schemas are terms of the universe, and their own schemas

pub record IsSchemaInU (parts : SigParts) (c : Tree) : Type 0 where
  pub sort : SortId
  pub bounded : InU parts sort c
  pub own : schema_of c ≡ c

module _ (parts : SigParts) (weighs : WeighsSomething parts) (some : 1 ≤ parts.settings.size) where
  pub considered_in : (spreads : List Tree) (c : Tree) → ((a : Tree) → weight parts a < weight parts c → In a spreads → IsSchemaInU parts a)
      → IsConsidered parts spreads c → IsSchemaInU parts c
  considered_in spreads c have (variable sort declared has) = record { sort = sort; bounded = var_in parts sort 0 declared has some; own = schema-Var sort 0 }
  considered_in spreads c have (application f cs sort explored each sorted small) = record {
    sort = sort;
    bounded = record {
      sorted = sorted;
      bounded = bounded-App parts f cs ∙ ap₂ ◌&&◌ explored (all_true (is_bounded parts) cs (each_of (λ a. is_bounded parts a ≡ true) cs (λ a at. (arg a at).bounded.bounded)));
      small = small;
    };
    own = schema-App f cs ∙ ap (App f) (all cs (each_of (λ a. schema_of a ≡ a) cs (λ a at. (arg a at).own)));
  }
    where
      arg : (a : Tree) → In a cs → IsSchemaInU parts a
      arg a at = have a (arg_weight parts weighs f cs a at) (of_each (λ x. In x spreads) at each)

      all : (ts : List Tree) → Each (λ a. schema_of a ≡ a) ts → map schema_of ts ≡ ts
      all [] h = refl
      all (t ∷ ts) h = ap₂ ◌∷◌ h.0 (all ts h.1)

  pub spread_in_universe : (spreads : List Tree) → ((c : Tree) → In c spreads → IsConsidered parts spreads c) → (c : Tree) → In c spreads → IsSchemaInU parts c
  spread_in_universe spreads considered = explore_induct parts weighs (λ c. In c spreads → IsSchemaInU parts c)
      (λ c have at. considered_in spreads c (λ a less. have a (lighter_before parts a c less)) (considered c at))

  module _ (pools : Pools) (xs : List Entry) (plan : IsPlan parts pools xs) where
    -- each class has a live term: the least of a spread schema
    pub class_live : HasWidth parts → (c : Tree) → In c (stated spread_at xs) → HasLiveOfClass parts pools (stated spread_at xs) (stated live_at xs) c
    class_live wide c at = by (spread_in_universe (stated spread_at xs) (λ d to. ((plan.members (spread d)).0 (spread_in xs d to)).planned) c at)
      where
        least : (u : Tree) → IsSchemaInU parts c → HasLeast parts pools c u → HasLiveOfClass parts pools (stated spread_at xs) (stated live_at xs) c
        least u is l =
            let to : In (live u) xs = (plan_live parts pools weighs wide xs plan u).1 (own_least parts pools c u l) in
            record {
              live_one = u;
              held = in_live to;
              owned = ((plan.members (live u)).0 to).planned.owned;
              of_class = subst (λ d. AreOfClass parts pools d (schema_of u)) is.own (alike_class parts pools c u
                  (bounded_vars parts c is.bounded.bounded) (bounded_vars parts u l.least.bounded.bounded) (least_alike parts pools c u l));
            }

        by : IsSchemaInU parts c → HasLiveOfClass parts pools (stated spread_at xs) (stated live_at xs) c
        by is = let (u, l) = has_least parts pools weighs is.sort c is.bounded in least u is (record { sort = is.sort; least = l })

pub followed_owned : (parts : SigParts) (pools : Pools) (weighs : WeighsSomething parts) (wide : HasWidth parts) (xs : List Entry) → AreFollowed parts pools xs
    → AreOwned parts pools (stated spread_at xs) (stated live_at xs)
followed_owned parts pools weighs wide xs followed u at =
    let h : IsEntry parts pools (stated spread_at xs) (live u) = (followed_right parts pools weighs wide followed).sound (live u) (live_in xs u at) in
    (h.right, h.planned.owned)
