-- The search goes on until all is done, and comes to an end: so there is a plan, and each of its items has an entry.
use Rattle.std.proofs.Common.{◌≡◌, ◌≢◌, ℕ, zero, suc, ◌≤◌, ◌⊎◌, inl, inr, List, [], ◌∷◌, ◌++◌, map, length, refl, sym, ap, ◌∙◌, subst, arith, append_assoc}
use Rattle.law_sig.specs.Lists.{In}
use Rattle.law_sig.specs.Lists.In.{here, there}
use Rattle.law_sig.specs.Trees.{schema_of}
use Rattle.law_sig.specs.Tests.{InU, Pools}
use Rattle.law_sig.specs.Order.{IsBefore}
use Rattle.law_sig.specs.declared.tree.SortId.{SortId}
use Rattle.law_sig.specs.declared.tree.Tree.{Tree}
use Rattle.law_sig.specs.declared.parts.SigParts.{SigParts}
use Rattle.law_laws.specs.Orders.{WeighsSomething}
use Rattle.law_laws.specs.Renaming.{HasWidth}
use Rattle.law_laws.proofs.ListFacts.{in_none, in_rest, in_left, in_right, in_map, each_of, of_each}
use Rattle.law_laws.proofs.Decide.{trees_decided}
use Rattle.law_laws.proofs.Orders.{never_before_itself, before_chain, before_decided}
use Rattle.law_laws.proofs.Enumeration.{candidates, found}
use Rattle.law_sig.specs.Schemas.{IsConsidered}
use Rattle.law_sig.specs.Expected.{IsAbove, IsFirstAbove}
use Rattle.law_sig.specs.Least.{AreAlike, HasLeast}
use Rattle.law_plan.specs.Kills.{IsGeneral, Kills, IsSpared}
use Rattle.law_valid.specs.Stated.{stated}
use Rattle.law_plan.specs.Plan.{Item, schema, term, Precedes, Entry, spread, killed, live, moved, item_of, spread_at, live_at, IsPlannedTerm, IsPlanned, IsEntry, IsPlan}
use Rattle.law_plan.specs.Search.{IsDue, IsFound, NoneFound, IsDecided, IsNext, AreFollowed, AreAll}
use Rattle.law_plan.specs.Search.AreFollowed.{start, next}
use Rattle.law_plan.specs.Existence.{GoesOnWith, IsFoundInOrder, HasEntry}
use Rattle.law_laws.proofs.Enumeration.{IsFirstOf, first_of_some, has_least}
use Rattle.law_plan.proofs.Terms.{one_general}
use Rattle.law_plan.proofs.Leasts.{same_least}
use Rattle.law_plan.proofs.Items.{never_itself, never_both, item_chain, items_decided, spread_in}
use Rattle.law_plan.proofs.Followed.{AreRight, followed_right, is_entry, followed_plan, one_plan}
use Rattle.law_plan.proofs.Planned.{one_entry}
use Rattle.law_plan.proofs.Beginnings.{followed_begins}
use Rattle.law_plan.proofs.Classes.{IsSchemaInU, considered_in, spread_in_universe}
use Rattle.law_plan.proofs.Decisions.{IsSomeOf, find_one, due_above_decided, alike_decided, general_decided}

-- a list without one of its items
pub record IsWithout {A : Type 0} (x : A) (xs ys : List A) : Type 0 where
  pub shorter : length xs ≡ suc (length ys)
  pub others : (y : A) → In y xs → (y ≡ x) ⊎ In y ys

without : {A : Type 0} {x : A} {xs : List A} → In x xs → (ys : List A) × IsWithout x xs ys
without (here {x = x} {xs = xs}) = (xs, record { shorter = refl; others = λ y at. in_rest at })
without {A} {x} (there {y = z} {xs = xs} at) = let (ys, w) = without at in more ys w
  where
    more : (ys : List A) → IsWithout x xs ys → (zs : List A) × IsWithout x (z ∷ xs) zs
    more ys w = (z ∷ ys, record { shorter = ap suc w.shorter; others = λ y to. by y (in_rest to) })
      where
        later : (y : A) → (y ≡ x) ⊎ In y ys → (y ≡ x) ⊎ In y (z ∷ ys)
        later y (inl e) = inl e
        later y (inr h) = inr (there h)

        by : (y : A) → (y ≡ z) ⊎ In y xs → (y ≡ x) ⊎ In y (z ∷ ys)
        by y (inl e) = inr (subst (λ v. In v (z ∷ ys)) (sym e) here)
        by y (inr h) = later y (w.others y h)

map_front : (e : Entry) (xs : List Entry) (y : Item) → In y (map item_of xs) → In y (map item_of (xs ++ e ∷ []))
map_front e [] y at = in_none at
map_front e (x ∷ xs) y at = by (map_front e xs y) (in_rest at)
  where
    by : (In y (map item_of xs) → In y (map item_of (xs ++ e ∷ []))) → (y ≡ item_of x) ⊎ In y (map item_of xs) → In y (item_of x ∷ map item_of (xs ++ e ∷ []))
    by later (inl same) = subst (λ z. In z (item_of x ∷ map item_of (xs ++ e ∷ []))) (sym same) here
    by later (inr h) = there (later h)

module _ (parts : SigParts) (weighs : WeighsSomething parts) (some : 1 ≤ parts.settings.size) (pools : Pools) (wide : HasWidth parts) where
  -- Finitely many items

  pub every_item : List Item
  every_item = map schema (candidates parts parts.settings.size) ++ map term (candidates parts parts.settings.size)

  listed : (sort : SortId) (t : Tree) → InU parts sort t → In t (candidates parts parts.settings.size)
  listed sort t t_in = found parts weighs t parts.settings.size sort t_in t_in.small

  module _ (xs : List Entry) (sound : (e : Entry) → In e xs → IsEntry parts pools (stated spread_at xs) e) where
    pub considered_bounded : (c : Tree) → IsConsidered parts (stated spread_at xs) c → IsSchemaInU parts c
    considered_bounded c h = considered_in parts weighs some (stated spread_at xs) c
        (λ a less at. spread_in_universe parts weighs some (stated spread_at xs) (λ d to. (sound (spread d) (spread_in xs d to)).planned) a at) h

    due_listed : (x : Item) → IsDue parts xs x → In x every_item
    unfolding every_item
    due_listed (schema c) due = let is = considered_bounded c due in in_left (map term (candidates parts parts.settings.size)) (in_map schema (listed is.sort c is.bounded))
    due_listed (term t) due = in_right (map schema (candidates parts parts.settings.size)) (in_map term (listed due.instance_of.sort t due.instance_of.bounded))

    -- the first item that is due, or none is

    first_due : ((x : Item) × IsFirstAbove (Precedes parts) (IsDue parts xs) (map item_of xs) x) ⊎ AreAll parts xs
    first_due = by (find_one (λ x. IsDue parts xs x × IsAbove (Precedes parts) (map item_of xs) x) (due_above_decided parts xs) every_item)
      where
        first : (x : Item) × IsFirstOf (Precedes parts) (λ x. IsDue parts xs x × IsAbove (Precedes parts) (map item_of xs) x) every_item x
            → (x : Item) × IsFirstAbove (Precedes parts) (IsDue parts xs) (map item_of xs) x
        first (x, f) = (x, record { is = f.has.0; above = f.has.1; least = λ y due above. f.least y (due_listed y due) (due, above) })

        by : IsSomeOf (λ x. IsDue parts xs x × IsAbove (Precedes parts) (map item_of xs) x) every_item
            ⊎ ((x : Item) → In x every_item → IsDue parts xs x × IsAbove (Precedes parts) (map item_of xs) x → ⊥)
            → ((x : Item) × IsFirstAbove (Precedes parts) (IsDue parts xs) (map item_of xs) x) ⊎ AreAll parts xs
        by (inl s) = inl (first (first_of_some (Precedes parts) (item_chain parts) (items_decided parts)
            (λ x. IsDue parts xs x × IsAbove (Precedes parts) (map item_of xs) x) (due_above_decided parts xs) s.item s.has every_item))
        by (inr out) = inr (λ x due above. out x (due_listed x due) (due, above))

  -- The decision of an item

  pub record IsDecision (lives : List Tree) (x : Item) : Type 0 where
    pub entry : Entry
    pub about : item_of entry ≡ x
    pub decided : IsDecided parts pools lives entry

  found_or_not : (lives : List Tree) (t : Tree) → ((u : Tree) × IsFound parts pools lives t u) ⊎ NoneFound parts pools lives t
  found_or_not lives t = by (find_one (AreAlike parts pools t) (alike_decided parts pools t) lives)
    where
      by : IsSomeOf (AreAlike parts pools t) lives ⊎ ((u : Tree) → In u lives → AreAlike parts pools t u → ⊥) → ((u : Tree) × IsFound parts pools lives t u) ⊎ NoneFound parts pools lives t
      by (inl s) = inl (s.item, record { held = s.at; alike = s.has })
      by (inr out) = inr (λ u f. out u f.held f.alike)

  schema_decision : (lives : List Tree) (c : Tree) → IsSchemaInU parts c → IsDecision lives (schema c)
  schema_decision lives c is = by (general_decided parts weighs c is)
    where
      of_general : (g : Tree) → IsGeneral parts c g → ((u : Tree) × IsFound parts pools lives g u) ⊎ NoneFound parts pools lives g → IsDecision lives (schema c)
      of_general g h (inl (u, f)) = record {
        entry = killed g u;
        about = ap schema h.schema;
        decided = (record { sort = h.sort; bounded = h.bounded; numbered = h.numbered; schema = refl }, f);
      }
      of_general g h (inr nothing) = record {
        entry = spread c;
        about = refl;
        decided = λ k l. subst (NoneFound parts pools lives) (one_general g k h.numbered l.numbered (h.schema ∙ sym l.schema)) nothing;
      }

      by : ((g : Tree) × IsGeneral parts c g) ⊎ ((g : Tree) → IsGeneral parts c g → ⊥) → IsDecision lives (schema c)
      by (inl (g, h)) = of_general g h (found_or_not lives g)
      by (inr nothing) = record { entry = spread c; about = refl; decided = λ g h. absurd (nothing g h) }

  term_decision : (lives : List Tree) (t : Tree) → IsDecision lives (term t)
  term_decision lives t = by (found_or_not lives t)
    where
      by : ((u : Tree) × IsFound parts pools lives t u) ⊎ NoneFound parts pools lives t → IsDecision lives (term t)
      by (inl (u, f)) = record { entry = moved t u; about = refl; decided = f }
      by (inr nothing) = record { entry = live t; about = refl; decided = nothing }

  decision : (xs : List Entry) → ((e : Entry) → In e xs → IsEntry parts pools (stated spread_at xs) e) → (x : Item) → IsDue parts xs x → IsDecision (stated live_at xs) x
  decision xs sound (schema c) due = schema_decision (stated live_at xs) c (considered_bounded xs sound c due)
  decision xs sound (term t) due = term_decision (stated live_at xs) t

  decided_next : (xs : List Entry) (x : Item) → IsFirstAbove (Precedes parts) (IsDue parts xs) (map item_of xs) x → (d : IsDecision (stated live_at xs) x) → IsNext parts pools xs d.entry
  decided_next xs x f d = record { first = subst (IsFirstAbove (Precedes parts) (IsDue parts xs) (map item_of xs)) (sym d.about) f; decided = d.decided }

  pub next_or_all : (xs : List Entry) → AreFollowed parts pools xs → ((e : Entry) × IsNext parts pools xs e) ⊎ AreAll parts xs
  next_or_all xs followed = by (first_due xs right.sound)
    where
      right : AreRight parts pools weighs wide xs
      right = followed_right parts pools weighs wide followed

      next_by : (x : Item) → IsFirstAbove (Precedes parts) (IsDue parts xs) (map item_of xs) x → (e : Entry) × IsNext parts pools xs e
      next_by x f = let d = decision xs right.sound x f.is in (d.entry, decided_next xs x f d)

      by : ((x : Item) × IsFirstAbove (Precedes parts) (IsDue parts xs) (map item_of xs) x) ⊎ AreAll parts xs → ((e : Entry) × IsNext parts pools xs e) ⊎ AreAll parts xs
      by (inl (x, f)) = inl (next_by x f)
      by (inr all) = inr all

  -- There is one next entry, and the plan goes on with it

  pub next_is_one : (xs : List Entry) → AreFollowed parts pools xs → (d e : Entry) → IsNext parts pools xs d → IsNext parts pools xs e → d ≡ e
  next_is_one xs followed d e p q = one_entry parts pools d e
      (by (q.first.least (item_of d) p.first.is p.first.above) (p.first.least (item_of e) q.first.is q.first.above))
      (is_entry parts pools weighs wide xs right d p).right (is_entry parts pools weighs wide xs right e q).right
    where
      right : AreRight parts pools weighs wide xs
      right = followed_right parts pools weighs wide followed

      by : (item_of d ≡ item_of e) ⊎ Precedes parts (item_of e) (item_of d) → (item_of e ≡ item_of d) ⊎ Precedes parts (item_of d) (item_of e) → item_of d ≡ item_of e
      by (inl k) l = k
      by (inr h) (inl l) = sym l
      by (inr h) (inr k) = absurd (never_both parts (item_of d) (item_of e) k h)

  pub item_of_plan : (xs ys : List Entry) → AreFollowed parts pools xs → IsPlan parts pools ys → (x : Item)
      → IsFirstAbove (Precedes parts) (IsDue parts xs) (map item_of xs) x → GoesOnWith ys xs x
  item_of_plan xs ys followed plan x f =
      let d = decision xs (followed_right parts pools weighs wide followed).sound x f.is in
      by d (followed_begins parts pools weighs wide ys plan (next xs d.entry followed (decided_next xs x f d)))
    where
      by : (d : IsDecision (stated live_at xs) x) → (more : List Entry) × (ys ≡ (xs ++ d.entry ∷ []) ++ more) → GoesOnWith ys xs x
      by d (more, split) = record { entry = d.entry; about = d.about; others = more; split = split ∙ append_assoc xs (d.entry ∷ []) more }

  -- It comes to an end: with each entry there is an item less that stands behind all entries

  abbrev Left : List Entry → List Item → Type 0
  Left xs rest = (x : Item) → In x every_item → IsAbove (Precedes parts) (map item_of xs) x → In x rest

  -- one item less
  pub record IsOneOn (xs : List Entry) (rest : List Item) : Type 0 where
    pub entries : List Entry
    pub followed : AreFollowed parts pools entries
    pub others : List Item
    pub shorter : length rest ≡ suc (length others)
    pub left : Left entries others

  one_on : (xs : List Entry) → AreFollowed parts pools xs → (rest : List Item) → Left xs rest → (e : Entry) → IsNext parts pools xs e → IsOneOn xs rest
  one_on xs followed rest left e is = by (without (left (item_of e) (due_listed xs right.sound (item_of e) is.first.is) is.first.above))
    where
      right : AreRight parts pools weighs wide xs
      right = followed_right parts pools weighs wide followed

      front : (x : Item) → IsAbove (Precedes parts) (map item_of (xs ++ e ∷ [])) x → IsAbove (Precedes parts) (map item_of xs) x
      front x above = each_of (λ y. Precedes parts y x) (map item_of xs) (λ y at. of_each (λ z. Precedes parts z x) (map_front e xs y at) above)

      last : (x : Item) → IsAbove (Precedes parts) (map item_of (xs ++ e ∷ [])) x → Precedes parts (item_of e) x
      last x above = of_each (λ z. Precedes parts z x) (in_map item_of (in_right xs here)) above

      by : (others : List Item) × IsWithout (item_of e) rest others → IsOneOn xs rest
      by (others, w) = record {
        entries = xs ++ e ∷ [];
        followed = next xs e followed is;
        others = others;
        shorter = w.shorter;
        left = λ x at above. other x above (w.others x (left x at (front x above)));
      }
        where
          other : (x : Item) → IsAbove (Precedes parts) (map item_of (xs ++ e ∷ [])) x → (x ≡ item_of e) ⊎ In x others → In x others
          other x above (inl same) = absurd (never_itself parts (item_of e) (subst (Precedes parts (item_of e)) same (last x above)))
          other x above (inr at) = at

  goes_on : (n : ℕ) (xs : List Entry) → AreFollowed parts pools xs → (rest : List Item) → Left xs rest → length rest ≡ n → (ys : List Entry) × IsFoundInOrder parts pools ys
  goes_on zero xs followed rest left count = by (next_or_all xs followed)
    where
      by : ((e : Entry) × IsNext parts pools xs e) ⊎ AreAll parts xs → (ys : List Entry) × IsFoundInOrder parts pools ys
      by (inl (e, is)) = let o = one_on xs followed rest left e is in let k = o.shorter in absurd (omega arith)
      by (inr all) = (xs, record { followed = followed; all = all })
  goes_on (suc n) xs followed rest left count = by (goes_on n) (next_or_all xs followed)
    where
      one_less : (l m : ℕ) → l ≡ suc m → l ≡ suc n → m ≡ n
      one_less l m e k = omega arith

      by : ((xs : List Entry) → AreFollowed parts pools xs → (rest : List Item) → Left xs rest → length rest ≡ n → (ys : List Entry) × IsFoundInOrder parts pools ys)
          → ((e : Entry) × IsNext parts pools xs e) ⊎ AreAll parts xs → (ys : List Entry) × IsFoundInOrder parts pools ys
      by on (inl (e, is)) = let o = one_on xs followed rest left e is in on o.entries o.followed o.others o.left (one_less (length rest) (length o.others) o.shorter count)
      by on (inr all) = (xs, record { followed = followed; all = all })

  pub plan_exists : (xs : List Entry) × IsPlan parts pools xs
  plan_exists = by (goes_on (length every_item) [] start every_item (λ x at above. at) refl)
    where
      by : (ys : List Entry) × IsFoundInOrder parts pools ys → (xs : List Entry) × IsPlan parts pools xs
      by (ys, w) = (ys, followed_plan parts pools weighs wide ys w.followed w.all)

  pub plan_followed : (xs : List Entry) → IsPlan parts pools xs → IsFoundInOrder parts pools xs
  plan_followed xs plan = by (goes_on (length every_item) [] start every_item (λ x at above. at) refl)
    where
      by : (ys : List Entry) × IsFoundInOrder parts pools ys → IsFoundInOrder parts pools xs
      by (ys, w) = subst (IsFoundInOrder parts pools) (one_plan parts pools weighs ys xs (followed_plan parts pools weighs wide ys w.followed w.all) plan) w

  -- Each item of the plan has an entry

  kills_decided : (c : Tree) → IsSchemaInU parts c → ((g : Tree) × (u : Tree) × Kills parts pools c g u) ⊎ IsSpared parts pools c
  kills_decided c is = by (general_decided parts weighs c is)
    where
      spared : (g : Tree) → IsGeneral parts c g → (u : Tree) → HasLeast parts pools g u → (IsBefore parts (schema_of u) c → ⊥) → IsSpared parts pools c
      spared g h u l out k v kill =
          let same : k ≡ g = one_general k g kill.general.numbered h.numbered (kill.general.schema ∙ sym h.schema) in
          out (subst (λ x. IsBefore parts (schema_of x) c) (same_least parts pools g v u (subst (λ x. HasLeast parts pools x v) same kill.least) l) kill.falls)

      placed : (g : Tree) → IsGeneral parts c g → (u : Tree) → HasLeast parts pools g u → (schema_of u ≡ c) ⊎ (IsBefore parts (schema_of u) c ⊎ IsBefore parts c (schema_of u))
          → ((g : Tree) × (u : Tree) × Kills parts pools c g u) ⊎ IsSpared parts pools c
      placed g h u l (inl e) = inr (spared g h u l (λ b. never_before_itself parts c (subst (λ x. IsBefore parts x c) e b)))
      placed g h u l (inr (inl b)) = inl (g, u, record { general = h; least = l; falls = b })
      placed g h u l (inr (inr b)) = inr (spared g h u l (λ k. never_before_itself parts c (before_chain parts c (schema_of u) c b k)))

      by : ((g : Tree) × IsGeneral parts c g) ⊎ ((g : Tree) → IsGeneral parts c g → ⊥) → ((g : Tree) × (u : Tree) × Kills parts pools c g u) ⊎ IsSpared parts pools c
      by (inl (g, h)) = let (u, l) = has_least parts pools weighs h.sort g h.bounded in placed g h u (record { sort = h.sort; least = l }) (before_decided parts (schema_of u) c)
      by (inr nothing) = inr (λ g u k. nothing g k.general)

  module _ (xs : List Entry) (plan : IsPlan parts pools xs) where
    schema_entry : (c : Tree) → IsConsidered parts (stated spread_at xs) c → HasEntry xs (schema c)
    schema_entry c h = by (kills_decided c (considered_bounded xs (λ e. (plan.members e).0) c h))
      where
        killed_entry : (g u : Tree) → Kills parts pools c g u → HasEntry xs (schema c)
        killed_entry g u k = record {
          entry = killed g u;
          at = (plan.members (killed g u)).1 (record {
            planned = subst (IsConsidered parts (stated spread_at xs)) (sym k.general.schema) h;
            right = subst (λ x. Kills parts pools x g u) (sym k.general.schema) k;
          });
          about = ap schema k.general.schema;
        }

        by : ((g : Tree) × (u : Tree) × Kills parts pools c g u) ⊎ IsSpared parts pools c → HasEntry xs (schema c)
        by (inl (g, u, k)) = killed_entry g u k
        by (inr spared) = record { entry = spread c; at = (plan.members (spread c)).1 (record { planned = h; right = spared }); about = refl }

    term_entry : (t : Tree) → IsPlannedTerm parts pools (stated spread_at xs) t → HasEntry xs (term t)
    term_entry t h = let (u, l) = has_least parts pools weighs h.sort t h.bounded in by u (record { sort = h.sort; least = l }) (trees_decided t u)
      where
        by : (u : Tree) → HasLeast parts pools t u → (t ≡ u) ⊎ (t ≢ u) → HasEntry xs (term t)
        by u l (inl e) = record {
          entry = live t;
          at = (plan.members (live t)).1 (record { planned = h; right = subst (HasLeast parts pools t) (sym e) l });
          about = refl;
        }
        by u l (inr other) = record { entry = moved t u; at = (plan.members (moved t u)).1 (record { planned = h; right = (l, other) }); about = refl }

    pub item_entry : (x : Item) → IsPlanned parts pools (stated spread_at xs) x → HasEntry xs x
    item_entry (schema c) p = schema_entry c p
    item_entry (term t) p = term_entry t p
