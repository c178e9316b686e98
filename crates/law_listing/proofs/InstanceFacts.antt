-- Where all terms are live, the instances of a schema are exactly the terms of the universe that have it; and all instances are the
-- universe, in the order of exploring.
use Rattle.std.proofs.Common.{◌≡◌, ℕ, ◌<◌, ◌≤◌, inl, inr, Some, List, [], ◌∷◌, length, map, slice_get, slice_index_or, arith, refl, sym, ap, ◌∙◌, subst}
use Rattle.std.proofs.Math.Path.{subst₂}
use Rattle.std.specs.List.{flat_map}
use Rattle.std.proofs.lemmas.Option.{slice_get_within, get_or_from_slice_get, slice_get-get_or}
use Rattle.law_sig.specs.Lists.{In, Each, Rising}
use Rattle.law_sig.specs.Lists.In.{here, there}
use Rattle.law_sig.specs.Trees.{schema_of}
use Rattle.law_sig.specs.Signature.{args_of, vars_at}
use Rattle.law_sig.specs.Tests.{InU, weight}
use Rattle.law_sig.specs.Order.{explore_rank, IsBefore}
use Rattle.law_sig.specs.Schemas.{AreExactly, arguments_of}
use Rattle.law_sig.specs.WellFormed.{IsWellFormed}
use Rattle.law_sig.specs.declared.tree.SortId.{SortId}
use Rattle.law_sig.specs.declared.tree.SymId.{SymId}
use Rattle.law_sig.specs.declared.tree.Tree.{Tree}
use Rattle.law_sig.specs.declared.tree.Tree.TheVariants.{Var, App, outs-Var, outs-App}
use Rattle.law_sig.specs.declared.tree.Tree.TheViews.{out-Tree}
use Rattle.law_sig.specs.declared.parts.SigParts.{SigParts}
use Rattle.law_laws.proofs.Ranks.{below_less}
use Rattle.law_laws.proofs.Orders.{lighter, schema_twice, schema_weight}
use Rattle.law_laws.proofs.ListFacts.{of_each, in_left, in_right, in_split}
use Rattle.law_laws.proofs.TreeFacts.{tree_induct, tree_cases, fold-Var, fold-App, same_app, schema-Var, schema-App, weight-Var}
use Rattle.law_laws.proofs.Universe.{AreInU, in_app, in_var, var_in, schema_in}
use Rattle.law_listing.specs.Rows.{choices}
use Rattle.law_listing.specs.Listing.{variables_of, over_each, instances_step, instances, levels_to, listing}
use Rattle.law_listing.specs.Columns.{IsBelow, AreLiveOf, AreLists, IsOpenOver, IsInstanceOver}
use Rattle.law_listing.proofs.Rising.{rising_append, rising_weaken, rising_from, place_of, at_place}
use Rattle.law_listing.proofs.RowFacts.{in_each_below, each_below_in, each_below_rising}
use Rattle.law_listing.proofs.Staging.{indices_below, same_before}
use Rattle.law_listing.proofs.Instances.{in_instances, instances_in, instances_rising, var_of_schema}
use Rattle.law_listing.proofs.SchemaFacts.{IsSchema, AreLevels, levels_are}

-- Instances

instances-Var : (parts : SigParts) (s : SortId) (i : ℕ) → instances parts (Var s i) ≡ variables_of parts s
instances-Var parts s i = fold-Var (List Tree) (instances_step parts) s i

instances-App : (parts : SigParts) (f : SymId) (args : List Tree) → instances parts (App f args) ≡ over_each f (choices (map (instances parts) args))
instances-App parts f args = fold-App (List Tree) (instances_step parts) f args

pub only : {t s : Tree} → In t (s ∷ []) → t ≡ s
only here = refl
only (there at) = elim at [ ]

-- all terms of the universe are live
abbrev pub IsAnyTerm : SigParts → Tree → Type 0
IsAnyTerm parts t = (sort : SortId) × InU parts sort t

args_any : (parts : SigParts) (ts : List Tree) (ws : List SortId) → AreInU parts ts ws → Each (IsAnyTerm parts) ts
args_any parts [] ws h = tt
args_any parts (t ∷ ts) [] h = absurd h
args_any parts (t ∷ ts) (w ∷ ws) h = ((w, h.0), args_any parts ts ws h.1)

-- so every term of the universe is an instance over them
any_instance : (parts : SigParts) (c t : Tree) → IsAnyTerm parts t → schema_of t ≡ c → IsInstanceOver parts (IsAnyTerm parts) c t
any_instance parts c t (sort, u) e = record { sort = sort; bounded = u; schema = e; args = args t sort u }
  where
    args : (t : Tree) (sort : SortId) → InU parts sort t → Each (IsAnyTerm parts) (arguments_of (out-Tree t))
    args = tree_cases (λ t. (sort : SortId) → InU parts sort t → Each (IsAnyTerm parts) (arguments_of (out-Tree t)))
        (λ s i sort u. subst (λ l. Each (IsAnyTerm parts) (arguments_of l)) (sym (outs-Var s i)) tt)
        (λ f args sort u.
        let a = in_app parts f args sort u in
        subst (λ l. Each (IsAnyTerm parts) (arguments_of l)) (sym (outs-App f args)) (args_any parts args (args_of a.symbol) a.arguments))

-- the instances of a schema of the universe are exactly the terms that have it
pub instances_are : (parts : SigParts) (c : Tree) → IsAnyTerm parts c → schema_of c ≡ c → AreLiveOf parts (IsAnyTerm parts) c (instances parts c)
instances_are parts = tree_induct (λ c. IsAnyTerm parts c → schema_of c ≡ c → AreLiveOf parts (IsAnyTerm parts) c (instances parts c))
    (λ s i any flat.
    let v = in_var parts any.0 s i any.1 in
    let e : Var s i ≡ Var s 0 = sym flat ∙ schema-Var s i in
    let small : 1 ≤ parts.settings.size = subst (λ n. n ≤ parts.settings.size) (weight-Var parts s i) any.1.small in
    subst (AreLiveOf parts (IsAnyTerm parts) (Var s i)) (sym (instances-Var parts s i)) (record {
      members = λ t. (
        λ at.
            let (k, less, p) = in_each_below (vars_at parts s) (λ j. Var s j ∷ []) at in
            let is = only p in
            (subst (IsAnyTerm parts) (sym is) (s, var_in parts s k v.declared less small), ap schema_of is ∙ schema-Var s k ∙ sym e),
        λ h.
            let (k, is, less) = var_of_schema parts s t (h.1 ∙ e) h.0.0 h.0.1 in
            subst (λ z. In z (variables_of parts s)) (sym is) (each_below_in (vars_at parts s) (λ j. Var s j ∷ []) k less here),
      );
      rising = each_below_rising (IsBelow parts) (vars_at parts s) (λ j. Var s j ∷ []) (λ k less. (tt, tt))
          (λ j k less within x y p q. subst₂ (IsBelow parts) (sym (only p)) (sym (only q)) (indices_below parts s j k less));
    }))
    (λ f args have any flat.
    let a = in_app parts f args any.0 any.1 in
    let (same, flats) = same_app f f (map schema_of args) args (sym (schema-App f args) ∙ flat) in
    let open' : IsOpenOver parts (IsAnyTerm parts) f args (map (instances parts) args) = record {
      lists_are = all args (args_of a.symbol) have a.arguments flats;
      explored = a.explored;
      sort = any.0;
      sorted = any.1.sorted;
      small = a.small;
      bounded = λ t is. is.1.bounded;
    } in
    subst (AreLiveOf parts (IsAnyTerm parts) (App f args)) (sym (instances-App parts f args)) (record {
      members = λ t. (
        λ at. let i = in_instances parts (IsAnyTerm parts) f args (map (instances parts) args) open' t at in ((i.sort, i.bounded), i.schema),
        λ h. instances_in parts (IsAnyTerm parts) f args (map (instances parts) args) open' t (any_instance parts (App f args) t h.0 h.1),
      );
      rising = instances_rising parts (IsAnyTerm parts) f args (map (instances parts) args) open';
    }))
  where
    all : (cs : List Tree) (ws : List SortId) → Each (λ c. IsAnyTerm parts c → schema_of c ≡ c → AreLiveOf parts (IsAnyTerm parts) c (instances parts c)) cs → AreInU parts cs ws
        → map schema_of cs ≡ cs → AreLists parts (IsAnyTerm parts) cs (map (instances parts) cs)
    all [] ws have u flat = tt
    all (c ∷ cs) [] have u flat = absurd u
    all (c ∷ cs) (w ∷ ws) have u flat =
        let one : schema_of c ≡ c = cc in
        let more : map schema_of cs ≡ cs = cc in
        (have.0 (w, u.0) one, all cs ws have.1 u.1 more)

-- Lists of lists

in_flat_map : {A B : Type 0} (f : A → List B) (xs : List A) {y : B} → In y (flat_map f xs) → (x : A) × In x xs × In y (f x)
in_flat_map f [] at = elim at [ ]
in_flat_map f (x ∷ xs) at = elim (in_split (f x) (flat_map f xs) at) [
  | inl h ↦ (x, here, h)
  | inr h ↦ let (z, p, q) = in_flat_map f xs h in (z, there p, q)
]

flat_map_in : {A B : Type 0} (f : A → List B) {x : A} {xs : List A} {y : B} → In x xs → In y (f x) → In y (flat_map f xs)
flat_map_in f here q = in_left _ q
flat_map_in f (there p) q = in_right _ (flat_map_in f p q)

flat_map_rising : {A B : Type 0} (S : A → A → Type 0) (R : B → B → Type 0) (f : A → List B) (xs : List A) → Rising S xs
    → ((x : A) → In x xs → Rising R (f x))
    → ((x y : A) → In x xs → In y xs → S x y → (u v : B) → In u (f x) → In v (f y) → R u v) → Rising R (flat_map f xs)
flat_map_rising S R f [] h own across = tt
flat_map_rising S R f (x ∷ xs) h own across =
    rising_append R (f x) (flat_map f xs) (own x here)
    (flat_map_rising S R f xs h.1 (λ z p. own z (there p)) (λ u v p q. across u v (there p) (there q)))
    (λ u v p q. let (z, at, r) = in_flat_map f xs q in across x z here (there at) (of_each (S x) at h.0) u v p r)

-- The universe

before_across : (parts : SigParts) (c d s t : Tree) → schema_of s ≡ c → schema_of t ≡ d → IsBelow parts c d → IsBefore parts s t
before_across parts c d s t e k h = below_less (explore_rank parts s) (explore_rank parts t) (inl (subst₂ (IsBelow parts) (sym e) (sym k) h))

module _ (parts : SigParts) (levels : List (List Tree)) (are : AreLevels parts parts.settings.size levels) where
  -- a list of schemas is that of some weight
  record IsOne (ts : List Tree) : Type 0 where
    place : ℕ
    within : place ≤ parts.settings.size
    is : slice_index_or levels place [] ≡ ts

  abbrev one_at : (ts : List Tree) (n : ℕ) → slice_get levels n ≡ Some ts → IsOne ts
  one_at ts n e =
      let below = slice_get_within levels n ts e in
      let long = are.long in
      record { place = n; within = omega arith; is = get_or_from_slice_get levels n ts [] e }

  schema_at : (ts : List Tree) (one : IsOne ts) (c : Tree) → In c ts → IsSchema parts one.place c
  schema_at ts one c at = (are.each one.place one.within).sound c (subst (In c) (sym one.is) at)

  instances_at : (ts : List Tree) → IsOne ts → (c : Tree) → In c ts → AreLiveOf parts (IsAnyTerm parts) c (instances parts c)
  instances_at ts one c at =
      let s = schema_at ts one c at in
      let w = s.weighs in
      let within = one.within in
      instances_are parts c (s.sort, record { sorted = s.sorted; bounded = s.bounded; small = omega arith }) s.flat

  level_instances_rising : (ts : List Tree) → IsOne ts → Rising (IsBefore parts) (flat_map (instances parts) ts)
  level_instances_rising ts one =
      flat_map_rising (IsBelow parts) (IsBefore parts) (instances parts) ts
      (subst (Rising (IsBelow parts)) one.is (are.each one.place one.within).rising)
      (λ c at.
      let i = instances_at ts one c at in
      rising_weaken (IsBelow parts) (IsBefore parts) (instances parts c)
      (λ s t p q h. same_before parts s t (((i.members s).0 p).1 ∙ sym ((i.members t).0 q).1) h) i.rising)
      (λ c d p q h s t r u. before_across parts c d s t (((instances_at ts one c p).members s).0 r).1 (((instances_at ts one d q).members t).0 u).1 h)

  -- the terms of each list are all lighter than those of the lists that follow
  levels_lighter : Rising (λ ss ts. (s t : Tree) → In s ss → In t ts → weight parts s < weight parts t) levels
  levels_lighter = rising_from (λ ss ts. (s t : Tree) → In s ss → In t ts → weight parts s < weight parts t) levels
      (λ i j ss ts less e d s t p q.
      let a = (schema_at ss (one_at ss i e) s p).weighs in
      let b = (schema_at ts (one_at ts j d) t q).weighs in
      omega arith)

  all_rising : Rising (IsBefore parts) (flat_map (λ schemas. flat_map (instances parts) schemas) levels)
  all_rising = flat_map_rising (λ ss ts. (s t : Tree) → In s ss → In t ts → weight parts s < weight parts t) (IsBefore parts) (λ schemas. flat_map (instances parts) schemas) levels levels_lighter
      (λ ts at. let (n, e) = place_of at in level_instances_rising ts (one_at ts n e))
      (λ ss ts p q less s t r u.
      let (c, at_c, in_c) = in_flat_map (instances parts) ss r in
      let (d, at_d, in_d) = in_flat_map (instances parts) ts u in
      let (i, e) = place_of p in
      let (j, f) = place_of q in
      before_across parts c d s t (((instances_at ss (one_at ss i e) c at_c).members s).0 in_c).1 (((instances_at ts (one_at ts j f) d at_d).members t).0 in_d).1 (lighter parts c d (less c d at_c at_d)))

  all_sound : (t : Tree) → In t (flat_map (λ schemas. flat_map (instances parts) schemas) levels) → IsAnyTerm parts t
  all_sound t at =
      let (ts, at_ts, in_ts) = in_flat_map (λ schemas. flat_map (instances parts) schemas) levels at in
      let (c, at_c, in_c) = in_flat_map (instances parts) ts in_ts in
      let (n, e) = place_of at_ts in
      (((instances_at ts (one_at ts n e) c at_c).members t).0 in_c).0

  all_complete : (t : Tree) → IsAnyTerm parts t → In t (flat_map (λ schemas. flat_map (instances parts) schemas) levels)
  all_complete t (sort, u) =
      let c = schema_in parts sort t u in
      let schema : IsSchema parts (weight parts t) (schema_of t) = record { sort = sort; sorted = c.sorted; bounded = c.bounded; flat = schema_twice t; weighs = schema_weight parts t } in
      let long = are.long in
      let small = u.small in
      let below : weight parts t < length levels = omega arith in
      flat_map_in (λ schemas. flat_map (instances parts) schemas)
      (at_place (slice_index_or levels (weight parts t) []) levels (weight parts t) (slice_get-get_or levels (weight parts t) [] below))
      (flat_map_in (instances parts) ((are.each (weight parts t) small).complete (schema_of t) schema)
      (((instances_are parts (schema_of t) (sort, c) (schema_twice t)).members t).1 ((sort, u), refl)))

-- the listing is the universe
pub listing_is : (parts : SigParts) → IsWellFormed parts → AreExactly parts (IsAnyTerm parts) (listing parts parts.settings.size)
listing_is parts well =
    let levels = levels_to parts parts.settings.size in
    let are = levels_are parts well parts.settings.size in
    record {
      rising = all_rising parts levels are;
      members = λ t. (all_sound parts levels are t, all_complete parts levels are t);
    }
