-- What can be decided: standing in a list, what is considered, due and behind, most general instances, and agreement.
use Rattle.std.proofs.Common.{◌≡◌, ℕ, ◌<◌, ◌≤◌, ◌⊎◌, inl, inr, Bool, true, false, if◌then◌else◌, ltb-true, Option, Some, None, IsTrue, List, [], ◌∷◌, ◌++◌, map, length, refl, sym, ap, ◌∙◌, subst, arith}
use Rattle.std.specs.Coded.{coded_option, coded_bool, coded_list, coded_ℕ}
use Rattle.law_sig.specs.Lists.{In, Each}
use Rattle.law_sig.specs.Lists.In.{here, there}
use Rattle.law_sig.specs.Trees.{same_sort, schema_of, joined, holes}
use Rattle.law_sig.specs.Signature.{is_declared_sort, vars_at, sort_of}
use Rattle.law_sig.specs.Tests.{weight, is_explored, first_of, InU, Pools, Same}
use Rattle.law_sig.specs.declared.tree.SortId.{SortId}
use Rattle.law_sig.specs.declared.tree.Tree.{Tree}
use Rattle.law_sig.specs.declared.tree.Tree.TheOpen.{Tree-F}
use Rattle.law_sig.specs.declared.tree.Tree.TheOpen as o
use Rattle.law_sig.specs.declared.tree.Tree.TheVariants.{Var, App, outs-Var, outs-App}
use Rattle.law_sig.specs.declared.tree.Tree.TheViews.{out-Tree}
use Rattle.law_sig.specs.declared.parts.SigParts.{SigParts}
use Rattle.law_sig.specs.contracts.tree.SortId as sort_id
use Rattle.law_sig.specs.General.{IsNumbered}
use Rattle.law_laws.specs.Orders.{WeighsSomething}
use Rattle.law_laws.proofs.TreeFacts.{tree_induct, tree_cases, holes-Var, holes-App}
use Rattle.law_laws.proofs.BodyFacts.{some_is, none_is}
use Rattle.law_laws.proofs.ListFacts.{in_none, in_rest}
use Rattle.law_laws.proofs.Decide.{decided, trees_decided, below_decided}
use Rattle.law_laws.proofs.Sorts.{same_sort_is, schema_sort, sorted_var, sorted_app, IsApplication, HaveSorts}
use Rattle.law_laws.proofs.Enumeration.{candidates, found, in_decided}
use Rattle.law_sig.specs.Schemas.{IsConsidered, arguments_of}
use Rattle.law_sig.specs.Schemas.IsConsidered.{variable, application}
use Rattle.law_sig.specs.Expected.{IsAbove}
use Rattle.law_sig.specs.Least.{AreAlike}
use Rattle.law_plan.specs.Kills.{IsGeneral}
use Rattle.law_valid.specs.Stated.{stated}
use Rattle.law_plan.specs.Plan.{Item, schema, term, Precedes, Entry, item_of, spread_at, live_at}
use Rattle.law_plan.specs.Search.{IsDueTerm, IsDue}
use Rattle.law_laws.proofs.Enumeration.{same_or_not}
use Rattle.law_plan.proofs.Items.{never_itself, never_both, items_decided}
use Rattle.law_plan.proofs.Classes.{IsSchemaInU}

-- a fact or its contrary
abbrev pub Decided : Type 0 → Type 0
Decided P = P ⊎ (P → ⊥)

both : {P Q : Type 0} → Decided P → Decided Q → Decided (P × Q)
both (inl p) (inl q) = inl (p, q)
both (inl p) (inr q) = inr (λ h. q h.1)
both (inr p) k = inr (λ h. p h.0)

by_way : {P Q : Type 0} → (P → Q) → (Q → P) → Decided P → Decided Q
by_way to back (inl p) = inl (to p)
by_way to back (inr out) = inr (λ q. out (back q))

-- Lists

pub record IsSomeOf {A : Type 0} (P : A → Type 0) (xs : List A) : Type 0 where
  pub item : A
  pub at : In item xs
  pub has : P item

pub find_one : {A : Type 0} (P : A → Type 0) → ((x : A) → Decided (P x)) → (xs : List A) → IsSomeOf P xs ⊎ ((x : A) → In x xs → P x → ⊥)
find_one P decide [] = inr (λ x at. in_none at)
find_one {A} P decide (y ∷ ys) = by (decide y) (find_one P decide ys)
  where
    nowhere : (P y → ⊥) → ((x : A) → In x ys → P x → ⊥) → (x : A) → P x → (x ≡ y) ⊎ In x ys → ⊥
    nowhere out others x has (inl e) = out (subst P e has)
    nowhere out others x has (inr at) = others x at has

    by : Decided (P y) → IsSomeOf P ys ⊎ ((x : A) → In x ys → P x → ⊥) → IsSomeOf P (y ∷ ys) ⊎ ((x : A) → In x (y ∷ ys) → P x → ⊥)
    by (inl has) later = inl (record { item = y; at = here; has = has })
    by (inr out) (inl s) = inl (record { item = s.item; at = there s.at; has = s.has })
    by (inr out) (inr others) = inr (λ x at has. nowhere out others x has (in_rest at))

each_decided : {A : Type 0} (P : A → Type 0) → ((x : A) → Decided (P x)) → (xs : List A) → Decided (Each P xs)
each_decided P decide [] = inl tt
each_decided P decide (x ∷ xs) = both (decide x) (each_decided P decide xs)

member_decided : (c : Tree) (cs : List Tree) → Decided (In c cs)
member_decided c cs = by (find_one (λ x. c ≡ x) (trees_decided c) cs)
  where
    by : IsSomeOf (λ x. c ≡ x) cs ⊎ ((x : Tree) → In x cs → c ≡ x → ⊥) → Decided (In c cs)
    by (inl s) = inl (subst (λ x. In x cs) (sym s.has) s.at)
    by (inr out) = inr (λ at. out c at refl)

at_most : (n m : ℕ) → Decided (n ≤ m)
at_most n m = by (split n m)
  where
    split : (n m : ℕ) → (n ≤ m) ⊎ (m < n)
    split n m = grind arith

    by : (n ≤ m) ⊎ (m < n) → Decided (n ≤ m)
    by (inl h) = inl h
    by (inr h) = inr (λ k. omega arith)

-- Terms of the universe

pub record HasSort (parts : SigParts) (t : Tree) : Type 0 where
  pub sort : SortId
  pub sorted : sort_of parts t ≡ Some sort

pub record IsAnywhere (parts : SigParts) (t : Tree) : Type 0 where
  pub sort : SortId
  pub bounded : InU parts sort t

module _ (parts : SigParts) where
  sort_decided : (t : Tree) → Decided (HasSort parts t)
  sort_decided t = by (sort_of parts t) refl
    where
      by : (s : Option SortId) → sort_of parts t ≡ s → Decided (HasSort parts t)
      by None e = inr (λ h. none_is h.sort (sym e ∙ h.sorted))
      by (Some s) e = inl (record { sort = s; sorted = e })

  pub universe_decided : (t : Tree) → Decided (IsAnywhere parts t)
  universe_decided t = by (sort_decided t)
    where
      there_is : (s : SortId) → sort_of parts t ≡ Some s → Decided (InU parts s t) → Decided (IsAnywhere parts t)
      there_is s e (inl h) = inl (record { sort = s; bounded = h })
      there_is s e (inr out) = inr (λ h. out (subst (λ x. InU parts x t) (some_is h.sort s (sym h.bounded.sorted ∙ e)) h.bounded))

      by : Decided (HasSort parts t) → Decided (IsAnywhere parts t)
      by (inl h) = there_is h.sort h.sorted (in_decided parts h.sort t)
      by (inr out) = inr (λ h. out (record { sort = h.sort; sorted = h.bounded.sorted }))

  -- What is considered, layer by layer

  abbrev Layer : List Tree → Tree-F Tree → Type 0
  Layer spreads (o.Var s i) = (i ≡ 0) × IsTrue (is_declared_sort parts s) × (1 ≤ vars_at parts s)
  Layer spreads (o.App f cs) = IsTrue (is_explored parts f) × Each (λ c. In c spreads) cs × HasSort parts (App f cs) × (weight parts (App f cs) ≤ parts.settings.size)

  to_layer : (spreads : List Tree) (c : Tree) → IsConsidered parts spreads c → Layer spreads (out-Tree c)
  to_layer spreads c (variable s declared some) = subst (Layer spreads) (sym (outs-Var s 0)) (refl, declared, some)
  to_layer spreads c (application f cs s explored each sorted small) = subst (Layer spreads) (sym (outs-App f cs)) (explored, each, record { sort = s; sorted = sorted }, small)

  from_layer : (spreads : List Tree) (c : Tree) → Layer spreads (out-Tree c) → IsConsidered parts spreads c
  from_layer spreads = tree_cases (λ c. Layer spreads (out-Tree c) → IsConsidered parts spreads c)
      (λ s i h. let k : Layer spreads (o.Var s i) = subst (Layer spreads) (outs-Var s i) h in
      subst (λ n. IsConsidered parts spreads (Var s n)) (sym k.0) (variable s k.1 k.2))
      (λ f cs h. let k : Layer spreads (o.App f cs) = subst (Layer spreads) (outs-App f cs) h in application f cs k.2.sort k.0 k.1 k.2.sorted k.3)

  layer_decided : (spreads : List Tree) (x : Tree-F Tree) → Decided (Layer spreads x)
  layer_decided spreads (o.Var s i) = three (decided coded_ℕ i 0) (decided coded_bool (is_declared_sort parts s) true) (at_most 1 (vars_at parts s))
    where
      three : Decided (i ≡ 0) → Decided (is_declared_sort parts s ≡ true) → Decided (1 ≤ vars_at parts s) → Decided (Layer spreads (o.Var s i))
      three (inl p) (inl q) (inl r) = inl (p, q, r)
      three (inr p) q r = inr (λ h. p h.0)
      three (inl p) (inr q) r = inr (λ h. q h.1)
      three (inl p) (inl q) (inr r) = inr (λ h. r h.2)
  layer_decided spreads (o.App f cs) = four (decided coded_bool (is_explored parts f) true) (each_decided (λ c. In c spreads) (λ c. member_decided c spreads) cs)
      (sort_decided (App f cs)) (at_most (weight parts (App f cs)) parts.settings.size)
    where
      four : Decided (is_explored parts f ≡ true) → Decided (Each (λ c. In c spreads) cs) → Decided (HasSort parts (App f cs)) → Decided (weight parts (App f cs) ≤ parts.settings.size)
          → Decided (Layer spreads (o.App f cs))
      four (inl p) (inl q) (inl r) (inl s) = inl (p, q, r, s)
      four (inr p) q r s = inr (λ h. p h.0)
      four (inl p) (inr q) r s = inr (λ h. q h.1)
      four (inl p) (inl q) (inr r) s = inr (λ h. r h.2)
      four (inl p) (inl q) (inl r) (inr s) = inr (λ h. s h.3)

  considered_decided : (spreads : List Tree) (c : Tree) → Decided (IsConsidered parts spreads c)
  considered_decided spreads c = by_way (from_layer spreads c) (to_layer spreads c) (layer_decided spreads (out-Tree c))

  -- What is due, and what stands behind

  due_term_decided : (spreads lives : List Tree) (t : Tree) → Decided (IsDueTerm parts spreads lives t)
  due_term_decided spreads lives t = three (member_decided (schema_of t) spreads) (universe_decided t) (each_decided (λ a. In a lives) (λ a. member_decided a lives) (arguments_of (out-Tree t)))
    where
      three : Decided (In (schema_of t) spreads) → Decided (IsAnywhere parts t) → Decided (Each (λ a. In a lives) (arguments_of (out-Tree t))) → Decided (IsDueTerm parts spreads lives t)
      three (inl p) (inl q) (inl r) = inl (record { owned = p; instance_of = record { sort = q.sort; bounded = q.bounded; schema = refl; args = r } })
      three (inr p) q r = inr (λ h. p h.owned)
      three (inl p) (inr q) r = inr (λ h. q (record { sort = h.instance_of.sort; bounded = h.instance_of.bounded }))
      three (inl p) (inl q) (inr r) = inr (λ h. r h.instance_of.args)

  pub due_decided : (xs : List Entry) (x : Item) → Decided (IsDue parts xs x)
  due_decided xs (schema c) = considered_decided (stated spread_at xs) c
  due_decided xs (term t) = due_term_decided (stated spread_at xs) (stated live_at xs) t

  precedes_decided : (x y : Item) → Decided (Precedes parts x y)
  precedes_decided x y = by (items_decided parts x y)
    where
      by : (x ≡ y) ⊎ (Precedes parts x y ⊎ Precedes parts y x) → Decided (Precedes parts x y)
      by (inl e) = inr (λ h. never_itself parts y (subst (λ z. Precedes parts z y) e h))
      by (inr (inl h)) = inl h
      by (inr (inr h)) = inr (λ k. never_both parts x y k h)

  pub due_above_decided : (xs : List Entry) (x : Item) → Decided (IsDue parts xs x × IsAbove (Precedes parts) (map item_of xs) x)
  due_above_decided xs x = both (due_decided xs x) (each_decided (λ y. Precedes parts y x) (λ y. precedes_decided y x) (map item_of xs))

  -- Agreement

  pub alike_decided : (pools : Pools) (t u : Tree) → Decided (AreAlike parts pools t u)
  alike_decided pools t u = by (sort_decided t)
    where
      with_sort : (s : SortId) → sort_of parts t ≡ Some s → Decided (sort_of parts u ≡ Some s) → Decided (Same parts pools t u) → Decided (AreAlike parts pools t u)
      with_sort s e (inl k) (inl same) = inl (record { sort = s; left = e; right = k; same = same })
      with_sort s e (inr k) same = inr (λ a. k (a.right ∙ sym a.left ∙ e))
      with_sort s e (inl k) (inr same) = inr (λ a. same a.same)

      by : Decided (HasSort parts t) → Decided (AreAlike parts pools t u)
      by (inl h) = with_sort h.sort h.sorted (decided (coded_option (sort_id.the_row).coded) (sort_of parts u) (Some h.sort)) (same_or_not parts pools t u)
      by (inr out) = inr (λ a. out (record { sort = a.sort; sorted = a.left }))

  -- Most general instances

  -- a well-sorted term has no variables of a sort that isn't declared
  no_holes : (s : SortId) → is_declared_sort parts s ≡ false → (t : Tree) (sort : SortId) → sort_of parts t ≡ Some sort → holes s t ≡ []
  no_holes s out = tree_induct (λ t. (sort : SortId) → sort_of parts t ≡ Some sort → holes s t ≡ [])
      (λ u i sort e. holes-Var s u i ∙ one u i (sorted_var parts u i sort e).0 (same_sort u s) refl)
      (λ f args have sort e. let a : IsApplication parts f args sort = sorted_app parts f args sort e in holes-App s f args ∙ all args _ have a.sorts)
    where
      one : (u : SortId) (i : ℕ) → IsTrue (is_declared_sort parts u) → (c : Bool) → same_sort u s ≡ c → (if c then i ∷ [] else []) ≡ []
      one u i declared true e =
          let k : is_declared_sort parts u ≡ false = ap (is_declared_sort parts) (same_sort_is u s e) ∙ out in
          let d : is_declared_sort parts u ≡ true = declared in
          absurd (cc)
      one u i declared false e = refl

      all : (ts : List Tree) (ws : List SortId) → Each (λ t. (sort : SortId) → sort_of parts t ≡ Some sort → holes s t ≡ []) ts → HaveSorts parts ts ws → joined (map (holes s) ts) ≡ []
      all [] [] have h = refl
      all [] (w ∷ ws) have h = absurd h
      all (t ∷ ts) [] have h = absurd h
      all (t ∷ ts) (w ∷ ws) have h = ap (λ l. l ++ joined (map (holes s) ts)) (have.0 w h.0) ∙ all ts ws have.1 h.1

  abbrev IsNumberedAt : Tree → ℕ → Type 0
  IsNumberedAt t n = let s : SortId = record { 0 = n } in holes s t ≡ first_of (length (holes s t)) (λ i. i)

  numbered_decided : (t : Tree) (sort : SortId) → sort_of parts t ≡ Some sort → Decided (IsNumbered t)
  numbered_decided t sort sorted = by (below_decided (IsNumberedAt t) (λ n. IsNumberedAt t n → ⊥) at_one (length parts.sort_names))
    where
      at_one : (n : ℕ) → IsNumberedAt t n ⊎ (IsNumberedAt t n → ⊥)
      at_one n = decided (coded_list coded_ℕ) _ _

      whole : ((n : ℕ) → n < length parts.sort_names → IsNumberedAt t n) → (s : SortId) → (c : Bool) → is_declared_sort parts s ≡ c → holes s t ≡ first_of (length (holes s t)) (λ i. i)
      whole have s true e = have s.0 (ltb-true s.0 (length parts.sort_names) e)
      whole have s false e = subst (λ l. l ≡ first_of (length l) (λ i. i)) (sym (no_holes s e t sort sorted)) refl

      by : ((n : ℕ) → n < length parts.sort_names → IsNumberedAt t n) ⊎ ((n : ℕ) × (n < length parts.sort_names) × (IsNumberedAt t n → ⊥)) → Decided (IsNumbered t)
      by (inl have) = inl (λ s. whole have s (is_declared_sort parts s) refl)
      by (inr apart) = inr (λ numbered. apart.2 (numbered (record { 0 = apart.0 })))

  pub general_decided : WeighsSomething parts → (c : Tree) → IsSchemaInU parts c → ((g : Tree) × IsGeneral parts c g) ⊎ ((g : Tree) → IsGeneral parts c g → ⊥)
  general_decided weighs c is = by (find_one Is is_decided (candidates parts parts.settings.size))
    where
      Is : Tree → Type 0
      Is x = InU parts is.sort x × IsNumbered x × (schema_of x ≡ c)

      is_decided : (x : Tree) → Decided (Is x)
      is_decided x = three (in_decided parts is.sort x) (trees_decided (schema_of x) c)
        where
          last : InU parts is.sort x → schema_of x ≡ c → Decided (IsNumbered x) → Decided (Is x)
          last p q (inl r) = inl (p, r, q)
          last p q (inr r) = inr (λ h. r h.1)

          three : Decided (InU parts is.sort x) → Decided (schema_of x ≡ c) → Decided (Is x)
          three (inl p) (inl q) = last p q (numbered_decided x is.sort p.sorted)
          three (inr p) q = inr (λ h. p h.0)
          three (inl p) (inr q) = inr (λ h. q h.2)

      nowhere : ((x : Tree) → In x (candidates parts parts.settings.size) → Is x → ⊥) → (g : Tree) → IsGeneral parts c g → ⊥
      nowhere out g h =
          let sorts : h.sort ≡ is.sort = some_is h.sort is.sort (sym h.bounded.sorted ∙ sym (schema_sort parts g) ∙ ap (sort_of parts) h.schema ∙ is.bounded.sorted) in
          let g_in : InU parts is.sort g = subst (λ s. InU parts s g) sorts h.bounded in
          out g (found parts weighs g parts.settings.size is.sort g_in g_in.small) (g_in, h.numbered, h.schema)

      by : IsSomeOf Is (candidates parts parts.settings.size) ⊎ ((x : Tree) → In x (candidates parts parts.settings.size) → Is x → ⊥)
          → ((g : Tree) × IsGeneral parts c g) ⊎ ((g : Tree) → IsGeneral parts c g → ⊥)
      by (inl s) = inl (s.item, record { sort = is.sort; bounded = s.has.0; numbered = s.has.1; schema = s.has.2 })
      by (inr out) = inr (nowhere out)
