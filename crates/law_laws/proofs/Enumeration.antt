-- The universe is finite, so each term of it has a least.
use Rattle.std.proofs.Common.{◌≡◌, ◌≢◌, ℕ, zero, suc, ◌+◌, ◌<◌, ◌≤◌, ◌⊎◌, inl, inr, true, Option, Some, None, List, [], ◌∷◌, ◌++◌, map, length, slice_index_or, sym, refl, ap, ◌∙◌, subst, arith, zero-add}
use Rattle.std.specs.Coded.{coded_option, coded_bool}
use Rattle.law_sig.specs.Lists.{In, Each, total}
use Rattle.law_sig.specs.Lists.In.{here, there}
use Rattle.law_sig.specs.Trees.{joined}
use Rattle.law_sig.specs.Signature.{symbol_at, args_of, sort_of}
use Rattle.law_sig.specs.Tests.{weight, is_bounded, InU, first_of, per_variable, Pools, test_count, val, Same, IsInBudget}
use Rattle.law_sig.specs.Order.{IsBefore}
use Rattle.law_sig.specs.Laws.{IsCovered, IsLeast, IsLawList}
use Rattle.law_sig.specs.WellFormed.{IsWellFormed}
use Rattle.law_sig.specs.declared.tree.SortId.{SortId}
use Rattle.law_sig.specs.declared.tree.SymId.{SymId}
use Rattle.law_sig.specs.declared.tree.Tree.{Tree}
use Rattle.law_sig.specs.declared.tree.Tree.TheVariants.{Var, App}
use Rattle.law_sig.specs.declared.parts.Sym.{Sym}
use Rattle.law_sig.specs.declared.parts.Equation.{Equation}
use Rattle.law_sig.specs.declared.parts.SigParts.{SigParts}
use Rattle.law_sig.specs.contracts.tree.SortId as sort_id
use Rattle.law_laws.specs.Orders.{WeighsSomething}
use Rattle.law_laws.proofs.TreeFacts.{tree_induct, weight-Var, weight-App}
use Rattle.law_laws.proofs.ListFacts.{in_left, in_right, in_map, in_none, in_rest}
use Rattle.law_laws.proofs.Decide.{decided, values_decided, below_decided}
use Rattle.law_laws.proofs.Orders.{before_chain, before_decided}
use Rattle.law_laws.proofs.Agreement.{same_itself}
use Rattle.law_laws.proofs.Coverage.{covers}
use Rattle.law_laws.proofs.Descents.{weighs_something}
use Rattle.law_laws.proofs.Universe.{AreInU, in_var, in_app, listed_in}

-- Lists of a length over given items

pub in_joined : {A : Type 0} {x : A} {xs : List A} {xss : List (List A)} → In xs xss → In x xs → In x (joined xss)
in_joined (here {x = xs} {xs = xss}) at = in_left (joined xss) at
in_joined (there {y = ys} to) at = in_right ys (in_joined to at)

abbrev pub rows : {A : Type 0} → ℕ → List A → List (List A)
rows zero xs = [] ∷ []
rows (suc n) xs = joined (map (λ x. map (λ r. x ∷ r) (rows n xs)) xs)

pub in_rows : {A : Type 0} (xs ys : List A) → Each (λ y. In y xs) ys → In ys (rows (length ys) xs)
in_rows xs [] have = here
in_rows xs (y ∷ ys) have = in_joined (in_map (λ x. map (λ r. x ∷ r) (rows (length ys) xs)) have.0) (in_map (λ r. y ∷ r) (in_rows xs ys have.1))

-- The variables

pub in_first_of : {A : Type 0} (n : ℕ) (f : ℕ → A) (i : ℕ) → i < n → In (f i) (first_of n f)
in_first_of zero f i h = absurd (omega arith)
in_first_of (suc n) f zero h = here
in_first_of (suc n) f (suc i) h = there (in_first_of n (λ k. f (suc k)) i (omega arith))

pub in_per_variable : {A : Type 0} (vars : List ℕ) (base sort index : ℕ) (f : ℕ → ℕ → A) → index < slice_index_or vars sort 0
    → In (f (base + sort) index) (per_variable base vars f)
in_per_variable [] base sort index f h = absurd (omega arith)
in_per_variable (n ∷ vars) base zero index f h = in_left (per_variable (suc base) vars f)
    (subst (λ s. In (f s index) (first_of n (f base))) (plain base) (in_first_of n (f base) index h))
  where
    plain : (b : ℕ) → b ≡ b + 0
    plain b = omega arith
in_per_variable (n ∷ vars) base (suc sort) index f h = in_right (first_of n (f base))
    (subst (λ s. In (f s index) (per_variable (suc base) vars f)) (next base sort) (in_per_variable vars (suc base) sort index f h))
  where
    next : (b s : ℕ) → suc b + s ≡ b + suc s
    next b s = omega arith

abbrev variable : ℕ → ℕ → Tree
variable sort index = let s : SortId = record { 0 = sort } in Var s index

-- Finitely many terms that have all of the universe up to a weight among them

abbrev arity : Option Sym → ℕ
arity None = 0
arity (Some symbol) = length (args_of symbol)

abbrev pub candidates : SigParts → ℕ → List Tree
candidates parts zero = []
candidates parts (suc n) = per_variable 0 parts.settings.vars variable
    ++ joined (map (λ f. map (App f) (rows (arity (symbol_at parts f)) (candidates parts n))) parts.settings.explored)

length_in : (parts : SigParts) (ts : List Tree) (ws : List SortId) → AreInU parts ts ws → length ts ≡ length ws
length_in parts [] [] h = refl
length_in parts [] (w ∷ ws) h = absurd h
length_in parts (t ∷ ts) [] h = absurd h
length_in parts (t ∷ ts) (w ∷ ws) h = ap suc (length_in parts ts ws h.1)

module _ (parts : SigParts) (weighs : WeighsSomething parts) where
  abbrev IsFound : Tree → Type 0
  IsFound t = (n : ℕ) (sort : SortId) → InU parts sort t → weight parts t ≤ n → In t (candidates parts n)

  all_found : (n : ℕ) (ts : List Tree) (ws : List SortId) → Each IsFound ts → AreInU parts ts ws → total (map (weight parts) ts) ≤ n
      → Each (λ t. In t (candidates parts n)) ts
  all_found n [] ws have h small = tt
  all_found n (t ∷ ts) [] have h small = absurd h
  all_found n (t ∷ ts) (w ∷ ws) have h small = (have.0 n w h.0 (omega arith), all_found n ts ws have.1 h.1 (omega arith))

  var_found : (s : SortId) (i : ℕ) → IsFound (Var s i)
  var_found s i zero sort u small = let e = weight-Var parts s i in absurd (omega arith)
  var_found s i (suc n) sort u small = in_left (joined (map (λ f. map (App f) (rows (arity (symbol_at parts f)) (candidates parts n))) parts.settings.explored))
      (subst (λ k. In (variable k i) (per_variable 0 parts.settings.vars variable)) (zero-add s.0)
      (in_per_variable parts.settings.vars 0 s.0 i variable (in_var parts sort s i u).below))

  app_found : (f : SymId) (args : List Tree) → Each IsFound args → IsFound (App f args)
  app_found f args have zero sort u small = let e = weight-App parts f args in let h = weighs f in absurd (omega arith)
  app_found f args have (suc n) sort u small =
      let a = in_app parts f args sort u in
      let e = weight-App parts f args in
      let h = weighs f in
      let k : arity (symbol_at parts f) ≡ length args = ap arity a.declared ∙ sym (length_in parts args (args_of a.symbol) a.arguments) in
      in_right (per_variable 0 parts.settings.vars variable)
      (in_joined (in_map (λ g. map (App g) (rows (arity (symbol_at parts g)) (candidates parts n))) (listed_in f parts.settings.explored a.explored))
      (in_map (App f) (subst (λ m. In args (rows m (candidates parts n))) (sym k)
      (in_rows (candidates parts n) args (all_found n args (args_of a.symbol) have a.arguments (omega arith))))))

  pub found : (t : Tree) → IsFound t
  found = tree_induct IsFound var_found app_found

-- Whether a term is in the universe

pub in_decided : (parts : SigParts) (sort : SortId) (t : Tree) → InU parts sort t ⊎ (InU parts sort t → ⊥)
in_decided parts sort t = by (decided (coded_option (sort_id.the_row).coded) (sort_of parts t) (Some sort)) (decided coded_bool (is_bounded parts t) true) (split (weight parts t) parts.settings.size)
  where
    split : (n m : ℕ) → (n ≤ m) ⊎ (m < n)
    split n m = grind arith

    by : (sort_of parts t ≡ Some sort) ⊎ (sort_of parts t ≢ Some sort) → (is_bounded parts t ≡ true) ⊎ (is_bounded parts t ≢ true)
        → (weight parts t ≤ parts.settings.size) ⊎ (parts.settings.size < weight parts t) → InU parts sort t ⊎ (InU parts sort t → ⊥)
    by (inl e) (inl k) (inl h) = inl (record { sorted = e; bounded = k; small = h })
    by (inr e) k h = inr (λ u. e u.sorted)
    by (inl e) (inr k) h = inr (λ u. k u.bounded)
    by (inl e) (inl k) (inr h) = inr (λ u. let l = u.small in omega arith)

-- The least

-- of the things that have a property, the first one of a list and of one that is known
pub record IsFirstOf {A : Type 0} (R : A → A → Type 0) (P : A → Type 0) (ts : List A) (u : A) : Type 0 where
  pub has : P u
  pub least : (w : A) → In w ts → P w → (w ≡ u) ⊎ R u w

-- it exists where the order is total and it can be told what has the property
pub first_of_some : {A : Type 0} (R : A → A → Type 0) → ((x y z : A) → R x y → R y z → R x z) → ((x y : A) → (x ≡ y) ⊎ (R x y ⊎ R y x))
    → (P : A → Type 0) → ((x : A) → P x ⊎ (P x → ⊥)) → (t : A) → P t → (ts : List A) → (u : A) × IsFirstOf R P ts u
first_of_some R chain total P decide t holds [] = (t, record { has = holds; least = λ w at has. in_none at })
first_of_some {A} R chain total P decide t holds (x ∷ ts) = by (first_of_some R chain total P decide t holds ts) (decide x)
  where
    -- the first one so far stays, where the next thing is no candidate, or stands behind it
    stays : (u : A) → IsFirstOf R P ts u → (P x → (x ≡ u) ⊎ R u x) → (v : A) × IsFirstOf R P (x ∷ ts) v
    stays u f behind = (u, record { has = f.has; least = λ w at has. at_one w has (in_rest at) })
      where
        at_one : (w : A) → P w → (w ≡ x) ⊎ In w ts → (w ≡ u) ⊎ R u w
        at_one w has (inl e) = subst (λ z. P z → (z ≡ u) ⊎ R u z) (sym e) behind has
        at_one w has (inr at) = f.least w at has

    -- the next thing is the first one, where it stands before the first one so far
    falls : (u : A) → IsFirstOf R P ts u → P x → R x u → (v : A) × IsFirstOf R P (x ∷ ts) v
    falls u f holds_x before = (x, record { has = holds_x; least = λ w at has. at_one w has (in_rest at) })
      where
        then : (w : A) → (w ≡ u) ⊎ R u w → (w ≡ x) ⊎ R x w
        then w (inl e) = inr (subst (R x) (sym e) before)
        then w (inr h) = inr (chain x u w before h)

        at_one : (w : A) → P w → (w ≡ x) ⊎ In w ts → (w ≡ x) ⊎ R x w
        at_one w has (inl e) = inl e
        at_one w has (inr at) = then w (f.least w at has)

    ordered : (u : A) → IsFirstOf R P ts u → P x → (x ≡ u) ⊎ (R x u ⊎ R u x) → (v : A) × IsFirstOf R P (x ∷ ts) v
    ordered u f holds_x (inl e) = stays u f (λ _. inl e)
    ordered u f holds_x (inr (inl h)) = falls u f holds_x h
    ordered u f holds_x (inr (inr h)) = stays u f (λ _. inr h)

    by : (u : A) × IsFirstOf R P ts u → P x ⊎ (P x → ⊥) → (v : A) × IsFirstOf R P (x ∷ ts) v
    by (u, f) (inl holds_x) = ordered u f holds_x (total x u)
    by (u, f) (inr out) = stays u f (λ holds_x. absurd (out holds_x))

pub same_or_not : (parts : SigParts) (pools : Pools) (s t : Tree) → Same parts pools s t ⊎ (Same parts pools s t → ⊥)
same_or_not parts pools s t = by (below_decided _ _ (λ test. values_decided (val parts pools test s) (val parts pools test t)) (test_count parts pools))
  where
    by : Same parts pools s t ⊎ ((test : ℕ) × (test < test_count parts pools) × (val parts pools test s ≡ val parts pools test t → ⊥)) → Same parts pools s t ⊎ (Same parts pools s t → ⊥)
    by (inl same) = inl same
    by (inr apart) = inr (λ same. apart.2 (same apart.0 apart.1))

-- each term of the universe has a least, whatever is over budget
pub has_least : (parts : SigParts) (pools : Pools) → WeighsSomething parts → (sort : SortId) (t : Tree) → InU parts sort t → (u : Tree) × IsLeast parts pools sort t u
has_least parts pools weighs sort t t_in =
    by (first_of_some (IsBefore parts) (before_chain parts) (before_decided parts) Is is_decided t (t_in, same_itself parts pools t) (candidates parts parts.settings.size))
  where
    Is : Tree → Type 0
    Is x = InU parts sort x × Same parts pools t x

    is_decided : (x : Tree) → Is x ⊎ (Is x → ⊥)
    is_decided x = both (in_decided parts sort x) (same_or_not parts pools t x)
      where
        both : InU parts sort x ⊎ (InU parts sort x → ⊥) → Same parts pools t x ⊎ (Same parts pools t x → ⊥) → Is x ⊎ (Is x → ⊥)
        both (inl h) (inl k) = inl (h, k)
        both (inl h) (inr k) = inr (λ is. k is.1)
        both (inr h) k = inr (λ is. h is.0)

    by : (u : Tree) × IsFirstOf (IsBefore parts) Is (candidates parts parts.settings.size) u → (u : Tree) × IsLeast parts pools sort t u
    by (u, f) = (
      u,
      record {
        sorted = t_in.sorted;
        bounded = f.has.0;
        same = f.has.1;
        least = λ w w_in same. f.least w (found parts weighs w parts.settings.size sort w_in w_in.small) (w_in, same);
      },
    )

pub least_exists : (parts : SigParts) (pools : Pools) → IsWellFormed parts → (sort : SortId) (t : Tree) → InU parts sort t → (u : Tree) × IsLeast parts pools sort t u
least_exists parts pools well = has_least parts pools (weighs_something parts well)

-- so the law list covers
pub list_covers : (parts : SigParts) (pools : Pools) (laws : List Equation) → IsWellFormed parts → IsInBudget parts pools
    → IsLawList parts pools laws → IsCovered parts pools laws
list_covers parts pools laws well budget listed = covers parts pools laws listed budget.terms (least_exists parts pools well)
