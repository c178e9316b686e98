-- The tests of the terms for an equation's variables mean what is asked of them.
use Rattle.std.proofs.Common.{◌≡◌, ℕ, zero, suc, ◌+◌, ◌<◌, ◌≤◌, ◌⊎◌, inl, inr, ◌↔◌, List, [], ◌∷◌, ◌++◌, length, map, drop, Bool, true, false, true≢false, IsTrue, ◌&&◌, ◌||◌, ◌==◌, nat_lt, eqb-true, eq-eqb, ltb-true, lt-ltb, if◌then◌else◌, Option, Some, None, sym, refl, ap, ap₂, ◌∙◌, subst, arith}
use Rattle.std.specs.List.{list_all, list_any}
use Rattle.law_sig.specs.Lists.{In, Each, Rising}
use Rattle.law_sig.specs.Lists.In.{here, there}
use Rattle.law_sig.specs.Trees.{same_sort, joined, holes}
use Rattle.law_sig.specs.Signature.{sort_of, has_sort}
use Rattle.law_sig.specs.declared.tree.SortId.{SortId}
use Rattle.law_sig.specs.declared.tree.SymId.{SymId}
use Rattle.law_sig.specs.declared.tree.Tree.{Tree}
use Rattle.law_sig.specs.declared.tree.Tree.TheVariants.{Var, App}
use Rattle.law_sig.specs.declared.parts.Equation.{Equation}
use Rattle.law_sig.specs.declared.parts.SigParts.{SigParts}
use Rattle.law_laws.proofs.TreeFacts.{tree_induct, fold-Var, fold-App, holes-Var, holes-App}
use Rattle.law_laws.proofs.ListFacts.{in_left, in_right, in_split, in_none, in_rest}
use Rattle.law_laws.proofs.Sorts.{same_sort_is, same_sort_itself, both_true}
use Rattle.law_laws.proofs.Universe.{either_true, right_true}
use Rattle.law_sig.specs.declared.chain.Bind.{Bind}
use Rattle.law_sig.specs.Chains.{StandsBefore, AreBinds, is_bound}
use Rattle.law_chains.specs.Binds.{stands, stands_step, is_given, is_covered, covered_step, fits, is_earlier, rises, are_binds}

-- Bools

any_of : {A : Type 0} (f : A → Bool) (xs : List A) → list_any (λ b. b) (map f xs) ≡ list_any f xs
any_of f [] = refl
any_of f (x ∷ xs) = ap (λ b. f x || b) (any_of f xs)

all_of : {A : Type 0} (f : A → Bool) (xs : List A) → list_all (λ b. b) (map f xs) ≡ list_all f xs
all_of f [] = refl
all_of f (x ∷ xs) = ap (λ b. f x && b) (all_of f xs)

-- What the tests are at an application

pub stands-App : (sort : SortId) (index : ℕ) (t : Tree) (f : SymId) (args : List Tree) → t ≡ App f args
    → list_any (stands sort index) args ≡ stands sort index t
stands-App sort index t f args is = sym (any_of (stands sort index) args) ∙ sym (fold-App Bool (stands_step sort index) f args) ∙ ap (stands sort index) (sym is)

pub covered-App : (binds : List Bind) (t : Tree) (f : SymId) (args : List Tree) → t ≡ App f args
    → list_all (is_covered binds) args ≡ is_covered binds t
covered-App binds t f args is = sym (all_of (is_covered binds) args) ∙ sym (fold-App Bool (covered_step binds) f args) ∙ ap (is_covered binds) (sym is)

-- A variable stands in a term

abbrev Stands : SortId → ℕ → Tree → Type 0
Stands sort index t = (stands sort index t ≡ true) ↔ In index (holes sort t)

var_there : (c : Bool) (i index : ℕ) → (c && (i == index)) ≡ true → In index (if c then i ∷ [] else [])
var_there true i index e = subst (λ n. In n (i ∷ [])) (eqb-true i index e) here
var_there false i index e = absurd (true≢false (sym e))

there_var : (c : Bool) (i index : ℕ) → In index (if c then i ∷ [] else []) → (c && (i == index)) ≡ true
there_var true i index at = by (in_rest at)
  where
    by : (index ≡ i) ⊎ In index [] → (i == index) ≡ true
    by (inl e) = eq-eqb i index (sym e)
    by (inr h) = in_none h
there_var false i index at = in_none at

pub stands_there : (sort : SortId) (index : ℕ) (t : Tree) → Stands sort index t
stands_there sort index = tree_induct (Stands sort index)
    (λ s i. (
      λ e. subst (In index) (sym (holes-Var sort s i)) (var_there (same_sort s sort) i index (sym (fold-Var Bool (stands_step sort index) s i) ∙ e)),
      λ at. fold-Var Bool (stands_step sort index) s i ∙ there_var (same_sort s sort) i index (subst (In index) (holes-Var sort s i) at),
    ))
    (λ f args have. (
      λ e. subst (In index) (sym (holes-App sort f args)) (any_there args have (stands-App sort index (App f args) f args refl ∙ e)),
      λ at. sym (stands-App sort index (App f args) f args refl) ∙ there_any args have (subst (In index) (holes-App sort f args) at),
    ))
  where
    any_there : (ts : List Tree) → Each (Stands sort index) ts → list_any (stands sort index) ts ≡ true → In index (joined (map (holes sort) ts))
    any_there [] have e = absurd (true≢false (sym e))
    any_there (t ∷ ts) have e = by (any_there ts have.1) (either_true (stands sort index t) (list_any (stands sort index) ts) e)
      where
        by : (list_any (stands sort index) ts ≡ true → In index (joined (map (holes sort) ts)))
            → (stands sort index t ≡ true) ⊎ (list_any (stands sort index) ts ≡ true) → In index (holes sort t ++ joined (map (holes sort) ts))
        by later (inl h) = in_left (joined (map (holes sort) ts)) (have.0.0 h)
        by later (inr h) = in_right (holes sort t) (later h)

    there_any : (ts : List Tree) → Each (Stands sort index) ts → In index (joined (map (holes sort) ts)) → list_any (stands sort index) ts ≡ true
    there_any [] have at = in_none at
    there_any (t ∷ ts) have at = by (there_any ts have.1) (in_split (holes sort t) (joined (map (holes sort) ts)) at)
      where
        by : (In index (joined (map (holes sort) ts)) → list_any (stands sort index) ts ≡ true)
            → In index (holes sort t) ⊎ In index (joined (map (holes sort) ts)) → (stands sort index t || list_any (stands sort index) ts) ≡ true
        by later (inl h) = ap (λ c. c || list_any (stands sort index) ts) (have.0.1 h)
        by later (inr h) = ap (λ c. stands sort index t || c) (later h) ∙ right_true (stands sort index t)

-- There is a term for a variable

abbrev Key : Type 0
Key = SortId × ℕ

abbrev key : Bind → Key
key b = (b.sort, b.index)

same_key : (s r : SortId) (i j : ℕ) → s ≡ r → i ≡ j → ◌≡◌ {A = Key} (s, i) (r, j)
same_key s r i j e k = cc

key_parts : (s r : SortId) (i j : ℕ) → ◌≡◌ {A = Key} (s, i) (r, j) → (s ≡ r) × (i ≡ j)
key_parts s r i j e = (ap (λ (p : Key). p.0) e, ap (λ (p : Key). p.1) e)

pub given_there : (sort : SortId) (index : ℕ) (binds : List Bind) → is_given binds sort index ≡ true → In {A = Key} (sort, index) (map key binds)
given_there sort index [] e = absurd (true≢false (sym e))
given_there sort index (b ∷ binds) e = by (given_there sort index binds) (either_true (is_bound sort index b) (is_given binds sort index) e)
  where
    by : (is_given binds sort index ≡ true → In {A = Key} (sort, index) (map key binds))
        → (is_bound sort index b ≡ true) ⊎ (is_given binds sort index ≡ true) → In {A = Key} (sort, index) (map key (b ∷ binds))
    by later (inl h) =
        let p = both_true (same_sort b.sort sort) (b.index == index) h in
        subst (λ (k : Key). In {A = Key} k (map key (b ∷ binds))) (same_key b.sort sort b.index index (same_sort_is b.sort sort p.0) (eqb-true b.index index p.1)) here
    by later (inr h) = there (later h)

pub there_given : (sort : SortId) (index : ℕ) (binds : List Bind) → In {A = Key} (sort, index) (map key binds) → is_given binds sort index ≡ true
there_given sort index [] at = in_none at
there_given sort index (b ∷ binds) at = by (there_given sort index binds) (in_rest at)
  where
    by : (In {A = Key} (sort, index) (map key binds) → is_given binds sort index ≡ true)
        → ◌≡◌ {A = Key} (sort, index) (key b) ⊎ In {A = Key} (sort, index) (map key binds) → (is_bound sort index b || is_given binds sort index) ≡ true
    by later (inl e) =
        let p = key_parts sort b.sort index b.index e in
        ap (λ c. c || is_given binds sort index)
        (ap₂ ◌&&◌ (ap (λ s. same_sort s sort) (sym p.0) ∙ same_sort_itself sort) (eq-eqb b.index index (sym p.1)))
    by later (inr h) = ap (λ c. is_bound sort index b || c) (later h) ∙ right_true (is_bound sort index b)

-- There is one for each variable of a term

abbrev Covers : List Bind → Tree → Type 0
Covers binds t = (sort : SortId) (index : ℕ) → In index (holes sort t) → In {A = Key} (sort, index) (map key binds)

abbrev Covered : List Bind → Tree → Type 0
Covered binds t = (is_covered binds t ≡ true) ↔ Covers binds t

hole_of : (binds : List Bind) (s sort : SortId) (i index : ℕ) → In {A = Key} (s, i) (map key binds) → (c : Bool) → same_sort s sort ≡ c
    → In index (if c then i ∷ [] else []) → In {A = Key} (sort, index) (map key binds)
hole_of binds s sort i index given true same at = by (in_rest at)
  where
    by : (index ≡ i) ⊎ In index [] → In {A = Key} (sort, index) (map key binds)
    by (inl e) = subst (λ (k : Key). In {A = Key} k (map key binds)) (same_key s sort i index (same_sort_is s sort same) (sym e)) given
    by (inr h) = in_none h
hole_of binds s sort i index given false same at = in_none at

own_hole : (s : SortId) (i : ℕ) → In i (holes s (Var s i))
own_hole s i = subst (In i) (sym (holes-Var s s i ∙ ap (λ c. if c then i ∷ [] else []) (same_sort_itself s))) here

pub covered_there : (binds : List Bind) (t : Tree) → Covered binds t
covered_there binds = tree_induct (Covered binds)
    (λ s i. (
      λ e sort index at. hole_of binds s sort i index (given_there s i binds (sym (fold-Var Bool (covered_step binds) s i) ∙ e)) (same_sort s sort) refl
          (subst (In index) (holes-Var sort s i) at),
      λ covers. fold-Var Bool (covered_step binds) s i ∙ there_given s i binds (covers s i (own_hole s i)),
    ))
    (λ f args have. (
      λ e sort index at. all_there args have (covered-App binds (App f args) f args refl ∙ e) sort index (subst (In index) (holes-App sort f args) at),
      λ covers. sym (covered-App binds (App f args) f args refl) ∙ there_all args have (λ sort index at. covers sort index (subst (In index) (sym (holes-App sort f args)) at)),
    ))
  where
    all_there : (ts : List Tree) → Each (Covered binds) ts → list_all (is_covered binds) ts ≡ true
        → (sort : SortId) (index : ℕ) → In index (joined (map (holes sort) ts)) → In {A = Key} (sort, index) (map key binds)
    all_there [] have e sort index at = in_none at
    all_there (t ∷ ts) have e sort index at =
        let p = both_true (is_covered binds t) (list_all (is_covered binds) ts) e in
        by (all_there ts have.1 p.1 sort index) p.0 (in_split (holes sort t) (joined (map (holes sort) ts)) at)
      where
        by : (In index (joined (map (holes sort) ts)) → In {A = Key} (sort, index) (map key binds)) → is_covered binds t ≡ true
            → In index (holes sort t) ⊎ In index (joined (map (holes sort) ts)) → In {A = Key} (sort, index) (map key binds)
        by later first (inl h) = have.0.0 first sort index h
        by later first (inr h) = later h

    there_all : (ts : List Tree) → Each (Covered binds) ts → ((sort : SortId) (index : ℕ) → In index (joined (map (holes sort) ts)) → In {A = Key} (sort, index) (map key binds))
        → list_all (is_covered binds) ts ≡ true
    there_all [] have covers = refl
    there_all (t ∷ ts) have covers = ap₂ ◌&&◌ (have.0.1 (λ sort index at. covers sort index (in_left (joined (map (holes sort) ts)) at)))
        (there_all ts have.1 (λ sort index at. covers sort index (in_right (holes sort t) at)))

-- The terms are in order

earlier_before : (b d : Bind) → is_earlier b d ≡ true → StandsBefore b d
earlier_before b d e = by (either_true (nat_lt b.sort.0 d.sort.0) (same_sort b.sort d.sort && nat_lt b.index d.index) e)
  where
    by : (nat_lt b.sort.0 d.sort.0 ≡ true) ⊎ ((same_sort b.sort d.sort && nat_lt b.index d.index) ≡ true) → StandsBefore b d
    by (inl h) = inl (ltb-true b.sort.0 d.sort.0 h)
    by (inr h) =
        let p = both_true (same_sort b.sort d.sort) (nat_lt b.index d.index) h in
        inr (same_sort_is b.sort d.sort p.0, ltb-true b.index d.index p.1)

before_earlier : (b d : Bind) → StandsBefore b d → is_earlier b d ≡ true
before_earlier b d (inl less) = ap (λ c. c || (same_sort b.sort d.sort && nat_lt b.index d.index)) (lt-ltb b.sort.0 d.sort.0 less)
before_earlier b d (inr h) =
    ap (λ c. nat_lt b.sort.0 d.sort.0 || c) (ap₂ ◌&&◌ (ap (same_sort b.sort) (sym h.0) ∙ same_sort_itself b.sort) (lt-ltb b.index d.index h.1)) ∙ right_true (nat_lt b.sort.0 d.sort.0)

before_chain : (b d g : Bind) → StandsBefore b d → StandsBefore d g → StandsBefore b g
before_chain b d g (inl h) (inl k) = inl (omega arith)
before_chain b d g (inl h) (inr k) = inl (subst (λ (s : SortId). b.sort.0 < s.0) k.0 h)
before_chain b d g (inr h) (inl k) = inl (subst (λ (s : SortId). s.0 < g.sort.0) (sym h.0) k)
before_chain b d g (inr h) (inr k) = inr (h.0 ∙ k.0, (let p = h.1 in let q = k.1 in omega arith))

rising_from : (b : Bind) (binds : List Bind) → rises (b ∷ binds) ≡ true → Each (StandsBefore b) binds × Rising StandsBefore binds
rising_from b [] e = (tt, tt)
rising_from b (d ∷ binds) e =
    let p = both_true (is_earlier b d) (rises (d ∷ binds)) e in
    let first = earlier_before b d p.0 in
    let r = rising_from d binds p.1 in
    ((first, onward binds r.0 first), (r.0, r.1))
  where
    onward : (gs : List Bind) → Each (StandsBefore d) gs → StandsBefore b d → Each (StandsBefore b) gs
    onward [] h first = tt
    onward (g ∷ gs) h first = (before_chain b d g first h.0, onward gs h.1 first)

rises_rising : (binds : List Bind) → rises binds ≡ true → Rising StandsBefore binds
rises_rising [] e = tt
rises_rising (b ∷ binds) e = rising_from b binds e

rising_rises : (binds : List Bind) → Rising StandsBefore binds → rises binds ≡ true
rising_rises [] h = refl
rising_rises (b ∷ []) h = refl
rising_rises (b ∷ d ∷ binds) h = ap₂ ◌&&◌ (before_earlier b d h.0.0) (rising_rises (d ∷ binds) h.1)

pub rises_end : (binds : List Bind) (k : ℕ) → length binds ≤ k + 1 → rises (drop k binds) ≡ true
rises_end [] zero h = refl
rises_end [] (suc k) h = refl
rises_end (b ∷ []) zero h = refl
rises_end (b ∷ d ∷ binds) zero h = absurd (omega arith)
rises_end (b ∷ binds) (suc k) h = rises_end binds k (omega arith)

-- All of it

has_sort_is : (found : Option SortId) (sort : SortId) → has_sort found sort ≡ true → found ≡ Some sort
has_sort_is None sort e = absurd (true≢false (sym e))
has_sort_is (Some s) sort e = ap Some (same_sort_is s sort e)

is_has_sort : (found : Option SortId) (sort : SortId) → found ≡ Some sort → has_sort found sort ≡ true
is_has_sort found sort e = ap (λ f. has_sort f sort) e ∙ same_sort_itself sort

all_each : {A : Type 0} (f : A → Bool) (xs : List A) → list_all f xs ≡ true → Each (λ x. f x ≡ true) xs
all_each f [] e = tt
all_each f (x ∷ xs) e = let p = both_true (f x) (list_all f xs) e in (p.0, all_each f xs p.1)

each_all : {A : Type 0} (f : A → Bool) (xs : List A) → Each (λ x. f x ≡ true) xs → list_all f xs ≡ true
each_all f [] h = refl
each_all f (x ∷ xs) h = ap₂ ◌&&◌ h.0 (each_all f xs h.1)

module _ (parts : SigParts) (q : Equation) where
  -- a variable stands on one of the sides
  abbrev StandsIn : SortId → ℕ → Type 0
  StandsIn sort index = In index (holes sort q.left) ⊎ In index (holes sort q.right)

  stands_in : (sort : SortId) (index : ℕ) → (stands sort index q.left || stands sort index q.right) ≡ true → StandsIn sort index
  stands_in sort index e = by (either_true (stands sort index q.left) (stands sort index q.right) e)
    where
      by : (stands sort index q.left ≡ true) ⊎ (stands sort index q.right ≡ true) → StandsIn sort index
      by (inl h) = inl ((stands_there sort index q.left).0 h)
      by (inr h) = inr ((stands_there sort index q.right).0 h)

  in_stands : (sort : SortId) (index : ℕ) → StandsIn sort index → (stands sort index q.left || stands sort index q.right) ≡ true
  in_stands sort index (inl h) = ap (λ c. c || stands sort index q.right) ((stands_there sort index q.left).1 h)
  in_stands sort index (inr h) = ap (λ c. stands sort index q.left || c) ((stands_there sort index q.right).1 h) ∙ right_true (stands sort index q.left)

  fit_sorted : (binds : List Bind) → Each (λ b. fits parts q b ≡ true) binds → Each (λ (b : Bind). sort_of parts b.term ≡ Some b.sort) binds
  fit_sorted [] h = tt
  fit_sorted (b ∷ binds) h = (
    has_sort_is (sort_of parts b.term) b.sort (both_true (has_sort (sort_of parts b.term) b.sort) (stands b.sort b.index q.left || stands b.sort b.index q.right) h.0).0,
    fit_sorted binds h.1,
  )

  fit_stand : (binds : List Bind) → Each (λ b. fits parts q b ≡ true) binds → (sort : SortId) (index : ℕ) → In {A = Key} (sort, index) (map key binds) → StandsIn sort index
  fit_stand [] h sort index at = in_none at
  fit_stand (b ∷ binds) h sort index at = by (fit_stand binds h.1 sort index) (in_rest at)
    where
      by : (In {A = Key} (sort, index) (map key binds) → StandsIn sort index) → ◌≡◌ {A = Key} (sort, index) (key b) ⊎ In {A = Key} (sort, index) (map key binds) → StandsIn sort index
      by later (inl e) = subst (λ (k : Key). StandsIn k.0 k.1) (sym e)
          (stands_in b.sort b.index (both_true (has_sort (sort_of parts b.term) b.sort) (stands b.sort b.index q.left || stands b.sort b.index q.right) h.0).1)
      by later (inr k) = later k

  all_fits : (binds : List Bind) → Each (λ (b : Bind). sort_of parts b.term ≡ Some b.sort) binds
      → ((sort : SortId) (index : ℕ) → In {A = Key} (sort, index) (map key binds) → StandsIn sort index) → Each (λ b. fits parts q b ≡ true) binds
  all_fits [] sorted stand = tt
  all_fits (b ∷ binds) sorted stand = (
    ap₂ ◌&&◌ (is_has_sort (sort_of parts b.term) b.sort sorted.0) (in_stands b.sort b.index (stand b.sort b.index here)),
    all_fits binds sorted.1 (λ sort index at. stand sort index (there at)),
  )

  pub passed_binds : (binds : List Bind) → list_all (fits parts q) binds ≡ true → rises binds ≡ true → is_covered binds q.left ≡ true → is_covered binds q.right ≡ true
      → AreBinds parts q binds
  passed_binds binds fit rise left right =
      let each = all_each (fits parts q) binds fit in
      record {
        sorted = fit_sorted binds each;
        rising = rises_rising binds rise;
        exact = λ sort index. (fit_stand binds each sort index, back sort index);
      }
    where
      back : (sort : SortId) (index : ℕ) → StandsIn sort index → In {A = Key} (sort, index) (map key binds)
      back sort index (inl h) = (covered_there binds q.left).0 left sort index h
      back sort index (inr h) = (covered_there binds q.right).0 right sort index h

  -- the four tests that they pass
  pub record Pass (binds : List Bind) : Type 0 where
    pub fit : list_all (fits parts q) binds ≡ true
    pub rise : rises binds ≡ true
    pub left : is_covered binds q.left ≡ true
    pub right : is_covered binds q.right ≡ true

  pub binds_pass : (binds : List Bind) → AreBinds parts q binds → Pass binds
  binds_pass binds are = record {
    fit = each_all (fits parts q) binds (all_fits binds are.sorted (λ sort index. (are.exact sort index).0));
    rise = rising_rises binds are.rising;
    left = (covered_there binds q.left).1 (λ sort index at. (are.exact sort index).1 (inl at));
    right = (covered_there binds q.right).1 (λ sort index at. (are.exact sort index).1 (inr at));
  }

  pub binds_computed : (binds : List Bind) → IsTrue (are_binds parts q binds) ↔ AreBinds parts q binds
  binds_computed binds = (
    λ e.
        let right = both_true (list_all (fits parts q) binds && rises binds && is_covered binds q.left) (is_covered binds q.right) e in
        let left = both_true (list_all (fits parts q) binds && rises binds) (is_covered binds q.left) right.0 in
        let order = both_true (list_all (fits parts q) binds) (rises binds) left.0 in
        passed_binds binds order.0 order.1 left.1 right.1,
    λ are. let pass = binds_pass binds are in ap₂ ◌&&◌ (ap₂ ◌&&◌ (ap₂ ◌&&◌ pass.fit pass.rise) pass.left) pass.right,
  )
