-- A term whose variables are numbered from the left becomes any other term of its schema by a renaming.
use Rattle.std.proofs.Common.{◌≡◌, ℕ, suc, ◌+◌, ◌<◌, Bool, true, false, true≢false, if◌then◌else◌, List, [], ◌∷◌, ◌++◌, map, length, slice_index_or, sym, refl, ap, ap₂, ◌∙◌, subst, arith}
use Rattle.law_sig.specs.Lists.{Each}
use Rattle.law_sig.specs.Trees.{same_sort, schema_of, joined, holes, substituted}
use Rattle.law_sig.specs.Signature.{vars_at}
use Rattle.law_sig.specs.Tests.{first_of}
use Rattle.law_sig.specs.declared.tree.SortId.{SortId}
use Rattle.law_sig.specs.declared.tree.Tree.{Tree}
use Rattle.law_sig.specs.declared.tree.Tree.TheVariants.{Var, App}
use Rattle.law_sig.specs.declared.parts.SigParts.{SigParts}
use Rattle.law_laws.specs.Renaming.{Renames, renamed, has_vars}
use Rattle.law_sig.specs.General.{IsNumbered, filling}
use Rattle.law_laws.proofs.TreeFacts.{tree_induct, tree_cases, same_var, same_app, var_no_app, schema-Var, schema-App, holes-Var, holes-App, substituted-Var, substituted-App}
use Rattle.law_laws.proofs.Descents.{at_any_place}
use Rattle.law_laws.proofs.Sorts.{same_sort_is, same_sort_itself}
use Rattle.law_laws.proofs.Renaming.{vars-Var, vars-App}

-- Lists

length_parts : {A : Type 0} (xs ys : List A) → length (xs ++ ys) ≡ length xs + length ys
length_parts [] ys = omega arith
length_parts (x ∷ xs) ys = let h : length (xs ++ ys) ≡ length xs + length ys = length_parts xs ys in omega arith

length_map : {A B : Type 0} (f : A → B) (xs : List A) → length (map f xs) ≡ length xs
length_map f [] = refl
length_map f (x ∷ xs) = ap suc (length_map f xs)

map_parts : {A B : Type 0} (f : A → B) (xs ys : List A) → map f (xs ++ ys) ≡ map f xs ++ map f ys
map_parts f [] ys = refl
map_parts f (x ∷ xs) ys = ap (λ l. f x ∷ l) (map_parts f xs ys)

-- two splits of one list at one length are the same
one_split : {A : Type 0} (xs ys us vs : List A) → length xs ≡ length ys → xs ++ us ≡ ys ++ vs → (xs ≡ ys) × (us ≡ vs)
one_split [] [] us vs l e = (refl, e)
one_split [] (y ∷ ys) us vs l e = absurd (omega arith)
one_split (x ∷ xs) [] us vs l e = absurd (omega arith)
one_split (x ∷ xs) (y ∷ ys) us vs l e =
    let heads : x ≡ y = cc in
    let tails : xs ++ us ≡ ys ++ vs = cc in
    let (p, q) = one_split xs ys us vs (omega arith) tails in
    (ap₂ ◌∷◌ heads p, q)

-- reading a list by place gives it back
by_place : {A : Type 0} (xs : List A) (d : ℕ → A) → map (λ i. slice_index_or xs i (d i)) (first_of (length xs) (λ i. i)) ≡ xs
by_place xs d = shifted xs (λ i. i) (λ i. slice_index_or xs i (d i)) (λ i. d i) (λ i. refl)
  where
    shifted : {A : Type 0} (xs : List A) (g : ℕ → ℕ) (read : ℕ → A) (d : ℕ → A) → ((i : ℕ) → read (g i) ≡ slice_index_or xs i (d i)) → map read (first_of (length xs) g) ≡ xs
    shifted [] g read d e = refl
    shifted (x ∷ xs) g read d e = ap₂ ◌∷◌ (e 0) (shifted xs (λ i. g (suc i)) read (λ i. d (suc i)) (λ i. e (suc i)))

-- Terms of one schema have as many variables of each sort

schema_holes : (sort : SortId) (t : Tree) → length (holes sort (schema_of t)) ≡ length (holes sort t)
schema_holes sort = tree_induct (λ t. length (holes sort (schema_of t)) ≡ length (holes sort t))
    (λ s i. ap (λ t. length (holes sort t)) (schema-Var s i) ∙ ap length (holes-Var sort s 0) ∙ one (same_sort s sort) i ∙ sym (ap length (holes-Var sort s i)))
    (λ f args have. ap (λ t. length (holes sort t)) (schema-App f args) ∙ ap length (holes-App sort f (map schema_of args)) ∙ all args have ∙ sym (ap length (holes-App sort f args)))
  where
    one : (c : Bool) (i : ℕ) → length {A = ℕ} (if c then 0 ∷ [] else []) ≡ length (if c then i ∷ [] else [])
    one true i = refl
    one false i = refl

    all : (ts : List Tree) → Each (λ t. length (holes sort (schema_of t)) ≡ length (holes sort t)) ts
        → length (joined (map (holes sort) (map schema_of ts))) ≡ length (joined (map (holes sort) ts))
    all [] have = refl
    all (t ∷ ts) have = length_parts (holes sort (schema_of t)) (joined (map (holes sort) (map schema_of ts)))
        ∙ ap₂ ◌+◌ have.0 (all ts have.1) ∙ sym (length_parts (holes sort t) (joined (map (holes sort) ts)))

as_many : (sort : SortId) (g t : Tree) → schema_of g ≡ schema_of t → length (holes sort g) ≡ length (holes sort t)
as_many sort g t e = sym (schema_holes sort g) ∙ ap (λ x. length (holes sort x)) e ∙ schema_holes sort t

-- A renaming that takes the variables of one to those of the other takes the one to the other

abbrev Fills : (SortId → ℕ → ℕ) → Tree → Type 0
Fills r g = (t : Tree) → schema_of g ≡ schema_of t → ((sort : SortId) → map (r sort) (holes sort g) ≡ holes sort t) → substituted (renamed r) g ≡ t

fills : (r : SortId → ℕ → ℕ) (g : Tree) → Fills r g
fills r = tree_induct (Fills r)
    (λ s i. tree_cases (λ t. schema_of (Var s i) ≡ schema_of t → ((sort : SortId) → map (r sort) (holes sort (Var s i)) ≡ holes sort t) → substituted (renamed r) (Var s i) ≡ t)
    (λ u j e h. var_var s i u j (sym (schema-Var s i) ∙ e ∙ schema-Var u j) h)
    (λ f ts e h. absurd (var_no_app s 0 f (map schema_of ts) (sym (schema-Var s i) ∙ e ∙ schema-App f ts))))
    (λ f gs have. tree_cases (λ t. schema_of (App f gs) ≡ schema_of t → ((sort : SortId) → map (r sort) (holes sort (App f gs)) ≡ holes sort t) → substituted (renamed r) (App f gs) ≡ t)
    (λ u j e h. absurd (var_no_app u 0 f (map schema_of gs) (sym (schema-Var u j) ∙ sym e ∙ schema-App f gs)))
    (λ k ts e h. let (p, q) = same_app f k (map schema_of gs) (map schema_of ts) (sym (schema-App f gs) ∙ e ∙ schema-App k ts) in
    substituted-App (renamed r) f gs ∙ ap₂ App p (all gs ts have q (λ sort. ap (map (r sort)) (sym (holes-App sort f gs)) ∙ h sort ∙ holes-App sort k ts))))
  where
    first_is : (n m : ℕ) (c : Bool) → c ≡ true → map (λ (x : ℕ). n) (if c then 0 ∷ [] else []) ≡ (if c then m ∷ [] else []) → n ≡ m
    first_is n m true e h = cc
    first_is n m false e h = absurd (true≢false (sym e))

    moved : (c : Bool) (g : ℕ → ℕ) (i : ℕ) → map g (if c then i ∷ [] else []) ≡ map (λ (x : ℕ). g i) (if c then 0 ∷ [] else [])
    moved true g i = refl
    moved false g i = refl

    var_var : (s : SortId) (i : ℕ) (u : SortId) (j : ℕ) → Var s 0 ≡ Var u 0 → ((sort : SortId) → map (r sort) (holes sort (Var s i)) ≡ holes sort (Var u j))
        → substituted (renamed r) (Var s i) ≡ Var u j
    var_var s i u j e h =
        let p : s ≡ u = (same_var s u 0 0 e).0 in
        let k : map (r s) (if same_sort s s then i ∷ [] else []) ≡ (if same_sort s s then j ∷ [] else []) =
        ap (map (r s)) (sym (holes-Var s s i)) ∙ h s ∙ holes-Var s u j ∙ ap (λ x. if same_sort x s then j ∷ [] else []) (sym p) in
        substituted-Var (renamed r) s i ∙ ap₂ Var p (first_is (r s i) j (same_sort s s) (same_sort_itself s) (sym (moved (same_sort s s) (r s) i) ∙ k))

    all : (gs ts : List Tree) → Each (Fills r) gs → map schema_of gs ≡ map schema_of ts
        → ((sort : SortId) → map (r sort) (joined (map (holes sort) gs)) ≡ joined (map (holes sort) ts)) → map (substituted (renamed r)) gs ≡ ts
    all [] [] have e h = refl
    all [] (t ∷ ts) have e h = absurd (cc)
    all (g ∷ gs) [] have e h = absurd (cc)
    all (g ∷ gs) (t ∷ ts) have e h =
        let first : schema_of g ≡ schema_of t = cc in
        let rest : map schema_of gs ≡ map schema_of ts = cc in
        ap₂ ◌∷◌ (have.0 t first (λ sort. (split first sort).0)) (all gs ts have.1 rest (λ sort. (split first sort).1))
      where
        split : schema_of g ≡ schema_of t → (sort : SortId)
            → (map (r sort) (holes sort g) ≡ holes sort t) × (map (r sort) (joined (map (holes sort) gs)) ≡ joined (map (holes sort) ts))
        split first sort = one_split (map (r sort) (holes sort g)) (holes sort t) (map (r sort) (joined (map (holes sort) gs))) (joined (map (holes sort) ts))
            (length_map (r sort) (holes sort g) ∙ as_many sort g t first)
            (sym (map_parts (r sort) (holes sort g) (joined (map (holes sort) gs))) ∙ h sort)

pub filled : (g t : Tree) → IsNumbered g → schema_of g ≡ schema_of t → substituted (renamed (filling t)) g ≡ t
filled g t numbered e = fills (filling t) g t e (λ sort. ap (map (filling t sort)) (numbered sort)
    ∙ ap (λ n. map (filling t sort) (first_of n (λ i. i))) (as_many sort g t e) ∙ by_place (holes sort t) (λ i. i))

-- and this renaming keeps variables below their sort's number, where the term's are

holes_below : (parts : SigParts) (sort : SortId) (t : Tree) → has_vars parts t ≡ true → Each (λ i. i < vars_at parts sort) (holes sort t)
holes_below parts sort = tree_induct (λ t. has_vars parts t ≡ true → Each (λ i. i < vars_at parts sort) (holes sort t))
    (λ s i e. subst (Each (λ i. i < vars_at parts sort)) (sym (holes-Var sort s i)) (one s i (vars-Var parts s i e) (same_sort s sort) refl))
    (λ f args have e. subst (Each (λ i. i < vars_at parts sort)) (sym (holes-App sort f args)) (all args have (vars-App parts f args e)))
  where
    one : (s : SortId) (i : ℕ) → i < vars_at parts s → (c : Bool) → same_sort s sort ≡ c → Each (λ i. i < vars_at parts sort) (if c then i ∷ [] else [])
    one s i h true e = (subst (λ x. i < vars_at parts x) (same_sort_is s sort e) h, tt)
    one s i h false e = tt

    both : (xs ys : List ℕ) → Each (λ i. i < vars_at parts sort) xs → Each (λ i. i < vars_at parts sort) ys → Each (λ i. i < vars_at parts sort) (xs ++ ys)
    both [] ys h k = k
    both (x ∷ xs) ys h k = (h.0, both xs ys h.1 k)

    all : (ts : List Tree) → Each (λ t. has_vars parts t ≡ true → Each (λ i. i < vars_at parts sort) (holes sort t)) ts → Each (λ t. has_vars parts t ≡ true) ts
        → Each (λ i. i < vars_at parts sort) (joined (map (holes sort) ts))
    all [] have h = tt
    all (t ∷ ts) have h = both (holes sort t) (joined (map (holes sort) ts)) (have.0 h.0) (all ts have.1 h.1)

pub filling_renames : (parts : SigParts) (t : Tree) → has_vars parts t ≡ true → Renames parts (filling t)
filling_renames parts t e sort index below = at_any_place (λ i. i < vars_at parts sort) (holes sort t) index index (holes_below parts sort t e) below
