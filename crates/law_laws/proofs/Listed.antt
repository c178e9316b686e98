-- The terms of the universe as a list, by weight and then by sort, which is as long as they are counted.
use Rattle.std.proofs.Common.{◌≡◌, ◌≢◌, ℕ, zero, suc, ◌+◌, ◌-◌, ◌*◌, ◌<◌, ◌≤◌, ◌⊎◌, inl, inr, Bool, true, false, ◌&&◌, eqb-true, eq-eqb, ltb-true, lt-ltb, nat_lt, nat_eq, if◌then◌else◌, IsTrue, Option, Some, None, List, [], ◌∷◌, ◌++◌, map, length, slice_index_or, sym, refl, ap, ap₂, ◌∙◌, subst, arith}
use Rattle.std.specs.List.{list_all}
use Rattle.law_sig.specs.Lists.{In, Each, AreDistinct, total}
use Rattle.law_sig.specs.Lists.In.{here, there}
use Rattle.law_sig.specs.Trees.{joined}
use Rattle.law_sig.specs.Signature.{is_declared_sort, symbol_at, args_of, result_of, vars_at, weight_at, sort_of}
use Rattle.law_sig.specs.Tests.{weight, is_explored, is_bounded, first_of}
use Rattle.law_sig.specs.Counts.{count_at, lists_at, applications_of, terms_at, next_row, rows_up_to, term_count}
use Rattle.law_sig.specs.WellFormed.{IsWellFormed}
use Rattle.law_sig.specs.declared.tree.SortId.{SortId}
use Rattle.law_sig.specs.declared.tree.SymId.{SymId}
use Rattle.law_sig.specs.declared.tree.Tree.{Tree}
use Rattle.law_sig.specs.declared.tree.Tree.TheOpen as o
use Rattle.law_sig.specs.declared.tree.Tree.TheOpen.{Tree-F}
use Rattle.law_sig.specs.declared.tree.Tree.TheVariants.{Var, App, outs-App}
use Rattle.law_sig.specs.declared.tree.Tree.TheViews.{out-Tree}
use Rattle.law_sig.specs.declared.parts.Sym.{Sym}
use Rattle.law_sig.specs.declared.parts.SigParts.{SigParts}
use Rattle.law_laws.specs.Counting.{IsInUniverse, CountIsOfTerms, ListingsAreCounted}
use Rattle.law_laws.proofs.TreeFacts.{same_app, same_var, var_no_app, weight-Var, weight-App, bounded-Var, bounded-App, tree_cases}
use Rattle.law_laws.proofs.ListFacts.{each_map, in_left, in_right, in_map, each_of, of_each, in_none, in_rest}
use Rattle.law_laws.proofs.Sorts.{HaveSorts, same_sort_is, same_sort_itself, sorted_app, app_sorted, sorted_var, var_sorted, both_true}
use Rattle.law_laws.proofs.Enumeration.{in_joined}
use Rattle.law_laws.proofs.Universe.{listed_in, in_listed}
use Rattle.law_laws.proofs.Renaming.{each_true, all_true}
use Rattle.law_laws.proofs.Descents.{weighs_something}

-- Lists: lengths

length_append : {A : Type 0} (xs ys : List A) → length (xs ++ ys) ≡ length xs + length ys
length_append [] ys = omega arith
length_append (x ∷ xs) ys = let h : length (xs ++ ys) ≡ length xs + length ys = length_append xs ys in omega arith

length_joined : {A : Type 0} (xss : List (List A)) → length (joined xss) ≡ total (map length xss)
length_joined [] = refl
length_joined (xs ∷ xss) = length_append xs (joined xss) ∙ ap (λ n. length xs + n) (length_joined xss)

length_map : {A B : Type 0} (f : A → B) (xs : List A) → length (map f xs) ≡ length xs
length_map f [] = refl
length_map f (x ∷ xs) = ap suc (length_map f xs)

map_map : {A B C : Type 0} (f : B → C) (g : A → B) (xs : List A) → map f (map g xs) ≡ map (λ x. f (g x)) xs
map_map f g [] = refl
map_map f g (x ∷ xs) = ap (λ l. f (g x) ∷ l) (map_map f g xs)

map_ext : {A B : Type 0} (f g : A → B) (xs : List A) → ((x : A) → f x ≡ g x) → map f xs ≡ map g xs
map_ext f g [] same = refl
map_ext f g (x ∷ xs) same = ap₂ ◌∷◌ (same x) (map_ext f g xs same)

map_append : {A B : Type 0} (f : A → B) (xs ys : List A) → map f (xs ++ ys) ≡ map f xs ++ map f ys
map_append f [] ys = refl
map_append f (x ∷ xs) ys = ap (λ l. f x ∷ l) (map_append f xs ys)

map_first : {A B : Type 0} (f : A → B) (n : ℕ) (g : ℕ → A) → map f (first_of n g) ≡ first_of n (λ i. f (g i))
map_first f zero g = refl
map_first f (suc n) g = ap (λ l. f (g 0) ∷ l) (map_first f n (λ i. g (suc i)))

first_ext : {A : Type 0} (n : ℕ) (f g : ℕ → A) → ((i : ℕ) → f i ≡ g i) → first_of n f ≡ first_of n g
first_ext zero f g same = refl
first_ext (suc n) f g same = ap₂ ◌∷◌ (same 0) (first_ext n (λ i. f (suc i)) (λ i. g (suc i)) (λ i. same (suc i)))

length_first : {A : Type 0} (n : ℕ) (f : ℕ → A) → length (first_of n f) ≡ n
length_first zero f = refl
length_first (suc n) f = ap suc (length_first n (λ i. f (suc i)))

map_place : {A B : Type 0} (f : A → B) (xs : List A) (at : ℕ) (d : A) (e : B) → e ≡ f d → slice_index_or (map f xs) at e ≡ f (slice_index_or xs at d)
map_place f [] at d e is = is
map_place f (x ∷ xs) zero d e is = refl
map_place f (x ∷ xs) (suc n) d e is = map_place f xs n d e is

-- The lists

-- terms by weight and then by sort
abbrev pub Rows : Type 0
Rows = List (List (List Tree))

abbrev pub terms_in : Rows → ℕ → SortId → List Tree
terms_in rows weight sort = slice_index_or (slice_index_or rows weight []) sort.0 []

-- each of the first list in front of each of the second
abbrev pub pairs : List Tree → List (List Tree) → List (List Tree)
pairs xs ls = joined (map (λ x. map (λ l. x ∷ l) ls) xs)

abbrev pub lists_in : Rows → List SortId → ℕ → List (List Tree)
lists_in rows [] zero = [] ∷ []
lists_in rows [] (suc weight) = []
lists_in rows (sort ∷ sorts) weight = joined (first_of (suc weight) (λ first. pairs (terms_in rows first sort) (lists_in rows sorts (weight - first))))

abbrev pub applied_in : SigParts → Rows → ℕ → SortId → SymId → Option Sym → List Tree
applied_in parts rows weight sort f None = []
applied_in parts rows weight sort f (Some symbol) =
    if nat_eq (result_of symbol).0 sort.0
    then (if nat_lt weight (weight_at parts f) then [] else map (App f) (lists_in rows (args_of symbol) (weight - weight_at parts f)))
    else []

abbrev pub terms_for : SigParts → Rows → ℕ → SortId → List Tree
terms_for parts rows weight sort = (if nat_eq weight 1 then first_of (vars_at parts sort) (Var sort) else [])
    ++ joined (map (λ (f : SymId). applied_in parts rows weight sort f (symbol_at parts f)) parts.settings.explored)

abbrev pub next_terms : SigParts → Rows → List (List Tree)
next_terms parts rows = first_of (length parts.sort_names) (λ sort. terms_for parts rows (length rows) (record { 0 = sort }))

abbrev pub all_terms : SigParts → ℕ → Rows
all_terms parts zero = first_of (length parts.sort_names) (λ sort. []) ∷ []
all_terms parts (suc weight) = all_terms parts weight ++ next_terms parts (all_terms parts weight) ∷ []

-- They are as long as they are counted

abbrev counts_of : Rows → List (List ℕ)
counts_of rows = map (map length) rows

count_is : (rows : Rows) (weight : ℕ) (sort : SortId) → length (terms_in rows weight sort) ≡ count_at (counts_of rows) weight sort
count_is rows weight sort =
    sym (map_place length (slice_index_or rows weight []) sort.0 [] 0 refl) ∙ ap (λ l. slice_index_or l sort.0 0) (sym (map_place (map length) rows weight [] [] refl))

pairs_length : (xs : List Tree) (ls : List (List Tree)) → length (pairs xs ls) ≡ length xs * length ls
pairs_length [] ls = omega arith
pairs_length (x ∷ xs) ls =
    length_append (map (λ l. x ∷ l) ls) (pairs xs ls) ∙ ap₂ ◌+◌ (length_map (λ l. x ∷ l) ls) (pairs_length xs ls) ∙ one_more (length ls) (length xs)
  where
    one_more : (a b : ℕ) → a + b * a ≡ suc b * a
    one_more a b = omega arith

lists_length : (rows : Rows) (sorts : List SortId) (weight : ℕ) → length (lists_in rows sorts weight) ≡ lists_at (counts_of rows) sorts weight
lists_length rows [] zero = refl
lists_length rows [] (suc weight) = refl
lists_length rows (sort ∷ sorts) weight =
    length_joined (first_of (suc weight) (λ first. pairs (terms_in rows first sort) (lists_in rows sorts (weight - first))))
    ∙ ap total (map_first length (suc weight) (λ first. pairs (terms_in rows first sort) (lists_in rows sorts (weight - first)))
    ∙ first_ext (suc weight) _ _ (λ first. pairs_length (terms_in rows first sort) (lists_in rows sorts (weight - first))
    ∙ ap₂ ◌*◌ (count_is rows first sort) (lists_length rows sorts (weight - first))))

applied_length : (parts : SigParts) (rows : Rows) (weight : ℕ) (sort : SortId) (f : SymId) (o : Option Sym)
    → length (applied_in parts rows weight sort f o) ≡ applications_of parts (counts_of rows) weight sort f o
applied_length parts rows weight sort f None = refl
applied_length parts rows weight sort f (Some symbol) = by (nat_eq (result_of symbol).0 sort.0) (nat_lt weight (weight_at parts f))
  where
    by : (b c : Bool) → length (if b then (if c then [] else map (App f) (lists_in rows (args_of symbol) (weight - weight_at parts f))) else [])
        ≡ (if b then (if c then 0 else lists_at (counts_of rows) (args_of symbol) (weight - weight_at parts f)) else 0)
    by true true = refl
    by true false = length_map (App f) (lists_in rows (args_of symbol) (weight - weight_at parts f)) ∙ lists_length rows (args_of symbol) (weight - weight_at parts f)
    by false c = refl

terms_length : (parts : SigParts) (rows : Rows) (weight : ℕ) (sort : SortId) → length (terms_for parts rows weight sort) ≡ terms_at parts (counts_of rows) weight sort
terms_length parts rows weight sort =
    length_append (if nat_eq weight 1 then first_of (vars_at parts sort) (Var sort) else [])
    (joined (map (λ (f : SymId). applied_in parts rows weight sort f (symbol_at parts f)) parts.settings.explored))
    ∙ ap₂ ◌+◌ (by (nat_eq weight 1)) (length_joined (map (λ (f : SymId). applied_in parts rows weight sort f (symbol_at parts f)) parts.settings.explored)
    ∙ ap total (map_map length (λ (f : SymId). applied_in parts rows weight sort f (symbol_at parts f)) parts.settings.explored
    ∙ map_ext _ _ parts.settings.explored (λ f. applied_length parts rows weight sort f (symbol_at parts f))))
  where
    by : (b : Bool) → length (if b then first_of (vars_at parts sort) (Var sort) else []) ≡ (if b then vars_at parts sort else 0)
    by true = length_first (vars_at parts sort) (Var sort)
    by false = refl

next_length : (parts : SigParts) (rows : Rows) → map length (next_terms parts rows) ≡ next_row parts (counts_of rows)
next_length parts rows =
    map_first length (length parts.sort_names) (λ sort. terms_for parts rows (length rows) (record { 0 = sort }))
    ∙ first_ext (length parts.sort_names) _ _ (λ sort. terms_length parts rows (length rows) (record { 0 = sort })
    ∙ ap (λ n. terms_at parts (counts_of rows) n (record { 0 = sort })) (sym (length_map (map length) rows)))

counts_are : (parts : SigParts) (n : ℕ) → counts_of (all_terms parts n) ≡ rows_up_to parts n
counts_are parts zero = ap (λ l. l ∷ []) (map_first length (length parts.sort_names) (λ sort. []))
counts_are parts (suc n) =
    map_append (map length) (all_terms parts n) (next_terms parts (all_terms parts n) ∷ [])
    ∙ ap₂ (λ l r. l ++ r ∷ []) (counts_are parts n) (next_length parts (all_terms parts n) ∙ ap (next_row parts) (counts_are parts n))

-- all of them, one row after another
abbrev pub universe : SigParts → List Tree
universe parts = joined (map joined (all_terms parts parts.settings.size))

pub universe_length : (parts : SigParts) → length (universe parts) ≡ term_count parts
universe_length parts =
    length_joined (map joined (all_terms parts parts.settings.size))
    ∙ ap total (map_map length joined (all_terms parts parts.settings.size) ∙ map_ext _ _ (all_terms parts parts.settings.size) length_joined
    ∙ sym (map_map total (map length) (all_terms parts parts.settings.size)) ∙ ap (map total) (counts_are parts parts.settings.size))

-- Lists: what stands in them, and nothing twice

in_first : {A : Type 0} (n : ℕ) (f : ℕ → A) (i : ℕ) → i < n → In (f i) (first_of n f)
in_first zero f i h = absurd (omega arith)
in_first (suc n) f zero h = here
in_first (suc n) f (suc i) h = there (in_first n (λ k. f (suc k)) i (omega arith))

each_append : {A : Type 0} (P : A → Type 0) (xs ys : List A) → Each P xs → Each P ys → Each P (xs ++ ys)
each_append P [] ys h k = k
each_append P (x ∷ xs) ys h k = (h.0, each_append P xs ys h.1 k)

each_joined : {A : Type 0} (P : A → Type 0) (xss : List (List A)) → Each (Each P) xss → Each P (joined xss)
each_joined P [] h = tt
each_joined P (xs ∷ xss) h = each_append P xs (joined xss) h.0 (each_joined P xss h.1)

each_mapped : {A B : Type 0} (P : B → Type 0) (Q : A → Type 0) (f : A → B) → ((x : A) → Q x → P (f x)) → (xs : List A) → Each Q xs → Each P (map f xs)
each_mapped P Q f g [] h = tt
each_mapped P Q f g (x ∷ xs) h = (g x h.0, each_mapped P Q f g xs h.1)

each_always : {A : Type 0} (P : A → Type 0) → ((x : A) → P x) → (xs : List A) → Each P xs
each_always P f [] = tt
each_always P f (x ∷ xs) = (f x, each_always P f xs)

each_first : {A : Type 0} (P : A → Type 0) (n : ℕ) (f : ℕ → A) → ((i : ℕ) → i < n → P (f i)) → Each P (first_of n f)
each_first P zero f h = tt
each_first P (suc n) f h = (h 0 (omega arith), each_first P n (λ i. f (suc i)) (λ i k. h (suc i) (omega arith)))

rising_append : {A : Type 0} (xs ys : List A) → AreDistinct xs → AreDistinct ys → Each (λ x. Each (λ y. x ≢ y) ys) xs → AreDistinct (xs ++ ys)
rising_append [] ys h k apart = k
rising_append (x ∷ xs) ys h k apart = (each_append (λ y. x ≢ y) xs ys h.0 apart.0, rising_append xs ys h.1 k apart.1)

-- lists whose items have different keys share none
joined_keyed : {A K : Type 0} (key : A → K) (ks : List K) (g : K → List A) → ((k : K) → Each (λ x. key x ≡ k) (g k)) → ((k : K) → AreDistinct (g k)) → AreDistinct ks
    → AreDistinct (joined (map g ks))
joined_keyed {A} {K} key [] g keyed distinct apart = tt
joined_keyed {A} {K} key (k ∷ ks) g keyed distinct apart =
    rising_append (g k) (joined (map g ks)) (distinct k) (joined_keyed key ks g keyed distinct apart.1)
    (each_map (λ x. key x ≡ k) (λ x. Each (λ y. x ≢ y) (joined (map g ks))) (λ x e. each_joined (λ y. x ≢ y) (map g ks) (others x e ks apart.0)) (g k) (keyed k))
  where
    others : (x : A) → key x ≡ k → (js : List K) → Each (λ j. k ≢ j) js → Each (Each (λ y. x ≢ y)) (map g js)
    others x e [] h = tt
    others x e (j ∷ js) h = (each_map (λ y. key y ≡ j) (λ y. x ≢ y) (λ y f same. h.0 (sym e ∙ ap key same ∙ f)) (g j) (keyed j), others x e js h.1)

map_distinct : {A B : Type 0} (f : A → B) → ((x y : A) → f x ≡ f y → x ≡ y) → (xs : List A) → AreDistinct xs → AreDistinct (map f xs)
map_distinct f one [] h = tt
map_distinct f one (x ∷ xs) h = (each_mapped (λ y. f x ≢ y) (λ y. x ≢ y) f (λ y apart e. apart (one x y e)) xs h.0, map_distinct f one xs h.1)

-- something different for each number
first_distinct : {A : Type 0} (n : ℕ) (f : ℕ → A) → ((i j : ℕ) → f i ≡ f j → i ≡ j) → AreDistinct (first_of n f)
first_distinct zero f one = tt
first_distinct (suc n) f one = (
  each_first (λ y. f 0 ≢ y) n (λ i. f (suc i)) (λ i h e. let k : 0 ≡ suc i = one 0 (suc i) e in absurd (omega arith)),
  first_distinct n (λ i. f (suc i)) (λ i j e. let k : suc i ≡ suc j = one (suc i) (suc j) e in omega arith),
)

first_is_map : {A : Type 0} (n : ℕ) (f : ℕ → A) → first_of n f ≡ map f (first_of n (λ i. i))
first_is_map n f = sym (map_first f n (λ i. i))

first_keyed : {A : Type 0} (key : A → ℕ) (n : ℕ) (g : ℕ → List A) → ((k : ℕ) → Each (λ x. key x ≡ k) (g k)) → ((k : ℕ) → AreDistinct (g k)) → AreDistinct (joined (first_of n g))
first_keyed key n g keyed distinct =
    subst (λ l. AreDistinct (joined l)) (sym (first_is_map n g)) (joined_keyed key (first_of n (λ i. i)) g keyed distinct (first_distinct n (λ i. i) (λ i j e. e)))

-- The terms of a weight and a sort

record IsTermOf (parts : SigParts) (w : ℕ) (sort : SortId) (t : Tree) : Type 0 where
  pub sorted : sort_of parts t ≡ Some sort
  pub bounded : is_bounded parts t ≡ true
  pub weighs : weight parts t ≡ w

-- rows that have exactly the terms of the weights below their number
record AreRight (parts : SigParts) (rows : Rows) : Type 0 where
  pub only : (w : ℕ) (sort : SortId) → Each (IsTermOf parts w sort) (terms_in rows w sort)
  pub distinct : (w : ℕ) (sort : SortId) → AreDistinct (terms_in rows w sort)
  pub all : (w : ℕ) (sort : SortId) (t : Tree) → w < length rows → IsTermOf parts w sort t → In t (terms_in rows w sort)

-- lists of terms of these sorts with this weight together
record AreTermsOf (parts : SigParts) (w : ℕ) (sorts : List SortId) (ts : List Tree) : Type 0 where
  pub sorted : HaveSorts parts ts sorts
  pub bounded : Each (λ t. is_bounded parts t ≡ true) ts
  pub weigh : total (map (weight parts) ts) ≡ w

first_weight : SigParts → List Tree → ℕ
first_weight parts ts = weight parts (slice_index_or ts 0 (Var (record { 0 = 0 }) 0))

front : List Tree → Tree
front ts = slice_index_or ts 0 (Var (record { 0 = 0 }) 0)

pairs_each : (parts : SigParts) (w first : ℕ) (sort : SortId) (sorts : List SortId) (xs : List Tree) (ls : List (List Tree)) → first ≤ w
    → Each (IsTermOf parts first sort) xs → Each (AreTermsOf parts (w - first) sorts) ls → Each (AreTermsOf parts w (sort ∷ sorts)) (pairs xs ls)
pairs_each parts w first sort sorts [] ls low h k = tt
pairs_each parts w first sort sorts (x ∷ xs) ls low h k =
    each_append (AreTermsOf parts w (sort ∷ sorts)) (map (λ l. x ∷ l) ls) (pairs xs ls)
    (each_mapped (AreTermsOf parts w (sort ∷ sorts)) (AreTermsOf parts (w - first) sorts) (λ l. x ∷ l)
    (λ l is. record { sorted = (h.0.sorted, is.sorted); bounded = (h.0.bounded, is.bounded); weigh = let a = h.0.weighs in let b = is.weigh in omega arith }) ls k)
    (pairs_each parts w first sort sorts xs ls low h.1 k)

lists_only : (parts : SigParts) (rows : Rows) → AreRight parts rows → (sorts : List SortId) (w : ℕ) → Each (AreTermsOf parts w sorts) (lists_in rows sorts w)
lists_only parts rows right [] zero = (record { sorted = tt; bounded = tt; weigh = refl }, tt)
lists_only parts rows right [] (suc w) = tt
lists_only parts rows right (sort ∷ sorts) w =
    each_joined (AreTermsOf parts w (sort ∷ sorts)) (first_of (suc w) (λ first. pairs (terms_in rows first sort) (lists_in rows sorts (w - first))))
    (each_first (Each (AreTermsOf parts w (sort ∷ sorts))) (suc w) (λ first. pairs (terms_in rows first sort) (lists_in rows sorts (w - first)))
    (λ first h. pairs_each parts w first sort sorts (terms_in rows first sort) (lists_in rows sorts (w - first)) (omega arith) (right.only first sort) (lists_only parts rows right sorts (w - first))))

pairs_keyed : (parts : SigParts) (first : ℕ) (xs : List Tree) (ls : List (List Tree)) → Each (λ x. weight parts x ≡ first) xs → Each (λ l. first_weight parts l ≡ first) (pairs xs ls)
unfolding first_weight
pairs_keyed parts first [] ls h = tt
pairs_keyed parts first (x ∷ xs) ls h =
    each_append (λ l. first_weight parts l ≡ first) (map (λ l. x ∷ l) ls) (pairs xs ls)
    (each_mapped (λ l. first_weight parts l ≡ first) (λ l. Unit {0}) (λ l. x ∷ l) (λ l u. h.0) ls (each_always (λ l. Unit {0}) (λ l. tt) ls))
    (pairs_keyed parts first xs ls h.1)

pairs_distinct : (xs : List Tree) (ls : List (List Tree)) → AreDistinct xs → AreDistinct ls → AreDistinct (pairs xs ls)
unfolding front
pairs_distinct xs ls h k = joined_keyed front xs (λ x. map (λ l. x ∷ l) ls)
    (λ x. each_mapped (λ l. front l ≡ x) (λ l. Unit {0}) (λ l. x ∷ l) (λ l u. refl) ls (each_always (λ l. Unit {0}) (λ l. tt) ls))
    (λ x. map_distinct (λ l. x ∷ l) (λ a b e. cc) ls k) h

lists_distinct : (parts : SigParts) (rows : Rows) → AreRight parts rows → (sorts : List SortId) (w : ℕ) → AreDistinct (lists_in rows sorts w)
lists_distinct parts rows right [] zero = (tt, tt)
lists_distinct parts rows right [] (suc w) = tt
lists_distinct parts rows right (sort ∷ sorts) w =
    first_keyed (first_weight parts) (suc w) (λ first. pairs (terms_in rows first sort) (lists_in rows sorts (w - first)))
    (λ first. pairs_keyed parts first (terms_in rows first sort) (lists_in rows sorts (w - first))
    (each_map (IsTermOf parts first sort) (λ x. weight parts x ≡ first) (λ x is. is.weighs) (terms_in rows first sort) (right.only first sort)))
    (λ first. pairs_distinct (terms_in rows first sort) (lists_in rows sorts (w - first)) (right.distinct first sort) (lists_distinct parts rows right sorts (w - first)))

in_pairs : (ls : List (List Tree)) {x : Tree} {l : List Tree} {xs : List Tree} → In x xs → In l ls → In (x ∷ l) (pairs xs ls)
in_pairs ls (here {x = x} {xs = xs}) at = in_left (pairs xs ls) (in_map (λ l. x ∷ l) at)
in_pairs ls (there {y = y} {xs = xs} to) at = in_right (map (λ l. y ∷ l) ls) (in_pairs ls to at)

lists_all : (parts : SigParts) (rows : Rows) → AreRight parts rows → (sorts : List SortId) (w : ℕ) (ts : List Tree) → w < length rows → AreTermsOf parts w sorts ts → In ts (lists_in rows sorts w)
lists_all parts rows right [] zero [] low is = here
lists_all parts rows right [] (suc w) [] low is = let h : 0 ≡ suc w = is.weigh in absurd (omega arith)
lists_all parts rows right [] w (t ∷ ts) low is = absurd is.sorted
lists_all parts rows right (sort ∷ sorts) w [] low is = absurd is.sorted
lists_all parts rows right (sort ∷ sorts) w (t ∷ ts) low is =
    let first = weight parts t in
    let sum : first + total (map (weight parts) ts) ≡ w = is.weigh in
    let within : first < suc w = omega arith in
    let rest : total (map (weight parts) ts) ≡ w - first = omega arith in
    in_joined
    (in_first (suc w) (λ first. pairs (terms_in rows first sort) (lists_in rows sorts (w - first))) first within)
    (in_pairs (lists_in rows sorts (w - first))
    (right.all first sort t (omega arith) (record { sorted = is.sorted.0; bounded = is.bounded.0; weighs = refl }))
    (lists_all parts rows right sorts (w - first) ts (omega arith) (record { sorted = is.sorted.1; bounded = is.bounded.1; weigh = rest })))

-- Applications of a symbol

either : (a m : ℕ) → (a < m) ⊎ (m ≤ a)
either zero zero = inr (omega arith)
either zero (suc m) = inl (omega arith)
either (suc a) zero = inr (omega arith)
either (suc a) (suc m) = next (either a m)
  where
    next : (a < m) ⊎ (m ≤ a) → (suc a < suc m) ⊎ (suc m ≤ suc a)
    next (inl h) = inl (omega arith)
    next (inr h) = inr (omega arith)

not_less : (a m : ℕ) → nat_lt a m ≡ false → m ≤ a
not_less a m e = by (either a m)
  where
    by : (a < m) ⊎ (m ≤ a) → m ≤ a
    by (inl h) = let k : true ≡ false = sym (lt-ltb a m h) ∙ e in cc
    by (inr h) = h

less_false : (a m : ℕ) → m ≤ a → nat_lt a m ≡ false
less_false a m h = by (nat_lt a m) refl
  where
    by : (b : Bool) → nat_lt a m ≡ b → b ≡ false
    by true e = let k = ltb-true a m e in absurd (omega arith)
    by false e = refl

abbrev head_in : o.Tree-F Tree → SymId
head_in (o.Var s i) = record { 0 = 0 }
head_in (o.App f args) = f

abbrev head_of : Tree → SymId
head_of t = head_in (out-Tree t)

head-App : (f : SymId) (args : List Tree) → head_of (App f args) ≡ f
head-App f args = ap head_in (outs-App f args)

-- what holds of every application of a symbol to lists of terms with the weight that is left holds of those listed
applied_each : (parts : SigParts) (rows : Rows) → AreRight parts rows → (w : ℕ) (sort : SortId) (f : SymId) (o : Option Sym) (P : Tree → Type 0)
    → ((symbol : Sym) (args : List Tree) → o ≡ Some symbol → result_of symbol ≡ sort → weight_at parts f ≤ w → AreTermsOf parts (w - weight_at parts f) (args_of symbol) args → P (App f args))
    → Each P (applied_in parts rows w sort f o)
applied_each parts rows right w sort f None P have = tt
applied_each parts rows right w sort f (Some symbol) P have = by (nat_eq (result_of symbol).0 sort.0) refl (nat_lt w (weight_at parts f)) refl
  where
    by : (b : Bool) → nat_eq (result_of symbol).0 sort.0 ≡ b → (c : Bool) → nat_lt w (weight_at parts f) ≡ c
        → Each P (if b then (if c then [] else map (App f) (lists_in rows (args_of symbol) (w - weight_at parts f))) else [])
    by true e true l = tt
    by true e false l = each_mapped P (AreTermsOf parts (w - weight_at parts f) (args_of symbol)) (App f)
        (λ args is. have symbol args refl (same_sort_is (result_of symbol) sort e) (not_less w (weight_at parts f) l) is)
        (lists_in rows (args_of symbol) (w - weight_at parts f)) (lists_only parts rows right (args_of symbol) (w - weight_at parts f))
    by false e c l = tt

applied_distinct : (parts : SigParts) (rows : Rows) → AreRight parts rows → (w : ℕ) (sort : SortId) (f : SymId) (o : Option Sym) → AreDistinct (applied_in parts rows w sort f o)
applied_distinct parts rows right w sort f None = tt
applied_distinct parts rows right w sort f (Some symbol) = by (nat_eq (result_of symbol).0 sort.0) (nat_lt w (weight_at parts f))
  where
    by : (b c : Bool) → AreDistinct (if b then (if c then [] else map (App f) (lists_in rows (args_of symbol) (w - weight_at parts f))) else [])
    by true true = tt
    by true false = map_distinct (App f) (λ xs ys e. (same_app f f xs ys e).1) (lists_in rows (args_of symbol) (w - weight_at parts f))
        (lists_distinct parts rows right (args_of symbol) (w - weight_at parts f))
    by false c = tt

applied_all : (parts : SigParts) (rows : Rows) → AreRight parts rows → (w : ℕ) (sort : SortId) (f : SymId) (symbol : Sym) (args : List Tree) → result_of symbol ≡ sort
    → weight_at parts f ≤ w → w - weight_at parts f < length rows → AreTermsOf parts (w - weight_at parts f) (args_of symbol) args → In (App f args) (applied_in parts rows w sort f (Some symbol))
applied_all parts rows right w sort f symbol args same light low is =
    by (nat_eq (result_of symbol).0 sort.0) (ap (λ (s : SortId). nat_eq s.0 sort.0) same ∙ same_sort_itself sort) (nat_lt w (weight_at parts f)) (less_false w (weight_at parts f) light)
  where
    by : (b : Bool) → b ≡ true → (c : Bool) → c ≡ false → In (App f args) (if b then (if c then [] else map (App f) (lists_in rows (args_of symbol) (w - weight_at parts f))) else [])
    by true e true l = cc
    by true e false l = in_map (App f) (lists_all parts rows right (args_of symbol) (w - weight_at parts f) args low is)
    by false e c l = cc

-- The terms of the next weight

module _ (parts : SigParts) (well : IsWellFormed parts) (rows : Rows) (right : AreRight parts rows) (sort : SortId) where
  abbrev w : ℕ
  w = length rows

  abbrev with_head : SymId → List Tree
  with_head f = applied_in parts rows w sort f (symbol_at parts f)

  abbrev the_vars : Bool → List Tree
  the_vars b = if b then first_of (vars_at parts sort) (Var sort) else []

  applied_is : (f : SymId) → In f parts.settings.explored → Each (IsTermOf parts w sort) (with_head f)
  applied_is f at = applied_each parts rows right w sort f (symbol_at parts f) (IsTermOf parts w sort)
      (λ symbol args declared result light is. record {
        sorted = app_sorted parts f args sort (record { symbol = symbol; declared = declared; result = result; sorts = is.sorted });
        bounded = bounded-App parts f args ∙ ap₂ ◌&&◌ (in_listed at) (all_true (is_bounded parts) args is.bounded);
        weighs = let e = weight-App parts f args in let k = is.weigh in omega arith;
      })

  vars_are : IsTrue (is_declared_sort parts sort) → (b : Bool) → nat_eq w 1 ≡ b → Each (IsTermOf parts w sort) (the_vars b)
  vars_are declared true e = each_first (IsTermOf parts w sort) (vars_at parts sort) (Var sort) (λ i h. record {
    sorted = var_sorted parts sort i declared;
    bounded = bounded-Var parts sort i ∙ lt-ltb i (vars_at parts sort) h;
    weighs = weight-Var parts sort i ∙ sym (eqb-true w 1 e);
  })
  vars_are declared false e = tt

  terms_only : IsTrue (is_declared_sort parts sort) → Each (IsTermOf parts w sort) (terms_for parts rows w sort)
  terms_only declared = each_append (IsTermOf parts w sort) (the_vars (nat_eq w 1)) (joined (map with_head parts.settings.explored)) (vars_are declared (nat_eq w 1) refl)
      (each_joined (IsTermOf parts w sort) (map with_head parts.settings.explored)
      (each_mapped (Each (IsTermOf parts w sort)) (λ f. In f parts.settings.explored) with_head applied_is parts.settings.explored
      (each_of (λ f. In f parts.settings.explored) parts.settings.explored (λ f at. at))))

  vars_distinct : (b : Bool) → AreDistinct (the_vars b)
  vars_distinct true = first_distinct (vars_at parts sort) (Var sort) (λ i j e. (same_var sort sort i j e).1)
  vars_distinct false = tt

  apart : (i : ℕ) → Each (λ y. Var sort i ≢ y) (joined (map with_head parts.settings.explored))
  apart i = each_joined (λ y. Var sort i ≢ y) (map with_head parts.settings.explored)
      (each_mapped (Each (λ y. Var sort i ≢ y)) (λ f. Unit {0}) with_head
      (λ f u. applied_each parts rows right w sort f (symbol_at parts f) (λ y. Var sort i ≢ y) (λ symbol args declared result light is e. var_no_app sort i f args e))
      parts.settings.explored (each_always (λ f. Unit {0}) (λ f. tt) parts.settings.explored))

  vars_apart : (b : Bool) → Each (λ x. Each (λ y. x ≢ y) (joined (map with_head parts.settings.explored))) (the_vars b)
  vars_apart true = each_first (λ x. Each (λ y. x ≢ y) (joined (map with_head parts.settings.explored))) (vars_at parts sort) (Var sort) (λ i h. apart i)
  vars_apart false = tt

  terms_distinct : AreDistinct (terms_for parts rows w sort)
  terms_distinct = rising_append (the_vars (nat_eq w 1)) (joined (map with_head parts.settings.explored)) (vars_distinct (nat_eq w 1))
      (joined_keyed head_of parts.settings.explored with_head
      (λ f. applied_each parts rows right w sort f (symbol_at parts f) (λ x. head_of x ≡ f) (λ symbol args declared result light is. head-App f args))
      (λ f. applied_distinct parts rows right w sort f (symbol_at parts f)) well.settings.explored_distinct)
      (vars_apart (nat_eq w 1))

  var_here : (i : ℕ) (b : Bool) → b ≡ true → i < vars_at parts sort → In (Var sort i) (the_vars b)
  var_here i true e h = in_first (vars_at parts sort) (Var sort) i h
  var_here i false e h = cc

  terms_all : (t : Tree) → IsTermOf parts w sort t → In t (terms_for parts rows w sort)
  terms_all = tree_cases (λ t. IsTermOf parts w sort t → In t (terms_for parts rows w sort))
      (λ s i is.
      let known = sorted_var parts s i sort is.sorted in
      let one : nat_eq w 1 ≡ true = eq-eqb w 1 (sym is.weighs ∙ weight-Var parts s i) in
      in_left (joined (map with_head parts.settings.explored)) (subst (λ v. In (Var v i) (the_vars (nat_eq w 1))) (sym known.1)
      (var_here i (nat_eq w 1) one (subst (λ v. i < vars_at parts v) known.1 (ltb-true i (vars_at parts s) (sym (bounded-Var parts s i) ∙ is.bounded))))))
      (λ f args is.
      let a = sorted_app parts f args sort is.sorted in
      let both = both_true (is_explored parts f) (list_all (λ x. x) (map (is_bounded parts) args)) (sym (bounded-App parts f args) ∙ is.bounded) in
      let weighs : weight_at parts f + total (map (weight parts) args) ≡ w = sym (weight-App parts f args) ∙ is.weighs in
      let some = weighs_something parts well f in
      let light : weight_at parts f ≤ w = omega arith in
      let low : w - weight_at parts f < w = omega arith in
      let rest : total (map (weight parts) args) ≡ w - weight_at parts f = omega arith in
      in_right (the_vars (nat_eq w 1)) (in_joined (in_map with_head (listed_in f parts.settings.explored both.0))
      (subst (λ o. In (App f args) (applied_in parts rows w sort f o)) (sym a.declared)
      (applied_all parts rows right w sort f a.symbol args a.result light low
      (record { sorted = a.sorts; bounded = each_true (is_bounded parts) args both.1; weigh = rest })))))

-- Rows, one after another

row_cases : {A : Type 0} (Q : List A → Type 0) (xss : List (List A)) (ys : List A) (at : ℕ) → (at < length xss → Q (slice_index_or xss at [])) → (at ≡ length xss → Q ys) → Q []
    → Q (slice_index_or (xss ++ ys ∷ []) at [])
row_cases Q [] ys zero h k l = k refl
row_cases Q [] ys (suc n) h k l = l
row_cases Q (xs ∷ xss) ys zero h k l = h (omega arith)
row_cases Q (xs ∷ xss) ys (suc n) h k l = row_cases Q xss ys n (λ e. h (omega arith)) (λ e. k (ap suc e)) l

place_cases : {A : Type 0} (Q : List A → Type 0) (n : ℕ) (f : ℕ → List A) (at : ℕ) → (at < n → Q (f at)) → Q [] → Q (slice_index_or (first_of n f) at [])
place_cases Q zero f at h k = k
place_cases Q (suc n) f zero h k = h (omega arith)
place_cases Q (suc n) f (suc at) h k = place_cases Q n (λ i. f (suc i)) at (λ e. h (omega arith)) k

first_at : {A : Type 0} (n : ℕ) (f : ℕ → List A) (at : ℕ) → at < n → slice_index_or (first_of n f) at [] ≡ f at
first_at zero f at h = absurd (omega arith)
first_at (suc n) f zero h = refl
first_at (suc n) f (suc at) h = first_at n (λ i. f (suc i)) at (omega arith)

some_weight : (parts : SigParts) → IsWellFormed parts → (t : Tree) → 1 ≤ weight parts t
some_weight parts well = tree_cases (λ t. 1 ≤ weight parts t) (λ s i. omega (arith, weight-Var parts s i)) (λ f args. omega (arith, weight-App parts f args, weighs_something parts well f))

has_declared : (parts : SigParts) → IsWellFormed parts → (t : Tree) (sort : SortId) → sort_of parts t ≡ Some sort → IsTrue (is_declared_sort parts sort)
has_declared parts well = tree_cases (λ t. (sort : SortId) → sort_of parts t ≡ Some sort → IsTrue (is_declared_sort parts sort))
    (λ s i sort e. let known = sorted_var parts s i sort e in subst (λ v. IsTrue (is_declared_sort parts v)) known.1 known.0)
    (λ f args sort e. let a = sorted_app parts f args sort e in subst (λ v. IsTrue (is_declared_sort parts v)) a.result (well.symbols f a.symbol a.declared).result_declared)

no_terms_in : (parts : SigParts) (w : ℕ) (sort : SortId) → terms_in (all_terms parts 0) w sort ≡ []
no_terms_in parts zero sort = place_cases (λ l. l ≡ []) (length parts.sort_names) (λ s. []) sort.0 (λ h. refl) refl
no_terms_in parts (suc w) sort = refl

right_first : (parts : SigParts) → IsWellFormed parts → AreRight parts (all_terms parts 0)
right_first parts well = record {
  only = λ w sort. subst (Each (IsTermOf parts w sort)) (sym (no_terms_in parts w sort)) tt;
  distinct = λ w sort. subst AreDistinct (sym (no_terms_in parts w sort)) tt;
  all = λ w sort t low is. let some = some_weight parts well t in let e = is.weighs in absurd (omega arith);
}

right_next : (parts : SigParts) → IsWellFormed parts → (rows : Rows) → AreRight parts rows → AreRight parts (rows ++ next_terms parts rows ∷ [])
right_next parts well rows right = record {
  only = λ w sort. row_cases (λ row. Each (IsTermOf parts w sort) (slice_index_or row sort.0 [])) rows (next_terms parts rows) w (λ h. right.only w sort)
      (λ e. place_cases (Each (IsTermOf parts w sort)) (length parts.sort_names) (λ s. terms_for parts rows (length rows) (record { 0 = s })) sort.0
      (λ h. subst (λ n. Each (IsTermOf parts n sort) (terms_for parts rows (length rows) sort)) (sym e)
      (terms_only parts well rows right sort (lt-ltb sort.0 (length parts.sort_names) h))) tt) tt;
  distinct = λ w sort. row_cases (λ row. AreDistinct (slice_index_or row sort.0 [])) rows (next_terms parts rows) w (λ h. right.distinct w sort)
      (λ e. place_cases AreDistinct (length parts.sort_names) (λ s. terms_for parts rows (length rows) (record { 0 = s })) sort.0 (λ h. terms_distinct parts well rows right sort) tt) tt;
  all = λ w sort t low is. all w sort t (length_more low) is (either w (length rows));
}
  where
    length_more : {w : ℕ} → w < length (rows ++ next_terms parts rows ∷ []) → w < length rows + 1
    length_more {w} h = subst (λ n. w < n) (length_append rows (next_terms parts rows ∷ [])) h

    earlier : (xss : List (List (List Tree))) (ys : List (List Tree)) (at : ℕ) → at < length xss → slice_index_or (xss ++ ys ∷ []) at [] ≡ slice_index_or xss at []
    earlier [] ys at h = absurd (omega arith)
    earlier (xs ∷ xss) ys zero h = refl
    earlier (xs ∷ xss) ys (suc n) h = earlier xss ys n (omega arith)

    last : (xss : List (List (List Tree))) (ys : List (List Tree)) → slice_index_or (xss ++ ys ∷ []) (length xss) [] ≡ ys
    last [] ys = refl
    last (xs ∷ xss) ys = last xss ys

    all : (w : ℕ) (sort : SortId) (t : Tree) → w < length rows + 1 → IsTermOf parts w sort t → (w < length rows) ⊎ (length rows ≤ w) → In t (terms_in (rows ++ next_terms parts rows ∷ []) w sort)
    all w sort t low is (inl h) = subst (λ row. In t (slice_index_or row sort.0 [])) (sym (earlier rows (next_terms parts rows) w h)) (right.all w sort t h is)
    all w sort t low is (inr h) =
        let e : w ≡ length rows = omega arith in
        let declared = ltb-true sort.0 (length parts.sort_names) (has_declared parts well t sort is.sorted) in
        subst (λ row. In t (slice_index_or row sort.0 [])) (sym (ap (λ n. slice_index_or (rows ++ next_terms parts rows ∷ []) n []) e ∙ last rows (next_terms parts rows)))
        (subst (In t) (sym (first_at (length parts.sort_names) (λ s. terms_for parts rows (length rows) (record { 0 = s })) sort.0 declared))
        (terms_all parts well rows right sort t (subst (λ n. IsTermOf parts n sort t) e is)))

all_right : (parts : SigParts) → IsWellFormed parts → (n : ℕ) → AreRight parts (all_terms parts n)
all_right parts well zero = right_first parts well
all_right parts well (suc n) = right_next parts well (all_terms parts n) (all_right parts well n)

all_length : (parts : SigParts) (n : ℕ) → length (all_terms parts n) ≡ suc n
all_length parts zero = refl
all_length parts (suc n) = length_append (all_terms parts n) (next_terms parts (all_terms parts n) ∷ []) ∙ ap (λ k. k + 1) (all_length parts n) ∙ plus n
  where
    plus : (n : ℕ) → suc n + 1 ≡ suc (suc n)
    plus n = omega arith

-- The whole universe

by_place : {A : Type 0} (xss : List (List A)) → xss ≡ first_of (length xss) (λ i. slice_index_or xss i [])
by_place [] = refl
by_place (xs ∷ xss) = ap (λ l. xs ∷ l) (by_place xss)

in_place : {A : Type 0} {x : A} (xss : List (List A)) (at : ℕ) → In x (slice_index_or xss at []) → In x (joined xss)
in_place [] at h = in_none h
in_place (xs ∷ xss) zero h = in_left (joined xss) h
in_place (xs ∷ xss) (suc n) h = in_right xs (in_place xss n h)

number_of : Option SortId → ℕ
number_of None = 0
number_of (Some s) = s.0

sort_number : SigParts → Tree → ℕ
sort_number parts t = number_of (sort_of parts t)

number_is : (parts : SigParts) (t : Tree) (n : ℕ) → sort_of parts t ≡ Some (record { 0 = n }) → sort_number parts t ≡ n
unfolding sort_number number_of
number_is parts t n e = ap number_of e

module _ (parts : SigParts) (well : IsWellFormed parts) where
  abbrev the_rows : Rows
  the_rows = all_terms parts parts.settings.size

  abbrev row_at : ℕ → List (List Tree)
  row_at w = slice_index_or the_rows w []

  the_right : AreRight parts the_rows
  the_right = all_right parts well parts.settings.size

  row_distinct : (w : ℕ) → AreDistinct (joined (row_at w))
  row_distinct w = subst (λ l. AreDistinct (joined l)) (sym (by_place (row_at w)))
      (first_keyed (sort_number parts) (length (row_at w)) (λ s. slice_index_or (row_at w) s [])
      (λ s. each_map (IsTermOf parts w (record { 0 = s })) (λ t. sort_number parts t ≡ s) (λ t is. number_is parts t s is.sorted) (slice_index_or (row_at w) s []) (the_right.only w (record { 0 = s })))
      (λ s. the_right.distinct w (record { 0 = s })))

  row_each : (w : ℕ) (P : Tree → Type 0) → ((s : SortId) (t : Tree) → IsTermOf parts w s t → P t) → Each P (joined (row_at w))
  row_each w P have = subst (λ l. Each P (joined l)) (sym (by_place (row_at w)))
      (each_joined P (first_of (length (row_at w)) (λ s. slice_index_or (row_at w) s []))
      (each_first (Each P) (length (row_at w)) (λ s. slice_index_or (row_at w) s [])
      (λ s h. each_map (IsTermOf parts w (record { 0 = s })) P (have (record { 0 = s })) (slice_index_or (row_at w) s []) (the_right.only w (record { 0 = s })))))

  rows_by_place : map joined the_rows ≡ first_of (length the_rows) (λ w. joined (row_at w))
  rows_by_place = ap (map joined) (by_place the_rows) ∙ map_first joined (length the_rows) row_at

  universe_distinct : AreDistinct (universe parts)
  universe_distinct = subst (λ l. AreDistinct (joined l)) (sym rows_by_place)
      (first_keyed (weight parts) (length the_rows) (λ w. joined (row_at w)) (λ w. row_each w (λ t. weight parts t ≡ w) (λ s t is. is.weighs)) row_distinct)

  universe_only : Each (IsInUniverse parts) (universe parts)
  universe_only = subst (λ l. Each (IsInUniverse parts) (joined l)) (sym rows_by_place)
      (each_joined (IsInUniverse parts) (first_of (length the_rows) (λ w. joined (row_at w)))
      (each_first (Each (IsInUniverse parts)) (length the_rows) (λ w. joined (row_at w))
      (λ w h. row_each w (IsInUniverse parts) (λ s t is. (
        s,
        record {
          sorted = is.sorted;
          bounded = is.bounded;
          small = let e = is.weighs in let k = all_length parts parts.settings.size in omega arith;
        },
      )))))

  universe_all : (t : Tree) → IsInUniverse parts t → In t (universe parts)
  universe_all t is =
      let w = weight parts t in
      let low : w < length the_rows = let k = all_length parts parts.settings.size in let h = is.1.small in omega arith in
      in_place (map joined the_rows) w (subst (In t) (sym (map_place joined the_rows w [] [] refl))
      (in_place (row_at w) is.0.0 (the_right.all w is.0 t low (record { sorted = is.1.sorted; bounded = is.1.bounded; weighs = refl }))))

pub counted : CountIsOfTerms
counted parts well = (
  universe parts,
  record { distinct = universe_distinct parts well; only = universe_only parts well; all = universe_all parts well },
  universe_length parts,
)

-- Every such list has that length

abbrev Around : {A : Type 0} → A → List A → Type 0
Around {A} x ys = (before : List A) × (after : List A) × (ys ≡ before ++ x ∷ after)

around : {A : Type 0} {x : A} {ys : List A} → In x ys → Around x ys
around (here {x = x} {xs = xs}) = ([], xs, refl)
around (there {y = y} {xs = xs} at) = let (before, after, is) = around at in (y ∷ before, after, ap (λ l. y ∷ l) is)

elsewhere : {A : Type 0} (before after : List A) (x y : A) → In y (before ++ x ∷ after) → x ≢ y → In y (before ++ after)
elsewhere [] after x y at apart = by (in_rest at)
  where
    by : (y ≡ x) ⊎ In y after → In y after
    by (inl e) = absurd (apart (sym e))
    by (inr h) = h
elsewhere (b ∷ before) after x y at apart = by (in_rest at) (λ h. elsewhere before after x y h apart)
  where
    by : (y ≡ b) ⊎ In y (before ++ x ∷ after) → (In y (before ++ x ∷ after) → In y (before ++ after)) → In y (b ∷ before ++ after)
    by (inl e) later = subst (λ z. In z (b ∷ before ++ after)) (sym e) here
    by (inr h) later = there (later h)

no_longer : {A : Type 0} (xs ys : List A) → AreDistinct xs → ((x : A) → In x xs → In x ys) → length xs ≤ length ys
no_longer [] ys distinct within = omega arith
no_longer {A} (x ∷ xs) ys distinct within =
    let (before, after, is) = around (within x here) in
    let rest : length xs ≤ length (before ++ after) = no_longer xs (before ++ after) distinct.1
    (λ y at. elsewhere before after x y (subst (In y) is (within y (there at))) (of_each (λ z. x ≢ z) at distinct.0)) in
    let whole : length ys ≡ length before + length (x ∷ after) = ap length is ∙ length_append before (x ∷ after) in
    let parts : length (before ++ after) ≡ length before + length after = length_append before after in
    omega arith

pub one_length : ListingsAreCounted
one_length parts well terms listing =
    let (own, is, count) = counted parts well in
    let low : length terms ≤ length own = no_longer terms own listing.distinct (λ t at. is.all t (of_each (IsInUniverse parts) at listing.only)) in
    let high : length own ≤ length terms = no_longer own terms is.distinct (λ t at. listing.all t (of_each (IsInUniverse parts) at is.only)) in
    let same : length terms ≡ length own = omega arith in
    same ∙ count
