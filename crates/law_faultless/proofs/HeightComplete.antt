-- A sort that has a value counts as having one: it has one no higher than the number of sorts.
use Rattle.std.proofs.Common.{◌≡◌, ℕ, zero, suc, ◌+◌, ◌-◌, ◌<◌, ◌≤◌, List, [], ◌∷◌, map, length, Bool, true, false, true≢false, not, ◌&&◌, ◌||◌, nat_lt, Option, Some, slice_get, ◌⊎◌, inl, inr, eq-or-lt_of_le, rules, arith, refl, sym, ap, ap₂, ◌∙◌, subst}
use Rattle.std.specs.List.{list_any, list_all}
use Rattle.law_sig.specs.Lists.{Each}
use Rattle.law_sig.specs.Trees.{same_sort}
use Rattle.law_sig.specs.Signature.{symbol_at, args_of, result_of, sort_of}
use Rattle.law_sig.specs.WellFormed.{value_step, is_constructor, makes_from, is_within_height}
use Rattle.law_sig.specs.declared.tree.SortId.{SortId}
use Rattle.law_sig.specs.declared.tree.SymId.{SymId}
use Rattle.law_sig.specs.declared.tree.Tree.{Tree}
use Rattle.law_sig.specs.declared.tree.Tree.TheVariants.{Var, App}
use Rattle.law_sig.specs.declared.tree.Tree.TheFolds.{fold-Tree}
use Rattle.law_sig.specs.declared.parts.Con.{Con}
use Rattle.law_sig.specs.declared.parts.Sym.{Sym}
use Rattle.law_sig.specs.declared.parts.Sym.TheVariants as sym
use Rattle.law_sig.specs.declared.parts.SigParts.{SigParts}
use Rattle.law_laws.proofs.TreeFacts.{tree_induct, fold-Var, fold-App}
use Rattle.law_laws.proofs.Sorts.{HaveSorts, sorted_app, same_sort_itself, both_true}
use Rattle.law_typing.specs.Declarations.{is_low, has_value}
use Rattle.law_typing.specs.declared.whole.Whole.{Whole}
use Rattle.law_typing.proofs.SideFacts.{Declares, in_text}
use Rattle.law_typing.proofs.LowFacts.{SameAt, later_same}
use Rattle.law_typing.proofs.HeightSound.{any_found, any_here}

-- Greater heights

implied : {A : Type 0} (p q : A → Bool) → ((x : A) → p x ≡ true → q x ≡ true) → (xs : List A) → list_all p xs ≡ true → list_all q xs ≡ true
implied p q h [] e = refl
implied p q h (x ∷ xs) e = let b = both_true (p x) (list_all p xs) e in ap₂ ◌&&◌ (h x b.0) (implied p q h xs b.1)

makes_more : (p q : SortId → Bool) → ((s : SortId) → p s ≡ true → q s ≡ true) → (sort : SortId) (s : Sym) → makes_from p sort s ≡ true → makes_from q sort s ≡ true
makes_more p q h sort (sym.Con con) e =
    let b = both_true (same_sort con.sort sort) (list_all p con.args) e in ap₂ ◌&&◌ b.0 (implied p q h con.args b.1)
makes_more p q h sort (sym.Fun fun) e = absurd (true≢false (sym e))

any_more : (p q : Sym → Bool) → ((s : Sym) → p s ≡ true → q s ≡ true) → (xs : List Sym) → list_any p xs ≡ true → list_any q xs ≡ true
any_more p q h xs e = let f = any_found p xs e in any_here q xs f.0 f.1 f.2 (h f.1 f.3)

or_more : (a c d : Bool) → (c ≡ true → d ≡ true) → (a || c) ≡ true → (a || d) ≡ true
or_more true c d h e = refl
or_more false c d h e = h e

pub low_more : (text : Whole) (n : ℕ) (sort : SortId) → is_low text n sort ≡ true → is_low text (suc n) sort ≡ true
unfolding is_low
low_more text zero sort e = absurd (true≢false (sym e))
low_more text (suc n) sort e = or_more (not (nat_lt sort.0 (length text.sorts))) (list_any (makes_from (is_low text n) sort) text.symbols)
    (list_any (makes_from (is_low text (suc n)) sort) text.symbols)
    (any_more (makes_from (is_low text n) sort) (makes_from (is_low text (suc n)) sort) (makes_more (is_low text n) (is_low text (suc n)) (low_more text n) sort) text.symbols) e

pub low_later : (text : Whole) (n k : ℕ) (sort : SortId) → is_low text n sort ≡ true → is_low text (n + k) sort ≡ true
low_later text n zero sort e = let plain : n ≡ n + 0 = omega arith in subst (λ m. is_low text m sort ≡ true) plain e
low_later text n (suc k) sort e = let next : suc (n + k) ≡ n + suc k = omega arith in
    subst (λ m. is_low text m sort ≡ true) next (low_more text (n + k) sort (low_later text n k sort e))

low_at_least : (text : Whole) (n m : ℕ) (sort : SortId) → n ≤ m → is_low text n sort ≡ true → is_low text m sort ≡ true
low_at_least text n m sort l e = let split : n + (m - n) ≡ m = omega arith in subst (λ z. is_low text z sort ≡ true) split (low_later text n (m - n) sort e)

-- How many sorts are low

abbrev count_one : Bool → ℕ
count_one true = 1
count_one false = 0

-- among the first sorts
abbrev low_count : Whole → ℕ → ℕ → ℕ
low_count text n zero = 0
low_count text n (suc k) = count_one (is_low text n (record { 0 = k })) + low_count text n k

one_more : (a c : Bool) → (a ≡ true → c ≡ true) → count_one a ≤ count_one c
one_more true true h = omega arith
one_more true false h = absurd (true≢false (sym (h refl)))
one_more false c h = omega arith

one_same : (a c : Bool) → (a ≡ true → c ≡ true) → count_one c ≤ count_one a → c ≡ a
one_same true true h l = refl
one_same true false h l = absurd (true≢false (sym (h refl)))
one_same false true h l = absurd (omega arith)
one_same false false h l = refl

count_up : (text : Whole) (n k : ℕ) → low_count text n k ≤ low_count text (suc n) k
count_up text n zero = omega arith
count_up text n (suc k) =
    let a = one_more (is_low text n (record { 0 = k })) (is_low text (suc n) (record { 0 = k })) (low_more text n (record { 0 = k })) in
    let r = count_up text n k in omega arith

same_sets : (text : Whole) (n k : ℕ) → low_count text (suc n) k ≤ low_count text n k → (s : ℕ) → s < k → is_low text (suc n) (record { 0 = s }) ≡ is_low text n (record { 0 = s })
same_sets text n zero e s l = absurd (omega arith)
same_sets text n (suc k) e s l =
    let a = one_more (is_low text n (record { 0 = k })) (is_low text (suc n) (record { 0 = k })) (low_more text n (record { 0 = k })) in
    let u = count_up text n k in
    let rest : low_count text (suc n) k ≤ low_count text n k = omega arith in
    let mine : count_one (is_low text (suc n) (record { 0 = k })) ≤ count_one (is_low text n (record { 0 = k })) = omega arith in
    let low : s ≤ k = omega arith in
    by (eq-or-lt_of_le low) (one_same (is_low text n (record { 0 = k })) (is_low text (suc n) (record { 0 = k })) (low_more text n (record { 0 = k })) mine) (same_sets text n k rest s)
  where
    by : (s ≡ k) ⊎ (s < k) → is_low text (suc n) (record { 0 = k }) ≡ is_low text n (record { 0 = k })
        → (s < k → is_low text (suc n) (record { 0 = s }) ≡ is_low text n (record { 0 = s })) → is_low text (suc n) (record { 0 = s }) ≡ is_low text n (record { 0 = s })
    by (inl q) h rest = ap (λ z. is_low text (suc n) (record { 0 = z })) q ∙ h ∙ sym (ap (λ z. is_low text n (record { 0 = z })) q)
    by (inr q) h rest = rest q

one_at_most : (b : Bool) → count_one b ≤ 1
one_at_most true = omega arith
one_at_most false = omega arith

at_most : (text : Whole) (n k : ℕ) → low_count text n k ≤ k
at_most text n zero = omega arith
at_most text n (suc k) =
    let r = at_most text n k in
    let o = one_at_most (is_low text n (record { 0 = k })) in omega arith

all_low : (text : Whole) (n k : ℕ) → k ≤ low_count text n k → (s : ℕ) → s < k → is_low text n (record { 0 = s }) ≡ true
all_low text n zero e s l = absurd (omega arith)
all_low text n (suc k) e s l =
    let r = at_most text n k in
    let o = one_at_most (is_low text n (record { 0 = k })) in
    let rest : k ≤ low_count text n k = omega arith in
    let mine : 1 ≤ count_one (is_low text n (record { 0 = k })) = omega arith in
    let low : s ≤ k = omega arith in
    by (eq-or-lt_of_le low) (is_one (is_low text n (record { 0 = k })) mine) (all_low text n k rest s)
  where
    is_one : (b : Bool) → 1 ≤ count_one b → b ≡ true
    is_one true h = refl
    is_one false h = absurd (omega arith)

    by : (s ≡ k) ⊎ (s < k) → is_low text n (record { 0 = k }) ≡ true → (s < k → is_low text n (record { 0 = s }) ≡ true) → is_low text n (record { 0 = s }) ≡ true
    by (inl q) h rest = ap (λ z. is_low text n (record { 0 = z })) q ∙ h
    by (inr q) h rest = rest q

-- either one more height changed nothing, at one of these heights, or each height has added a sort
abbrev Settled : Whole → ℕ → Type 0
Settled text n = (m : ℕ) × (m ≤ n) × ((s : ℕ) → s < length text.sorts → is_low text (suc (suc m)) (record { 0 = s }) ≡ is_low text (suc m) (record { 0 = s }))

settles : (text : Whole) (n : ℕ) → Settled text n ⊎ (n ≤ low_count text (suc n) (length text.sorts))
settles text zero = inr (omega arith)
settles text (suc n) = by (settles text n)
  where
    split : (a c : ℕ) → (a ≤ c) ⊎ (c < a)
    split a c = grind arith

    step : n ≤ low_count text (suc n) (length text.sorts)
        → (low_count text (suc (suc n)) (length text.sorts) ≤ low_count text (suc n) (length text.sorts)) ⊎ (low_count text (suc n) (length text.sorts) < low_count text (suc (suc n)) (length text.sorts))
        → Settled text (suc n) ⊎ (suc n ≤ low_count text (suc (suc n)) (length text.sorts))
    step h (inl l) = let low : n ≤ suc n = omega arith in inl (n, low, same_sets text (suc n) (length text.sorts) l)
    step h (inr l) = inr (omega arith)

    by : Settled text n ⊎ (n ≤ low_count text (suc n) (length text.sorts)) → Settled text (suc n) ⊎ (suc n ≤ low_count text (suc (suc n)) (length text.sorts))
    by (inl t) = let low : t.0 ≤ suc n = omega (arith, t.1) in inl (t.0, low, t.2)
    by (inr h) = step h (split (low_count text (suc (suc n)) (length text.sorts)) (low_count text (suc n) (length text.sorts)))

-- a sort that isn't declared is low at each height but 0
unknown : (text : Whole) (n : ℕ) (sort : SortId) → length text.sorts ≤ sort.0 → is_low text (suc n) sort ≡ true
unfolding is_low
unknown text n sort beyond =
    let out : nat_lt sort.0 (length text.sorts) ≡ false = search rules in
    ap (λ b. not b || list_any (makes_from (is_low text n) sort) text.symbols) out

-- settled for all sorts
settled_same : (text : Whole) (m : ℕ) → ((s : ℕ) → s < length text.sorts → is_low text (suc (suc m)) (record { 0 = s }) ≡ is_low text (suc m) (record { 0 = s }))
    → SameAt text (suc (suc m)) (suc m)
settled_same text m h sort = by (is_declared sort)
  where
    is_declared : (sort : SortId) → (sort.0 < length text.sorts) ⊎ (length text.sorts ≤ sort.0)
    is_declared sort = grind arith

    by : (sort.0 < length text.sorts) ⊎ (length text.sorts ≤ sort.0) → is_low text (suc (suc m)) sort ≡ is_low text (suc m) sort
    by (inl within) = h sort.0 within
    by (inr beyond) = unknown text (suc m) sort beyond ∙ sym (unknown text m sort beyond)

-- a declared sort that is low at some height has a value
pub low_has_value : (text : Whole) (k : ℕ) (sort : SortId) → sort.0 < length text.sorts → is_low text k sort ≡ true → has_value text sort ≡ true
low_has_value text k sort within e = by (settles text (length text.sorts))
  where
    split : (a c : ℕ) → (a ≤ c) ⊎ (c < a)
    split a c = grind arith

    settled : (m : ℕ) → m ≤ length text.sorts → SameAt text (suc (suc m)) (suc m) → (k ≤ suc m) ⊎ (suc m < k) → is_low text (length text.sorts + 1) sort ≡ true
    settled m l same (inl q) = let low : k ≤ length text.sorts + 1 = omega arith in low_at_least text k (length text.sorts + 1) sort low e
    settled m l same (inr q) =
        let back : k ≡ suc m + (k - suc m) = omega arith in
        let low : suc m ≤ length text.sorts + 1 = omega arith in
        low_at_least text (suc m) (length text.sorts + 1) sort low
        (sym (later_same text (suc m) same (k - suc m) sort) ∙ sym (ap (λ n. is_low text n sort) back) ∙ e)

    by : Settled text (length text.sorts) ⊎ (length text.sorts ≤ low_count text (suc (length text.sorts)) (length text.sorts)) → is_low text (length text.sorts + 1) sort ≡ true
    by (inl t) = settled t.0 t.1 (settled_same text t.0 t.2) (split k (suc t.0))
    by (inr h) = let next : suc (length text.sorts) ≡ length text.sorts + 1 = omega arith in
        ap (λ n. is_low text n sort) (sym next) ∙ all_low text (suc (length text.sorts)) (length text.sorts) h sort.0 within

-- Values are low at some height

or_right : (a c : Bool) → c ≡ true → (a || c) ≡ true
or_right true c e = refl
or_right false c e = e

made_low : (text : Whole) (parts : SigParts) → Declares text parts → (n : ℕ) (sort : SortId) (f : ℕ) (con : Con) → slice_get parts.symbols f ≡ Some (sym.Con con)
    → same_sort con.sort sort ≡ true → list_all (is_low text n) con.args ≡ true → is_low text (suc n) sort ≡ true
unfolding is_low
made_low text parts declares n sort f con declared of low =
    or_right (not (nat_lt sort.0 (length text.sorts))) (list_any (makes_from (is_low text n) sort) text.symbols)
    (any_here (makes_from (is_low text n) sort) text.symbols f (sym.Con con) (in_text text parts declares f (sym.Con con) declared) (ap₂ ◌&&◌ of low))

abbrev IsLowValue : Whole → SigParts → Tree → Type 0
IsLowValue text parts t = (sort : SortId) → fold-Tree Bool (value_step parts) t ≡ true → sort_of parts t ≡ Some sort → (n : ℕ) × (is_low text n sort ≡ true)

low_args : (text : Whole) (parts : SigParts) (ts : List Tree) (sorts : List SortId) → Each (IsLowValue text parts) ts → HaveSorts parts ts sorts
    → list_all (λ v. v) (map (fold-Tree Bool (value_step parts)) ts) ≡ true → (n : ℕ) × (list_all (is_low text n) sorts ≡ true)
low_args text parts [] [] have sorted made = (0, refl)
low_args text parts [] (s ∷ sorts) have sorted made = absurd sorted
low_args text parts (t ∷ ts) [] have sorted made = absurd sorted
low_args text parts (t ∷ ts) (s ∷ sorts) have sorted made =
    let b = both_true (fold-Tree Bool (value_step parts) t) (list_all (λ v. v) (map (fold-Tree Bool (value_step parts)) ts)) made in
    let a = have.0 s b.0 sorted.0 in
    let r = low_args text parts ts sorts have.1 sorted.1 b.1 in
    let left : a.0 ≤ a.0 + r.0 = omega arith in
    let right : r.0 ≤ a.0 + r.0 = omega arith in (
      a.0 + r.0,
      ap₂ ◌&&◌ (low_at_least text a.0 (a.0 + r.0) s left a.1)
          (implied (is_low text r.0) (is_low text (a.0 + r.0)) (λ z h. low_at_least text r.0 (a.0 + r.0) z right h) sorts r.1),
    )

con_is : (o : Option Sym) (s : Sym) → o ≡ Some s → is_constructor o ≡ true → (con : Con) × (s ≡ sym.Con con)
con_is o (sym.Con con) e h = (con, refl)
con_is o (sym.Fun fun) e h = absurd (true≢false (sym h ∙ ap is_constructor e))

pub value_low : (text : Whole) (parts : SigParts) → Declares text parts → (t : Tree) → IsLowValue text parts t
value_low text parts declares = tree_induct (IsLowValue text parts) at_var at_app
  where
    at_var : (s : SortId) (i : ℕ) → IsLowValue text parts (Var s i)
    at_var s i sort made sorted = absurd (true≢false (sym made ∙ fold-Var Bool (value_step parts) s i))

    at_app : (f : SymId) (args : List Tree) → Each (IsLowValue text parts) args → IsLowValue text parts (App f args)
    at_app f args have sort made sorted =
        let b = both_true (is_constructor (symbol_at parts f)) (list_all (λ v. v) (map (fold-Tree Bool (value_step parts)) args)) (sym (fold-App Bool (value_step parts) f args) ∙ made) in
        let a = sorted_app parts f args sort sorted in
        let c = con_is (symbol_at parts f) a.symbol a.declared b.0 in
        let r = low_args text parts args (args_of a.symbol) have a.sorts b.1 in
        let of : same_sort c.0.sort sort ≡ true = ap (λ z. same_sort z sort) (sym (ap result_of c.1) ∙ a.result) ∙ same_sort_itself sort in
        (suc r.0, made_low text parts declares r.0 sort f.0 c.0 (a.declared ∙ ap Some c.1) of (subst (λ z. list_all (is_low text r.0) (args_of z) ≡ true) c.1 r.1))

-- and so is a sort within a height

no_height : {G : Type 0} (parts : SigParts) (sort : SortId) → is_within_height parts zero sort ≡ true → G
unfolding is_within_height
no_height parts sort e = absurd (true≢false (sym e))

within_any : (parts : SigParts) (n : ℕ) (sort : SortId) → is_within_height parts (suc n) sort ≡ true → list_any (makes_from (is_within_height parts n) sort) parts.symbols ≡ true
unfolding is_within_height
within_any parts n sort e = e

pub within_low : (text : Whole) (parts : SigParts) → Declares text parts → (n : ℕ) (sort : SortId) → is_within_height parts n sort ≡ true → is_low text n sort ≡ true
within_low text parts declares zero sort e = no_height parts sort e
within_low text parts declares (suc n) sort e =
    let f = any_found (makes_from (is_within_height parts n) sort) parts.symbols (within_any parts n sort e) in
    by f.0 f.1 f.2 (makes_more (is_within_height parts n) (is_low text n) (within_low text parts declares n) sort f.1 f.3)
  where
    by : (k : ℕ) (s : Sym) → slice_get parts.symbols k ≡ Some s → makes_from (is_low text n) sort s ≡ true → is_low text (suc n) sort ≡ true
    by k (sym.Con con) d m = let b = both_true (same_sort con.sort sort) (list_all (is_low text n) con.args) m in made_low text parts declares n sort k con d b.0 b.1
    by k (sym.Fun fun) d m = absurd (true≢false (sym m))
