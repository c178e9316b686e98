-- A sort that counts as having a value has one, and one that is low is within the height.
use Rattle.std.proofs.Common.{◌≡◌, ℕ, zero, suc, List, [], ◌∷◌, map, length, Bool, true, false, true≢false, not, ◌&&◌, ◌||◌, nat_lt, Some, slice_get, refl, sym, ap, ap₂, ◌∙◌}
use Rattle.std.specs.List.{list_any, list_all}
use Rattle.law_sig.specs.Lists.{Each}
use Rattle.law_sig.specs.Trees.{same_sort}
use Rattle.law_sig.specs.Signature.{symbol_at}
use Rattle.law_sig.specs.WellFormed.{IsDeclared, IsSymbol, IsValueOf, value_step, is_constructor, makes_from, is_within_height}
use Rattle.law_sig.specs.declared.tree.SortId.{SortId}
use Rattle.law_sig.specs.declared.tree.SymId.{SymId}
use Rattle.law_sig.specs.declared.tree.Tree.{Tree}
use Rattle.law_sig.specs.declared.tree.Tree.TheVariants.{App}
use Rattle.law_sig.specs.declared.tree.Tree.TheFolds.{fold-Tree}
use Rattle.law_sig.specs.declared.parts.Con.{Con}
use Rattle.law_sig.specs.declared.parts.Sym.{Sym}
use Rattle.law_sig.specs.declared.parts.Sym.TheVariants as sym
use Rattle.law_sig.specs.declared.parts.SigParts.{SigParts}
use Rattle.law_laws.proofs.TreeFacts.{fold-App}
use Rattle.law_laws.proofs.BodyFacts.{some_is, none_is}
use Rattle.law_laws.proofs.Sorts.{HaveSorts, app_sorted, same_sort_is, both_true}
use Rattle.law_typing.specs.Declarations.{is_low}
use Rattle.law_typing.specs.declared.whole.Whole.{Whole}
use Rattle.law_typing.proofs.SideFacts.{Declares, headed, in_parts}

pub any_found : {A : Type 0} (test : A → Bool) (xs : List A) → list_any test xs ≡ true → (k : ℕ) × (x : A) × (slice_get xs k ≡ Some x) × (test x ≡ true)
any_found test [] e = absurd (true≢false (sym e))
any_found {A} test (x ∷ xs) e = by (test x) refl e (any_found test xs)
  where
    by : (b : Bool) → test x ≡ b → (b || list_any test xs) ≡ true → (list_any test xs ≡ true → (k : ℕ) × (y : A) × (slice_get xs k ≡ Some y) × (test y ≡ true))
        → (k : ℕ) × (y : A) × (slice_get (x ∷ xs) k ≡ Some y) × (test y ≡ true)
    by true t h rest = (0, x, refl, t)
    by false t h rest = let r = rest h in (suc r.0, r.1, r.2, r.3)

or_true : (a : Bool) → (a || true) ≡ true
or_true true = refl
or_true false = refl

pub any_here : {A : Type 0} (test : A → Bool) (xs : List A) (k : ℕ) (x : A) → slice_get xs k ≡ Some x → test x ≡ true → list_any test xs ≡ true
any_here test [] k x e t = none_is x e
any_here test (y ∷ xs) zero x e t = ap (λ b. b || list_any test xs) (ap test (some_is y x e) ∙ t)
any_here test (y ∷ xs) (suc k) x e t = ap (λ b. test y || b) (any_here test xs k x e t) ∙ or_true (test y)

-- a constructor whose arguments are low
pub record LowCon (text : Whole) (parts : SigParts) (n : ℕ) (sort : SortId) : Type 0 where
  pub number : ℕ
  pub con : Con
  pub declared : slice_get parts.symbols number ≡ Some (sym.Con con)
  pub of : same_sort con.sort sort ≡ true
  pub low : list_all (is_low text n) con.args ≡ true

by_symbol : (text : Whole) (parts : SigParts) (n : ℕ) (sort : SortId) (k : ℕ) (s : Sym) → slice_get parts.symbols k ≡ Some s
    → makes_from (is_low text n) sort (headed s) ≡ true → LowCon text parts n sort
by_symbol text parts n sort k (sym.Con con) d e =
    let b = both_true (same_sort con.sort sort) (list_all (is_low text n) con.args) e in
    record { number = k; con = con; declared = d; of = b.0; low = b.1 }
by_symbol text parts n sort k (sym.Fun fun) d e = absurd (true≢false (sym e))

low_con : (text : Whole) (parts : SigParts) (n : ℕ) (sort : SortId) → Declares text parts → IsDeclared parts sort → is_low text (suc n) sort ≡ true → LowCon text parts n sort
unfolding is_low
low_con text parts n sort declares declared e =
    let here : nat_lt sort.0 (length text.sorts) ≡ true = ap (λ l. nat_lt sort.0 (length l)) declares.sorts ∙ declared in
    let some : list_any (makes_from (is_low text n) sort) text.symbols ≡ true =
    sym (ap (λ b. not b || list_any (makes_from (is_low text n) sort) text.symbols) here) ∙ e in
    let f = any_found (makes_from (is_low text n) sort) text.symbols some in
    let p = in_parts text parts declares f.0 f.1 f.2 in
    by_symbol text parts n sort f.0 p.0 p.1 (sym (ap (makes_from (is_low text n) sort) p.2) ∙ f.3)

abbrev HasValue : SigParts → SortId → Type 0
HasValue parts sort = (v : Tree) × IsValueOf parts sort v

pub record HaveValues (parts : SigParts) (sorts : List SortId) : Type 0 where
  pub values : List Tree
  pub sorted : HaveSorts parts values sorts
  pub made : list_all (λ v. v) (map (fold-Tree Bool (value_step parts)) values) ≡ true

all_values : (text : Whole) (parts : SigParts) (n : ℕ) → ((sort : SortId) → IsDeclared parts sort → is_low text n sort ≡ true → HasValue parts sort)
    → (sorts : List SortId) → Each (IsDeclared parts) sorts → list_all (is_low text n) sorts ≡ true → HaveValues parts sorts
all_values text parts n each [] declared e = record { values = []; sorted = tt; made = refl }
all_values text parts n each (s ∷ sorts) declared e =
    let b = both_true (is_low text n s) (list_all (is_low text n) sorts) e in
    let v = each s declared.0 b.0 in
    let r = all_values text parts n each sorts declared.1 b.1 in
    record { values = v.0 ∷ r.values; sorted = (v.1.sorted, r.sorted); made = ap₂ ◌&&◌ v.1.made r.made }

module _ (text : Whole) (parts : SigParts) (declares : Declares text parts)
    (symbols : (f : SymId) (symbol : Sym) → symbol_at parts f ≡ Some symbol → IsSymbol parts f symbol)
  where
    args_declared : (number : ℕ) (con : Con) → slice_get parts.symbols number ≡ Some (sym.Con con) → Each (IsDeclared parts) con.args
    args_declared number con e = let s = symbols (record { 0 = number }) (sym.Con con) e in s.args_declared

    zero_low : (sort : SortId) → is_low text zero sort ≡ true → {G : Type 0} → G
    unfolding is_low
    zero_low sort e = absurd (true≢false (sym e))

    pub low_value : (n : ℕ) (sort : SortId) → IsDeclared parts sort → is_low text n sort ≡ true → HasValue parts sort
    low_value zero sort declared e = zero_low sort e
    low_value (suc n) sort declared e =
        let c = low_con text parts n sort declares declared e in
        let vs = all_values text parts n (low_value n) c.con.args (args_declared c.number c.con c.declared) c.low in
        let f : SymId = record { 0 = c.number } in (
          App f vs.values,
          record {
            made = fold-App Bool (value_step parts) f vs.values ∙ ap₂ ◌&&◌ (ap is_constructor c.declared) vs.made;
            sorted = app_sorted parts f vs.values sort (record { symbol = sym.Con c.con; declared = c.declared; result = same_sort_is c.con.sort sort c.of; sorts = vs.sorted });
          },
        )

    all_within : (n : ℕ) → ((sort : SortId) → IsDeclared parts sort → is_low text n sort ≡ true → is_within_height parts n sort ≡ true)
        → (sorts : List SortId) → Each (IsDeclared parts) sorts → list_all (is_low text n) sorts ≡ true → list_all (is_within_height parts n) sorts ≡ true
    all_within n each [] declared e = refl
    all_within n each (s ∷ sorts) declared e =
        let b = both_true (is_low text n s) (list_all (is_low text n) sorts) e in
        ap₂ ◌&&◌ (each s declared.0 b.0) (all_within n each sorts declared.1 b.1)

    within_suc : (n : ℕ) (sort : SortId) → list_any (makes_from (is_within_height parts n) sort) parts.symbols ≡ true → is_within_height parts (suc n) sort ≡ true
    unfolding is_within_height
    within_suc n sort e = e

    pub low_within : (n : ℕ) (sort : SortId) → IsDeclared parts sort → is_low text n sort ≡ true → is_within_height parts n sort ≡ true
    low_within zero sort declared e = zero_low sort e
    low_within (suc n) sort declared e =
        let c = low_con text parts n sort declares declared e in
        within_suc n sort (any_here (makes_from (is_within_height parts n) sort) parts.symbols c.number (sym.Con c.con) c.declared
        (ap₂ ◌&&◌ c.of (all_within n (low_within n) c.con.args (args_declared c.number c.con c.declared) c.low)))
