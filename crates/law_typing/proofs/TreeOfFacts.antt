-- The term that a written term states is written so, and no other is.
use Rattle.std.proofs.Common.{◌≡◌, ℕ, zero, suc, ◌<◌, List, [], ◌∷◌, map, length, Bool, true, false, is_some, IsSome, Option, Some, None, slice_get, slice_index_or, option_map, rules, true≢false, refl, sym, ap, ap₂, ◌∙◌, subst}
use Rattle.law_sig.specs.Lists.{Each, AreDistinct}
use Rattle.law_sig.specs.Signature.{sort_of, args_of}
use Rattle.law_sig.specs.Tests.{all_present}
use Rattle.law_sig.specs.WellFormed.{IsWellFormed}
use Rattle.law_sig.specs.declared.tree.Tree.{Tree}
use Rattle.law_sig.specs.declared.parts.SigParts.{SigParts}
use Rattle.law_lines.specs.declared.raw.RawTerm.{RawTerm}
use Rattle.law_lines.specs.declared.raw.RawTerm.TheViews.{out-RawTerm, roll-RawTerm}
use Rattle.law_lines.specs.declared.raw.RawTerm.TheFolds.{fold_out-RawTerm, fold-roll-RawTerm, map-RawTerm, ind-RawTerm}
use Rattle.law_lines.specs.declared.raw.RawTerm.TheOpen.{RawTerm-F}
use Rattle.law_lines.specs.declared.raw.RawHead.{RawHead}
use Rattle.law_lines.specs.declared.raw.RawHead.TheVariants as head
use Rattle.std.proofs.lemmas.Option.{get_or_from_slice_get, slice_get-get_or, slice_get_within}
use Rattle.law_sig.specs.declared.tree.SortId.{SortId}
use Rattle.law_sig.specs.declared.tree.SymId.{SymId}
use Rattle.law_sig.specs.declared.tree.Tree.TheVariants.{Var, App}
use Rattle.law_laws.proofs.TreeFacts.{tree_induct, fold-Var, fold-App}
use Rattle.law_laws.proofs.Sorts.{HaveSorts, sorted_app, sorted_var}
use Rattle.law_typing.specs.Names.{number_of}
use Rattle.law_typing.proofs.NumberFacts.{stands_at, found_at}
use Rattle.law_typing.specs.Naming.{named_term, name_step, raw_term, sort_name, symbol_name}
use Rattle.law_typing.specs.TypedTerm.{IsTyped, tree_of, tree_over, tree_step, symbol_over, variable_of}
use Rattle.law_laws.proofs.BodyFacts.{some_is, none_is}

-- what a written term states, from its parts
pub tree_is : (parts : SigParts) (term : RawTerm) → tree_of parts term ≡ tree_over parts (out-RawTerm term).head (all_present (map (tree_of parts) (out-RawTerm term).args))
tree_is parts term = fold_out-RawTerm (Option Tree) (tree_step parts) term

-- all of them, or one that isn't there
all_somes : {A : Type 0} (xs : List A) → all_present (map Some xs) ≡ Some xs
all_somes [] = refl
all_somes (x ∷ xs) = ap (option_map (λ l. x ∷ l)) (all_somes xs)

all_none : {A B : Type 0} (f : A → Option B) (xs : List A) (at : ℕ) (x : A) → slice_get xs at ≡ Some x → f x ≡ None → all_present (map f xs) ≡ None
all_none f [] at x e n = none_is x e
all_none f (y ∷ ys) zero x e n = ap (λ o. all_present (o ∷ map f ys)) (ap f (some_is y x e) ∙ n)
all_none {A} {B} f (y ∷ ys) (suc at) x e n = by (f y) (all_none f ys at x e n)
  where
    by : (o : Option B) → all_present (map f ys) ≡ None → all_present (o ∷ map f ys) ≡ None
    by None h = refl
    by (Some z) h = ap (option_map (λ l. z ∷ l)) h

pub stops : (parts : SigParts) (term : RawTerm) (at : ℕ) (arg : RawTerm) → slice_get (out-RawTerm term).args at ≡ Some arg → tree_of parts arg ≡ None
    → tree_of parts term ≡ None
stops parts term at arg item none = tree_is parts term ∙ ap (tree_over parts (out-RawTerm term).head) (all_none (tree_of parts) (out-RawTerm term).args at arg item none)

pub goes_on : (parts : SigParts) (term : RawTerm) (args : List Tree) → map Some args ≡ map (tree_of parts) (out-RawTerm term).args
    → tree_of parts term ≡ tree_over parts (out-RawTerm term).head (Some args)
goes_on parts term args e = tree_is parts term ∙ ap (tree_over parts (out-RawTerm term).head) (ap all_present (sym e) ∙ all_somes args)

pub ruleset tree_facts = (stops, goes_on)

-- what holds of every written term whose arguments all have it holds of every written term
pub raw_induct : (P : RawTerm → Type 0) → ((head : RawHead) (args : List RawTerm) → Each P args → P (raw_term head args)) → (t : RawTerm) → P t
raw_induct P step = ind-RawTerm P (λ x y is. again y x is (layer y))
  where
    haves : (ys : List ((t : RawTerm) × P t)) → Each P (map (λ e. e.0) ys)
    haves [] = tt
    haves (y ∷ ys) = (y.1, haves ys)

    layer : (y : RawTerm-F ((t : RawTerm) × P t)) → P (roll-RawTerm (map-RawTerm ((t : RawTerm) × P t) RawTerm (λ e. e.0) y))
    layer y = step y.head (map (λ e. e.0) y.args) (haves y.args)

    again : (y : RawTerm-F ((t : RawTerm) × P t)) (x : RawTerm-F RawTerm) → map-RawTerm ((t : RawTerm) × P t) RawTerm (λ e. e.0) y ≡ x
        → P (roll-RawTerm (map-RawTerm ((t : RawTerm) × P t) RawTerm (λ e. e.0) y)) → P (roll-RawTerm x)
    again y x is h = subst (λ z. P (roll-RawTerm z)) is h

tree_raw : (parts : SigParts) (head : RawHead) (args : List RawTerm)
    → tree_of parts (raw_term head args) ≡ tree_over parts head (all_present (map (tree_of parts) args))
tree_raw parts head args = let l : RawTerm-F RawTerm = record { head = head; args = args } in fold-roll-RawTerm (Option Tree) (tree_step parts) l

abbrev WrittenSo : SigParts → RawTerm → Type 0
WrittenSo parts term = (tree : Tree) → tree_of parts term ≡ Some tree → named_term parts tree ≡ term

all_written : (parts : SigParts) (args : List RawTerm) (trees : List Tree) → Each (WrittenSo parts) args → all_present (map (tree_of parts) args) ≡ Some trees
    → map (named_term parts) trees ≡ args
all_written parts [] trees have e = ap (map (named_term parts)) (sym (some_is [] trees e))
all_written parts (a ∷ args) trees have e = by (tree_of parts a) refl (all_present (map (tree_of parts) args)) refl e (λ ts. all_written parts args ts have.1)
  where
    by : (o : Option Tree) → tree_of parts a ≡ o → (os : Option (List Tree)) → all_present (map (tree_of parts) args) ≡ os
        → all_present (o ∷ map (tree_of parts) args) ≡ Some trees
        → ((ts : List Tree) → all_present (map (tree_of parts) args) ≡ Some ts → map (named_term parts) ts ≡ args) → map (named_term parts) trees ≡ a ∷ args
    by None k os ks h rest = none_is trees h
    by (Some t) k None ks h rest = none_is trees (sym (ap (option_map (λ l. t ∷ l)) ks) ∙ h)
    by (Some t) k (Some ts) ks h rest =
        ap (map (named_term parts)) (sym (some_is (t ∷ ts) trees (sym (ap (option_map (λ l. t ∷ l)) ks) ∙ h)))
        ∙ ap₂ ◌∷◌ (have.0 t k) (rest ts ks)

name_at : (names : List (List ℕ)) (name : List ℕ) (k : ℕ) → number_of names name ≡ Some k → slice_index_or names k [] ≡ name
name_at names name k e = get_or_from_slice_get names k name [] (stands_at names name k e)

symbol_written : (parts : SigParts) (name : List ℕ) (args : List RawTerm) (trees : List Tree) (tree : Tree) → map (named_term parts) trees ≡ args
    → (o : Option ℕ) → number_of parts.symbol_names name ≡ o → symbol_over o trees ≡ Some tree → named_term parts tree ≡ raw_term (head.Name name) args
symbol_written parts name args trees tree all None k h = none_is tree h
symbol_written parts name args trees tree all (Some n) k h =
    let f : SymId = record { 0 = n } in
    ap (named_term parts) (sym (some_is (App f trees) tree h)) ∙ fold-App RawTerm (name_step parts) f trees
    ∙ ap₂ (λ m l. raw_term (head.Name m) l) (name_at parts.symbol_names name n k) all

variable_written : (parts : SigParts) (sort : List ℕ) (index : ℕ) (args : List RawTerm) (trees : List Tree) (tree : Tree) → map (named_term parts) trees ≡ args
    → (o : Option ℕ) → number_of parts.sort_names sort ≡ o → variable_of o index trees ≡ Some tree → named_term parts tree ≡ raw_term (head.Var sort index) args
variable_written parts sort index args trees tree all None k h = none_is tree h
variable_written parts sort index args (t ∷ trees) tree all (Some n) k h = none_is tree h
variable_written parts sort index args [] tree all (Some n) k h =
    let s : SortId = record { 0 = n } in
    ap (named_term parts) (sym (some_is (Var s index) tree h)) ∙ fold-Var RawTerm (name_step parts) s index
    ∙ ap₂ (λ m l. raw_term (head.Var m index) l) (name_at parts.sort_names sort n k) all

head_written : (parts : SigParts) (h : RawHead) (args : List RawTerm) (trees : List Tree) (tree : Tree) → map (named_term parts) trees ≡ args
    → tree_over parts h (Some trees) ≡ Some tree → named_term parts tree ≡ raw_term h args
head_written parts (head.Name name) args trees tree all h = symbol_written parts name args trees tree all (number_of parts.symbol_names name) refl h
head_written parts (head.Var sort index) args trees tree all h = variable_written parts sort index args trees tree all (number_of parts.sort_names sort) refl h
head_written parts (head.Param number) args trees tree all h = none_is tree h
head_written parts (head.Field number) args trees tree all h = none_is tree h

-- written so
pub written_so : (parts : SigParts) (term : RawTerm) → WrittenSo parts term
written_so parts = raw_induct (WrittenSo parts) step
  where
    step : (h : RawHead) (args : List RawTerm) → Each (WrittenSo parts) args → WrittenSo parts (raw_term h args)
    step h args have tree e = by (all_present (map (tree_of parts) args)) refl (sym (tree_raw parts h args) ∙ e)
      where
        by : (o : Option (List Tree)) → all_present (map (tree_of parts) args) ≡ o → tree_over parts h o ≡ Some tree → named_term parts tree ≡ raw_term h args
        by None k t = none_is tree t
        by (Some trees) k t = head_written parts h args trees tree (all_written parts args trees have k) t

-- and found again
abbrev FoundAgain : SigParts → Tree → Type 0
FoundAgain parts t = IsSome (sort_of parts t) → tree_of parts (named_term parts t) ≡ Some t

sort_had : (o : Option SortId) → IsSome o → (s : SortId) × (o ≡ Some s)
sort_had (Some s) h = (s, refl)
sort_had None h = absurd (true≢false (sym h))

pub number_again : (names : List (List ℕ)) (k : ℕ) → AreDistinct names → k < length names → number_of names (slice_index_or names k []) ≡ Some k
number_again names k distinct within = found_at names (slice_index_or names k []) k distinct (slice_get-get_or names k [] within)

all_again : (parts : SigParts) (ts : List Tree) (ws : List SortId) → Each (FoundAgain parts) ts → HaveSorts parts ts ws
    → map (tree_of parts) (map (named_term parts) ts) ≡ map Some ts
all_again parts [] [] have h = refl
all_again parts [] (w ∷ ws) have h = absurd h
all_again parts (t ∷ ts) [] have h = absurd h
all_again parts (t ∷ ts) (w ∷ ws) have h = ap₂ ◌∷◌ (have.0 (ap is_some h.0)) (all_again parts ts ws have.1 h.1)

pub found_again : (parts : SigParts) → IsWellFormed parts → (t : Tree) → FoundAgain parts t
found_again parts formed = tree_induct (FoundAgain parts) at_var at_app
  where
    at_var : (s : SortId) (i : ℕ) → FoundAgain parts (Var s i)
    at_var s i sorted =
        let (sort, is) = sort_had (sort_of parts (Var s i)) sorted in
        let declared = (sorted_var parts s i sort is).0 in
        ap (tree_of parts) (fold-Var RawTerm (name_step parts) s i) ∙ tree_raw parts (head.Var (sort_name parts s) i) []
        ∙ ap (λ o. variable_of o i []) (number_again parts.sort_names s.0 formed.sort_names.distinct (search (rules, declared)))

    at_app : (f : SymId) (args : List Tree) → Each (FoundAgain parts) args → FoundAgain parts (App f args)
    at_app f args have sorted =
        let (sort, is) = sort_had (sort_of parts (App f args)) sorted in
        let a = sorted_app parts f args sort is in
        let within : f.0 < length parts.symbol_names = subst (λ n. f.0 < n) (sym formed.one_name_each) (slice_get_within parts.symbols f.0 a.symbol a.declared) in
        ap (tree_of parts) (fold-App RawTerm (name_step parts) f args) ∙ tree_raw parts (head.Name (symbol_name parts f)) (map (named_term parts) args)
        ∙ ap (tree_over parts (head.Name (symbol_name parts f))) (ap all_present (all_again parts args (args_of a.symbol) have a.sorts) ∙ all_somes args)
        ∙ ap (λ o. symbol_over o args) (number_again parts.symbol_names f.0 formed.symbol_names.distinct within)

pub typed_some : (parts : SigParts) (term : RawTerm) (tree : Tree) → Some tree ≡ tree_of parts term → is_some (sort_of parts tree) ≡ true
    → IsTyped parts term (Some tree)
typed_some parts term tree e sorted = (written_so parts term tree (sym e), sorted)

pub typed_none : (parts : SigParts) (term : RawTerm) → IsWellFormed parts → None ≡ tree_of parts term → IsTyped parts term None
typed_none parts term formed e tree written sorted = absurd (none_some tree (e ∙ ap (tree_of parts) (sym written) ∙ found_again parts formed tree sorted))
  where
    none_some : (t : Tree) → ◌≡◌ {A = Option Tree} None (Some t) → ⊥
    none_some t h = cc

pub typed_unsorted : (parts : SigParts) (term : RawTerm) (found : Tree) → IsWellFormed parts → Some found ≡ tree_of parts term
    → is_some (sort_of parts found) ≡ false → IsTyped parts term None
typed_unsorted parts term found formed e unsorted tree written sorted =
    let same : ◌≡◌ {A = Option Tree} (Some found) (Some tree) = e ∙ ap (tree_of parts) (sym written) ∙ found_again parts formed tree sorted in
    clash (ap (λ t. is_some (sort_of parts t)) (one same) ∙ sorted)
  where
    one : {t u : Tree} → ◌≡◌ {A = Option Tree} (Some t) (Some u) → t ≡ u
    one h = cc

    clash : is_some (sort_of parts found) ≡ true → ⊥
    clash h = let k : ◌≡◌ {A = Bool} true false = sym h ∙ unsorted in cc

-- so the answer to it is the term
pub typed_of_raw_term : (parts : SigParts) (tree : Tree) (found : Option Tree) → IsWellFormed parts → IsSome (sort_of parts tree)
    → IsTyped parts (named_term parts tree) found → found ≡ Some tree
typed_of_raw_term parts tree None formed sorted none = absurd (none tree refl sorted)
typed_of_raw_term parts tree (Some other) formed sorted same =
    sym (found_again parts formed other same.1) ∙ ap (tree_of parts) same.0 ∙ found_again parts formed tree sorted

pub ruleset typed_facts = (typed_some, typed_none, typed_unsorted)
