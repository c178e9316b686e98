-- The first fault of a term from the faults of its root and those of its arguments.
use Rattle.std.proofs.Common.{◌≡◌, ℕ, zero, suc, ◌+◌, List, [], ◌∷◌, map, drop, true, false, is_some, Option, Some, None, slice_get, refl, sym, ap, ap₂, ◌∙◌, arith, true≢false}
use Rattle.std.specs.Option.{option_or}
use Rattle.law_sig.specs.declared.tree.SortId.{SortId}
use Rattle.law_lines.specs.declared.raw.RawTerm.{RawTerm}
use Rattle.law_lines.specs.declared.raw.RawTerm.TheViews.{out-RawTerm}
use Rattle.law_lines.specs.declared.raw.RawTerm.TheFolds.{fold-RawTerm, fold_out-RawTerm}
use Rattle.law_typing.specs.declared.errors.TypeKind.{TypeKind}
use Rattle.law_typing.specs.declared.scope.Scope.{Scope}
use Rattle.law_typing.specs.declared.whole.Whole.{Whole}
use Rattle.law_laws.proofs.BodyFacts.{some_is, none_is}
use Rattle.law_typing.specs.TermFaults.{Part, part_step, term_fault, root_faults, node_faults, argument_faults, wanted_of, head_symbol, is_field_term}

abbrev pub part_of : Whole → Scope → RawTerm → Part
part_of text scope = fold-RawTerm Part (part_step text scope)

-- the first fault among arguments of these sorts
abbrev pub args_fault : Whole → Scope → List SortId → List RawTerm → Option TypeKind
args_fault text scope sorts terms = argument_faults sorts (map (part_of text scope) terms)

field_is : (text : Whole) (scope : Scope) (t : RawTerm) → (part_of text scope t).field ≡ is_field_term t
field_is text scope t = ap (λ (p : Part). p.field) (fold_out-RawTerm Part (part_step text scope) t)

pub fields_are : (text : Whole) (scope : Scope) (ts : List RawTerm) → map (λ (p : Part). p.field) (map (part_of text scope) ts) ≡ map is_field_term ts
fields_are text scope [] = refl
fields_are text scope (t ∷ ts) = ap₂ ◌∷◌ (field_is text scope t) (fields_are text scope ts)

pub term_is : (text : Whole) (scope : Scope) (wanted : Option SortId) (t : RawTerm)
    → term_fault text scope wanted t
    ≡ option_or (root_faults text scope wanted t) (args_fault text scope (wanted_of (head_symbol text (out-RawTerm t).head)) (out-RawTerm t).args)
term_is text scope wanted t = ap (λ (p : Part). p.fault wanted) (fold_out-RawTerm Part (part_step text scope) t)
    ∙ ap (λ l. option_or (node_faults text scope l wanted (out-RawTerm t).head)
    (args_fault text scope (wanted_of (head_symbol text (out-RawTerm t).head)) (out-RawTerm t).args)) (fields_are text scope (out-RawTerm t).args)

-- a fault of the root is the first
pub root_first : (text : Whole) (scope : Scope) (wanted : Option SortId) (t : RawTerm) → is_some (root_faults text scope wanted t) ≡ true
    → term_fault text scope wanted t ≡ root_faults text scope wanted t
root_first text scope wanted t e = term_is text scope wanted t ∙ by (root_faults text scope wanted t) e
  where
    by : (o : Option TypeKind) → is_some o ≡ true
        → option_or o (args_fault text scope (wanted_of (head_symbol text (out-RawTerm t).head)) (out-RawTerm t).args) ≡ o
    by (Some fault) k = refl
    by None k = absurd (true≢false (sym k))

-- without one it is that of the arguments
pub args_first : (text : Whole) (scope : Scope) (wanted : Option SortId) (t : RawTerm) → is_some (root_faults text scope wanted t) ≡ false
    → term_fault text scope wanted t ≡ args_fault text scope (wanted_of (head_symbol text (out-RawTerm t).head)) (out-RawTerm t).args
args_first text scope wanted t e = term_is text scope wanted t ∙ by (root_faults text scope wanted t) e
  where
    by : (o : Option TypeKind) → is_some o ≡ false
        → option_or o (args_fault text scope (wanted_of (head_symbol text (out-RawTerm t).head)) (out-RawTerm t).args)
        ≡ args_fault text scope (wanted_of (head_symbol text (out-RawTerm t).head)) (out-RawTerm t).args
    by (Some fault) k = absurd (true≢false k)
    by None k = refl

-- what is left of a list, where there is an item at the place, and where there is none
pub drop_some : {A : Type 0} (xs : List A) (at : ℕ) (x : A) → slice_get xs at ≡ Some x → drop at xs ≡ x ∷ drop (suc at) xs
drop_some [] at x e = none_is x e
drop_some (y ∷ xs) zero x e = ap (λ z. z ∷ xs) (some_is y x e)
drop_some (y ∷ xs) (suc at) x e = drop_some xs at x e

pub drop_none : {A : Type 0} (xs : List A) (at : ℕ) → slice_get xs at ≡ None → drop at xs ≡ []
drop_none [] zero e = refl
drop_none [] (suc at) e = refl
drop_none (y ∷ xs) zero e = none_is y (sym e)
drop_none (y ∷ xs) (suc at) e = drop_none xs at e

-- one argument more
pub next_argument : (text : Whole) (scope : Scope) (sorts : List SortId) (terms : List RawTerm) (at : ℕ) (sort : SortId) (t : RawTerm)
    → slice_get sorts at ≡ Some sort → slice_get terms at ≡ Some t
    → args_fault text scope (drop at sorts) (drop at terms) ≡ option_or (term_fault text scope (Some sort) t) (args_fault text scope (drop (at + 1) sorts) (drop (at + 1) terms))
next_argument text scope sorts terms at sort t e k = ap₂ (args_fault text scope) (drop_some sorts at sort e) (drop_some terms at t k)
    ∙ ap (λ n. option_or (term_fault text scope (Some sort) t) (args_fault text scope (drop n sorts) (drop n terms))) next
  where
    next : suc at ≡ at + 1
    next = omega arith

-- a fault of this argument is the first of those left, and without one the rest decides
pub argument_found : (text : Whole) (scope : Scope) (sorts : List SortId) (terms : List RawTerm) (at : ℕ) (sort : SortId) (t : RawTerm) (fault : Option TypeKind)
    → slice_get sorts at ≡ Some sort → slice_get terms at ≡ Some t → fault ≡ term_fault text scope (Some sort) t → is_some fault ≡ true
    → args_fault text scope (drop at sorts) (drop at terms) ≡ fault
argument_found text scope sorts terms at sort t fault e k f some = next_argument text scope sorts terms at sort t e k
    ∙ ap (λ o. option_or o (args_fault text scope (drop (at + 1) sorts) (drop (at + 1) terms))) (sym f) ∙ by fault some
  where
    by : (o : Option TypeKind) → is_some o ≡ true → option_or o (args_fault text scope (drop (at + 1) sorts) (drop (at + 1) terms)) ≡ o
    by (Some x) s = refl
    by None s = absurd (true≢false (sym s))

pub argument_passed : (text : Whole) (scope : Scope) (sorts : List SortId) (terms : List RawTerm) (at : ℕ) (sort : SortId) (t : RawTerm) (fault : Option TypeKind)
    → slice_get sorts at ≡ Some sort → slice_get terms at ≡ Some t → fault ≡ term_fault text scope (Some sort) t → is_some fault ≡ false
    → args_fault text scope (drop at sorts) (drop at terms) ≡ args_fault text scope (drop (at + 1) sorts) (drop (at + 1) terms)
argument_passed text scope sorts terms at sort t fault e k f none = next_argument text scope sorts terms at sort t e k
    ∙ ap (λ o. option_or o (args_fault text scope (drop (at + 1) sorts) (drop (at + 1) terms))) (sym f) ∙ by fault none
  where
    by : (o : Option TypeKind) → is_some o ≡ false → option_or o (args_fault text scope (drop (at + 1) sorts) (drop (at + 1) terms)) ≡ args_fault text scope (drop (at + 1) sorts) (drop (at + 1) terms)
    by None s = refl
    by (Some x) s = absurd (true≢false s)

pub spent : (text : Whole) (scope : Scope) (sorts : List SortId) → args_fault text scope sorts [] ≡ None
spent text scope [] = refl
spent text scope (s ∷ sorts) = refl

pub ruleset term_facts = (root_first, args_first, drop_some, drop_none)
