-- The sort of an application, and what a walk over its arguments knows of it.
use Rattle.std.proofs.Common.{◌≡◌, ℕ, zero, suc, ◌+◌, ◌<◌, ◌≤◌, List, [], ◌∷◌, length, map, drop, slice_index_or, Bool, true, false, ◌&&◌, Option, Some, None, arith, sym, ap, ◌∙◌, refl, if◌then◌else◌}
use Rattle.law_sig.specs.Signature.{symbol_at, args_of, result_of, has_sort, same_sorts, sort_over, sort_step, sort_of}
use Rattle.law_sig.specs.declared.tree.SortId.{SortId}
use Rattle.law_sig.specs.declared.tree.SymId.{SymId}
use Rattle.law_sig.specs.declared.tree.Tree.{Tree}
use Rattle.law_sig.specs.declared.tree.Tree.TheOpen as o
use Rattle.law_sig.specs.declared.tree.Tree.TheVariants.{App, rolls-App}
use Rattle.law_sig.specs.declared.tree.Tree.TheFolds.{fold-roll-Tree}
use Rattle.law_sig.specs.declared.parts.Sym.{Sym}
use Rattle.law_sig.specs.declared.parts.SigParts.{SigParts}

pub sort_of-App : (parts : SigParts) (f : SymId) (args : List Tree) → sort_of parts (App f args) ≡ sort_over (symbol_at parts f) (map (sort_of parts) args)
sort_of-App parts f args = ap (sort_of parts) (sym (rolls-App f args)) ∙ fold-roll-Tree (Option SortId) (sort_step parts) (o.App f args)

-- the sort, where the arguments fit
abbrev pub sort_if : Bool → SortId → Option SortId
sort_if true sort = Some sort
sort_if false sort = None

sort_over-Some : (symbol : Sym) (sorts : List (Option SortId)) (fit : Bool) → same_sorts sorts (args_of symbol) ≡ fit
    → sort_if fit (result_of symbol) ≡ sort_over (Some symbol) sorts
sort_over-Some symbol sorts fit same = by_fit (same_sorts sorts (args_of symbol)) fit same
  where
    by_fit : (is fit : Bool) → is ≡ fit → sort_if fit (result_of symbol) ≡ (if is then Some (result_of symbol) else None)
    by_fit true true e = refl
    by_fit true false e = cc
    by_fit false true e = cc
    by_fit false false e = refl

-- the sort of an application of a declared symbol, by whether its arguments have the wanted sorts
pub sort_by : (parts : SigParts) (tree : Tree) (f : SymId) (args : List Tree) (symbol : Sym) (wanted : List SortId) (fit : Bool)
    → tree ≡ App f args → Some symbol ≡ symbol_at parts f → wanted ≡ args_of symbol → same_sorts (map (sort_of parts) args) wanted ≡ fit
    → sort_if fit (result_of symbol) ≡ sort_of parts tree
sort_by parts tree f args symbol wanted fit is found named same =
    sort_over-Some symbol (map (sort_of parts) args) fit (ap (same_sorts (map (sort_of parts) args)) (sym named) ∙ same)
    ∙ ap (λ s. sort_over s (map (sort_of parts) args)) found ∙ sym (sort_of-App parts f args) ∙ ap (sort_of parts) (sym is)

and-false : (b : Bool) → (b && false) ≡ false
and-false true = refl
and-false false = refl

-- too many or too few arguments never fit
pub other_length : {A : Type 0} (f : A → Option SortId) (args : List A) (ws : List SortId) → (length args ≡ length ws → ⊥) → same_sorts (map f args) ws ≡ false
other_length f [] [] other = absurd (other refl)
other_length f [] (w ∷ ws) other = refl
other_length f (x ∷ xs) [] other = refl
other_length f (x ∷ xs) (w ∷ ws) other =
    ap (λ b. has_sort (f x) w && b) (other_length f xs ws (λ e. other (ap suc e))) ∙ and-false (has_sort (f x) w)

-- from a place on, the arguments fit where the next one does and those after it do
pub at_place : {A : Type 0} (f : A → Option SortId) (args : List A) (ws : List SortId) (at : ℕ) (item : A) (w : SortId)
    → at < length args → at < length ws → item ≡ slice_index_or args at item
    → same_sorts (drop at (map f args)) (drop at ws) ≡ (has_sort (f item) (slice_index_or ws at w) && same_sorts (drop (at + 1) (map f args)) (drop (at + 1) ws))
at_place f [] ws at item w below fits is = absurd (omega arith)
at_place f (x ∷ xs) [] at item w below fits is = absurd (omega arith)
at_place f (x ∷ xs) (v ∷ vs) zero item w below fits is = ap (λ y. has_sort (f y) v && same_sorts (map f xs) vs) (sym is)
at_place f (x ∷ xs) (v ∷ vs) (suc n) item w below fits is =
    let next : suc n + 1 ≡ suc (n + 1) = omega arith in
    let lower : n < length xs = omega arith in
    let lower_too : n < length vs = omega arith in
    at_place f xs vs n item w lower lower_too is
    ∙ ap (λ k. has_sort (f item) (slice_index_or vs n w) && same_sorts (drop k (f x ∷ map f xs)) (drop k (v ∷ vs))) (sym next)

-- past the last argument all have fitted
pub at_end : {A : Type 0} (f : A → Option SortId) (args : List A) (ws : List SortId) (at : ℕ) → length args ≤ at → length args ≡ length ws
    → same_sorts (drop at (map f args)) (drop at ws) ≡ true
at_end f [] [] at past same = ended at
  where
    ended : (at : ℕ) → same_sorts (drop at []) (drop at []) ≡ true
    ended zero = refl
    ended (suc n) = refl
at_end f [] (w ∷ ws) at past same = absurd (omega arith)
at_end f (x ∷ xs) [] at past same = absurd (omega arith)
at_end f (x ∷ xs) (w ∷ ws) zero past same = absurd (omega arith)
at_end f (x ∷ xs) (w ∷ ws) (suc n) past same = at_end f xs ws n (omega arith) (omega arith)
