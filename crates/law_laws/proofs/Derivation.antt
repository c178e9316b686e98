-- Derivation keeps sorts, and is closed under substitutions that keep sorts.
use Rattle.std.proofs.Common.{◌≡◌, List, [], ◌∷◌, ◌++◌, map, sym, refl, ap, ap₂, ◌∙◌, subst₂, append_assoc}
use Rattle.law_sig.specs.Lists.{In, Each}
use Rattle.law_sig.specs.Trees.{Subst, substituted}
use Rattle.law_sig.specs.Signature.{symbol_at, sort_over, sort_of}
use Rattle.law_sig.specs.Derive.{KeepsSorts, Derivable}
use Rattle.law_sig.specs.Derive.Derivable.{reflexive, symmetric, transitive, replaced, instance}
use Rattle.law_sig.specs.declared.tree.SymId.{SymId}
use Rattle.law_sig.specs.declared.tree.Tree.{Tree}
use Rattle.law_sig.specs.declared.tree.Tree.TheVariants.{App}
use Rattle.law_sig.specs.declared.parts.Equation.{Equation}
use Rattle.law_sig.specs.declared.parts.SigParts.{SigParts}
use Rattle.law_laws.specs.Derivation.{HasOneSort}
use Rattle.law_laws.proofs.TreeFacts.{tree_induct, sort-App, substituted-Var, substituted-App}
use Rattle.law_laws.proofs.ListFacts.{of_each, mapped}
use Rattle.law_laws.proofs.Sorts.{substituted_sort}

-- derivable terms have one sort, where the sides of each equation have
pub derivable_sort : (parts : SigParts) (equations : List Equation) → Each (HasOneSort parts) equations
    → {s t : Tree} → Derivable parts equations s t → sort_of parts s ≡ sort_of parts t
derivable_sort parts equations sorted (reflexive s) = refl
derivable_sort parts equations sorted (symmetric s t d) = sym (derivable_sort parts equations sorted d)
derivable_sort parts equations sorted (transitive s t u d e) = derivable_sort parts equations sorted d ∙ derivable_sort parts equations sorted e
derivable_sort parts equations sorted (replaced f before after s t d) =
    sort-App parts f (before ++ s ∷ after) ∙ ap (sort_over (symbol_at parts f)) (mapped (sort_of parts) before after s
    ∙ ap (λ o. map (sort_of parts) before ++ o ∷ map (sort_of parts) after) (derivable_sort parts equations sorted d)
    ∙ sym (mapped (sort_of parts) before after t)) ∙ sym (sort-App parts f (before ++ t ∷ after))
derivable_sort parts equations sorted (instance e σ at keeps) =
    let h : HasOneSort parts e = of_each (HasOneSort parts) at sorted in
    substituted_sort parts σ keeps e.left h.sort h.left ∙ sym (substituted_sort parts σ keeps e.right h.sort h.right)

-- one substitution after another
abbrev pub then : Subst → Subst → Subst
then τ σ sort index = substituted σ (τ sort index)

pub substituted_twice : (τ σ : Subst) (t : Tree) → substituted σ (substituted τ t) ≡ substituted (then τ σ) t
substituted_twice τ σ = tree_induct (λ t. substituted σ (substituted τ t) ≡ substituted (then τ σ) t)
    (λ s i. ap (substituted σ) (substituted-Var τ s i) ∙ sym (substituted-Var (then τ σ) s i))
    (λ f args have. ap (substituted σ) (substituted-App τ f args) ∙ substituted-App σ f (map (substituted τ) args)
    ∙ ap (App f) (all args have) ∙ sym (substituted-App (then τ σ) f args))
  where
    all : (ts : List Tree) → Each (λ t. substituted σ (substituted τ t) ≡ substituted (then τ σ) t) ts
        → map (substituted σ) (map (substituted τ) ts) ≡ map (substituted (then τ σ)) ts
    all [] have = refl
    all (t ∷ ts) have = ap₂ ◌∷◌ have.0 (all ts have.1)

pub then_keeps : (parts : SigParts) (τ σ : Subst) → KeepsSorts parts τ → KeepsSorts parts σ → KeepsSorts parts (then τ σ)
then_keeps parts τ σ τ_keeps σ_keeps sort index declared = substituted_sort parts σ σ_keeps (τ sort index) sort (τ_keeps sort index declared)

-- an instance of a derivable pair is derivable
pub derivable_instance : (parts : SigParts) (equations : List Equation) (σ : Subst) → KeepsSorts parts σ
    → {s t : Tree} → Derivable parts equations s t → Derivable parts equations (substituted σ s) (substituted σ t)
derivable_instance parts equations σ keeps (reflexive s) = reflexive (substituted σ s)
derivable_instance parts equations σ keeps (symmetric s t d) = symmetric (substituted σ s) (substituted σ t) (derivable_instance parts equations σ keeps d)
derivable_instance parts equations σ keeps (transitive s t u d e) = transitive (substituted σ s) (substituted σ t) (substituted σ u)
    (derivable_instance parts equations σ keeps d) (derivable_instance parts equations σ keeps e)
derivable_instance parts equations σ keeps (replaced f before after s t d) = subst₂ (Derivable parts equations)
    (around s) (around t)
    (replaced f (map (substituted σ) before) (map (substituted σ) after) (substituted σ s) (substituted σ t) (derivable_instance parts equations σ keeps d))
  where
    around : (x : Tree) → App f (map (substituted σ) before ++ substituted σ x ∷ map (substituted σ) after) ≡ substituted σ (App f (before ++ x ∷ after))
    around x = ap (App f) (sym (mapped (substituted σ) before after x)) ∙ sym (substituted-App σ f (before ++ x ∷ after))
derivable_instance parts equations σ keeps (instance e τ at τ_keeps) = subst₂ (Derivable parts equations)
    (sym (substituted_twice τ σ e.left)) (sym (substituted_twice τ σ e.right)) (instance e (then τ σ) at (then_keeps parts τ σ τ_keeps keeps))

-- what is derivable from equations that are themselves derivable is derivable
pub derivable_cut : (parts : SigParts) (base equations : List Equation) → ((e : Equation) → In e equations → Derivable parts base e.left e.right)
    → {s t : Tree} → Derivable parts equations s t → Derivable parts base s t
derivable_cut parts base equations have (reflexive s) = reflexive s
derivable_cut parts base equations have (symmetric s t d) = symmetric s t (derivable_cut parts base equations have d)
derivable_cut parts base equations have (transitive s t u d e) = transitive s t u (derivable_cut parts base equations have d) (derivable_cut parts base equations have e)
derivable_cut parts base equations have (replaced f before after s t d) = replaced f before after s t (derivable_cut parts base equations have d)
derivable_cut parts base equations have (instance e σ at keeps) = derivable_instance parts base σ keeps (have e at)

-- more equations derive no less
pub derivable_more : (parts : SigParts) (equations others : List Equation) → ((e : Equation) → In e equations → In e others)
    → {s t : Tree} → Derivable parts equations s t → Derivable parts others s t
derivable_more parts equations others have (reflexive s) = reflexive s
derivable_more parts equations others have (symmetric s t d) = symmetric s t (derivable_more parts equations others have d)
derivable_more parts equations others have (transitive s t u d e) = transitive s t u (derivable_more parts equations others have d) (derivable_more parts equations others have e)
derivable_more parts equations others have (replaced f before after s t d) = replaced f before after s t (derivable_more parts equations others have d)
derivable_more parts equations others have (instance e σ at keeps) = instance e σ (have e at) keeps

-- each of the first list is derivable as equal to the one at its place in the second
abbrev pub AreDerivable : SigParts → List Equation → List Tree → List Tree → Type 0
AreDerivable parts equations [] [] = Unit {0}
AreDerivable parts equations [] (t ∷ ts) = ⊥
AreDerivable parts equations (s ∷ ss) [] = ⊥
AreDerivable parts equations (s ∷ ss) (t ∷ ts) = Derivable parts equations s t × AreDerivable parts equations ss ts

from_here : (parts : SigParts) (equations : List Equation) (f : SymId) (done ss ts : List Tree) → AreDerivable parts equations ss ts
    → Derivable parts equations (App f (done ++ ss)) (App f (done ++ ts))
from_here parts equations f done [] [] h = reflexive (App f (done ++ []))
from_here parts equations f done [] (t ∷ ts) h = absurd h
from_here parts equations f done (s ∷ ss) [] h = absurd h
from_here parts equations f done (s ∷ ss) (t ∷ ts) h = transitive (App f (done ++ s ∷ ss)) (App f (done ++ t ∷ ss)) (App f (done ++ t ∷ ts))
    (replaced f done ss s t h.0)
    (subst₂ (λ x y. Derivable parts equations (App f x) (App f y)) (append_assoc done (t ∷ []) ss) (append_assoc done (t ∷ []) ts)
    (from_here parts equations f (done ++ t ∷ []) ss ts h.1))

-- argument by argument
pub derivable_args : (parts : SigParts) (equations : List Equation) (f : SymId) (ss ts : List Tree) → AreDerivable parts equations ss ts
    → Derivable parts equations (App f ss) (App f ts)
derivable_args parts equations f ss ts h = from_here parts equations f [] ss ts h
