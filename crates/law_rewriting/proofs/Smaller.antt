-- A step makes a term smaller in K, and a normal form is the term or smaller.
use Rattle.std.proofs.Common.{◌≡◌, ◌≤◌, ℕ, ◌⊎◌, inl, inr, List, Less, refl, ap, subst, arith}
use Rattle.law_sig.specs.Tests.{weight}
use Rattle.law_sig.specs.Order.{rank, compare_k}
use Rattle.law_sig.specs.declared.tree.Tree.{Tree}
use Rattle.law_sig.specs.declared.parts.SigParts.{SigParts}
use Rattle.law_laws.proofs.Ranks.{less_below}
use Rattle.law_laws.proofs.Orders.{compare_k_total, weight_upto, replaced_before_k}
use Rattle.law_sig.specs.declared.chain.Step.{Step}
use Rattle.law_sig.specs.Chains.{Rewrites}
use Rattle.law_sig.specs.Chains.Rewrites.{root, below}
use Rattle.law_rewriting.specs.Steps.{Rules, Reduces, Normalises}
use Rattle.law_rewriting.specs.Steps.Normalises.{spent, normal, further}
use Rattle.law_rewriting.specs.StepLaws.{IsSmaller}

pub as_smaller : (parts : SigParts) (s t : Tree) → compare_k parts t s ≡ Less → IsSmaller parts s t
as_smaller parts s t e = record { before = e; weight = weight_upto parts t s (inr (less_below (rank parts t) (rank parts s) e)) }

rewrites_fall : (parts : SigParts) {from to s t : Tree} {place : List ℕ} → compare_k parts to from ≡ Less → Rewrites from to place s t → compare_k parts t s ≡ Less
rewrites_fall parts e root = e
rewrites_fall parts e (below f before after place s t r) = replaced_before_k parts f before after t s (rewrites_fall parts e r)

pub step_falls : (parts : SigParts) (rules : Rules) (step : Step) (s t : Tree) → Reduces parts rules step s t → IsSmaller parts s t
step_falls parts rules step s t h = as_smaller parts s t (rewrites_fall parts h.applies.smaller h.applies.rewrites)

pub form_falls : (parts : SigParts) (rules : Rules) {n : ℕ} {steps : List Step} {s t : Tree} → Normalises parts rules n steps s t → (s ≡ t) ⊎ IsSmaller parts s t
form_falls parts rules (spent t) = inl refl
form_falls parts rules (normal n t stuck) = inl refl
form_falls parts rules (further n step steps s m t o more) = inr (by (step_falls parts rules step s m o.reduces) (form_falls parts rules more))
  where
    by : IsSmaller parts s m → (m ≡ t) ⊎ IsSmaller parts m t → IsSmaller parts s t
    by h (inl e) = subst (IsSmaller parts s) e h
    by h (inr k) = as_smaller parts s t ((compare_k_total parts).trans t m s k.before h.before)

pub form_weight : (parts : SigParts) (rules : Rules) {n : ℕ} {steps : List Step} {s t : Tree} → Normalises parts rules n steps s t → weight parts t ≤ weight parts s
form_weight parts rules {s = s} {t = t} h = by (form_falls parts rules h)
  where
    by : (s ≡ t) ⊎ IsSmaller parts s t → weight parts t ≤ weight parts s
    by (inl e) = let k = ap (weight parts) e in omega (arith, k)
    by (inr k) = k.weight
