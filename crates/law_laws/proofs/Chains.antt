-- Chains are derivations.
use Rattle.std.proofs.Common.{◌≡◌, ℕ, Bool, true, false, if◌then◌else◌, Some, List, [], ◌∷◌, refl, ap, ◌∙◌}
use Rattle.law_sig.specs.Lists.{Each}
use Rattle.law_sig.specs.Trees.{same_sort, substituted}
use Rattle.law_sig.specs.Signature.{sort_of}
use Rattle.law_sig.specs.Derive.{KeepsSorts, Derivable}
use Rattle.law_sig.specs.Derive.Derivable.{reflexive, symmetric, transitive, replaced, instance}
use Rattle.law_sig.specs.Chains.{is_bound, bound_in, start_side, end_side, Rewrites, IsStep, Replays}
use Rattle.law_sig.specs.Chains.Rewrites.{root, below}
use Rattle.law_sig.specs.Chains.Replays.{done, next}
use Rattle.law_sig.specs.declared.chain.Bind.{Bind}
use Rattle.law_sig.specs.declared.chain.Dir.{Dir}
use Rattle.law_sig.specs.declared.chain.Dir.TheVariants as dir
use Rattle.law_sig.specs.declared.chain.Step.{Step}
use Rattle.law_sig.specs.declared.tree.Tree.{Tree}
use Rattle.law_sig.specs.declared.parts.Equation.{Equation}
use Rattle.law_sig.specs.declared.parts.SigParts.{SigParts}
use Rattle.law_laws.proofs.ListFacts.{numbered_in}
use Rattle.law_laws.proofs.Sorts.{both_true, same_sort_is, var_sorted}

bound_keeps : (parts : SigParts) (binds : List Bind) → Each (λ (b : Bind). sort_of parts b.term ≡ Some b.sort) binds → KeepsSorts parts (bound_in binds)
bound_keeps parts [] h sort index declared = var_sorted parts sort index declared
bound_keeps parts (b ∷ binds) h sort index declared = by (bound_keeps parts binds h.1 sort index declared) (is_bound sort index b) refl
  where
    by : sort_of parts (bound_in binds sort index) ≡ Some sort → (c : Bool) → is_bound sort index b ≡ c
        → sort_of parts (if c then b.term else bound_in binds sort index) ≡ Some sort
    by later true k = h.0 ∙ ap Some (same_sort_is b.sort sort (both_true (same_sort b.sort sort) _ k).0)
    by later false k = later

rewrites_derivable : (parts : SigParts) (equations : List Equation) {from to s t : Tree} {place : List ℕ}
    → Derivable parts equations from to → Rewrites from to place s t → Derivable parts equations s t
rewrites_derivable parts equations d root = d
rewrites_derivable parts equations d (below f before after place s t r) = replaced f before after s t (rewrites_derivable parts equations d r)

pub step_derivable : (parts : SigParts) (equations : List Equation) (step : Step) (s t : Tree) → IsStep parts equations step s t → Derivable parts equations s t
step_derivable parts equations step s t is = rewrites_derivable parts equations (by step.dir) is.rewrites
  where
    by : (d : Dir) → Derivable parts equations (substituted (bound_in step.binds) (start_side d is.equation)) (substituted (bound_in step.binds) (end_side d is.equation))
    by dir.LeftToRight = instance is.equation (bound_in step.binds) (numbered_in equations step.number is.equation is.named) (bound_keeps parts step.binds is.binds.sorted)
    by dir.RightToLeft = symmetric (substituted (bound_in step.binds) is.equation.left) (substituted (bound_in step.binds) is.equation.right)
        (instance is.equation (bound_in step.binds) (numbered_in equations step.number is.equation is.named) (bound_keeps parts step.binds is.binds.sorted))

pub chain_derivable : (parts : SigParts) (equations : List Equation) {steps : List Step} {s t : Tree} → Replays parts equations steps s t → Derivable parts equations s t
chain_derivable parts equations (done s) = reflexive s
chain_derivable parts equations (next step steps s m t is more) = transitive s m t (step_derivable parts equations step s m is) (chain_derivable parts equations more)
