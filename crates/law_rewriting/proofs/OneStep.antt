-- A term has one ordered step and one normal form.
use Rattle.std.proofs.Common.{◌≡◌, ℕ, ◌⊎◌, inl, inr, List, ◌∷◌, sym, refl, ap, ap₂, ◌∙◌, subst}
use Rattle.law_sig.specs.Lists.{In}
use Rattle.law_sig.specs.Trees.{holes, substituted}
use Rattle.law_sig.specs.declared.tree.SortId.{SortId}
use Rattle.law_sig.specs.declared.tree.Tree.{Tree}
use Rattle.law_sig.specs.declared.parts.Equation.{Equation}
use Rattle.law_sig.specs.declared.parts.SigParts.{SigParts}
use Rattle.law_laws.proofs.BodyFacts.{some_is}
use Rattle.law_sig.specs.declared.chain.Dir.{Dir}
use Rattle.law_sig.specs.declared.chain.Dir.TheVariants as dir
use Rattle.law_sig.specs.declared.chain.Bind.{Bind}
use Rattle.law_sig.specs.declared.chain.Step.{Step}
use Rattle.law_sig.specs.Chains.{bound_in, start_side, end_side}
use Rattle.law_rewriting.specs.Steps.{Rules, Precedes, Applies, Reduces, IsOrderedStep, Normalises}
use Rattle.law_rewriting.specs.Steps.Normalises.{spent, normal, further}
use Rattle.law_rewriting.proofs.Places.{AreAlike, steps_decided, one_source, one_result}
use Rattle.law_rewriting.proofs.Variables.{in_decided, agreed}
use Rattle.law_rewriting.proofs.Binds.{one_list_of_binds}

-- a variable of both sides is one of the start or of the end
pub in_sides : (d : Dir) (q : Equation) (s : SortId) (i : ℕ) → In i (holes s q.left) ⊎ In i (holes s q.right) → In i (holes s (start_side d q)) ⊎ In i (holes s (end_side d q))
in_sides dir.LeftToRight q s i h = h
in_sides dir.RightToLeft q s i (inl h) = inr h
in_sides dir.RightToLeft q s i (inr h) = inl h

-- two applications of one equation at one place in one direction
module _ (parts : SigParts) (q : Equation) (a : Step) (cs : List Bind) (n : ℕ) (s t u : Tree) (h : Applies parts q a s t)
    (k : Applies parts q (record { place = a.place; number = n; dir = a.dir; binds = cs }) s u) where
  sources : substituted (bound_in a.binds) (start_side a.dir q) ≡ substituted (bound_in cs) (start_side a.dir q)
  sources = one_source a.place s h.rewrites k.rewrites

  at_variable : (w : SortId) (i : ℕ) → In i (holes w (start_side a.dir q)) ⊎ In i (holes w (end_side a.dir q)) → bound_in a.binds w i ≡ bound_in cs w i
  at_variable w i (inl at) = agreed (bound_in a.binds) (bound_in cs) (start_side a.dir q) sources w i at
  at_variable w i (inr at) = by (in_decided i (holes w (start_side a.dir q)))
    where
      by : In i (holes w (start_side a.dir q)) ⊎ (In i (holes w (start_side a.dir q)) → ⊥) → bound_in a.binds w i ≡ bound_in cs w i
      by (inl there_too) = agreed (bound_in a.binds) (bound_in cs) (start_side a.dir q) sources w i there_too
      by (inr not_there) = h.filled w i at not_there ∙ sym (k.filled w i at not_there)

  pub same_binds : a.binds ≡ cs
  same_binds = one_list_of_binds a.binds cs h.binds.rising k.binds.rising
      (λ w i at. (k.binds.exact w i).1 ((h.binds.exact w i).0 at)) (λ w i at. (h.binds.exact w i).1 ((k.binds.exact w i).0 at))
      (λ w i at. at_variable w i (in_sides a.dir q w i ((h.binds.exact w i).0 at)))
      (λ w i at. sym (at_variable w i (in_sides a.dir q w i ((k.binds.exact w i).0 at))))

  pub same_result : t ≡ u
  same_result = one_result a.place s (ap (λ bs. substituted (bound_in bs) (end_side a.dir q)) same_binds) h.rewrites k.rewrites

-- two steps by one equation at one place in one direction are one
pub one_reduct : (parts : SigParts) (rules : Rules) (a b : Step) (s t u : Tree) → AreAlike a b → Reduces parts rules a s t → Reduces parts rules b s u → (a ≡ b) × (t ≡ u)
one_reduct parts rules a b s t u alike h k =
    let e : h.equation ≡ k.equation = some_is h.equation k.equation (sym h.is_rule ∙ ap rules alike.number ∙ k.is_rule) in
    let moved : b ≡ record { place = a.place; number = b.number; dir = a.dir; binds = b.binds } =
    λ i. let x : Step = record { place = sym alike.place i; number = b.number; dir = sym alike.dir i; binds = b.binds } in x in
    let l : Applies parts h.equation (record { place = a.place; number = b.number; dir = a.dir; binds = b.binds }) s u =
    subst (λ z. Applies parts z (record { place = a.place; number = b.number; dir = a.dir; binds = b.binds }) s u) (sym e) (subst (λ z. Applies parts k.equation z s u) moved k.applies) in
    let binds = same_binds parts h.equation a b.binds b.number s t u h.applies l in (
      (λ i. let x : Step = record { place = alike.place i; number = alike.number i; dir = alike.dir i; binds = binds i } in x),
      same_result parts h.equation a b.binds b.number s t u h.applies l,
    )

pub one_ordered_step : (parts : SigParts) (rules : Rules) (a b : Step) (s t u : Tree) → IsOrderedStep parts rules a s t → IsOrderedStep parts rules b s u → (a ≡ b) × (t ≡ u)
one_ordered_step parts rules a b s t u h k = by (steps_decided a b)
  where
    by : Precedes a b ⊎ (AreAlike a b ⊎ Precedes b a) → (a ≡ b) × (t ≡ u)
    by (inl p) = absurd (k.first a t h.reduces p)
    by (inr (inr p)) = absurd (h.first b u k.reduces p)
    by (inr (inl alike)) = one_reduct parts rules a b s t u alike h.reduces k.reduces

pub one_normal_form : (parts : SigParts) (rules : Rules) {n : ℕ} {steps others : List Step} {s t u : Tree} → Normalises parts rules n steps s t → Normalises parts rules n others s u
    → (steps ≡ others) × (t ≡ u)
one_normal_form parts rules (spent s) (spent s') = (refl, refl)
one_normal_form parts rules (normal n s stuck) (normal n' s' stuck') = (refl, refl)
one_normal_form parts rules (normal n s stuck) (further n' step steps s' m u o more) = absurd (stuck step m o.reduces)
one_normal_form parts rules (further n step steps s m t o more) (normal n' s' stuck) = absurd (stuck step m o.reduces)
one_normal_form parts rules (further n a steps s m t h more) (further n' b others s' m' u k more') =
    let e = one_ordered_step parts rules a b s m m' h k in
    let r = one_normal_form parts rules more (subst (λ z. Normalises parts rules n others z u) (sym e.1) more') in
    (ap₂ ◌∷◌ e.0 r.0, r.1)
