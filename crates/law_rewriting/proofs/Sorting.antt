-- Steps keep terms well-sorted, and so they are steps of a chain that replays.
use Rattle.std.proofs.Common.{◌≡◌, ℕ, ◌⊎◌, inl, inr, Some, List, [], ◌∷◌, ◌++◌, map, sym, ap, ◌∙◌, subst}
use Rattle.law_sig.specs.Lists.{In, Each}
use Rattle.law_sig.specs.Trees.{joined, holes, Subst, substituted}
use Rattle.law_sig.specs.Signature.{symbol_at, args_of, sort_over, sort_of}
use Rattle.law_sig.specs.declared.tree.SortId.{SortId}
use Rattle.law_sig.specs.declared.tree.Tree.{Tree}
use Rattle.law_sig.specs.declared.tree.Tree.TheVariants.{Var}
use Rattle.law_sig.specs.declared.parts.Equation.{Equation}
use Rattle.law_sig.specs.declared.parts.SigParts.{SigParts}
use Rattle.law_laws.specs.Derivation.{HasOneSort}
use Rattle.law_laws.proofs.TreeFacts.{tree_induct, holes-App, sort-App, substituted-Var, substituted-App, substituted_itself}
use Rattle.law_laws.proofs.ListFacts.{in_none, in_map, in_split, of_each, each_of, mapped}
use Rattle.law_laws.proofs.Sorts.{HaveSorts, sorted_app, sorted_var, var_sorted}
use Rattle.law_sig.specs.declared.chain.Dir.{Dir}
use Rattle.law_sig.specs.declared.chain.Dir.TheVariants as dir
use Rattle.law_sig.specs.declared.chain.Bind.{Bind}
use Rattle.law_sig.specs.declared.chain.Step.{Step}
use Rattle.law_sig.specs.Chains.{bound_in, start_side, end_side, Rewrites}
use Rattle.law_sig.specs.Chains.Rewrites.{root, below}
use Rattle.law_rewriting.specs.Heads.{head_sort, sorts_in}
use Rattle.law_rewriting.specs.Steps.{Applies}
use Rattle.law_rewriting.proofs.Variables.{hole_is, in_decided}
use Rattle.law_rewriting.proofs.Binds.{key, looked_up}
use Rattle.law_rewriting.proofs.OneStep.{in_sides}
use Rattle.law_rewriting.proofs.Heads.{sorted_head}

pub record HasSort (parts : SigParts) (t : Tree) : Type 0 where
  pub sort : SortId
  pub is : sort_of parts t ≡ Some sort

abbrev Inside : SigParts → Subst → Tree → Type 0
Inside parts σ p = (w : SortId) → sort_of parts (substituted σ p) ≡ Some w → (s : SortId) (i : ℕ) → In i (holes s p) → HasSort parts (σ s i)

-- what stands for a variable of a well-sorted instance is well-sorted
pub inside_sorted : (parts : SigParts) (σ : Subst) (p : Tree) → Inside parts σ p
inside_sorted parts σ = tree_induct (Inside parts σ)
    (λ u j w e s i h. let p = hole_is s u i j h in
    record { sort = w; is = (λ k. sort_of parts (σ (sym p.0 k) (p.1 k))) ∙ ap (sort_of parts) (sym (substituted-Var σ u j)) ∙ e })
    (λ f args have w e s i h.
    let a = sorted_app parts f (map (substituted σ) args) w (sym (ap (sort_of parts) (substituted-App σ f args)) ∙ e) in
    all args have (args_of a.symbol) a.sorts s i (subst (In i) (holes-App s f args) h))
  where
    all : (ts : List Tree) → Each (Inside parts σ) ts → (ws : List SortId) → HaveSorts parts (map (substituted σ) ts) ws → (s : SortId) (i : ℕ)
        → In i (joined (map (holes s) ts)) → HasSort parts (σ s i)
    all [] have ws sorts s i h = in_none h
    all (t ∷ ts) have [] sorts s i h = absurd sorts
    all (t ∷ ts) have (w ∷ ws) sorts s i h = by (all ts have.1 ws sorts.1 s i) (in_split (holes s t) (joined (map (holes s) ts)) h)
      where
        by : (In i (joined (map (holes s) ts)) → HasSort parts (σ s i)) → In i (holes s t) ⊎ In i (joined (map (holes s) ts)) → HasSort parts (σ s i)
        by rest (inl k) = have.0 w sorts.0 s i k
        by rest (inr k) = rest k

-- the sort of a variable of a well-sorted term is declared
pub hole_declared : (parts : SigParts) (p : Tree) (w : SortId) → sort_of parts p ≡ Some w → (s : SortId) (i : ℕ) → In i (holes s p) → sort_of parts (Var s i) ≡ Some s
hole_declared parts p w e s i h =
    let k = inside_sorted parts Var p w (ap (sort_of parts) (substituted_itself p) ∙ e) s i h in
    k.is ∙ ap Some (sym (sorted_var parts s i k.sort k.is).1)

-- an argument of a well-sorted application is well-sorted
middle : (parts : SigParts) (before after : List Tree) (x : Tree) (ws : List SortId) → HaveSorts parts (before ++ x ∷ after) ws → HasSort parts x
middle parts [] after x [] h = absurd h
middle parts [] after x (w ∷ ws) h = record { sort = w; is = h.0 }
middle parts (b ∷ before) after x [] h = absurd h
middle parts (b ∷ before) after x (w ∷ ws) h = middle parts before after x ws h.1

-- what is replaced in a well-sorted term is well-sorted
pub replaced_sorted : (parts : SigParts) {from to s t : Tree} {place : List ℕ} → Rewrites from to place s t → (w : SortId) → sort_of parts s ≡ Some w → HasSort parts from
replaced_sorted parts root w e = record { sort = w; is = e }
replaced_sorted parts (below f before after place s t r) w e =
    let a = sorted_app parts f (before ++ s ∷ after) w e in
    let m = middle parts before after s (args_of a.symbol) a.sorts in
    replaced_sorted parts r m.sort m.is

-- and a replacement of the same sort leaves the sort of the term
pub result_sort : (parts : SigParts) {from to s t : Tree} {place : List ℕ} → Rewrites from to place s t → sort_of parts from ≡ sort_of parts to → sort_of parts s ≡ sort_of parts t
result_sort parts root e = e
result_sort parts (below f before after place s t r) e =
    sort-App parts f (before ++ s ∷ after) ∙ ap (sort_over (symbol_at parts f)) (mapped (sort_of parts) before after s
    ∙ ap (λ o. map (sort_of parts) before ++ o ∷ map (sort_of parts) after) (result_sort parts r e)
    ∙ sym (mapped (sort_of parts) before after t)) ∙ sym (sort-App parts f (before ++ t ∷ after))

-- Where both sides of an equation have one sort

pub start_sort : (parts : SigParts) (d : Dir) (q : Equation) (h : HasOneSort parts q) → sort_of parts (start_side d q) ≡ Some h.sort
start_sort parts dir.LeftToRight q h = h.left
start_sort parts dir.RightToLeft q h = h.right

pub end_sort : (parts : SigParts) (d : Dir) (q : Equation) (h : HasOneSort parts q) → sort_of parts (end_side d q) ≡ Some h.sort
end_sort parts dir.LeftToRight q h = h.right
end_sort parts dir.RightToLeft q h = h.left

module _ (parts : SigParts) (q : Equation) (one : HasOneSort parts q) (step : Step) (s t : Tree) (a : Applies parts q step s t) (w : SortId) (sorted : sort_of parts s ≡ Some w) where
  source : HasSort parts (substituted (bound_in step.binds) (start_side step.dir q))
  source = replaced_sorted parts a.rewrites w sorted

  at_start : (b : Bind) → In b step.binds → In b.index (holes b.sort (start_side step.dir q)) → sort_of parts b.term ≡ Some b.sort
  at_start b at k =
      let is : bound_in step.binds b.sort b.index ≡ b.term = looked_up step.binds a.binds.rising b at in
      let h = inside_sorted parts (bound_in step.binds) (start_side step.dir q) source.sort source.is b.sort b.index k in
      let e : sort_of parts b.term ≡ Some h.sort = ap (sort_of parts) (sym is) ∙ h.is in
      e ∙ ap Some (sym (sorted_head parts b.term h.sort e) ∙ of_each (λ (b : Bind). head_sort (sorts_in parts) b.term ≡ b.sort) at a.binds.sorted)

  at_end : (b : Bind) → In b step.binds → In b.index (holes b.sort (end_side step.dir q)) → (In b.index (holes b.sort (start_side step.dir q)) → ⊥) → sort_of parts b.term ≡ Some b.sort
  at_end b at k not_start =
      let h = hole_declared parts (end_side step.dir q) one.sort (end_sort parts step.dir q one) b.sort b.index k in
      let zero_sorted : sort_of parts (Var b.sort 0) ≡ Some b.sort = var_sorted parts b.sort 0 (sorted_var parts b.sort b.index b.sort h).0 in
      ap (sort_of parts) (sym (looked_up step.binds a.binds.rising b at) ∙ a.filled b.sort b.index k not_start) ∙ zero_sorted

  bind_sorted : (b : Bind) → In b step.binds → sort_of parts b.term ≡ Some b.sort
  bind_sorted b at = by (in_sides step.dir q b.sort b.index ((a.binds.exact b.sort b.index).0 (in_map key at))) (in_decided b.index (holes b.sort (start_side step.dir q)))
    where
      by : In b.index (holes b.sort (start_side step.dir q)) ⊎ In b.index (holes b.sort (end_side step.dir q))
          → In b.index (holes b.sort (start_side step.dir q)) ⊎ (In b.index (holes b.sort (start_side step.dir q)) → ⊥) → sort_of parts b.term ≡ Some b.sort
      by (inl k) l = at_start b at k
      by (inr k) (inl l) = at_start b at l
      by (inr k) (inr l) = at_end b at k l

  pub binds_sorted : Each (λ (b : Bind). sort_of parts b.term ≡ Some b.sort) step.binds
  binds_sorted = each_of (λ (b : Bind). sort_of parts b.term ≡ Some b.sort) step.binds bind_sorted
