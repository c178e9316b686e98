-- The step at a root is found by matching.
use Rattle.std.proofs.Common.{◌≡◌, ℕ, ◌⊎◌, inl, inr, List, [], Some, Less, refl, sym, ap, ◌∙◌, subst}
use Rattle.law_sig.specs.Lists.{In, Each}
use Rattle.law_sig.specs.Trees.{holes, substituted}
use Rattle.law_sig.specs.Order.{compare_k}
use Rattle.law_sig.specs.declared.tree.SortId.{SortId}
use Rattle.law_sig.specs.declared.tree.Tree.{Tree}
use Rattle.law_sig.specs.declared.parts.Equation.{Equation}
use Rattle.law_sig.specs.declared.parts.SigParts.{SigParts}
use Rattle.law_laws.proofs.ListFacts.{in_map, of_each, each_of}
use Rattle.law_sig.specs.declared.chain.Dir.{Dir}
use Rattle.law_sig.specs.declared.chain.Bind.{Bind}
use Rattle.law_sig.specs.declared.chain.Step.{Step}
use Rattle.law_sig.specs.Chains.{bound_in, start_side, end_side, Rewrites}
use Rattle.law_sig.specs.Chains.Rewrites.{root}
use Rattle.law_rewriting.specs.Heads.{sorts_in, head_sort}
use Rattle.law_rewriting.specs.Unifiers.{IsMatch, HasNoMatch}
use Rattle.law_rewriting.specs.Steps.{Rules, Applies, Earlier, Reduces}
use Rattle.law_rewriting.specs.Roots.{at_root, IsRootStep, HasNoRootStep, IsFilling, AppliesNot, AreCandidates, FailsAt}
use Rattle.law_rewriting.proofs.Places.{at_root as here}
use Rattle.law_rewriting.proofs.Variables.{in_decided, agreeing, agreed}
use Rattle.law_rewriting.proofs.Binds.{key, looked_up}
use Rattle.law_rewriting.proofs.Heads.{head-Var, binds_keep_heads}
use Rattle.law_rewriting.proofs.OneStep.{in_sides}

-- One equation in one direction

module _ (parts : SigParts) (q : Equation) (d : Dir) (t : Tree) (matched binds : List Bind) (m : IsMatch (sorts_in parts) (start_side d q) t matched)
    (f : IsFilling q d matched binds) where
  start_is : substituted (bound_in binds) (start_side d q) ≡ t
  start_is = agreeing (bound_in binds) (bound_in matched) (start_side d q) f.kept ∙ m.gives

  bind_sorted : (b : Bind) → In b binds → head_sort (sorts_in parts) b.term ≡ b.sort
  bind_sorted b at = ap (head_sort (sorts_in parts)) (sym (looked_up binds f.rising b at))
      ∙ by (in_decided b.index (holes b.sort (start_side d q))) (in_sides d q b.sort b.index ((f.exact b.sort b.index).0 (in_map key at)))
    where
      by : In b.index (holes b.sort (start_side d q)) ⊎ (In b.index (holes b.sort (start_side d q)) → ⊥)
          → In b.index (holes b.sort (start_side d q)) ⊎ In b.index (holes b.sort (end_side d q)) → head_sort (sorts_in parts) (bound_in binds b.sort b.index) ≡ b.sort
      by (inl k) l = ap (head_sort (sorts_in parts)) (f.kept b.sort b.index k) ∙ binds_keep_heads (sorts_in parts) matched m.sorted b.sort b.index
      by (inr n) (inl k) = absurd (n k)
      by (inr n) (inr k) = ap (head_sort (sorts_in parts)) (f.filled b.sort b.index k n) ∙ head-Var (sorts_in parts) b.sort 0

  pub match_applies : (n : ℕ) → compare_k parts (substituted (bound_in binds) (end_side d q)) t ≡ Less
      → Applies parts q (at_root n d binds) t (substituted (bound_in binds) (end_side d q))
  match_applies n less = record {
    binds = record { sorted = each_of (λ (b : Bind). head_sort (sorts_in parts) b.term ≡ b.sort) binds bind_sorted; rising = f.rising; exact = f.exact };
    filled = f.filled;
    rewrites = subst (λ z. Rewrites (substituted (bound_in binds) (start_side d q)) (substituted (bound_in binds) (end_side d q)) [] z (substituted (bound_in binds) (end_side d q))) start_is root;
    smaller = ap (compare_k parts (substituted (bound_in binds) (end_side d q))) start_is ∙ less;
  }

  -- any other step by this equation has the same bindings
  pub match_fails : (compare_k parts (substituted (bound_in binds) (end_side d q)) t ≡ Less → ⊥) → AppliesNot parts q d t
  match_fails not_less step u at_top in_dir a = not_less (sym (ap (λ z. compare_k parts z t) ends) ∙ ap (compare_k parts (substituted (bound_in step.binds) (end_side d q))) (sym source) ∙ smaller)
    where
      applies : Applies parts q (at_root step.number d step.binds) t u
      applies = subst (λ z. Applies parts q z t u) (λ i. let x : Step = record { place = at_top i; number = step.number; dir = in_dir i; binds = step.binds } in x) a

      source : substituted (bound_in step.binds) (start_side d q) ≡ t
      source = sym (here applies.rewrites).0

      smaller : compare_k parts (substituted (bound_in step.binds) (end_side d q)) (substituted (bound_in step.binds) (start_side d q)) ≡ Less
      smaller = applies.smaller

      on_start : (w : SortId) (i : ℕ) → In i (holes w (start_side d q)) → bound_in step.binds w i ≡ bound_in binds w i
      on_start = agreed (bound_in step.binds) (bound_in binds) (start_side d q) (source ∙ sym start_is)

      on_end : (w : SortId) (i : ℕ) → In i (holes w (end_side d q)) → bound_in step.binds w i ≡ bound_in binds w i
      on_end w i at = by (in_decided i (holes w (start_side d q)))
        where
          by : In i (holes w (start_side d q)) ⊎ (In i (holes w (start_side d q)) → ⊥) → bound_in step.binds w i ≡ bound_in binds w i
          by (inl k) = on_start w i k
          by (inr n) = applies.filled w i at n ∙ sym (f.filled w i at n)

      ends : substituted (bound_in step.binds) (end_side d q) ≡ substituted (bound_in binds) (end_side d q)
      ends = agreeing (bound_in step.binds) (bound_in binds) (end_side d q) on_end

pub no_match_fails : (parts : SigParts) (q : Equation) (d : Dir) (t : Tree) → HasNoMatch (sorts_in parts) (start_side d q) t → AppliesNot parts q d t
no_match_fails parts q d t none step u at_top in_dir a =
    let k = subst (λ z. Applies parts q z t u) (λ i. let x : Step = record { place = at_top i; number = step.number; dir = in_dir i; binds = step.binds } in x) a in
    none (bound_in step.binds) (binds_keep_heads (sorts_in parts) step.binds k.binds.sorted) (sym (here k.rewrites).0)

-- All equations

module _ (parts : SigParts) (rules : Rules) (t : Tree) (cs : List (ℕ × Dir)) (candidates : AreCandidates parts rules t cs) where
  -- what reduces at the root is a candidate
  as_candidate : (step : Step) (u : Tree) (h : Reduces parts rules step t u) → step.place ≡ [] → In {A = ℕ × Dir} (step.number, step.dir) cs
  as_candidate step u h at_top = by (candidates step.number h.equation step.dir h.is_rule)
    where
      by : In {A = ℕ × Dir} (step.number, step.dir) cs ⊎ AppliesNot parts h.equation step.dir t → In {A = ℕ × Dir} (step.number, step.dir) cs
      by (inl at) = at
      by (inr not) = absurd (not step u at_top refl h.applies)

  pub candidate_first : (n : ℕ) (q : Equation) (d : Dir) (binds : List Bind) (u : Tree) → rules n ≡ Some q → Applies parts q (at_root n d binds) t u
      → Each (λ (c : ℕ × Dir). Earlier c.0 c.1 n d → FailsAt parts rules t c) cs → IsRootStep parts rules (at_root n d binds) t u
  candidate_first n q d binds u is a fail = record {
    reduces = record { equation = q; is_rule = is; applies = a };
    root = refl;
    first = λ other v h at_top earlier.
        of_each (λ (c : ℕ × Dir). Earlier c.0 c.1 n d → FailsAt parts rules t c) (as_candidate other v h at_top) fail earlier h.equation h.is_rule other v at_top refl h.applies;
  }

  pub candidates_fail : Each (FailsAt parts rules t) cs → HasNoRootStep parts rules t
  candidates_fail fail step u h at_top = of_each (FailsAt parts rules t) (as_candidate step u h at_top) fail h.equation h.is_rule step u at_top refl h.applies
