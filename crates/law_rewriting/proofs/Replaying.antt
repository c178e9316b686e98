-- Chains of normal forms, and of joined terms, replay.
use Rattle.std.proofs.Common.{◌≡◌, ℕ, zero, suc, Some, List, [], ◌∷◌, ◌++◌, map, slice_get, option_and_then, sym, ◌∙◌}
use Rattle.law_sig.specs.Lists.{Each}
use Rattle.law_sig.specs.Signature.{sort_of}
use Rattle.law_sig.specs.declared.tree.SortId.{SortId}
use Rattle.law_sig.specs.declared.tree.Tree.{Tree}
use Rattle.law_sig.specs.declared.parts.Equation.{Equation}
use Rattle.law_sig.specs.declared.parts.SigParts.{SigParts}
use Rattle.law_sig.specs.declared.chain.Step.{Step}
use Rattle.law_sig.specs.Chains.{bound_in, start_side, end_side, Replays}
use Rattle.law_laws.specs.Derivation.{HasOneSort}
use Rattle.law_laws.proofs.ListFacts.{of_each, numbered_in}
use Rattle.law_laws.proofs.Sorts.{substituted_sort}
use Rattle.law_rewriting.specs.Heads.{sorts_in}
use Rattle.law_rewriting.specs.HeadChains.{ReplaysWith, HasItsSort, HasItsHead}
use Rattle.law_rewriting.specs.HeadChains.ReplaysWith.{done, next}
use Rattle.law_rewriting.specs.Steps.{Rules, Normalises, Meets, backwards, meeting_chain}
use Rattle.law_rewriting.specs.Steps.Normalises.{spent, normal, further}
use Rattle.law_rewriting.specs.Completion.{Kept, stated, lemma, equation_of, stated_of, equations_of, all_rules, base_rules, IsJoin}
use Rattle.law_rewriting.specs.Completion.IsJoin.{by_base, by_all}
use Rattle.law_rewriting.specs.StepLaws.{AreAmong, IsReplayed}
use Rattle.law_rewriting.proofs.Heads.{binds_keep_sorts}
use Rattle.law_rewriting.proofs.Sorting.{start_sort, end_sort, result_sort, binds_sorted}
use Rattle.law_rewriting.proofs.Chains.{sorted_replays, then_replays, back_replays}
use Rattle.law_rewriting.proofs.OneStep.{one_normal_form}

-- By heads a step of rewriting is one of a chain

pub form_by_head : (parts : SigParts) (equations : List Equation) (rules : Rules) → AreAmong rules equations
    → {n : ℕ} {steps : List Step} {s t : Tree} → Normalises parts rules n steps s t → ReplaysWith (HasItsHead (sorts_in parts)) equations steps s t
form_by_head parts equations rules among (spent t) = done t
form_by_head parts equations rules among (normal n t stuck) = done t
form_by_head parts equations rules among (further n step steps s m t o more) =
    let h = o.reduces in
    next step steps s m t (record {
      equation = h.equation;
      named = among step.number h.equation h.is_rule;
      each = h.applies.binds.sorted;
      rising = h.applies.binds.rising;
      exact = h.applies.binds.exact;
      rewrites = h.applies.rewrites;
    }) (form_by_head parts equations rules among more)

-- In full, from a well-sorted term to one of the same sort

pub record IsSortedChain (parts : SigParts) (equations : List Equation) (steps : List Step) (s t : Tree) (w : SortId) : Type 0 where
  pub chain : ReplaysWith (HasItsSort parts) equations steps s t
  pub sorted : sort_of parts t ≡ Some w

pub form_sorted : (parts : SigParts) (equations : List Equation) (rules : Rules) → Each (HasOneSort parts) equations → AreAmong rules equations
    → {n : ℕ} {steps : List Step} {s t : Tree} → Normalises parts rules n steps s t → (w : SortId) → sort_of parts s ≡ Some w → IsSortedChain parts equations steps s t w
form_sorted parts equations rules sides among (spent t) w e = record { chain = done t; sorted = e }
form_sorted parts equations rules sides among (normal n t stuck) w e = record { chain = done t; sorted = e }
form_sorted parts equations rules sides among (further n step steps s m t o more) w e =
    let h = o.reduces in
    let q = h.equation in
    let is = among step.number q h.is_rule in
    let one : HasOneSort parts q = of_each (HasOneSort parts) (numbered_in equations step.number q is) sides in
    let b = binds_sorted parts q one step s m h.applies w e in
    let keeps = binds_keep_sorts parts step.binds b in
    let rest = form_sorted parts equations rules sides among more w (sym (result_sort parts h.applies.rewrites
    (substituted_sort parts (bound_in step.binds) keeps (start_side step.dir q) one.sort (start_sort parts step.dir q one)
    ∙ sym (substituted_sort parts (bound_in step.binds) keeps (end_side step.dir q) one.sort (end_sort parts step.dir q one)))) ∙ e) in
    record {
      chain = next step steps s m t (record { equation = q; named = is; each = b; rising = h.applies.binds.rising; exact = h.applies.binds.exact; rewrites = h.applies.rewrites }) rest.chain;
      sorted = rest.sorted;
    }

pub form_replayed : (parts : SigParts) (equations : List Equation) (rules : Rules) → Each (HasOneSort parts) equations → AreAmong rules equations
    → {n : ℕ} {steps : List Step} {s t : Tree} → Normalises parts rules n steps s t → (w : SortId) → sort_of parts s ≡ Some w → IsReplayed parts equations steps s t w
form_replayed parts equations rules sides among h w e =
    let r = form_sorted parts equations rules sides among h w e in record { chain = sorted_replays parts equations r.chain; sorted = r.sorted }

-- Joined terms

meeting_sorted : (parts : SigParts) (equations : List Equation) (rules : Rules) → Each (HasOneSort parts) equations → AreAmong rules equations
    → (s t : Tree) (w v : SortId) → sort_of parts s ≡ Some w → sort_of parts t ≡ Some v → (m : Meets parts rules s t) → Replays parts equations (meeting_chain m) s t
meeting_sorted parts equations rules sides among s t w v e d m = sorted_replays parts equations (then_replays (HasItsSort parts) equations
    (form_sorted parts equations rules sides among m.left w e).chain
    (back_replays (HasItsSort parts) equations (form_sorted parts equations rules sides among m.right v d).chain))

pub meeting_by_head : (parts : SigParts) (equations : List Equation) (rules : Rules) → AreAmong rules equations → {s t : Tree} (m : Meets parts rules s t)
    → ReplaysWith (HasItsHead (sorts_in parts)) equations (meeting_chain m) s t
meeting_by_head parts equations rules among m = then_replays (HasItsHead (sorts_in parts)) equations
    (form_by_head parts equations rules among m.left) (back_replays (HasItsHead (sorts_in parts)) equations (form_by_head parts equations rules among m.right))

base_names : (kept : List Kept) → AreAmong (base_rules kept) (equations_of kept)
base_names kept zero q e = cc
base_names kept (suc n) q e = at kept n e
  where
    one : (k : Kept) (q : Equation) → stated_of k ≡ Some q → Some (equation_of k) ≡ Some q
    one (stated d) q e = e
    one (lemma d) q e = cc

    at : (kept : List Kept) (n : ℕ) → option_and_then stated_of (slice_get kept n) ≡ Some q → slice_get (map equation_of kept) n ≡ Some q
    at [] n e = cc
    at (k ∷ ks) zero e = one k q e
    at (k ∷ ks) (suc n) e = at ks n e

pub join_replays : (parts : SigParts) (kept : List Kept) → Each (HasOneSort parts) (equations_of kept) → (s t : Tree) (w v : SortId) → sort_of parts s ≡ Some w → sort_of parts t ≡ Some v
    → {steps : List Step} → IsJoin parts kept s t steps → Replays parts (equations_of kept) steps s t
join_replays parts kept sorted s t w v e d (by_base m) = meeting_sorted parts (equations_of kept) (base_rules kept) sorted (base_names kept) s t w v e d m
join_replays parts kept sorted s t w v e d (by_all no_base m) = meeting_sorted parts (equations_of kept) (all_rules kept) sorted (λ n q k. k) s t w v e d m

pub join_by_head : (parts : SigParts) (kept : List Kept) {s t : Tree} {steps : List Step} → IsJoin parts kept s t steps → ReplaysWith (HasItsHead (sorts_in parts)) (equations_of kept) steps s t
join_by_head parts kept (by_base m) = meeting_by_head parts (equations_of kept) (base_rules kept) (base_names kept) m
join_by_head parts kept (by_all no_base m) = meeting_by_head parts (equations_of kept) (all_rules kept) (λ n q k. k) m

one_meeting : (parts : SigParts) (rules : Rules) (s t : Tree) (m k : Meets parts rules s t) → meeting_chain m ≡ meeting_chain k
one_meeting parts rules s t m k =
    let l = one_normal_form parts rules m.left k.left in
    let r = one_normal_form parts rules m.right k.right in
    λ i. l.0 i ++ backwards (r.0 i)

pub one_join : (parts : SigParts) (kept : List Kept) (s t : Tree) {steps others : List Step} → IsJoin parts kept s t steps → IsJoin parts kept s t others → steps ≡ others
one_join parts kept s t (by_base m) (by_base k) = one_meeting parts (base_rules kept) s t m k
one_join parts kept s t (by_base m) (by_all no_base k) = absurd (no_base m)
one_join parts kept s t (by_all no_base m) (by_base k) = absurd (no_base k)
one_join parts kept s t (by_all no_base m) (by_all no_base' k) = one_meeting parts (all_rules kept) s t m k
