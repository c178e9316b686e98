-- Sorts by heads, and substitutions that keep sorts.
use Rattle.std.proofs.Common.{◌≡◌, ℕ, Bool, true, false, if◌then◌else◌, Some, List, [], ◌∷◌, map, sym, refl, ap, ◌∙◌}
use Rattle.law_sig.specs.Lists.{Each}
use Rattle.law_sig.specs.Trees.{same_sort, Subst, substituted}
use Rattle.law_sig.specs.Signature.{sort_of}
use Rattle.law_sig.specs.Derive.{KeepsSorts}
use Rattle.law_sig.specs.declared.tree.SortId.{SortId}
use Rattle.law_sig.specs.declared.tree.SymId.{SymId}
use Rattle.law_sig.specs.declared.tree.Tree.{Tree}
use Rattle.law_sig.specs.declared.tree.Tree.TheVariants.{Var, App, outs-Var, outs-App}
use Rattle.law_sig.specs.declared.parts.SigParts.{SigParts}
use Rattle.law_laws.proofs.TreeFacts.{tree_cases, substituted-Var, substituted-App}
use Rattle.law_laws.proofs.Sorts.{both_true, same_sort_is, sorted_app, sorted_var, var_sorted}
use Rattle.law_sig.specs.declared.chain.Bind.{Bind}
use Rattle.law_sig.specs.Chains.{is_bound, bound_in}
use Rattle.law_rewriting.specs.Heads.{Sorts, head_sort, head_sort_of, KeepsHeads, sorts_in, result_or_first}

pub head-Var : (r : Sorts) (s : SortId) (i : ℕ) → head_sort r (Var s i) ≡ s
head-Var r s i = ap (head_sort_of r) (outs-Var s i)

pub head-App : (r : Sorts) (f : SymId) (ts : List Tree) → head_sort r (App f ts) ≡ r f
head-App r f ts = ap (head_sort_of r) (outs-App f ts)

-- a well-sorted term has its sort by its head
pub sorted_head : (parts : SigParts) (t : Tree) (w : SortId) → sort_of parts t ≡ Some w → head_sort (sorts_in parts) t ≡ w
sorted_head parts = tree_cases (λ t. (w : SortId) → sort_of parts t ≡ Some w → head_sort (sorts_in parts) t ≡ w)
    (λ s i w e. head-Var (sorts_in parts) s i ∙ (sorted_var parts s i w e).1)
    (λ f args w e. let a = sorted_app parts f args w e in
    head-App (sorts_in parts) f args ∙ ap result_or_first a.declared ∙ a.result)

-- a substitution that keeps heads keeps them of every term
pub head_kept : (r : Sorts) (σ : Subst) → KeepsHeads r σ → (u : Tree) → head_sort r (substituted σ u) ≡ head_sort r u
head_kept r σ k = tree_cases (λ u. head_sort r (substituted σ u) ≡ head_sort r u)
    (λ s i. ap (head_sort r) (substituted-Var σ s i) ∙ k s i ∙ sym (head-Var r s i))
    (λ f ts. ap (head_sort r) (substituted-App σ f ts) ∙ head-App r f (map (substituted σ) ts) ∙ sym (head-App r f ts))

-- bindings to terms of the variables' sorts keep sorts, by heads and in full
pub binds_keep_heads : (r : Sorts) (binds : List Bind) → Each (λ (b : Bind). head_sort r b.term ≡ b.sort) binds → KeepsHeads r (bound_in binds)
binds_keep_heads r [] h sort index = head-Var r sort index
binds_keep_heads r (b ∷ binds) h sort index = by (binds_keep_heads r binds h.1 sort index) (is_bound sort index b) refl
  where
    by : head_sort r (bound_in binds sort index) ≡ sort → (c : Bool) → is_bound sort index b ≡ c → head_sort r (if c then b.term else bound_in binds sort index) ≡ sort
    by later true k = h.0 ∙ same_sort_is b.sort sort (both_true (same_sort b.sort sort) _ k).0
    by later false k = later

pub binds_keep_sorts : (parts : SigParts) (binds : List Bind) → Each (λ (b : Bind). sort_of parts b.term ≡ Some b.sort) binds → KeepsSorts parts (bound_in binds)
binds_keep_sorts parts [] h sort index declared = var_sorted parts sort index declared
binds_keep_sorts parts (b ∷ binds) h sort index declared = by (binds_keep_sorts parts binds h.1 sort index declared) (is_bound sort index b) refl
  where
    by : sort_of parts (bound_in binds sort index) ≡ Some sort → (c : Bool) → is_bound sort index b ≡ c
        → sort_of parts (if c then b.term else bound_in binds sort index) ≡ Some sort
    by later true k = h.0 ∙ ap Some (same_sort_is b.sort sort (both_true (same_sort b.sort sort) _ k).0)
    by later false k = later
