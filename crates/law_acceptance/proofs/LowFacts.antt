-- Terms whose variables have low indices.
use Rattle.std.proofs.Common.{◌≡◌, ℕ, ◌+◌, ◌<◌, ◌^◌, ◌⊎◌, inl, inr, Bool, true, false, if◌then◌else◌, List, [], ◌∷◌, map, Result, Ok, Err, IfOk, subst, sym, ◌∙◌, ap, arith}
use denote.Bor.{Bor}
use Rattle.law_sig.specs.Lists.{In, Each}
use Rattle.law_sig.specs.Trees.{joined, holes, same_sort}
use Rattle.law_sig.specs.declared.tree.SortId.{SortId}
use Rattle.law_sig.specs.declared.tree.SymId.{SymId}
use Rattle.law_sig.specs.declared.tree.Tree.{Tree}
use Rattle.law_sig.specs.declared.tree.Tree.TheVariants.{Var, App}
use Rattle.law_laws.proofs.ListFacts.{in_none, in_rest, in_split}
use Rattle.law_laws.proofs.TreeFacts.{holes-Var, holes-App}
use Rattle.law_bank.specs.declared.node.Node.{Node}
use Rattle.law_bank.specs.Terms.{tree_of, trees_of}
use Rattle.law_acceptance.specs.Low.{IsLow}

pub low_var : (t : Tree) (s : SortId) (i : ℕ) → t ≡ Var s i → i + 3 < 2 ^ 32 → IsLow t
low_var t s i e h = subst IsLow (sym e) (λ sort index at. by sort index (same_sort s sort) (subst (In index) (holes-Var sort s i) at))
  where
    one : (index : ℕ) → (index ≡ i) ⊎ In index [] → index + 3 < 2 ^ 32
    one index (inl k) = omega (arith, h, k)
    one index (inr k) = in_none k

    by : (sort : SortId) (index : ℕ) (b : Bool) → In index (if b then i ∷ [] else []) → index + 3 < 2 ^ 32
    by sort index true at = one index (in_rest at)
    by sort index false at = in_none at

all_low : (ts : List Tree) → Each IsLow ts → (sort : SortId) (index : ℕ) → In index (joined (map (holes sort) ts)) → index + 3 < 2 ^ 32
all_low [] h sort index at = in_none at
all_low (t ∷ ts) h sort index at = by (all_low ts h.1 sort index) (in_split (holes sort t) (joined (map (holes sort) ts)) at)
  where
    by : (In index (joined (map (holes sort) ts)) → index + 3 < 2 ^ 32) → In index (holes sort t) ⊎ In index (joined (map (holes sort) ts)) → index + 3 < 2 ^ 32
    by rest (inl k) = h.0 sort index k
    by rest (inr k) = rest k

pub low_app : (t : Tree) (f : SymId) (ts : List Tree) → t ≡ App f ts → Each IsLow ts → IsLow t
low_app t f ts e h = subst IsLow (sym e) (λ sort index at. all_low ts h sort index (subst (In index) (holes-App sort f ts) at))

trees_low : (xs : List (Bor Node)) → Each (λ (x : Bor Node). IsLow (tree_of x.now)) xs → Each IsLow (trees_of xs)
trees_low [] h = tt
trees_low (x ∷ xs) h = (h.0, trees_low xs h.1)

-- what was made of such terms
pub applied_low : {E : Type 0} (made : Result (Bor Node) E) (f : SymId) (xs ys : List (Bor Node)) → xs ≡ ys → IfOk made (λ (t : Bor Node). tree_of t.now ≡ App f (trees_of xs))
    → Each (λ (x : Bor Node). IsLow (tree_of x.now)) ys → IfOk made (λ (t : Bor Node). IsLow (tree_of t.now))
applied_low (Ok t) f xs ys e h k = low_app (tree_of t.now) f (trees_of ys) (h ∙ ap (λ l. App f (trees_of l)) e) (trees_low ys k)
applied_low (Err n) f xs ys e h k = tt
