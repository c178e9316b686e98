-- The renumbering of a pair doesn't see the names of its variables.
use Rattle.std.proofs.Common.{◌≡◌, ℕ, ◌+◌, ◌⊎◌, inl, inr, Bool, true, false, true≢false, ◌==◌, eqb-true, eq-eqb, if◌then◌else◌, List, [], ◌∷◌, ◌++◌, map, sym, refl, ap, ap₂, ◌∙◌, subst}
use Rattle.law_sig.specs.Lists.{In, Each}
use Rattle.law_sig.specs.Lists.In.{here, there}
use Rattle.law_sig.specs.Trees.{same_sort, joined, holes, Subst, substituted}
use Rattle.law_sig.specs.declared.tree.SortId.{SortId}
use Rattle.law_sig.specs.declared.tree.Tree.{Tree}
use Rattle.law_sig.specs.declared.tree.Tree.TheOpen as o
use Rattle.law_sig.specs.declared.tree.Tree.TheVariants.{Var, outs-Var}
use Rattle.law_sig.specs.declared.tree.Tree.TheViews.{out-Tree}
use Rattle.law_laws.specs.Renaming.{renamed}
use Rattle.law_laws.proofs.TreeFacts.{tree_induct, tree_cases, var_no_app, holes-Var, holes-App, substituted-Var, substituted-App, substituted_itself}
use Rattle.law_laws.proofs.ListFacts.{in_rest, in_left, in_right, in_split}
use Rattle.law_laws.proofs.Sorts.{same_sort_is}
use Rattle.law_laws.proofs.Derivation.{then as after, substituted_twice}
use Rattle.law_rewriting.specs.Heads.{Sorts, head_sort, head_sort_of, KeepsHeads}
use Rattle.law_rewriting.specs.Pairs.{all_but, firsts, place_of, renumbering, Pair, map_pair, pair_holes, tidied_pair}
use Rattle.law_rewriting.proofs.Variables.{agreeing, agreed}

-- Lists under a map that can be taken back on these

abbrev pub Back : (f g : ℕ → ℕ) → List ℕ → Type 0
Back f g ns = (n : ℕ) → In n ns → g (f n) ≡ n

same_test : (f g : ℕ → ℕ) (n m : ℕ) → g (f n) ≡ n → g (f m) ≡ m → (f n == f m) ≡ (n == m)
same_test f g n m p q = by (f n == f m) (n == m) refl refl
  where
    by : (a b : Bool) → (f n == f m) ≡ a → (n == m) ≡ b → a ≡ b
    by true true d e = refl
    by false false d e = refl
    by true false d e = absurd (true≢false (sym (eq-eqb n m (sym p ∙ ap g (eqb-true (f n) (f m) d) ∙ q)) ∙ e))
    by false true d e = absurd (true≢false (sym (eq-eqb (f n) (f m) (ap f (eqb-true n m e))) ∙ d))

all_but_map : (f g : ℕ → ℕ) (n : ℕ) → g (f n) ≡ n → (ms : List ℕ) → Back f g ms → all_but (f n) (map f ms) ≡ map f (all_but n ms)
all_but_map f g n p [] back = refl
all_but_map f g n p (m ∷ ms) back =
    ap (λ b. if b then all_but (f n) (map f ms) else f m ∷ all_but (f n) (map f ms)) (same_test f g n m p (back m here))
    ∙ by (n == m) (all_but_map f g n p ms (λ k at. back k (there at)))
  where
    by : (b : Bool) → all_but (f n) (map f ms) ≡ map f (all_but n ms)
        → (if b then all_but (f n) (map f ms) else f m ∷ all_but (f n) (map f ms)) ≡ map f (if b then all_but n ms else m ∷ all_but n ms)
    by true ih = ih
    by false ih = ap (λ l. f m ∷ l) ih

in_all_but : (n k : ℕ) (ms : List ℕ) → In k (all_but n ms) → In k ms
in_all_but n k [] at = at
in_all_but n k (m ∷ ms) at = by (n == m) at (in_all_but n k ms)
  where
    later : (k ≡ m) ⊎ In k (all_but n ms) → (In k (all_but n ms) → In k ms) → In k (m ∷ ms)
    later (inl e) ih = subst (λ z. In z (m ∷ ms)) (sym e) here
    later (inr at) ih = there (ih at)

    by : (b : Bool) → In k (if b then all_but n ms else m ∷ all_but n ms) → (In k (all_but n ms) → In k ms) → In k (m ∷ ms)
    by true at ih = there (ih at)
    by false at ih = later (in_rest at) ih

pub in_firsts : (k : ℕ) (ns : List ℕ) → In k (firsts ns) → In k ns
in_firsts k [] at = at
in_firsts k (n ∷ ns) at = by (in_rest at) (in_firsts k ns)
  where
    by : (k ≡ n) ⊎ In k (all_but n (firsts ns)) → (In k (firsts ns) → In k ns) → In k (n ∷ ns)
    by (inl e) ih = subst (λ z. In z (n ∷ ns)) (sym e) here
    by (inr at) ih = there (ih (in_all_but n k (firsts ns) at))

firsts_map : (f g : ℕ → ℕ) (ns : List ℕ) → Back f g ns → firsts (map f ns) ≡ map f (firsts ns)
firsts_map f g [] back = refl
firsts_map f g (n ∷ ns) back =
    ap (λ l. f n ∷ all_but (f n) l) (firsts_map f g ns (λ k at. back k (there at)))
    ∙ ap (λ l. f n ∷ l) (all_but_map f g n (back n here) (firsts ns) (λ k at. back k (there (in_firsts k ns at))))

place_map : (f g : ℕ → ℕ) (n : ℕ) → g (f n) ≡ n → (ms : List ℕ) → Back f g ms → place_of (f n) (map f ms) ≡ place_of n ms
place_map f g n p [] back = refl
place_map f g n p (m ∷ ms) back =
    (λ i. if same_test f g n m p (back m here) i then 0 else 1 + place_map f g n p ms (λ k at. back k (there at)) i)

pub same_place : (f g : ℕ → ℕ) (ns : List ℕ) → Back f g ns → (n : ℕ) → In n ns → place_of (f n) (firsts (map f ns)) ≡ place_of n (firsts ns)
same_place f g ns back n at = ap (place_of (f n)) (firsts_map f g ns back) ∙ place_map f g n (back n at) (firsts ns) (λ k h. back k (in_firsts k ns h))

-- The variables of a renamed term

map_joined : (f : ℕ → ℕ) (xs ys : List ℕ) → map f (xs ++ ys) ≡ map f xs ++ map f ys
map_joined f [] ys = refl
map_joined f (x ∷ xs) ys = ap (λ l. f x ∷ l) (map_joined f xs ys)

pub renamed_holes : (f : SortId → ℕ → ℕ) (s : SortId) (t : Tree) → holes s (substituted (renamed f) t) ≡ map (f s) (holes s t)
renamed_holes f s = tree_induct (λ t. holes s (substituted (renamed f) t) ≡ map (f s) (holes s t))
    (λ u j. ap (holes s) (substituted-Var (renamed f) u j) ∙ holes-Var s u (f u j) ∙ at_var u j (same_sort u s) refl ∙ ap (map (f s)) (sym (holes-Var s u j)))
    (λ g args have. ap (holes s) (substituted-App (renamed f) g args) ∙ holes-App s g (map (substituted (renamed f)) args) ∙ all args have ∙ ap (map (f s)) (sym (holes-App s g args)))
  where
    at_var : (u : SortId) (j : ℕ) (b : Bool) → same_sort u s ≡ b → (if b then f u j ∷ [] else []) ≡ map (f s) (if b then j ∷ [] else [])
    at_var u j true e = ap (λ z. f z j ∷ []) (same_sort_is u s e)
    at_var u j false e = refl

    all : (ts : List Tree) → Each (λ t. holes s (substituted (renamed f) t) ≡ map (f s) (holes s t)) ts
        → joined (map (holes s) (map (substituted (renamed f)) ts)) ≡ map (f s) (joined (map (holes s) ts))
    all [] have = refl
    all (t ∷ ts) have = ap₂ ◌++◌ have.0 (all ts have.1) ∙ sym (map_joined (f s) (holes s t) (joined (map (holes s) ts)))

-- Pairs

pair_renamed : (f : SortId → ℕ → ℕ) (p : Pair) (s : SortId) → pair_holes (map_pair (substituted (renamed f)) p) s ≡ map (f s) (pair_holes p s)
pair_renamed f p s =
    (λ i. renamed_holes f s p.peak i ++ (renamed_holes f s p.left i ++ renamed_holes f s p.right i))
    ∙ ap (λ l. map (f s) (holes s p.peak) ++ l) (sym (map_joined (f s) (holes s p.left) (holes s p.right)))
    ∙ sym (map_joined (f s) (holes s p.peak) (holes s p.left ++ holes s p.right))

module _ (f g : SortId → ℕ → ℕ) (p : Pair) (back : (s : SortId) → Back (f s) (g s) (pair_holes p s)) where
  tidied_tree : (t : Tree) → ((s : SortId) (i : ℕ) → In i (holes s t) → In i (pair_holes p s))
      → substituted (renumbering (pair_holes (map_pair (substituted (renamed f)) p))) (substituted (renamed f) t) ≡ substituted (renumbering (pair_holes p)) t
  tidied_tree t among = substituted_twice (renamed f) (renumbering (pair_holes (map_pair (substituted (renamed f)) p))) t
      ∙ agreeing (after (renamed f) (renumbering (pair_holes (map_pair (substituted (renamed f)) p)))) (renumbering (pair_holes p)) t
      (λ s i at. substituted-Var (renumbering (pair_holes (map_pair (substituted (renamed f)) p))) s (f s i)
      ∙ ap (λ l. Var s (place_of (f s i) (firsts l))) (pair_renamed f p s)
      ∙ ap (Var s) (same_place (f s) (g s) (pair_holes p s) (back s) i (among s i at)))

  pub tidied_renamed : tidied_pair (map_pair (substituted (renamed f)) p) ≡ tidied_pair p
  tidied_renamed = λ i. let x : Pair = record {
    peak = tidied_tree p.peak (λ s j at. in_left (holes s p.left ++ holes s p.right) at) i;
    left = tidied_tree p.left (λ s j at. in_right (holes s p.peak) (in_left (holes s p.right) at)) i;
    right = tidied_tree p.right (λ s j at. in_right (holes s p.peak) (in_right (holes s p.left) at)) i;
  } in x

-- A substitution that another takes back is a renaming

pub index_here : o.Tree-F Tree → ℕ
index_here (o.Var s i) = i
index_here (o.App f ts) = 0

abbrev pub index_of : Tree → ℕ
index_of t = index_here (out-Tree t)

index-Var : (s : SortId) (i : ℕ) → index_of (Var s i) ≡ i
unfolding index_here
index-Var s i = ap index_here (outs-Var s i)

abbrev pub moves : Subst → SortId → ℕ → ℕ
moves ρ s i = index_of (ρ s i)

-- what goes back to a variable is a variable, of its sort
goes_back : (r : Sorts) (ρ' : Subst) (s : SortId) (i : ℕ) (u : Tree) → head_sort r u ≡ s → substituted ρ' u ≡ Var s i → u ≡ Var s (index_of u)
goes_back r ρ' s i = tree_cases (λ u. head_sort r u ≡ s → substituted ρ' u ≡ Var s i → u ≡ Var s (index_of u))
    (λ w j k e. λ n. Var ((sym (ap (head_sort_of r) (outs-Var w j)) ∙ k) n) (sym (index-Var w j) n))
    (λ f ts k e. absurd (var_no_app s i f (map (substituted ρ') ts) (sym e ∙ substituted-App ρ' f ts)))

module _ (r : Sorts) (ρ ρ' : Subst) (k : KeepsHeads r ρ) where
  var_at : (s : SortId) (i : ℕ) → substituted ρ' (ρ s i) ≡ Var s i → ρ s i ≡ Var s (moves ρ s i)
  var_at s i e = goes_back r ρ' s i (ρ s i) (k s i) e

  taken_back : (s : SortId) (i : ℕ) → substituted ρ' (ρ s i) ≡ Var s i → moves ρ' s (moves ρ s i) ≡ i
  taken_back s i e =
      let q : ρ' s (moves ρ s i) ≡ Var s i = sym (substituted-Var ρ' s (moves ρ s i)) ∙ ap (substituted ρ') (sym (var_at s i e)) ∙ e in
      ap index_of q ∙ index-Var s i

  pub as_renaming : (t : Tree) → ((s : SortId) (i : ℕ) → In i (holes s t) → substituted ρ' (ρ s i) ≡ Var s i) → substituted ρ t ≡ substituted (renamed (moves ρ)) t
  as_renaming t h = agreeing ρ (renamed (moves ρ)) t (λ s i at. var_at s i (h s i at))

  pub fixes : (t : Tree) → t ≡ substituted ρ' (substituted ρ t) → (s : SortId) (i : ℕ) → In i (holes s t) → substituted ρ' (ρ s i) ≡ Var s i
  fixes t e = agreed (after ρ ρ') Var t (sym (substituted_twice ρ ρ' t) ∙ sym e ∙ sym (substituted_itself t))

  -- two pairs that are instances of each other are one after renumbering
  pub tidied_same : (p q : Pair) → q ≡ map_pair (substituted ρ) p → p ≡ map_pair (substituted ρ') q → tidied_pair q ≡ tidied_pair p
  tidied_same p q a b =
      let e : p ≡ map_pair (substituted ρ') (map_pair (substituted ρ) p) = b ∙ ap (map_pair (substituted ρ')) a in
      let at_peak = fixes p.peak (ap (λ (x : Pair). x.peak) e) in
      let at_left = fixes p.left (ap (λ (x : Pair). x.left) e) in
      let at_right = fixes p.right (ap (λ (x : Pair). x.right) e) in
      ap tidied_pair (a ∙ (λ i. let x : Pair = record { peak = as_renaming p.peak at_peak i; left = as_renaming p.left at_left i; right = as_renaming p.right at_right i } in x))
      ∙ tidied_renamed (moves ρ) (moves ρ') p
      (λ s i at. taken_back s i (either s i at_peak at_left at_right (in_split (holes s p.peak) (holes s p.left ++ holes s p.right) at)))
    where
      or : (s : SortId) (i : ℕ) → ((s : SortId) (i : ℕ) → In i (holes s p.left) → substituted ρ' (ρ s i) ≡ Var s i) → ((s : SortId) (i : ℕ) → In i (holes s p.right) → substituted ρ' (ρ s i) ≡ Var s i)
          → In i (holes s p.left) ⊎ In i (holes s p.right) → substituted ρ' (ρ s i) ≡ Var s i
      or s i l r (inl at) = l s i at
      or s i l r (inr at) = r s i at

      either : (s : SortId) (i : ℕ) → ((s : SortId) (i : ℕ) → In i (holes s p.peak) → substituted ρ' (ρ s i) ≡ Var s i)
          → ((s : SortId) (i : ℕ) → In i (holes s p.left) → substituted ρ' (ρ s i) ≡ Var s i) → ((s : SortId) (i : ℕ) → In i (holes s p.right) → substituted ρ' (ρ s i) ≡ Var s i)
          → In i (holes s p.peak) ⊎ In i (holes s p.left ++ holes s p.right) → substituted ρ' (ρ s i) ≡ Var s i
      either s i m l r (inl at) = m s i at
      either s i m l r (inr at) = or s i l r (in_split (holes s p.left) (holes s p.right) at)
