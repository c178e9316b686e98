-- Unification ends: two terms have bindings that are a most general unifier, or no unifier.
use Rattle.std.proofs.Common.{◌≡◌, ◌≢◌, ℕ, zero, suc, ◌+◌, ◌≤◌, ◌<◌, ◌⊎◌, inl, inr, List, [], ◌∷◌, ◌++◌, map, length, sym, ap, ◌∙◌, subst, arith}
use Rattle.law_sig.specs.Lists.{In, total}
use Rattle.law_sig.specs.Trees.{node_count, holes}
use Rattle.law_sig.specs.declared.tree.SortId.{SortId}
use Rattle.law_sig.specs.declared.tree.SymId.{SymId}
use Rattle.law_sig.specs.declared.tree.Tree.{Tree}
use Rattle.law_sig.specs.declared.tree.Tree.TheVariants.{Var, App}
use Rattle.law_sig.specs.declared.parts.SigParts.{SigParts}
use Rattle.law_laws.proofs.TreeFacts.{tree_cases, nodes-Var, nodes-App}
use Rattle.law_laws.proofs.Decide.{trees_decided}
use Rattle.law_sig.specs.declared.chain.Bind.{Bind}
use Rattle.law_rewriting.specs.Heads.{Sorts, head_sort}
use Rattle.law_rewriting.specs.Unifiers.{NoUnifier, AreUnifier}
use Rattle.law_rewriting.specs.UnifyingState.{Problems, single, put_problems, bound_more, HaveOneSort, HasSorts, BindWell, IsOpen, both_args, open_nodes}
use Rattle.law_rewriting.proofs.Places.{numbers_decided}
use Rattle.law_rewriting.proofs.Variables.{in_decided}
use Rattle.law_rewriting.proofs.Heads.{head-Var}
use Rattle.law_rewriting.proofs.Turns.{begun, all_done, bind_turn, split_turn, same_turn, swap_turn, stuck, clash, unlike, other_sort, occurs}
use Rattle.law_rewriting.proofs.Vars.{vars}
use Rattle.law_rewriting.proofs.Falling.{has_bind, untested, binding_falls}

-- The nodes of the problems fall where two applications are split

nodes-append : (ps qs : Problems) → open_nodes (ps ++ qs) ≡ open_nodes ps + open_nodes qs
nodes-append [] qs = omega arith
nodes-append (p ∷ ps) qs = let r = nodes-append ps qs in omega (arith, r)

nodes-args : (xs ys : List Tree) → open_nodes (both_args xs ys) ≤ total (map node_count xs) + total (map node_count ys)
nodes-args [] ys = omega arith
nodes-args (x ∷ xs) [] = omega arith
nodes-args (x ∷ xs) (y ∷ ys) = let r = nodes-args xs ys in omega (arith, r)

pub split_smaller : (f g : SymId) (xs ys : List Tree) (ps : Problems) → open_nodes (both_args xs ys ++ ps) < open_nodes ((App f xs, App g ys) ∷ ps)
split_smaller f g xs ys ps =
    let a = nodes-append (both_args xs ys) ps in let b = nodes-args xs ys in let c = nodes-App f xs in let d = nodes-App g ys in omega (arith, a, b, c, d)

pub some_nodes : (t : Tree) → 1 ≤ node_count t
some_nodes = tree_cases (λ t. 1 ≤ node_count t) (λ s i. let e = nodes-Var s i in omega (arith, e)) (λ f ts. let e = nodes-App f ts in omega (arith, e))

sorts_decided : (s t : SortId) → (s ≡ t) ⊎ (s ≢ t)
sorts_decided s t = by (numbers_decided s.0 t.0)
  where
    by : (s.0 < t.0) ⊎ ((s.0 ≡ t.0) ⊎ (t.0 < s.0)) → (s ≡ t) ⊎ (s ≢ t)
    by (inl h) = inr (λ e. let k = ap (λ (x : SortId). x.0) e in omega (arith, h, k))
    by (inr (inl e)) = inl (ap (λ n. let x : SortId = record { 0 = n } in x) e)
    by (inr (inr h)) = inr (λ e. let k = ap (λ (x : SortId). x.0) e in omega (arith, h, k))

symbols_decided : (f g : SymId) → (f ≡ g) ⊎ (f ≢ g)
symbols_decided f g = by (numbers_decided f.0 g.0)
  where
    by : (f.0 < g.0) ⊎ ((f.0 ≡ g.0) ⊎ (g.0 < f.0)) → (f ≡ g) ⊎ (f ≢ g)
    by (inl h) = inr (λ e. let k = ap (λ (x : SymId). x.0) e in omega (arith, h, k))
    by (inr (inl e)) = inl (ap (λ n. let x : SymId = record { 0 = n } in x) e)
    by (inr (inr h)) = inr (λ e. let k = ap (λ (x : SymId). x.0) e in omega (arith, h, k))

lengths_decided : (m n : ℕ) → (m ≡ n) ⊎ (m ≢ n)
lengths_decided m n = by (numbers_decided m n)
  where
    by : (m < n) ⊎ ((m ≡ n) ⊎ (n < m)) → (m ≡ n) ⊎ (m ≢ n)
    by (inl h) = inr (λ e. omega (arith, h, e))
    by (inr (inl e)) = inl e
    by (inr (inr h)) = inr (λ e. omega (arith, h, e))

-- a unifier, whose bindings are well-sorted where the terms are
pub record IsSolved (r : Sorts) (a b : Tree) (bs : List Bind) : Type 0 where
  pub unifier : AreUnifier r a b bs
  pub well : (parts : SigParts) → HasSorts parts r → HaveOneSort parts a b → BindWell parts bs

abbrev pub Solved : Sorts → Tree → Tree → Type 0
Solved r a b = ((bs : List Bind) × IsSolved r a b bs) ⊎ NoUnifier r a b

-- One turn

module _ (r : Sorts) (a b : Tree) (m : ℕ) (ps : Problems) (bs : List Bind)
    (bind : (s : SortId) (i : ℕ) (t : Tree) → IsOpen r a b ((Var s i, t) ∷ ps) bs → (In i (holes s t) → ⊥) → head_sort r t ≡ s → Solved r a b)
    (split : (f : SymId) (xs ys : List Tree) → IsOpen r a b ((App f xs, App f ys) ∷ ps) bs → length xs ≡ length ys → open_nodes ((App f xs, App f ys) ∷ ps) < m → Solved r a b) where
  var_turn : (s : SortId) (i : ℕ) (t : Tree) → IsOpen r a b ((Var s i, t) ∷ ps) bs → t ≢ Var s i → Solved r a b
  var_turn s i t g differ = by (in_decided i (holes s t)) (sorts_decided (head_sort r t) s)
    where
      by : In i (holes s t) ⊎ (In i (holes s t) → ⊥) → (head_sort r t ≡ s) ⊎ (head_sort r t ≢ s) → Solved r a b
      by (inl at) k = inr (stuck r a b (Var s i) t ps bs g (occurs r s i t differ at))
      by (inr n) (inl k) = bind s i t g n k
      by (inr n) (inr k) = inr (stuck r a b (Var s i) t ps bs g (other_sort r (Var s i) t (λ e. k (sym e ∙ head-Var r s i))))

  app_turn : (f g : SymId) (xs ys : List Tree) → IsOpen r a b ((App f xs, App g ys) ∷ ps) bs → open_nodes ((App f xs, App g ys) ∷ ps) < m → Solved r a b
  app_turn f g xs ys o few = by (symbols_decided f g) (lengths_decided (length xs) (length ys))
    where
      by : (f ≡ g) ⊎ (f ≢ g) → (length xs ≡ length ys) ⊎ (length xs ≢ length ys) → Solved r a b
      by (inl e) (inl k) = split f xs ys (subst (λ z. IsOpen r a b ((App f xs, App z ys) ∷ ps) bs) (sym e) o) k (subst (λ z. open_nodes ((App f xs, App z ys) ∷ ps) < m) (sym e) few)
      by (inl e) (inr n) = inr (stuck r a b (App f xs) (App g ys) ps bs o (unlike r f g xs ys n))
      by (inr n) k = inr (stuck r a b (App f xs) (App g ys) ps bs o (clash r f g xs ys n))

  other_turn : (s t : Tree) → IsOpen r a b ((s, t) ∷ ps) bs → s ≢ t → open_nodes ((s, t) ∷ ps) < m → Solved r a b
  other_turn = tree_cases (λ s. (t : Tree) → IsOpen r a b ((s, t) ∷ ps) bs → s ≢ t → open_nodes ((s, t) ∷ ps) < m → Solved r a b)
      (λ s i t g differ few. var_turn s i t g (λ e. differ (sym e)))
      (λ f xs. tree_cases (λ t. IsOpen r a b ((App f xs, t) ∷ ps) bs → App f xs ≢ t → open_nodes ((App f xs, t) ∷ ps) < m → Solved r a b)
      (λ s i g differ few. var_turn s i (App f xs) (swap_turn r a b (App f xs) (Var s i) ps bs g) differ)
      (λ h ys g differ few. app_turn f h xs ys g few))

-- All turns: fewer variables are left with each binding, and fewer nodes with each other turn

abbrev left : Tree → Tree → List Bind → ℕ
left a b bs = untested (has_bind bs) (vars a ++ vars b)

turns : (r : Sorts) (a b : Tree) (n : ℕ) → ((ps : Problems) (bs : List Bind) → IsOpen r a b ps bs → left a b bs < n → Solved r a b)
    → (m : ℕ) (ps : Problems) (bs : List Bind) → IsOpen r a b ps bs → left a b bs < suc n → open_nodes ps < m → Solved r a b
turns r a b n fewer zero ps bs g l few = absurd (omega (arith, few))
turns r a b n fewer (suc m) [] bs g l few = inl (bs, record { unifier = all_done r a b bs g; well = λ parts same o. (g.well parts same o).1 })
turns r a b n fewer (suc m) (p ∷ ps) bs g l few = by (trees_decided p.0 p.1)
    (λ h. turns r a b n fewer m ps bs h l (let x = some_nodes p.0 in omega (arith, x, few)))
    (λ f xs ys h e j. turns r a b n fewer m (both_args xs ys ++ ps) bs (split_turn r a b f xs ys ps bs e h) l (let x = split_smaller f f xs ys ps in omega (arith, x, j)))
  where
    by : (p.0 ≡ p.1) ⊎ (p.0 ≢ p.1) → (IsOpen r a b ps bs → Solved r a b)
        → ((f : SymId) (xs ys : List Tree) → IsOpen r a b ((App f xs, App f ys) ∷ ps) bs → length xs ≡ length ys → open_nodes ((App f xs, App f ys) ∷ ps) < suc m → Solved r a b)
        → Solved r a b
    by (inl e) drop split = drop (same_turn r a b p.1 ps bs (subst (λ z. IsOpen r a b ((z, p.1) ∷ ps) bs) e g))
    by (inr differ) drop split = other_turn r a b (suc m) ps bs
        (λ s i t h absent sorted. fewer (put_problems (single s i t) ps) (bound_more s i t bs) (bind_turn r a b s i t ps bs h absent sorted)
        (let x = binding_falls r a b s i t ps bs h absent sorted in omega (arith, x, l)))
        split p.0 p.1 g differ few

solved_within : (r : Sorts) (a b : Tree) (n : ℕ) (ps : Problems) (bs : List Bind) → IsOpen r a b ps bs → left a b bs < n → Solved r a b
solved_within r a b zero ps bs g l = absurd (omega (arith, l))
solved_within r a b (suc n) ps bs g l = turns r a b n (solved_within r a b n) (suc (open_nodes ps)) ps bs g l (omega arith)

pub solved : (r : Sorts) (a b : Tree) → Solved r a b
solved r a b = solved_within r a b (suc (left a b [])) ((a, b) ∷ []) [] (begun r a b) (omega arith)

pub unifiers_exist : (r : Sorts) (a b : Tree) → ((bs : List Bind) × AreUnifier r a b bs) ⊎ NoUnifier r a b
unifiers_exist r a b = by (solved r a b)
  where
    by : Solved r a b → ((bs : List Bind) × AreUnifier r a b bs) ⊎ NoUnifier r a b
    by (inl (bs, h)) = inl (bs, h.unifier)
    by (inr n) = inr n
