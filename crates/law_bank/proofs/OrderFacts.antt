-- K of two terms of a bank.
use Rattle.std.proofs.Common.{◌≡◌, ℕ, suc, ◌-◌, ◌^◌, ◌<◌, ◌≤◌, Bool, true, false, ◌==◌, if◌then◌else◌, List, [], ◌∷◌, length, map, Some, None, Ordering, Less, Equal, Greater, nat_cmp, ap, ap₂, sym, ◌∙◌, refl, subst, arith}
use Rattle.std.specs.Ordering.{ordering_then, ordering_reverse, MatchOrdering}
use Rattle.std.specs.Cmp.{nat_cmp_is}
use Rattle.std.specs.Cmp.Lexicographic.{slice_cmp}
use Rattle.std.proofs.lemmas.Bool.{eqb-true, eq-eqb}
use Rattle.std.proofs.lemmas.Cmp.{ranked}
use denote.Bor.{Bor}
use Rattle.law_sig.specs.Lists.{In, total}
use Rattle.law_sig.specs.Lists.In.{here, there}
use Rattle.law_sig.specs.Trees.{schema_of}
use Rattle.law_sig.specs.Tests.{weight}
use Rattle.law_sig.specs.Order.{compare_k}
use Rattle.law_sig.specs.declared.tree.Tree.{Tree}
use Rattle.law_sig.specs.declared.tree.Tree.TheVariants as tree
use Rattle.law_sig.specs.declared.tree.Tree.TheViews.{out-Tree}
use Rattle.law_sig.specs.declared.parts.SigParts.{SigParts}
use Rattle.law_laws.specs.Orders.{compare_heads}
use Rattle.law_laws.proofs.BodyFacts.{some_is}
use Rattle.law_laws.proofs.ListFacts.{of_each}
use Rattle.law_laws.proofs.TreeFacts.{weight-App, schema-Var, schema-App}
use Rattle.law_laws.proofs.Spelled.{k_spelled}
use Rattle.law_laws.proofs.Orders.{compare_k_total, one_tree_k, schema_weight}
use Rattle.law_bank.specs.declared.node.Head.{Head}
use Rattle.law_bank.specs.declared.node.Head.TheVariants.{Var, Sym}
use Rattle.law_bank.specs.declared.node.Node.{Node, out-Node}
use Rattle.law_bank.specs.Terms.{tree_at, tree_of, trees_of, id_of, Fits}
use Rattle.law_bank.specs.Bank.{Terms, IsOf, AllOf, IsShared, capped}
use Rattle.law_bank.specs.Orders.{AreComparable, first_other, heads_cmp, roots_cmp, flat, flat_cmp}
use Rattle.law_bank.specs.Laws.{KIsDecided}
use Rattle.law_bank.proofs.BankFacts.{tree_of-out, here as at_root, below, same_tree, same_id, weight_is, fits_trees}

-- One comparison after another

then_equal : (o : Ordering) → ordering_then o Equal ≡ o
then_equal Less = refl
then_equal Equal = refl
then_equal Greater = refl

then_joins : (o p q : Ordering) → ordering_then o (ordering_then p q) ≡ ordering_then (ordering_then o p) q
then_joins Less p q = refl
then_joins Equal p q = refl
then_joins Greater p q = refl

then_decided : (o p : Ordering) → (o ≡ Equal → ⊥) → ordering_then o p ≡ o
then_decided Less p n = refl
then_decided Equal p n = absurd (n refl)
then_decided Greater p n = refl

-- one more on both sides compares as before
more_both : (n m : ℕ) → nat_cmp n m ≡ nat_cmp (suc n) (suc m)
more_both n m = nat_cmp_is (suc n) (suc m) (nat_cmp n m) (by (nat_cmp n m) (ranked n m (nat_cmp n m) refl))
  where
    by : (p : Ordering) → MatchOrdering p (n < m) (n ≡ m) (m < n) → MatchOrdering p (suc n < suc m) (suc n ≡ suc m) (suc m < suc n)
    by Less h = omega (arith, h)
    by Equal h = ap suc h
    by Greater h = omega (arith, h)

-- what is its own reverse is equal
own_reverse : (o : Ordering) → o ≡ ordering_reverse o → o ≡ Equal
own_reverse Less e = absurd (cc)
own_reverse Equal e = refl
own_reverse Greater e = absurd (cc)

pub k_itself : (parts : SigParts) (t : Tree) → compare_k parts t t ≡ Equal
k_itself parts t = own_reverse (compare_k parts t t) ((compare_k_total parts).antisymm t t)

-- The first arguments that are different terms

-- a pair that is found is one of each list
pub record IsSplit (xs ys : List (Bor Node)) (l r : Bor Node) : Type 0 where
  pub left : In l xs
  pub right : In r ys
  pub other : (id_of l.now == id_of r.now) ≡ false

pub split : (xs ys : List (Bor Node)) (l r : Bor Node) → first_other xs ys ≡ Some (l, r) → IsSplit xs ys l r
split [] ys l r e = cc
split (x ∷ xs) [] l r e = cc
split (x ∷ xs) (y ∷ ys) l r e = by (split xs ys l r) (id_of x.now == id_of y.now) refl e
  where
    by : (first_other xs ys ≡ Some (l, r) → IsSplit xs ys l r) → (c : Bool) → (id_of x.now == id_of y.now) ≡ c
        → (if c then first_other xs ys else Some (x, y)) ≡ Some (l, r) → IsSplit (x ∷ xs) (y ∷ ys) l r
    by later true q k = let s = later k in record { left = there s.left; right = there s.right; other = s.other }
    by later false q k =
        let p = some_is (x, y) (l, r) k in
        record {
          left = subst (λ z. In z (x ∷ xs)) (ap (λ (z : Bor Node × Bor Node). z.0) p) here;
          right = subst (λ z. In z (y ∷ ys)) (ap (λ (z : Bor Node × Bor Node). z.1) p) here;
          other = subst (λ (z : Bor Node × Bor Node). (id_of z.0.now == id_of z.1.now) ≡ false) p q;
        }

module _ (bank : Terms) (parts : SigParts) (shared : IsShared bank) where
  -- terms of one id are equal in K, and others aren't
  k_same : (x y : Node) → IsOf bank x → IsOf bank y → (id_of x == id_of y) ≡ true → compare_k parts (tree_of x) (tree_of y) ≡ Equal
  k_same x y h k e = ap (compare_k parts (tree_of x)) (sym (same_tree bank x y h k (eqb-true (id_of x) (id_of y) e))) ∙ k_itself parts (tree_of x)

  k_other : (x y : Node) → IsOf bank x → IsOf bank y → (id_of x == id_of y) ≡ false → compare_k parts (tree_of x) (tree_of y) ≡ Equal → ⊥
  k_other x y h k e q =
      let same = same_id bank x y shared h k (one_tree_k parts (tree_of x) (tree_of y) q) in
      let c = eq-eqb (id_of x) (id_of y) same in cc

  abbrev rows_cmp : List (Bor Node) → List (Bor Node) → Ordering
  rows_cmp xs ys = slice_cmp (compare_k parts) (trees_of xs) (trees_of ys)

  args_decided : (xs ys : List (Bor Node)) → AllOf bank xs → AllOf bank ys → (l r : Bor Node) → first_other xs ys ≡ Some (l, r)
      → rows_cmp xs ys ≡ compare_k parts (tree_of l.now) (tree_of r.now)
  args_decided [] ys h k l r e = cc
  args_decided (x ∷ xs) [] h k l r e = cc
  args_decided (x ∷ xs) (y ∷ ys) h k l r e = by (args_decided xs ys h.1 k.1 l r) (id_of x.now == id_of y.now) refl e
    where
      by : (first_other xs ys ≡ Some (l, r) → rows_cmp xs ys ≡ compare_k parts (tree_of l.now) (tree_of r.now)) → (c : Bool) → (id_of x.now == id_of y.now) ≡ c
          → (if c then first_other xs ys else Some (x, y)) ≡ Some (l, r)
          → ordering_then (compare_k parts (tree_of x.now) (tree_of y.now)) (rows_cmp xs ys) ≡ compare_k parts (tree_of l.now) (tree_of r.now)
      by later true q e = ap (λ o. ordering_then o (rows_cmp xs ys)) (k_same x.now y.now h.0 k.0 q) ∙ later e
      by later false q e =
          then_decided (compare_k parts (tree_of x.now) (tree_of y.now)) (rows_cmp xs ys) (k_other x.now y.now h.0 k.0 q)
          ∙ ap (λ (z : Bor Node × Bor Node). compare_k parts (tree_of z.0.now) (tree_of z.1.now)) (some_is (x, y) (l, r) e)

  args_counted : (xs ys : List (Bor Node)) → AllOf bank xs → AllOf bank ys → first_other xs ys ≡ None → rows_cmp xs ys ≡ nat_cmp (length xs) (length ys)
  args_counted [] [] h k e = refl
  args_counted [] (y ∷ ys) h k e = nat_cmp_is 0 (length (y ∷ ys)) Less (omega arith)
  args_counted (x ∷ xs) [] h k e = nat_cmp_is (length (x ∷ xs)) 0 Greater (omega arith)
  args_counted (x ∷ xs) (y ∷ ys) h k e = by (args_counted xs ys h.1 k.1) (id_of x.now == id_of y.now) refl e
    where
      by : (first_other xs ys ≡ None → rows_cmp xs ys ≡ nat_cmp (length xs) (length ys)) → (c : Bool) → (id_of x.now == id_of y.now) ≡ c
          → (if c then first_other xs ys else Some (x, y)) ≡ None
          → ordering_then (compare_k parts (tree_of x.now) (tree_of y.now)) (rows_cmp xs ys) ≡ nat_cmp (length (x ∷ xs)) (length (y ∷ ys))
      by later true q e = ap (λ o. ordering_then o (rows_cmp xs ys)) (k_same x.now y.now h.0 k.0 q) ∙ later e ∙ more_both (length xs) (length ys)
      by later false q e = cc

-- The roots

-- a weight that is told exactly
pub exact : (n m : ℕ) → n < 2 ^ 64 - 1 → m ≡ capped n → m ≡ n
exact n m small e = omega arith

module _ (parts : SigParts) where
  heads_decide : (h k : Head) (ss ts : List Tree) → Fits h ss → Fits k ts
      → compare_heads parts (out-Tree (tree_at h ss)) (out-Tree (tree_at k ts)) ≡ ordering_then (heads_cmp h k) (slice_cmp (compare_k parts) ss ts)
  heads_decide (Var s i) (Var u j) ss ts p q =
      ap₂ (compare_heads parts) (tree.outs-Var s i) (tree.outs-Var u j)
      ∙ sym (ap₂ (λ l m. ordering_then (ordering_then (nat_cmp s.0 u.0) (nat_cmp i j)) (slice_cmp (compare_k parts) l m)) p q ∙ then_equal (ordering_then (nat_cmp s.0 u.0) (nat_cmp i j)))
  heads_decide (Var s i) (Sym g) ss ts p q = ap₂ (compare_heads parts) (tree.outs-Var s i) (tree.outs-App g ts)
  heads_decide (Sym f) (Var u j) ss ts p q = ap₂ (compare_heads parts) (tree.outs-App f ss) (tree.outs-Var u j)
  heads_decide (Sym f) (Sym g) ss ts p q = ap₂ (compare_heads parts) (tree.outs-App f ss) (tree.outs-App g ts)

  -- K of two trees by their heads and the trees below
  k_at : (h k : Head) (ss ts : List Tree) (v w : ℕ) → Fits h ss → Fits k ts → v ≡ weight parts (tree_at h ss) → w ≡ weight parts (tree_at k ts)
      → compare_k parts (tree_at h ss) (tree_at k ts) ≡ ordering_then (ordering_then (nat_cmp v w) (heads_cmp h k)) (slice_cmp (compare_k parts) ss ts)
  k_at h k ss ts v w p q a b =
      k_spelled parts (tree_at h ss) (tree_at k ts)
      ∙ ap₂ ordering_then (ap₂ nat_cmp (sym a) (sym b)) (heads_decide h k ss ts p q)
      ∙ then_joins (nat_cmp v w) (heads_cmp h k) (slice_cmp (compare_k parts) ss ts)

  schema_at : (h : Head) (ss : List Tree) → schema_of (tree_at h ss) ≡ tree_at (flat h) (map schema_of ss)
  schema_at (Var s i) ss = schema-Var s i
  schema_at (Sym f) ss = schema-App f ss

  fits_schemas : (h : Head) (ss : List Tree) → Fits h ss → Fits (flat h) (map schema_of ss)
  fits_schemas (Var s i) ss e = ap (map schema_of) e
  fits_schemas (Sym f) ss e = tt

module _ (bank : Terms) (parts : SigParts) (a b : Node) (w : AreComparable bank parts a b) where
  abbrev args_of : Node → List (Bor Node)
  args_of n = (out-Node n).args.now

  pub left_weight : (out-Node a).weight ≡ weight parts (tree_of a)
  left_weight = exact (weight parts (tree_of a)) (out-Node a).weight w.left_light (weight_is bank parts a w.left w.weights)

  pub right_weight : (out-Node b).weight ≡ weight parts (tree_of b)
  right_weight = exact (weight parts (tree_of b)) (out-Node b).weight w.right_light (weight_is bank parts b w.right w.weights)

  pub left_fits : Fits (out-Node a).head (trees_of (args_of a))
  left_fits = fits_trees (out-Node a).head (args_of a) (at_root bank a w.left).fits

  pub right_fits : Fits (out-Node b).head (trees_of (args_of b))
  right_fits = fits_trees (out-Node b).head (args_of b) (at_root bank b w.right).fits

  k_roots : compare_k parts (tree_of a) (tree_of b) ≡ ordering_then (roots_cmp a b) (rows_cmp bank parts w.shared (args_of a) (args_of b))
  k_roots =
      ap₂ (compare_k parts) (tree_of-out a) (tree_of-out b)
      ∙ k_at parts (out-Node a).head (out-Node b).head (trees_of (args_of a)) (trees_of (args_of b)) (out-Node a).weight (out-Node b).weight left_fits right_fits
      (left_weight ∙ ap (weight parts) (tree_of-out a)) (right_weight ∙ ap (weight parts) (tree_of-out b))

  k_schemas : compare_k parts (schema_of (tree_of a)) (schema_of (tree_of b))
      ≡ ordering_then (flat_cmp a b) (slice_cmp (compare_k parts) (map schema_of (trees_of (args_of a))) (map schema_of (trees_of (args_of b))))
  k_schemas =
      ap₂ (compare_k parts) (ap schema_of (tree_of-out a) ∙ schema_at parts (out-Node a).head (trees_of (args_of a))) (ap schema_of (tree_of-out b) ∙ schema_at parts (out-Node b).head (trees_of (args_of b)))
      ∙ k_at parts (flat (out-Node a).head) (flat (out-Node b).head) (map schema_of (trees_of (args_of a))) (map schema_of (trees_of (args_of b))) (out-Node a).weight (out-Node b).weight
      (fits_schemas parts (out-Node a).head (trees_of (args_of a)) left_fits) (fits_schemas parts (out-Node b).head (trees_of (args_of b)) right_fits)
      (left_weight ∙ sym (schema_weight parts (tree_of a)) ∙ ap (weight parts) (ap schema_of (tree_of-out a) ∙ schema_at parts (out-Node a).head (trees_of (args_of a))))
      (right_weight ∙ sym (schema_weight parts (tree_of b)) ∙ ap (weight parts) (ap schema_of (tree_of-out b) ∙ schema_at parts (out-Node b).head (trees_of (args_of b))))

  pub k_decided : KIsDecided parts a b
  k_decided = record {
    roots = λ o e n. k_roots ∙ ap (λ z. ordering_then z (rows_cmp bank parts w.shared (args_of a) (args_of b))) e ∙ then_decided o (rows_cmp bank parts w.shared (args_of a) (args_of b)) n;
    argument = λ l r e f. k_roots ∙ ap (λ z. ordering_then z (rows_cmp bank parts w.shared (args_of a) (args_of b))) e
        ∙ args_decided bank parts w.shared (args_of a) (args_of b) (below bank a w.left) (below bank b w.right) l r f;
    count = λ e f. k_roots ∙ ap (λ z. ordering_then z (rows_cmp bank parts w.shared (args_of a) (args_of b))) e
        ∙ args_counted bank parts w.shared (args_of a) (args_of b) (below bank a w.left) (below bank b w.right) f;
    schemas = k_schemas;
  }

-- The arguments

-- an argument weighs no more than the term
item_weight : (parts : SigParts) {x : Bor Node} {xs : List (Bor Node)} → In x xs → weight parts (tree_of x.now) ≤ total (map (weight parts) (trees_of xs))
item_weight parts here = omega arith
item_weight parts (there at) = let h = item_weight parts at in omega (arith, h)

tree_weight : (parts : SigParts) (h : Head) (ts : List Tree) → Fits h ts → total (map (weight parts) ts) ≤ weight parts (tree_at h ts)
tree_weight parts (Var s i) ts e = let z = ap (λ l. total (map (weight parts) l)) e in omega (arith, z)
tree_weight parts (Sym f) ts e = let w = weight-App parts f ts in omega (arith, w)

pub arg_weight : (bank : Terms) (parts : SigParts) (n : Node) → IsOf bank n → (x : Bor Node) → In x (out-Node n).args.now → weight parts (tree_of x.now) ≤ weight parts (tree_of n)
arg_weight bank parts n h x at =
    let args = (out-Node n).args.now in
    let a = item_weight parts at in
    let b = tree_weight parts (out-Node n).head (trees_of args) (fits_trees (out-Node n).head args (at_root bank n h).fits) in
    let c = ap (weight parts) (tree_of-out n) in omega (arith, a, b, c)

-- two arguments of comparable terms are comparable
pub args_comparable : (bank : Terms) (parts : SigParts) (a b : Node) (l r : Bor Node) → AreComparable bank parts a b → In l (out-Node a).args.now → In r (out-Node b).args.now
    → AreComparable bank parts l.now r.now
args_comparable bank parts a b l r w p q =
    let m = arg_weight bank parts a w.left l p in let u = w.left_light in
    let n = arg_weight bank parts b w.right r q in let v = w.right_light in
    record {
      shared = w.shared;
      weights = w.weights;
      left = of_each (λ (x : Bor Node). IsOf bank x.now) p (below bank a w.left);
      right = of_each (λ (x : Bor Node). IsOf bank x.now) q (below bank b w.right);
      left_light = omega (arith, m, u);
      right_light = omega (arith, n, v);
    }

pub others_comparable : (bank : Terms) (parts : SigParts) (a b : Node) (l r : Bor Node) → AreComparable bank parts a b
    → first_other (out-Node a).args.now (out-Node b).args.now ≡ Some (l, r) → AreComparable bank parts l.now r.now
others_comparable bank parts a b l r w e = let s = split (out-Node a).args.now (out-Node b).args.now l r e in args_comparable bank parts a b l r w s.left s.right
