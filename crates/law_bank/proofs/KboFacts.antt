-- The Knuth-Bendix order of two terms of a bank.
use Rattle.std.proofs.Common.{◌≡◌, ℕ, ◌<◌, ◌⊎◌, inl, inr, ◌↔◌, Bool, true, false, ◌==◌, if◌then◌else◌, List, [], ◌∷◌, ◌++◌, Some, None, Ordering, Less, Equal, Greater, nat_cmp, ap, sym, ◌∙◌, refl, subst, subst₂, arith}
use Rattle.std.specs.Ordering.{ordering_then, MatchOrdering}
use Rattle.std.proofs.lemmas.Bool.{eqb-true, eq-eqb}
use Rattle.std.proofs.lemmas.Cmp.{ranked}
use denote.Bor.{Bor}
use Rattle.law_sig.specs.Lists.{In, Each}
use Rattle.law_sig.specs.Lists.In.{here}
use Rattle.law_sig.specs.Tests.{weight}
use Rattle.law_sig.specs.Kbo.{HasVarsOf, Kbo}
use Rattle.law_sig.specs.Kbo.Kbo.{heavier, symbol, argument}
use Rattle.law_sig.specs.declared.tree.SymId.{SymId}
use Rattle.law_sig.specs.declared.tree.SortId.{SortId}
use Rattle.law_sig.specs.declared.tree.Tree.{Tree}
use Rattle.law_sig.specs.declared.tree.Tree.TheVariants as tree
use Rattle.law_sig.specs.declared.parts.SigParts.{SigParts}
use Rattle.law_laws.proofs.BodyFacts.{some_is}
use Rattle.law_laws.proofs.ListFacts.{of_each, in_right}
use Rattle.law_laws.proofs.TreeFacts.{tree_induct, same_app, var_no_app}
use Rattle.law_rewriting.proofs.Places.{same_around}
use Rattle.law_bank.specs.declared.node.Head.{Head}
use Rattle.law_bank.specs.declared.node.Head.TheVariants.{Var, Sym}
use Rattle.law_bank.specs.declared.node.Node.{Node, out-Node}
use Rattle.law_bank.specs.Terms.{tree_at, tree_of, trees_of, id_of}
use Rattle.law_bank.specs.Bank.{Terms, AllOf, IsShared}
use Rattle.law_bank.specs.Orders.{AreComparable, first_other, symbols_cmp, kbo_cmp}
use Rattle.law_bank.specs.Laws.{KboIsDecided}
use Rattle.law_bank.proofs.BankFacts.{tree_of-out, below, same_tree, same_id}
use Rattle.law_bank.proofs.OrderFacts.{left_weight, right_weight}

-- What makes a term greater

pub record IsSymbol (parts : SigParts) (s t : Tree) : Type 0 where
  pub f : SymId
  pub g : SymId
  pub ss : List Tree
  pub ts : List Tree
  pub was : s ≡ tree.App f ss
  pub is : t ≡ tree.App g ts
  pub weighs : weight parts s ≡ weight parts t
  pub less : g.0 < f.0

pub record IsArgument (parts : SigParts) (s t : Tree) : Type 0 where
  pub f : SymId
  pub before : List Tree
  pub x : Tree
  pub y : Tree
  pub ss : List Tree
  pub ts : List Tree
  pub was : s ≡ tree.App f (before ++ x ∷ ss)
  pub is : t ≡ tree.App f (before ++ y ∷ ts)
  pub weighs : weight parts s ≡ weight parts t
  pub greater : Kbo parts x y

pub record Inverted (parts : SigParts) (s t : Tree) : Type 0 where
  pub variables : HasVarsOf s t
  pub ways : (weight parts t < weight parts s) ⊎ (IsSymbol parts s t ⊎ IsArgument parts s t)

pub inverted : {parts : SigParts} {s t : Tree} → Kbo parts s t → Inverted parts s t
inverted (heavier s t h less) = record { variables = h; ways = inl less }
inverted (symbol f g ss ts h e less) = record { variables = h; ways = inr (inl (record { f = f; g = g; ss = ss; ts = ts; was = refl; is = refl; weighs = e; less = less })) }
inverted (argument f before x y ss ts h e k) =
    record { variables = h; ways = inr (inr (record { f = f; before = before; x = x; y = y; ss = ss; ts = ts; was = refl; is = refl; weighs = e; greater = k })) }

-- no term is greater than itself
module _ (parts : SigParts) where
  abbrev NotItself : Tree → Type 0
  NotItself s = (t : Tree) → s ≡ t → Kbo parts s t → ⊥

  lighter_not : (s t : Tree) → s ≡ t → weight parts t < weight parts s → ⊥
  lighter_not s t e less = let k = ap (weight parts) e in omega (arith, k, less)

  symbol_not : (s t : Tree) → s ≡ t → IsSymbol parts s t → ⊥
  symbol_not s t e i =
      let p = (same_app i.f i.g i.ss i.ts (sym i.was ∙ e ∙ i.is)).0 in
      let n = ap (λ (f : SymId). f.0) p in let less = i.less in omega (arith, n, less)

  argument_same : (s t : Tree) → s ≡ t → (i : IsArgument parts s t) → i.x ≡ i.y
  argument_same s t e i =
      (same_around i.before i.before i.x i.y i.ss i.ts refl (same_app i.f i.f (i.before ++ i.x ∷ i.ss) (i.before ++ i.y ∷ i.ts) (sym i.was ∙ e ∙ i.is)).1).item

  argument_not : (f : SymId) (us : List Tree) → Each NotItself us → (t : Tree) → tree.App f us ≡ t → IsArgument parts (tree.App f us) t → ⊥
  argument_not f us have t e i =
      let args : us ≡ i.before ++ i.x ∷ i.ss = (same_app f i.f us (i.before ++ i.x ∷ i.ss) i.was).1 in
      let at : In i.x us = subst (λ l. In i.x l) (sym args) (in_right i.before here) in
      of_each NotItself at have i.y (argument_same (tree.App f us) t e i) i.greater

  pub not_itself : (s : Tree) → NotItself s
  not_itself = tree_induct NotItself
      (λ u j t e k. at_var u j t e (inverted k).ways)
      (λ f us have t e k. at_app f us have t e (inverted k).ways)
    where
      at_var : (u : SortId) (j : ℕ) (t : Tree) → tree.Var u j ≡ t
          → (weight parts t < weight parts (tree.Var u j)) ⊎ (IsSymbol parts (tree.Var u j) t ⊎ IsArgument parts (tree.Var u j) t) → ⊥
      at_var u j t e (inl less) = lighter_not (tree.Var u j) t e less
      at_var u j t e (inr (inl i)) = var_no_app u j i.f i.ss i.was
      at_var u j t e (inr (inr i)) = var_no_app u j i.f (i.before ++ i.x ∷ i.ss) i.was

      at_app : (f : SymId) (us : List Tree) → Each NotItself us → (t : Tree) → tree.App f us ≡ t
          → (weight parts t < weight parts (tree.App f us)) ⊎ (IsSymbol parts (tree.App f us) t ⊎ IsArgument parts (tree.App f us) t) → ⊥
      at_app f us have t e (inl less) = lighter_not (tree.App f us) t e less
      at_app f us have t e (inr (inl i)) = symbol_not (tree.App f us) t e i
      at_app f us have t e (inr (inr i)) = argument_not f us have t e i

-- The first arguments that are different terms

-- the trees of two lists around a pair of items, with the same trees before
pub record AreAround (xs ys : List (Bor Node)) (l r : Bor Node) : Type 0 where
  pub before : List Tree
  pub ss : List Tree
  pub ts : List Tree
  pub left : trees_of xs ≡ before ++ tree_of l.now ∷ ss
  pub right : trees_of ys ≡ before ++ tree_of r.now ∷ ts

-- a pair of items that is found
pub record IsFound (xs ys : List (Bor Node)) (s t : Tree) : Type 0 where
  pub l : Bor Node
  pub r : Bor Node
  pub found : first_other xs ys ≡ Some (l, r)
  pub left : tree_of l.now ≡ s
  pub right : tree_of r.now ≡ t

module _ (bank : Terms) where
  around : (xs ys : List (Bor Node)) → AllOf bank xs → AllOf bank ys → (l r : Bor Node) → first_other xs ys ≡ Some (l, r) → AreAround xs ys l r
  around [] ys h k l r e = cc
  around (x ∷ xs) [] h k l r e = cc
  around (x ∷ xs) (y ∷ ys) h k l r e = by (around xs ys h.1 k.1 l r) (id_of x.now == id_of y.now) refl e
    where
      by : (first_other xs ys ≡ Some (l, r) → AreAround xs ys l r) → (c : Bool) → (id_of x.now == id_of y.now) ≡ c
          → (if c then first_other xs ys else Some (x, y)) ≡ Some (l, r) → AreAround (x ∷ xs) (y ∷ ys) l r
      by later true q e =
          let a = later e in
          let same = same_tree bank x.now y.now h.0 k.0 (eqb-true (id_of x.now) (id_of y.now) q) in
          record {
            before = tree_of x.now ∷ a.before;
            ss = a.ss;
            ts = a.ts;
            left = ap (λ z. tree_of x.now ∷ z) a.left;
            right = ap (λ z. tree_of y.now ∷ z) a.right ∙ ap (λ z. z ∷ (a.before ++ tree_of r.now ∷ a.ts)) (sym same);
          }
      by later false q e =
          let p = some_is (x, y) (l, r) e in
          record {
            before = [];
            ss = trees_of xs;
            ts = trees_of ys;
            left = ap (λ (z : Bor Node × Bor Node). tree_of z.0.now ∷ trees_of xs) p;
            right = ap (λ (z : Bor Node × Bor Node). tree_of z.1.now ∷ trees_of ys) p;
          }

  -- the first trees that differ are those of the first arguments with different ids
  find : IsShared bank → (before : List Tree) (s t : Tree) (ss ts : List Tree) (xs ys : List (Bor Node)) → AllOf bank xs → AllOf bank ys
      → trees_of xs ≡ before ++ s ∷ ss → trees_of ys ≡ before ++ t ∷ ts → (s ≡ t → ⊥) → IsFound xs ys s t
  find shared [] s t ss ts [] ys h k p q n = cc
  find shared [] s t ss ts (x ∷ xs) [] h k p q n = cc
  find shared [] s t ss ts (x ∷ xs) (y ∷ ys) h k p q n = by (id_of x.now == id_of y.now) refl
    where
      a : tree_of x.now ≡ s
      a = cc

      b : tree_of y.now ≡ t
      b = cc

      by : (c : Bool) → (id_of x.now == id_of y.now) ≡ c → IsFound (x ∷ xs) (y ∷ ys) s t
      by true e = absurd (n (sym a ∙ same_tree bank x.now y.now h.0 k.0 (eqb-true (id_of x.now) (id_of y.now) e) ∙ b))
      by false e = record { l = x; r = y; found = ap (λ c. if c then first_other xs ys else Some (x, y)) e; left = a; right = b }
  find shared (u ∷ before) s t ss ts [] ys h k p q n = cc
  find shared (u ∷ before) s t ss ts (x ∷ xs) [] h k p q n = cc
  find shared (u ∷ before) s t ss ts (x ∷ xs) (y ∷ ys) h k p q n =
      let a : tree_of x.now ≡ u = cc in
      let b : tree_of y.now ≡ u = cc in
      let c : trees_of xs ≡ before ++ s ∷ ss = cc in
      let d : trees_of ys ≡ before ++ t ∷ ts = cc in
      let e = eq-eqb (id_of x.now) (id_of y.now) (same_id bank x.now y.now shared h.0 k.0 (a ∙ sym b)) in
      let r = find shared before s t ss ts xs ys h.1 k.1 c d n in
      record { l = r.l; r = r.r; found = ap (λ c. if c then first_other xs ys else Some (x, y)) e ∙ r.found; left = r.left; right = r.right }

-- What the roots say

less_ways : (m n : ℕ) (o : Ordering) → ordering_then (nat_cmp m n) o ≡ Less → (m < n) ⊎ ((m ≡ n) × (o ≡ Less))
less_ways m n o e = by (nat_cmp m n) (ranked m n (nat_cmp m n) refl) e
  where
    by : (p : Ordering) → MatchOrdering p (m < n) (m ≡ n) (n < m) → ordering_then p o ≡ Less → (m < n) ⊎ ((m ≡ n) × (o ≡ Less))
    by Less h e = inl h
    by Equal h e = inr (h, e)
    by Greater h e = absurd (cc)

equal_way : (m n : ℕ) (o : Ordering) → ordering_then (nat_cmp m n) o ≡ Equal → (m ≡ n) × (o ≡ Equal)
equal_way m n o e = by (nat_cmp m n) (ranked m n (nat_cmp m n) refl) e
  where
    by : (p : Ordering) → MatchOrdering p (m < n) (m ≡ n) (n < m) → ordering_then p o ≡ Equal → (m ≡ n) × (o ≡ Equal)
    by Less h e = absurd (cc)
    by Equal h e = (h, e)
    by Greater h e = absurd (cc)

greater_ways : (m n : ℕ) (o : Ordering) → ordering_then (nat_cmp m n) o ≡ Greater → (n < m) ⊎ ((m ≡ n) × (o ≡ Greater))
greater_ways m n o e = by (nat_cmp m n) (ranked m n (nat_cmp m n) refl) e
  where
    by : (p : Ordering) → MatchOrdering p (m < n) (m ≡ n) (n < m) → ordering_then p o ≡ Greater → (n < m) ⊎ ((m ≡ n) × (o ≡ Greater))
    by Less h e = absurd (cc)
    by Equal h e = inr (h, e)
    by Greater h e = inl h

number_less : (m n : ℕ) → nat_cmp m n ≡ Less → m < n
number_less m n e = subst (λ p. MatchOrdering p (m < n) (m ≡ n) (n < m)) e (ranked m n (nat_cmp m n) refl)

number_equal : (m n : ℕ) → nat_cmp m n ≡ Equal → m ≡ n
number_equal m n e = subst (λ p. MatchOrdering p (m < n) (m ≡ n) (n < m)) e (ranked m n (nat_cmp m n) refl)

number_greater : (m n : ℕ) → nat_cmp m n ≡ Greater → n < m
number_greater m n e = subst (λ p. MatchOrdering p (m < n) (m ≡ n) (n < m)) e (ranked m n (nat_cmp m n) refl)

symbol_same : (f g : SymId) → f.0 ≡ g.0 → f ≡ g
symbol_same f g e = ap (λ n. let x : SymId = record { 0 = n } in x) e

-- what two heads are where they are compared so
pub record AreSymbols (h k : Head) (R : SymId → SymId → Type 0) : Type 0 where
  pub f : SymId
  pub g : SymId
  pub left : h ≡ Sym f
  pub right : k ≡ Sym g
  pub related : R f g

equal_symbols : (h k : Head) → symbols_cmp h k ≡ Equal → AreSymbols h k (λ f g. f ≡ g)
equal_symbols (Var s i) k e = absurd (cc)
equal_symbols (Sym f) (Var u j) e = absurd (cc)
equal_symbols (Sym f) (Sym g) e = record { f = f; g = g; left = refl; right = refl; related = symbol_same f g (number_equal f.0 g.0 e) }

greater_symbols : (h k : Head) → symbols_cmp h k ≡ Greater → AreSymbols h k (λ f g. g.0 < f.0)
greater_symbols (Var s i) k e = absurd (cc)
greater_symbols (Sym f) (Var u j) e = absurd (cc)
greater_symbols (Sym f) (Sym g) e = record { f = f; g = g; left = refl; right = refl; related = number_greater f.0 g.0 e }

-- where the symbols are less, neither a greater symbol nor an argument makes the term greater
less_symbols : (parts : SigParts) (h k : Head) (ss ts : List Tree) → symbols_cmp h k ≡ Less → IsSymbol parts (tree_at h ss) (tree_at k ts) ⊎ IsArgument parts (tree_at h ss) (tree_at k ts) → ⊥
less_symbols parts (Var s i) k ss ts e (inl w) = var_no_app s i w.f w.ss w.was
less_symbols parts (Var s i) k ss ts e (inr w) = var_no_app s i w.f (w.before ++ w.x ∷ w.ss) w.was
less_symbols parts (Sym f) (Var u j) ss ts e (inl w) = var_no_app u j w.g w.ts w.is
less_symbols parts (Sym f) (Var u j) ss ts e (inr w) = var_no_app u j w.f (w.before ++ w.y ∷ w.ts) w.is
less_symbols parts (Sym f) (Sym g) ss ts e (inl w) =
    let a = ap (λ (z : SymId). z.0) (same_app f w.f ss w.ss w.was).0 in let b = ap (λ (z : SymId). z.0) (same_app g w.g ts w.ts w.is).0 in
    let l = number_less f.0 g.0 e in let m = w.less in omega (arith, a, b, l, m)
less_symbols parts (Sym f) (Sym g) ss ts e (inr w) =
    let a = ap (λ (z : SymId). z.0) (same_app f w.f ss (w.before ++ w.x ∷ w.ss) w.was).0 in
    let b = ap (λ (z : SymId). z.0) (same_app g w.f ts (w.before ++ w.y ∷ w.ts) w.is).0 in
    let l = number_less f.0 g.0 e in omega (arith, a, b, l)

module _ (bank : Terms) (parts : SigParts) (a b : Node) (w : AreComparable bank parts a b) where
  abbrev xs : List (Bor Node)
  xs = (out-Node a).args.now

  abbrev ys : List (Bor Node)
  ys = (out-Node b).args.now

  equal_weights : (out-Node a).weight ≡ (out-Node b).weight → weight parts (tree_of a) ≡ weight parts (tree_of b)
  equal_weights e = sym (left_weight bank parts a b w) ∙ e ∙ right_weight bank parts a b w

  less_weights : (out-Node a).weight < (out-Node b).weight → weight parts (tree_of a) < weight parts (tree_of b)
  less_weights h = subst₂ ◌<◌ (left_weight bank parts a b w) (right_weight bank parts a b w) h

  greater_weights : (out-Node b).weight < (out-Node a).weight → weight parts (tree_of b) < weight parts (tree_of a)
  greater_weights h = subst₂ ◌<◌ (right_weight bank parts a b w) (left_weight bank parts a b w) h

  abbrev Ways : Type 0
  Ways = (weight parts (tree_of b) < weight parts (tree_of a)) ⊎ (IsSymbol parts (tree_of a) (tree_of b) ⊎ IsArgument parts (tree_of a) (tree_of b))

  -- the roots say less

  weighs_less : weight parts (tree_of a) < weight parts (tree_of b) → Ways → ⊥
  weighs_less h (inl k) = omega (arith, h, k)
  weighs_less h (inr (inl i)) = let e = i.weighs in omega (arith, h, e)
  weighs_less h (inr (inr i)) = let e = i.weighs in omega (arith, h, e)

  has_less : weight parts (tree_of a) ≡ weight parts (tree_of b) → symbols_cmp (out-Node a).head (out-Node b).head ≡ Less → Ways → ⊥
  has_less e s (inl k) = omega (arith, e, k)
  has_less e s (inr i) = less_symbols parts (out-Node a).head (out-Node b).head (trees_of xs) (trees_of ys) s
      (subst₂ (λ u v. IsSymbol parts u v ⊎ IsArgument parts u v) (tree_of-out a) (tree_of-out b) i)

  less_no : kbo_cmp a b ≡ Less → Kbo parts (tree_of a) (tree_of b) → ⊥
  less_no e k = by (less_ways (out-Node a).weight (out-Node b).weight (symbols_cmp (out-Node a).head (out-Node b).head) e)
    where
      by : ((out-Node a).weight < (out-Node b).weight) ⊎ (((out-Node a).weight ≡ (out-Node b).weight) × (symbols_cmp (out-Node a).head (out-Node b).head ≡ Less)) → ⊥
      by (inl h) = weighs_less (less_weights h) (inverted k).ways
      by (inr h) = has_less (equal_weights h.0) h.1 (inverted k).ways

  -- the roots say greater

  as_symbols : (R : SymId → SymId → Type 0) (h : AreSymbols (out-Node a).head (out-Node b).head R) → (tree_of a ≡ tree.App h.f (trees_of xs)) × (tree_of b ≡ tree.App h.g (trees_of ys))
  as_symbols R h = (tree_of-out a ∙ ap (λ z. tree_at z (trees_of xs)) h.left, tree_of-out b ∙ ap (λ z. tree_at z (trees_of ys)) h.right)

  greater_yes : kbo_cmp a b ≡ Greater → HasVarsOf (tree_of a) (tree_of b) → Kbo parts (tree_of a) (tree_of b)
  greater_yes e v = by (greater_ways (out-Node a).weight (out-Node b).weight (symbols_cmp (out-Node a).head (out-Node b).head) e)
    where
      by : ((out-Node b).weight < (out-Node a).weight) ⊎ (((out-Node a).weight ≡ (out-Node b).weight) × (symbols_cmp (out-Node a).head (out-Node b).head ≡ Greater)) → Kbo parts (tree_of a) (tree_of b)
      by (inl h) = heavier (tree_of a) (tree_of b) v (greater_weights h)
      by (inr h) =
          let s = greater_symbols (out-Node a).head (out-Node b).head h.1 in
          let t = as_symbols (λ f g. g.0 < f.0) s in
          subst₂ (Kbo parts) (sym t.0) (sym t.1)
          (symbol s.f s.g (trees_of xs) (trees_of ys) (subst₂ HasVarsOf t.0 t.1 v) (subst₂ (λ u v. weight parts u ≡ weight parts v) t.0 t.1 (equal_weights h.0)) s.related)

  -- the arguments decide

  module _ (e : kbo_cmp a b ≡ Equal) where
    ways : ((out-Node a).weight ≡ (out-Node b).weight) × (symbols_cmp (out-Node a).head (out-Node b).head ≡ Equal)
    ways = equal_way (out-Node a).weight (out-Node b).weight (symbols_cmp (out-Node a).head (out-Node b).head) e

    symbols : AreSymbols (out-Node a).head (out-Node b).head (λ f g. f ≡ g)
    symbols = equal_symbols (out-Node a).head (out-Node b).head ways.1

    left_is : tree_of a ≡ tree.App symbols.f (trees_of xs)
    left_is = (as_symbols (λ f g. f ≡ g) symbols).0

    right_is : tree_of b ≡ tree.App symbols.f (trees_of ys)
    right_is = (as_symbols (λ f g. f ≡ g) symbols).1 ∙ ap (λ g. tree.App g (trees_of ys)) (sym symbols.related)

    -- what makes the term greater is an argument, and it is found
    pub record IsByArgument : Type 0 where
      pub s : Tree
      pub t : Tree
      pub found : IsFound xs ys s t
      pub greater : Kbo parts s t

    by_argument : Kbo parts (tree_of a) (tree_of b) → IsByArgument
    by_argument k = by (inverted k).ways
      where
        by : Ways → IsByArgument
        by (inl h) = let q = equal_weights ways.0 in absurd (omega (arith, h, q))
        by (inr (inl i)) =
            let p = ap (λ (z : SymId). z.0) (same_app symbols.f i.f (trees_of xs) i.ss (sym left_is ∙ i.was)).0 in
            let q = ap (λ (z : SymId). z.0) (same_app symbols.f i.g (trees_of ys) i.ts (sym right_is ∙ i.is)).0 in
            let m = i.less in absurd (omega (arith, p, q, m))
        by (inr (inr i)) =
            let p = (same_app symbols.f i.f (trees_of xs) (i.before ++ i.x ∷ i.ss) (sym left_is ∙ i.was)).1 in
            let q = (same_app symbols.f i.f (trees_of ys) (i.before ++ i.y ∷ i.ts) (sym right_is ∙ i.is)).1 in
            record {
              s = i.x;
              t = i.y;
              found = find bank w.shared i.before i.x i.y i.ss i.ts xs ys (below bank a w.left) (below bank b w.right) p q (λ same. not_itself parts i.x i.y same i.greater);
              greater = i.greater;
            }

    none_no : first_other xs ys ≡ None → Kbo parts (tree_of a) (tree_of b) → ⊥
    none_no f k = let r = by_argument k in let g = r.found.found in absurd (cc)

    argument_both : (l r : Bor Node) → HasVarsOf (tree_of a) (tree_of b) → first_other xs ys ≡ Some (l, r) → Kbo parts (tree_of a) (tree_of b) ↔ Kbo parts (tree_of l.now) (tree_of r.now)
    argument_both l r v f = (down, up)
      where
        down : Kbo parts (tree_of a) (tree_of b) → Kbo parts (tree_of l.now) (tree_of r.now)
        down k =
            let x = by_argument k in
            let p = some_is (x.found.l, x.found.r) (l, r) (sym x.found.found ∙ f) in
            subst (λ (z : Bor Node × Bor Node). Kbo parts (tree_of z.0.now) (tree_of z.1.now)) p (subst₂ (Kbo parts) (sym x.found.left) (sym x.found.right) x.greater)

        up : Kbo parts (tree_of l.now) (tree_of r.now) → Kbo parts (tree_of a) (tree_of b)
        up k =
            let x = around bank xs ys (below bank a w.left) (below bank b w.right) l r f in
            let p = left_is ∙ ap (tree.App symbols.f) x.left in
            let q = right_is ∙ ap (tree.App symbols.f) x.right in
            subst₂ (Kbo parts) (sym p) (sym q)
            (argument symbols.f x.before (tree_of l.now) (tree_of r.now) x.ss x.ts (subst₂ HasVarsOf p q v) (subst₂ (λ u v. weight parts u ≡ weight parts v) p q (equal_weights ways.0)) k)

  pub kbo_decided : KboIsDecided parts a b
  kbo_decided = record {
    less = less_no;
    variables = λ k. (inverted k).variables;
    greater = greater_yes;
    argument = λ l r e v f. argument_both e l r v f;
    none = λ e f k. none_no e f k;
  }
