-- Matching over terms.
use Rattle.std.proofs.Common.{◌≡◌, ◌≢◌, ℕ, suc, ◌+◌, ◌≤◌, ◌<◌, ◌⊎◌, inl, inr, Bool, true, false, ◌==◌, true≢false, List, [], ◌∷◌, ◌++◌, length, map, ap, sym, ◌∙◌, refl, subst, arith}
use Rattle.std.specs.Bool.{MatchBool}
use Rattle.std.proofs.lemmas.Bool.{eqb-true, eq-eqb}
use denote.Bor.{Bor}
use Rattle.law_sig.specs.Lists.{In, total}
use Rattle.law_sig.specs.Lists.In.{here, there}
use Rattle.law_sig.specs.Trees.{node_count, holes}
use Rattle.law_sig.specs.Chains.{bound_in}
use Rattle.law_sig.specs.declared.tree.SortId.{SortId}
use Rattle.law_sig.specs.declared.tree.SymId.{SymId}
use Rattle.law_sig.specs.declared.tree.Tree.{Tree}
use Rattle.law_sig.specs.declared.tree.Tree.TheVariants.{Var, App}
use Rattle.law_sig.specs.declared.chain.Bind.{Bind}
use Rattle.law_laws.proofs.ListFacts.{each_of, of_each, each_left, each_right, each_both, in_map, in_rest, in_none}
use Rattle.law_laws.proofs.TreeFacts.{tree_cases, nodes-App, nodes-Var}
use Rattle.law_rewriting.specs.Heads.{Sorts, head_sort}
use Rattle.law_rewriting.specs.Unifiers.{IsMatch, HasNoMatch}
use Rattle.law_rewriting.specs.UnifyingState.{Problems, both_args}
use Rattle.law_rewriting.specs.MatchingState.{IsMatching}
use Rattle.law_rewriting.proofs.Binds.{key, keyed, looked_up}
use Rattle.law_rewriting.proofs.Variables.{agreeing}
use Rattle.law_rewriting.proofs.Matches.{match_begun, match_done, match_split, match_stuck, match_clash, match_unlike, match_var, known_turn, other_term, other_sort_match, fresh_turn}
use Rattle.law_bank.specs.declared.node.Head.TheVariants as h'
use Rattle.law_bank.specs.declared.node.Node.{Node, out-Node}
use Rattle.law_bank.specs.Terms.{tree_of, trees_of, id_of}
use Rattle.law_bank.specs.Bank.{Terms, IsOf, AllOf, IsShared}
use Rattle.law_bank.specs.Bindings.{Binding, bind_of, binds_of, AreRising, with_binding}
use Rattle.law_bank.proofs.BankFacts.{var_tree, sym_tree, same_tree, same_id}
use Rattle.law_bank.proofs.BindingFacts.{put_in, in_put}
use Rattle.law_term.specs.Substs.{IsBound, IsFree, variable_of}
use Rattle.law_term.specs.Turns.{Pair, open_of, AllOpen, nodes, IsMatched, MatchNext}

-- The stack

open_push : (ps : List Pair) (p : Pair) → open_of (ps ++ p ∷ []) ≡ (tree_of p.0.now, tree_of p.1.now) ∷ open_of ps
open_push [] p = refl
open_push (q ∷ ps) p = ap (λ l. l ++ (tree_of q.0.now, tree_of q.1.now) ∷ []) (open_push ps p)

abbrev held_by : Terms → Pair → Type 0
held_by bank p = IsOf bank p.0.now × IsOf bank p.1.now

pub args_pushed : (x y : Bor Node) (xs ys rest more : List (Bor Node)) (old mid new : List Pair) → xs ≡ x ∷ rest → ys ≡ y ∷ more
    → open_of mid ≡ both_args (trees_of rest) (trees_of more) ++ open_of old → new ≡ mid ++ (x, y) ∷ []
    → open_of new ≡ both_args (trees_of xs) (trees_of ys) ++ open_of old
args_pushed x y xs ys rest more old mid new p q e d = ap open_of d ∙ open_push mid (x, y) ∙ ap (λ l. (tree_of x.now, tree_of y.now) ∷ l) e
    ∙ sym (λ i. both_args (trees_of (p i)) (trees_of (q i)) ++ open_of old)

pub args_held : (bank : Terms) (x y : Bor Node) (xs ys rest more : List (Bor Node)) (mid new : List Pair) → xs ≡ x ∷ rest → ys ≡ y ∷ more
    → AllOf bank xs → AllOf bank ys → (AllOf bank rest → AllOf bank more → AllOpen bank mid) → new ≡ mid ++ (x, y) ∷ [] → AllOpen bank new
args_held bank x y xs ys rest more mid new p q a b h d =
    let k = subst (AllOf bank) p a in let l = subst (AllOf bank) q b in
    subst (AllOpen bank) (sym d) (each_both (held_by bank) mid ((x, y) ∷ []) (h k.1 l.1) ((k.0, l.0), tt))

pub pop_open : (before rest : List Pair) (a b : Bor Node) → before ≡ rest ++ (a, b) ∷ [] → open_of before ≡ (tree_of a.now, tree_of b.now) ∷ open_of rest
pop_open before rest a b e = ap open_of e ∙ open_push rest (a, b)

pub pop_held : (bank : Terms) (before rest : List Pair) (a b : Bor Node) → AllOpen bank before → before ≡ rest ++ (a, b) ∷ []
    → AllOpen bank rest × IsOf bank a.now × IsOf bank b.now
pop_held bank before rest a b h e =
    let k = subst (AllOpen bank) e h in
    let top = (each_right (held_by bank) rest ((a, b) ∷ []) k).0 in
    (each_left (held_by bank) rest ((a, b) ∷ []) k, top.0, top.1)

trees_long : (xs : List (Bor Node)) → length (trees_of xs) ≡ length xs
trees_long [] = refl
trees_long (x ∷ xs) = ap suc (trees_long xs)

nodes_append : (ps qs : Problems) → nodes (ps ++ qs) ≡ nodes ps + nodes qs
nodes_append [] qs = omega arith
nodes_append (p ∷ ps) qs = let r = nodes_append ps qs in omega (arith, r)

nodes_args : (xs ys : List Tree) → nodes (both_args xs ys) ≤ total (map node_count xs) + total (map node_count ys)
nodes_args [] ys = omega arith
nodes_args (x ∷ xs) [] = omega arith
nodes_args (x ∷ xs) (y ∷ ys) = let r = nodes_args xs ys in omega (arith, r)

split_smaller : (f g : SymId) (xs ys : List Tree) (ps : Problems) → nodes (both_args xs ys ++ ps) < nodes ((App f xs, App g ys) ∷ ps)
split_smaller f g xs ys ps =
    let a = nodes_append (both_args xs ys) ps in let b = nodes_args xs ys in let c = nodes-App f xs in let d = nodes-App g ys in omega (arith, a, b, c, d)

some_nodes : (t : Tree) → 1 ≤ node_count t
some_nodes = tree_cases (λ t. 1 ≤ node_count t) (λ s i. let e = nodes-Var s i in omega (arith, e)) (λ f ts. let e = nodes-App f ts in omega (arith, e))

pub pop_smaller : (before rest : List Pair) (a b : Bor Node) → before ≡ rest ++ (a, b) ∷ [] → nodes (open_of rest) < nodes (open_of before)
pop_smaller before rest a b e = let k = ap nodes (pop_open before rest a b e) in let w = some_nodes (tree_of a.now) in omega (arith, k, w)

-- Matching under way, in whatever order bindings were made

with_matching : (r : Sorts) (p t : Tree) (ps qs : Problems) (binds : List Bind) → ((made : List Bind) → IsMatching r p t ps made → IsMatching r p t qs made)
    → IsMatched r p t ps binds → IsMatched r p t qs binds
with_matching r p t ps qs binds f g = record { made = g.made; matching = f g.made g.matching; kept = g.kept; only = g.only }

module _ (r : Sorts) (p t : Tree) (ps : Problems) (cs : List Bind) where
  pub went_true : (w : Bool) → MatchBool w (IsMatched r p t ps cs) (HasNoMatch r p t) → w ≡ true → IsMatched r p t ps cs
  went_true true h e = h
  went_true false h e = absurd (cc)

  pub went_false : (w : Bool) → MatchBool w (IsMatched r p t ps cs) (HasNoMatch r p t) → w ≡ false → HasNoMatch r p t
  went_false true h e = absurd (cc)
  went_false false h e = h

pub match_start : (r : Sorts) (a b : Bor Node) (xs ys : List Pair) (bs : List Binding) → xs ≡ [] → ys ≡ xs ++ (a, b) ∷ [] → bs ≡ []
    → IsMatched r (tree_of a.now) (tree_of b.now) (open_of ys) (binds_of bs)
match_start r a b xs ys bs e d f =
    subst (λ l. IsMatched r (tree_of a.now) (tree_of b.now) (open_of l) (binds_of bs)) (sym (d ∙ ap (λ l. l ++ (a, b) ∷ []) e))
    (subst (λ l. IsMatched r (tree_of a.now) (tree_of b.now) ((tree_of a.now, tree_of b.now) ∷ []) (binds_of l)) (sym f)
    (record { made = []; matching = match_begun r (tree_of a.now) (tree_of b.now); kept = λ x at. at; only = λ x at. at }))

-- the end: the bindings in order are a match
pub match_end : (r : Sorts) (p t : Tree) (left : List Pair) (bs : List Binding) → length left ≡ 0 → AreRising bs → IsMatched r p t (open_of left) (binds_of bs) → IsMatch r p t (binds_of bs)
match_end r p t (x ∷ left) bs e rising g = absurd (omega (arith, e))
match_end r p t [] bs e rising g =
    let m = match_done r p t g.made g.matching in
    record {
      gives = agreeing (bound_in (binds_of bs)) (bound_in g.made) p (λ s i at. same s i at) ∙ m.gives;
      sorted = each_of (λ (b : Bind). head_sort r b.term ≡ b.sort) (binds_of bs) (λ b at. of_each (λ (b : Bind). head_sort r b.term ≡ b.sort) (g.only b at) m.sorted);
      exact = λ s i. ((λ at. (m.exact s i).0 (fewer s i (keyed (binds_of bs) s i at))), (λ at. more s i (keyed g.made s i ((m.exact s i).1 at))));
    }
  where
    same : (s : SortId) (i : ℕ) → In i (holes s p) → bound_in (binds_of bs) s i ≡ bound_in g.made s i
    same s i at =
        let k = keyed g.made s i (((match_done r p t g.made g.matching).exact s i).1 at) in
        (λ j. bound_in (binds_of bs) (sym k.sort j) (sym k.index j)) ∙ looked_up (binds_of bs) rising k.bind (g.kept k.bind k.at)
        ∙ sym (of_each (λ (b : Bind). bound_in g.made b.sort b.index ≡ b.term) k.at g.matching.own) ∙ (λ j. bound_in g.made (k.sort j) (k.index j))

    fewer : (s : SortId) (i : ℕ) → Rattle.law_rewriting.proofs.Binds.Keyed (binds_of bs) s i → In {A = SortId × ℕ} (s, i) (map key g.made)
    fewer s i k = subst (λ (z : SortId × ℕ). In z (map key g.made)) (λ j. (k.sort j, k.index j)) (in_map key (g.only k.bind k.at))

    more : (s : SortId) (i : ℕ) → Rattle.law_rewriting.proofs.Binds.Keyed g.made s i → In {A = SortId × ℕ} (s, i) (map key (binds_of bs))
    more s i k = subst (λ (z : SortId × ℕ). In z (map key (binds_of bs))) (λ j. (k.sort j, k.index j)) (in_map key (g.kept k.bind k.at))

-- one pair was taken
module _ (r : Sorts) (p t : Tree) (bs : List Bind) (before rest : List Pair) (a b : Bor Node) (g : IsMatched r p t (open_of before) bs) (e : before ≡ rest ++ (a, b) ∷ []) where
  top : IsMatched r p t ((tree_of a.now, tree_of b.now) ∷ open_of rest) bs
  top = subst (λ l. IsMatched r p t l bs) (pop_open before rest a b e) g

  pub var_top : (s : SortId) (i : ℕ) → (out-Node a.now).head ≡ h'.Var s i → IsMatched r p t ((Var s i, tree_of b.now) ∷ open_of rest) bs
  var_top s i k = subst (λ z. IsMatched r p t ((z, tree_of b.now) ∷ open_of rest) bs) (var_tree a.now s i k) top

  pub sym_var : (f : SymId) (s : SortId) (i : ℕ) → (out-Node a.now).head ≡ h'.Sym f → (out-Node b.now).head ≡ h'.Var s i → HasNoMatch r p t
  sym_var f s i k l =
      let m = subst (λ z. IsMatched r p t (z ∷ open_of rest) bs) (λ j. (sym_tree a.now f k j, var_tree b.now s i l j)) top in
      match_stuck r p t (App f (trees_of (out-Node a.now).args.now)) (Var s i) (open_of rest) m.made m.matching (match_var r f (trees_of (out-Node a.now).args.now) s i)

  module _ (f h : SymId) (k : (out-Node a.now).head ≡ h'.Sym f) (l : (out-Node b.now).head ≡ h'.Sym h) where
    syms : IsMatched r p t ((App f (trees_of (out-Node a.now).args.now), App h (trees_of (out-Node b.now).args.now)) ∷ open_of rest) bs
    syms = subst (λ z. IsMatched r p t (z ∷ open_of rest) bs) (λ j. (sym_tree a.now f k j, sym_tree b.now h l j)) top

    pub other_symbol : f ≢ h → HasNoMatch r p t
    other_symbol n = match_stuck r p t (App f (trees_of (out-Node a.now).args.now)) (App h (trees_of (out-Node b.now).args.now)) (open_of rest) syms.made syms.matching
        (match_clash r f h (trees_of (out-Node a.now).args.now) (trees_of (out-Node b.now).args.now) n)

    pub other_count : (length (out-Node a.now).args.now ≡ length (out-Node b.now).args.now → ⊥) → HasNoMatch r p t
    other_count n = match_stuck r p t (App f (trees_of (out-Node a.now).args.now)) (App h (trees_of (out-Node b.now).args.now)) (open_of rest) syms.made syms.matching
        (match_unlike r f h (trees_of (out-Node a.now).args.now) (trees_of (out-Node b.now).args.now) (λ m. n (sym (trees_long (out-Node a.now).args.now) ∙ m ∙ trees_long (out-Node b.now).args.now)))

    pub args_open : (new : List Pair) → f ≡ h → length (out-Node a.now).args.now ≡ length (out-Node b.now).args.now
        → open_of new ≡ both_args (trees_of (out-Node a.now).args.now) (trees_of (out-Node b.now).args.now) ++ open_of rest → IsMatched r p t (open_of new) bs
    args_open new m n q = subst (λ w. IsMatched r p t w bs) (sym q)
        (with_matching r p t _ _ bs (λ made. match_split r p t f (trees_of (out-Node a.now).args.now) (trees_of (out-Node b.now).args.now) (open_of rest) made
        (trees_long (out-Node a.now).args.now ∙ n ∙ sym (trees_long (out-Node b.now).args.now)))
        (subst (λ x. IsMatched r p t ((App f (trees_of (out-Node a.now).args.now), App x (trees_of (out-Node b.now).args.now)) ∷ open_of rest) bs) (sym m) syms))

    pub args_fewer : (new : List Pair) → open_of new ≡ both_args (trees_of (out-Node a.now).args.now) (trees_of (out-Node b.now).args.now) ++ open_of rest
        → nodes (open_of new) < nodes (open_of before)
    args_fewer new q =
        let z = ap nodes (pop_open before rest a b e) in let y = ap nodes q in
        let x = split_smaller f h (trees_of (out-Node a.now).args.now) (trees_of (out-Node b.now).args.now) (open_of rest) in
        let u = ap node_count (sym_tree a.now f k) in let v = ap node_count (sym_tree b.now h l) in omega (arith, z, y, x, u, v)

-- A variable

pub match_known : (bank : Terms) (r : Sorts) (s : SortId) (i : ℕ) (old : List Binding) (known n : Bor Node) → IsShared bank → IsOf bank known.now → IsOf bank n.now → IsBound old s i known
    → (w : Bool) → w ≡ (id_of known.now == id_of n.now) → MatchNext r s i (tree_of n.now) old old w
match_known bank r s i old known n d a b h w e p t ps g = by w e
  where
    own : Bind
    own = record { sort = s; index = i; term = tree_of known.now }

    at : In own g.made
    at = g.only own (in_map bind_of h.bound)

    by : (w : Bool) → w ≡ (id_of known.now == id_of n.now) → MatchBool w (IsMatched r p t ps (binds_of old)) (HasNoMatch r p t)
    by true e = with_matching r p t _ _ (binds_of old) (λ made m. m) (record {
      made = g.made;
      matching = known_turn r p t s i (tree_of n.now) ps g.made g.matching own at refl refl (same_tree bank known.now n.now a b (eqb-true (id_of known.now) (id_of n.now) (sym e)));
      kept = g.kept;
      only = g.only;
    })
    by false e = other_term r p t s i (tree_of n.now) ps g.made g.matching own at refl refl
        (λ q. true≢false (sym (eq-eqb (id_of known.now) (id_of n.now) (same_id bank known.now n.now d a b q)) ∙ sym e))

pub record Unmapped (bs : List Binding) (b : Bind) : Type 0 where
  pub binding : Binding
  pub at : In binding bs
  pub is : bind_of binding ≡ b

unmap : (bs : List Binding) (b : Bind) → In b (binds_of bs) → Unmapped bs b
unmap [] b at = in_none at
unmap (x ∷ xs) b at = by (unmap xs b) (in_rest at)
  where
    by : (In b (binds_of xs) → Unmapped xs b) → (b ≡ bind_of x) ⊎ In b (binds_of xs) → Unmapped (x ∷ xs) b
    by later (inl e) = record { binding = x; at = here; is = sym e }
    by later (inr k) = let r = later k in record { binding = r.binding; at = there r.at; is = r.is }

variables_are : (bs : List Binding) → map key (binds_of bs) ≡ map variable_of bs
variables_are [] = refl
variables_are (b ∷ bs) = ap (λ l. variable_of b ∷ l) (variables_are bs)

pub match_fresh : (r : Sorts) (s : SortId) (i : ℕ) (old new : List Binding) (n : Bor Node) → IsFree old s i → head_sort r (tree_of n.now) ≡ s → new ≡ with_binding (s, i, n) old
    → (p t : Tree) (ps : Problems) → IsMatched r p t ((Var s i, tree_of n.now) ∷ ps) (binds_of old) → IsMatched r p t ps (binds_of new)
match_fresh r s i old new n free sorted e p t ps g = subst (λ l. IsMatched r p t ps (binds_of l)) (sym e) (record {
  made = own ∷ g.made;
  matching = fresh_turn r p t s i (tree_of n.now) ps g.made g.matching absent sorted;
  kept = λ b at. kept b (in_rest at);
  only = λ b at. only b (unmap (with_binding (s, i, n) old) b at);
})
  where
    own : Bind
    own = record { sort = s; index = i; term = tree_of n.now }

    absent : In {A = SortId × ℕ} (s, i) (map key g.made) → ⊥
    absent at =
        let k = keyed g.made s i at in
        free.absent (subst (In {A = SortId × ℕ} (s, i)) (variables_are old)
        (subst (λ (z : SortId × ℕ). In z (map key (binds_of old))) (λ j. (k.sort j, k.index j)) (in_map key (g.kept k.bind k.at))))

    kept : (b : Bind) → (b ≡ own) ⊎ In b g.made → In b (binds_of (with_binding (s, i, n) old))
    kept b (inl q) = subst (λ z. In z (binds_of (with_binding (s, i, n) old))) (sym q) (in_map bind_of (in_put (s, i, n) old free.absent (s, i, n) (inl refl)))
    kept b (inr k) =
        let u = unmap old b (g.kept b k) in
        subst (λ z. In z (binds_of (with_binding (s, i, n) old))) u.is (in_map bind_of (in_put (s, i, n) old free.absent u.binding (inr u.at)))

    only : (b : Bind) → Unmapped (with_binding (s, i, n) old) b → In b (own ∷ g.made)
    only b u = by (put_in (s, i, n) old u.binding u.at)
      where
        by : (u.binding ≡ (s, i, n)) ⊎ In u.binding old → In b (own ∷ g.made)
        by (inl q) = subst (λ z. In z (own ∷ g.made)) (sym (ap bind_of q) ∙ u.is) here
        by (inr k) = there (g.only b (subst (λ z. In z (binds_of old)) u.is (in_map bind_of k)))

sort_same : (s t : SortId) → s.0 ≡ t.0 → s ≡ t
sort_same s t e = ap (λ n. let x : SortId = record { 0 = n } in x) e

pub is_sorted : (r : Sorts) (u : Tree) (s w : SortId) → w ≡ head_sort r u → w.0 ≡ s.0 → head_sort r u ≡ s
is_sorted r u s w e d = sym e ∙ sort_same w s d

pub match_other_sort : (r : Sorts) (s w : SortId) (i : ℕ) (u : Tree) (bs : List Bind) → w ≡ head_sort r u → (w.0 ≡ s.0 → ⊥) → (p t : Tree) (ps : Problems) → IsMatched r p t ((Var s i, u) ∷ ps) bs → HasNoMatch r p t
match_other_sort r s w i u bs e n p t ps g = other_sort_match r p t s i u ps g.made g.matching (λ q. n (ap (λ (z : SortId). z.0) (e ∙ q)))

pub start_held : (bank : Terms) (a b : Bor Node) (xs ys : List Pair) → xs ≡ [] → ys ≡ xs ++ (a, b) ∷ [] → IsOf bank a.now → IsOf bank b.now → AllOpen bank ys
start_held bank a b xs ys e d p q = subst (AllOpen bank) (sym (d ∙ ap (λ l. l ++ (a, b) ∷ []) e)) ((p, q), tt)
