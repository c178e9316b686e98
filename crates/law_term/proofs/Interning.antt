-- A bank with one more node.
use Rattle.std.proofs.Common.{◌≡◌, ℕ, zero, suc, ◌+◌, ◌<◌, ◌⊎◌, inl, inr, ⊎_elim, Bool, true, false, cond, bytes_eq, List, [], ◌∷◌, ◌++◌, length, map, Vec, Some, None, slice_get, ap, sym, ◌∙◌, refl, subst, arith}
use Rattle.std.specs.declared.alloc.Global.{Global}
use Rattle.std.specs.Map.{lookup}
use Rattle.std.proofs.lemmas.List.{map-append, length-map}
use Rattle.std.proofs.lemmas.Option.{slice_get_within}
use denote.Bor.{Bor}
use lib.Pointwise.{bytes_decides}
use Rattle.law_sig.specs.Lists.{Each, In, total}
use Rattle.law_sig.specs.Lists.In.{here, there}
use Rattle.law_sig.specs.Trees.{node_count}
use Rattle.law_sig.specs.Tests.{weight}
use Rattle.law_sig.specs.declared.parts.SigParts.{SigParts}
use Rattle.law_sig.specs.declared.tree.SortId.{SortId}
use Rattle.law_sig.specs.declared.tree.SymId.{SymId}
use Rattle.law_sig.specs.declared.tree.Tree.{Tree}
use Rattle.law_laws.proofs.ListFacts.{each_both, each_map, of_each}
use Rattle.law_laws.proofs.TreeFacts.{nodes-Var, nodes-App}
use Rattle.law_rewriting.specs.Heads.{head_sort}
use Rattle.law_bank.specs.declared.node.Head.{Head}
use Rattle.law_bank.specs.declared.node.Head.TheVariants.{Var, Sym}
use Rattle.law_bank.specs.declared.node.Node.{Node, out-Node, roll-out-Node}
use Rattle.law_bank.specs.Terms.{tree_at, tree_of, trees_of, id_of, ids_of, Fits}
use Rattle.law_bank.specs.Bank.{Terms, IsHere, IsOf, AllOf, IsShared, capped, sorts_by, with_trees}
use Rattle.law_bank.proofs.BankFacts.{tree_of-out, fits_trees, made, named, tree_key, all_stay}
use Rattle.law_term.specs.Keys.{key, key_of}
use Rattle.law_term.specs.Inside.{Entry, nodes_of}

-- Keys

pub key_more : (h : Head) (ids : List ℕ) → key h [] ++ ids ≡ key h ids
key_more (Var s i) ids = refl
key_more (Sym f) ids = refl

sort_same : (s t : SortId) → s.0 ≡ t.0 → s ≡ t
sort_same s t e = ap (λ n. let x : SortId = record { 0 = n } in x) e

symbol_same : (f g : SymId) → f.0 ≡ g.0 → f ≡ g
symbol_same f g e = ap (λ n. let x : SymId = record { 0 = n } in x) e

pub one_key : (h k : Head) (is js : List ℕ) → key h is ≡ key k js → (h ≡ k) × (is ≡ js)
one_key (Var s i) (Var t j) is js e =
    let a : s.0 ≡ t.0 = cc in let b : i ≡ j = cc in let c : is ≡ js = cc in
    ((λ x. Var (sort_same s t a x) (b x)), c)
one_key (Var s i) (Sym g) is js e = absurd (cc)
one_key (Sym f) (Var t j) is js e = absurd (cc)
one_key (Sym f) (Sym g) is js e =
    let a : f.0 ≡ g.0 = cc in let c : is ≡ js = cc in
    (ap Sym (symbol_same f g a), c)

-- Look-ups

pub record Found (test : Vec ℕ Global → Bool) (entries : List Entry) (t : Bor Node) : Type 0 where
  pub at : Vec ℕ Global
  pub passes : test at ≡ true
  pub in_entries : In {A = Entry} (at, t) entries

pub found : (test : Vec ℕ Global → Bool) (entries : List Entry) (t : Bor Node) → lookup test entries ≡ Some t → Found test entries t
found test [] t e = cc
found test (x ∷ xs) t e = by (found test xs t) (test x.0) refl e
  where
    by : (lookup test xs ≡ Some t → Found test xs t) → (b : Bool) → test x.0 ≡ b → cond b (Some x.1) (lookup test xs) ≡ Some t → Found test (x ∷ xs) t
    by later true q k = let r : x.1 ≡ t = cc in record { at = x.0; passes = q; in_entries = subst (λ z. In {A = Entry} (x.0, z) (x ∷ xs)) r here }
    by later false q k = let r = later k in record { at = r.at; passes = r.passes; in_entries = there r.in_entries }

pub absent : (test : Vec ℕ Global → Bool) (entries : List Entry) → lookup test entries ≡ None → Each (λ (e : Entry). test e.0 ≡ false) entries
absent test [] e = tt
absent test (x ∷ xs) e = by (absent test xs) (test x.0) refl e
  where
    by : (lookup test xs ≡ None → Each (λ (e : Entry). test e.0 ≡ false) xs) → (b : Bool) → test x.0 ≡ b → cond b (Some x.1) (lookup test xs) ≡ None → Each (λ (e : Entry). test e.0 ≡ false) (x ∷ xs)
    by later true q k = cc
    by later false q k = (q, later k)

-- whether two keys are the same
abbrev pub same_key : Vec ℕ Global → Vec ℕ Global → Bool
same_key v w = bytes_eq v.items w.items

abbrev pub IsKeyed : Entry → Type 0
IsKeyed e = e.0.items ≡ key_of e.1.now

-- what is found under a key has it
pub found_key : (k : Vec ℕ Global) (entries : List Entry) → Each IsKeyed entries → (t : Bor Node) → Found (same_key k) entries t → key_of t.now ≡ k.items
found_key k entries keyed t f = sym (of_each IsKeyed f.in_entries keyed) ∙ sym ((bytes_decides k.items f.at.items).0 f.passes)

pub fresh : (k : Vec ℕ Global) (h : Head) (ids : List ℕ) → k.items ≡ key h ids → (entries : List Entry) → Each IsKeyed entries
    → Each (λ (e : Entry). same_key k e.0 ≡ false) entries → Each (λ (n : Bor Node). key_of n.now ≡ key h ids → ⊥) (nodes_of entries)
fresh k h ids is [] keyed none = tt
fresh k h ids is (e ∷ es) keyed none =
    ((λ same. let yes = (bytes_decides k.items e.0.items).1 (is ∙ sym same ∙ sym keyed.0) in let no_key = none.0 in cc), fresh k h ids is es keyed.1 none.1)

-- One more node

pub nodes_at : (h : Head) (ts : List Tree) → Fits h ts → node_count (tree_at h ts) ≡ 1 + total (map node_count ts)
nodes_at (Var s i) ts e = nodes-Var s i ∙ sym (ap (λ l. 1 + total (map node_count l)) e)
nodes_at (Sym f) ts e = nodes-App f ts

abbrev pub terms : List SortId → List ℕ → List (Bor Node) → Terms
terms sorts weights ns = record { sorts = sorts; weights = weights; trees = trees_of ns }

-- a tree of the bank is that of one of its nodes
tree_from : (ns : List (Bor Node)) (i : ℕ) (t : Tree) → slice_get (trees_of ns) i ≡ Some t → (b : Bor Node) × In b ns × (tree_of b.now ≡ t)
tree_from [] i t e = cc
tree_from (b ∷ ns) zero t e = (b, here, cc)
tree_from (b ∷ ns) (suc i) t e = let r = tree_from ns i t e in (r.0, there r.1, r.2)

get_end : {A : Type 0} (xs : List A) (x : A) → slice_get (xs ++ x ∷ []) (length xs) ≡ Some x
get_end [] x = refl
get_end (y ∷ xs) x = get_end xs x

-- a place of a list with one more item is an old place or the new one
get_more : {A : Type 0} (xs : List A) (y : A) (i : ℕ) (x : A) → slice_get (xs ++ y ∷ []) i ≡ Some x → (slice_get xs i ≡ Some x) ⊎ ((i ≡ length xs) × (y ≡ x))
get_more [] y zero x e = inr (refl, cc)
get_more [] y (suc i) x e = cc
get_more (z ∷ xs) y zero x e = inl e
get_more (z ∷ xs) y (suc i) x e = ⊎_elim (λ h. inl h) (λ h. inr (ap suc h.0, h.1)) (get_more xs y i x e)

-- t is a new node over terms of the bank, where no node has its key
pub record IsNew (sorts : List SortId) (weights : List ℕ) (ns : List (Bor Node)) (h : Head) (bs : List (Bor Node)) (t : Bor Node) : Type 0 where
  pub held : AllOf (terms sorts weights ns) ns
  pub shared : IsShared (terms sorts weights ns)
  pub fits : Fits h bs
  pub over : AllOf (terms sorts weights ns) bs
  pub id : (out-Node t.now).id ≡ length ns
  pub head : (out-Node t.now).head ≡ h
  pub args : (out-Node t.now).args.now ≡ bs
  pub size : (out-Node t.now).size ≡ capped (1 + total (map node_count (trees_of bs)))
  pub weight : (parts : SigParts) → parts.settings.weights ≡ weights → (out-Node t.now).weight ≡ capped (weight parts (tree_at h (trees_of bs)))
  pub sort : (out-Node t.now).sort ≡ head_sort (sorts_by sorts) (tree_at h (trees_of bs))
  pub fresh : Each (λ (n : Bor Node). key_of n.now ≡ key h (ids_of bs) → ⊥) ns

module _ (sorts : List SortId) (weights : List ℕ) (ns : List (Bor Node)) (h : Head) (bs : List (Bor Node)) (t : Bor Node) (w : IsNew sorts weights ns h bs t) where
  pub new_tree : tree_of t.now ≡ tree_at h (trees_of bs)
  new_tree = tree_of-out t.now ∙ ap (λ z. tree_at z (trees_of (out-Node t.now).args.now)) w.head ∙ ap (λ z. tree_at h (trees_of z)) w.args

  abbrev old_terms : Terms
  old_terms = terms sorts weights ns

  abbrev more_terms : Terms
  more_terms = with_trees old_terms (tree_of t.now ∷ [])

  pub grown : terms sorts weights (ns ++ t ∷ []) ≡ more_terms
  grown = ap (λ l. let z : Terms = record { sorts = sorts; weights = weights; trees = l } in z) (map-append (λ (b : Bor Node). tree_of b.now) ns (t ∷ []))

  new_here : slice_get more_terms.trees (id_of t.now) ≡ Some (tree_of t.now)
  new_here = ap (λ i. slice_get more_terms.trees i) (w.id ∙ sym (length-map {A = Bor Node} ns (λ (b : Bor Node). tree_of b.now))) ∙ get_end (trees_of ns) (tree_of t.now)

  before : (b : Bor Node) → IsOf old_terms b.now → id_of b.now < (out-Node t.now).id
  before b p =
      let k = slice_get_within (trees_of ns) (id_of b.now) (tree_of b.now) (named old_terms b.now p) in
      let n = length-map {A = Bor Node} ns (λ (b : Bor Node). tree_of b.now) in
      let e = w.id in omega arith

  abbrev again : (P : Node → Type 0) → P t.now → P (Rattle.law_bank.specs.declared.node.Node.roll-Node (out-Node t.now))
  again P = subst P (sym (roll-out-Node t.now))

  is_here : IsHere more_terms (out-Node t.now)
  is_here = record {
    named = again (λ m. slice_get more_terms.trees (id_of t.now) ≡ Some (tree_of m)) new_here;
    fits = subst (λ z. Fits z (out-Node t.now).args.now) (sym w.head) (subst (λ z. Fits h z) (sym w.args) w.fits);
    earlier = subst (Each (λ (b : Bor Node). id_of b.now < (out-Node t.now).id)) (sym w.args)
        (each_map (λ (b : Bor Node). IsOf old_terms b.now) (λ (b : Bor Node). id_of b.now < (out-Node t.now).id) before bs w.over);
    size = again (λ m. (out-Node t.now).size ≡ capped (node_count (tree_of m)))
        (w.size ∙ ap capped (sym (ap node_count new_tree ∙ nodes_at h (trees_of bs) (fits_trees h bs w.fits))));
    weight = λ parts e. again (λ m. (out-Node t.now).weight ≡ capped (weight parts (tree_of m))) (w.weight parts e ∙ ap (λ u. capped (weight parts u)) (sym new_tree));
    sort = again (λ m. (out-Node t.now).sort ≡ head_sort (sorts_by sorts) (tree_of m)) (w.sort ∙ ap (head_sort (sorts_by sorts)) (sym new_tree));
  }

  pub is_of : IsOf (terms sorts weights (ns ++ t ∷ [])) t.now
  is_of = subst (λ z. IsOf z t.now) (sym grown)
      (made more_terms t.now (all_stay old_terms more_terms _ (tree_of t.now ∷ [], refl) (subst (λ z. AllOf old_terms z) (sym w.args) w.over)) is_here)

  pub all_of : AllOf (terms sorts weights (ns ++ t ∷ [])) (ns ++ t ∷ [])
  all_of = each_both (λ (b : Bor Node). IsOf (terms sorts weights (ns ++ t ∷ [])) b.now) ns (t ∷ [])
      (all_stay old_terms (terms sorts weights (ns ++ t ∷ [])) ns (tree_of t.now ∷ [], grown) w.held) (is_of, tt)

  is_other : (i : ℕ) (u : Tree) → slice_get (trees_of ns) i ≡ Some u → tree_of t.now ≡ u → ⊥
  is_other i u e s =
      let f = tree_from ns i u e in
      let same = tree_key old_terms f.0.now h bs w.shared w.fits (of_each (λ (b : Bor Node). IsOf old_terms b.now) f.1 w.held) w.over (f.2 ∙ sym s ∙ new_tree) in
      of_each (λ (n : Bor Node). key_of n.now ≡ key h (ids_of bs) → ⊥) f.1 w.fresh (λ x. key (same.0 x) (same.1 x))

  pub shared : IsShared (terms sorts weights (ns ++ t ∷ []))
  shared = subst IsShared (sym grown) (λ i j u p q.
      ⊎_elim
      (λ a. ⊎_elim (λ b. w.shared i j u a b) (λ b. absurd (is_other i u a b.1)) (get_more (trees_of ns) (tree_of t.now) j u q))
      (λ a. ⊎_elim (λ b. absurd (is_other j u b a.1)) (λ b. a.0 ∙ sym b.0) (get_more (trees_of ns) (tree_of t.now) j u q))
      (get_more (trees_of ns) (tree_of t.now) i u p))

-- The table with one more entry

pub record IsPut (sorts : List SortId) (weights : List ℕ) (old new : List Entry) (h : Head) (bs : List (Bor Node)) (t : Bor Node) : Type 0 where
  pub held : AllOf (terms sorts weights (nodes_of new)) (nodes_of new)
  pub shared : IsShared (terms sorts weights (nodes_of new))
  pub keyed : Each IsKeyed new
  pub is_of : IsOf (terms sorts weights (nodes_of new)) t.now
  pub grows : terms sorts weights (nodes_of new) ≡ with_trees (terms sorts weights (nodes_of old)) (tree_of t.now ∷ [])

pub put : (sorts : List SortId) (weights : List ℕ) (old new : List Entry) (k : Vec ℕ Global) (h : Head) (bs : List (Bor Node)) (t : Bor Node)
    → IsNew sorts weights (nodes_of old) h bs t → k.items ≡ key h (ids_of bs) → Each IsKeyed old → new ≡ old ++ (k, t) ∷ [] → IsPut sorts weights old new h bs t
put sorts weights old new k h bs t w is keyed e =
    let more : nodes_of new ≡ nodes_of old ++ t ∷ [] = ap nodes_of e ∙ map-append (λ (x : Entry). x.1) old ((k, t) ∷ []) in
    record {
      held = subst (λ l. AllOf (terms sorts weights l) l) (sym more) (all_of sorts weights (nodes_of old) h bs t w);
      shared = subst (λ l. IsShared (terms sorts weights l)) (sym more) (shared sorts weights (nodes_of old) h bs t w);
      keyed = subst (Each IsKeyed) (sym e) (each_both IsKeyed old ((k, t) ∷ []) keyed (is ∙ sym (λ x. key (w.head x) (ids_of (w.args x))), tt));
      is_of = subst (λ l. IsOf (terms sorts weights l) t.now) (sym more) (is_of sorts weights (nodes_of old) h bs t w);
      grows = ap (terms sorts weights) more ∙ grown sorts weights (nodes_of old) h bs t w;
    }
