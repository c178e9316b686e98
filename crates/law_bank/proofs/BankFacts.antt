-- What the terms of a bank have in common.
use Rattle.std.proofs.Common.{◌≡◌, ℕ, zero, suc, List, [], ◌∷◌, ◌++◌, map, ap, sym, ◌∙◌, refl, subst, Some, append_assoc, append-nil}
use Rattle.std.specs.List.{slice_get, slice_index_or}
use Rattle.std.proofs.lemmas.Simd.{map-map}
use denote.Bor.{Bor}
use Rattle.law_sig.specs.Lists.{Each}
use Rattle.law_sig.specs.Trees.{node_count}
use Rattle.law_sig.specs.Signature.{result_of}
use Rattle.law_sig.specs.Tests.{weight}
use Rattle.law_sig.specs.declared.parts.SigParts.{SigParts}
use Rattle.law_sig.specs.declared.parts.Sym.{Sym as Symbol}
use Rattle.law_rewriting.specs.Heads.{head_sort, result_or_first}
use Rattle.law_sig.specs.declared.tree.SortId.{SortId}
use Rattle.law_sig.specs.declared.tree.SymId.{SymId}
use Rattle.law_sig.specs.declared.tree.Tree.{Tree}
use Rattle.law_sig.specs.declared.tree.Tree.TheVariants as tree
use Rattle.law_laws.proofs.TreeFacts.{same_var, same_app, var_no_app}
use Rattle.law_bank.specs.declared.node.Head.{Head}
use Rattle.law_bank.specs.declared.node.Head.TheVariants.{Var, Sym}
use Rattle.law_bank.specs.declared.node.Node.{Node, Node-F, every-Node, every_here-Node, every_held-Node, every_made-Node, map-Node, fold_out-Node, out-Node, roll-Node, out-roll-Node, roll-out-Node}
use Rattle.law_bank.specs.declared.node.Node.TheFolds.{ind-Node}
use Rattle.law_bank.specs.Terms.{tree_at, tree_step, tree_of, trees_of, id_of, ids_of, Fits}
use Rattle.law_bank.specs.Bank.{Terms, IsHere, IsOf, AllOf, IsShared, Grows, with_trees, capped, sorts_by}

abbrev Of : Terms → Type 0
Of bank = (x : Node) × every-Node (IsHere bank) x

-- the terms of a list, each with its proof
abbrev paired : (bank : Terms) (bs : List (Bor Node)) → AllOf bank bs → List (Bor (Of bank))
paired bank [] a = []
paired bank (b ∷ bs) a = record { ref_ptr = b.ref_ptr; now = (b.now, a.0) } ∷ paired bank bs a.1

abbrev first_of_pair : (bank : Terms) → Bor (Of bank) → Bor Node
first_of_pair bank b = record { ref_ptr = b.ref_ptr; now = b.now.0 }

paired_first : (bank : Terms) (bs : List (Bor Node)) (a : AllOf bank bs) → map (first_of_pair bank) (paired bank bs a) ≡ bs
paired_first bank [] a = refl
paired_first bank (b ∷ bs) a = ap (λ z. b ∷ z) (paired_first bank bs a.1)

all_first : (bank : Terms) (bs : List (Bor (Of bank))) → AllOf bank (map (first_of_pair bank) bs)
all_first bank [] = tt
all_first bank (b ∷ bs) = (b.now.1, all_first bank bs)

-- the tree of a node, by its head and its arguments
pub tree_of-out : (n : Node) → tree_of n ≡ tree_at (out-Node n).head (trees_of (out-Node n).args.now)
tree_of-out n = fold_out-Node Tree tree_step n ∙ ap (tree_at (out-Node n).head) (map-map (λ (b : Bor Tree). b.now) (λ (b : Bor Node). record { ref_ptr = b.ref_ptr; now = tree_of b.now }) (out-Node n).args.now)

pub var_tree : (n : Node) (s : SortId) (i : ℕ) → (out-Node n).head ≡ Var s i → tree_of n ≡ tree.Var s i
var_tree n s i e = tree_of-out n ∙ ap (λ h. tree_at h (trees_of (out-Node n).args.now)) e

pub sym_tree : (n : Node) (f : SymId) → (out-Node n).head ≡ Sym f → tree_of n ≡ tree.App f (trees_of (out-Node n).args.now)
sym_tree n f e = tree_of-out n ∙ ap (λ h. tree_at h (trees_of (out-Node n).args.now)) e

-- the facts of a term of a bank, at its root
pub here : (bank : Terms) (n : Node) → IsOf bank n → IsHere bank (out-Node n)
here bank n h = every_here-Node (IsHere bank) n h

pub named : (bank : Terms) (n : Node) → IsOf bank n → slice_get bank.trees (id_of n) ≡ Some (tree_of n)
named bank n h = (here bank n h).named ∙ ap (λ m. Some (tree_of m)) (roll-out-Node n)

-- the arguments of a term of a bank are of the bank
pub below : (bank : Terms) (n : Node) → IsOf bank n → AllOf bank (out-Node n).args.now
below bank n h =
    let (x, e) = every_held-Node (IsHere bank) n h in
    subst (λ z. AllOf bank z) (ap (λ (m : Node-F Node). m.args.now) e) (all_first bank x.args.now)

-- a term over terms of the bank is of the bank where the facts hold at its root
pub made : (bank : Terms) (n : Node) → AllOf bank (out-Node n).args.now → IsHere bank (out-Node n) → IsOf bank n
made bank n a h =
    let o = out-Node n in
    let y : Node-F (Of bank) = record { id = o.id; head = o.head; args = record { ref_ptr = o.args.ref_ptr; now = paired bank o.args.now a }; size = o.size; weight = o.weight; sort = o.sort } in
    let e : map-Node (Of bank) Node (λ z. z.0) y ≡ o = ap (λ z. let m : Node-F Node = record o { args = record { ref_ptr = o.args.ref_ptr; now = z } } in m) (paired_first bank o.args.now a) in
    subst (λ m. IsOf bank m) (roll-out-Node n) (every_made-Node (IsHere bank) o y e h)

-- Same id, same tree

pub same_tree : (bank : Terms) (m n : Node) → IsOf bank m → IsOf bank n → id_of m ≡ id_of n → tree_of m ≡ tree_of n
same_tree bank m n p q e =
    let f : Some (tree_of m) ≡ Some (tree_of n) = sym (named bank m p) ∙ ap (λ i. slice_get bank.trees i) e ∙ named bank n q in cc

pub same_id : (bank : Terms) (m n : Node) → IsShared bank → IsOf bank m → IsOf bank n → tree_of m ≡ tree_of n → id_of m ≡ id_of n
same_id bank m n d p q e = d (id_of m) (id_of n) (tree_of m) (named bank m p) (named bank n q ∙ ap Some (sym e))

same_trees : (bank : Terms) (ms ns : List (Bor Node)) → AllOf bank ms → AllOf bank ns → ids_of ms ≡ ids_of ns → trees_of ms ≡ trees_of ns
same_trees bank [] [] p q e = refl
same_trees bank [] (n ∷ ns) p q e = cc
same_trees bank (m ∷ ms) [] p q e = cc
same_trees bank (m ∷ ms) (n ∷ ns) p q e =
    let h : id_of m.now ≡ id_of n.now = cc in
    let t : ids_of ms ≡ ids_of ns = cc in
    let x = same_tree bank m.now n.now p.0 q.0 h in
    let y = same_trees bank ms ns p.1 q.1 t in
    ap (λ z. z ∷ trees_of ms) x ∙ ap (λ z. tree_of n.now ∷ z) y

same_ids : (bank : Terms) (ms ns : List (Bor Node)) → IsShared bank → AllOf bank ms → AllOf bank ns → trees_of ms ≡ trees_of ns → ids_of ms ≡ ids_of ns
same_ids bank [] [] d p q e = refl
same_ids bank [] (n ∷ ns) d p q e = cc
same_ids bank (m ∷ ms) [] d p q e = cc
same_ids bank (m ∷ ms) (n ∷ ns) d p q e =
    let h : tree_of m.now ≡ tree_of n.now = cc in
    let t : trees_of ms ≡ trees_of ns = cc in
    let x = same_id bank m.now n.now d p.0 q.0 h in
    let y = same_ids bank ms ns d p.1 q.1 t in
    ap (λ z. z ∷ ids_of ms) x ∙ ap (λ z. id_of n.now ∷ z) y

-- terms of one bank that have one head and arguments of the same ids are one tree, and the other way round
pub key_tree : (bank : Terms) (m : Node) → IsOf bank m → (h : Head) (bs : List (Bor Node)) → AllOf bank bs
    → (out-Node m).head ≡ h → ids_of (out-Node m).args.now ≡ ids_of bs → tree_of m ≡ tree_at h (trees_of bs)
key_tree bank m p h bs q eh ei =
    tree_of-out m ∙ ap (λ z. tree_at z (trees_of (out-Node m).args.now)) eh ∙ ap (tree_at h) (same_trees bank (out-Node m).args.now bs (below bank m p) q ei)

heads_same : (h k : Head) (ss ts : List Tree) → Fits h ss → Fits k ts → tree_at h ss ≡ tree_at k ts → (h ≡ k) × (ss ≡ ts)
heads_same (Var s i) (Var t j) ss ts p q e = let r = same_var s t i j e in ((λ x. Var (r.0 x) (r.1 x)), p ∙ sym q)
heads_same (Var s i) (Sym g) ss ts p q e = absurd (var_no_app s i g ts e)
heads_same (Sym f) (Var t j) ss ts p q e = absurd (var_no_app t j f ss (sym e))
heads_same (Sym f) (Sym g) ss ts p q e = let r = same_app f g ss ts e in (ap Sym r.0, r.1)

pub fits_trees : (h : Head) (bs : List (Bor Node)) → Fits h bs → Fits h (trees_of bs)
fits_trees (Var s i) bs e = ap trees_of e
fits_trees (Sym f) bs e = tt

pub tree_key : (bank : Terms) (m : Node) (h : Head) (bs : List (Bor Node)) → IsShared bank → Fits h bs → IsOf bank m → AllOf bank bs
    → tree_of m ≡ tree_at h (trees_of bs) → ((out-Node m).head ≡ h) × (ids_of (out-Node m).args.now ≡ ids_of bs)
tree_key bank m h bs d f p q e =
    let r = heads_same (out-Node m).head h (trees_of (out-Node m).args.now) (trees_of bs) (fits_trees _ _ (here bank m p).fits) (fits_trees h bs f) (sym (tree_of-out m) ∙ e) in
    (r.0, same_ids bank (out-Node m).args.now bs d (below bank m p) q r.1)

-- A bank grows

pub get_left : {A : Type 0} (xs ys : List A) (i : ℕ) (x : A) → slice_get xs i ≡ Some x → slice_get (xs ++ ys) i ≡ Some x
get_left [] ys i x e = cc
get_left (y ∷ xs) ys zero x e = e
get_left (y ∷ xs) ys (suc i) x e = get_left xs ys i x e

-- P holds of each term of a list
abbrev pub AllP : (Node → Type 0) → List (Bor Node) → Type 0
AllP P bs = Each (λ (b : Bor Node). P b.now) bs

all_such : (P : Node → Type 0) (bs : List (Bor ((n : Node) × P n))) → AllP P (map (λ (b : Bor ((n : Node) × P n)). let r : Bor Node = record { ref_ptr = b.ref_ptr; now = b.now.0 } in r) bs)
all_such P [] = tt
all_such P (b ∷ bs) = (b.now.1, all_such P bs)

-- what holds of a term where it holds of its arguments holds of each term
pub induct : (P : Node → Type 0) → ((n : Node) → AllP P (out-Node n).args.now → P n) → (n : Node) → P n
induct P step = ind-Node P (λ x y is.
    let a : AllP P x.args.now = subst (λ (z : Node-F Node). AllP P z.args.now) is (all_such P y.args.now) in
    step (roll-Node x) (subst (λ (z : Node-F Node). AllP P z.args.now) (sym (out-roll-Node x)) a))

all_through : (old new : Terms) (bs : List (Bor Node)) → AllP (λ n. IsOf old n → IsOf new n) bs → AllOf old bs → AllOf new bs
all_through old new [] h a = tt
all_through old new (b ∷ bs) h a = (h.0 a.0, all_through old new bs h.1 a.1)

more_stays : (bank : Terms) (more : List Tree) (n : Node) → IsOf bank n → IsOf (with_trees bank more) n
more_stays bank more = induct (λ n. IsOf bank n → IsOf (with_trees bank more) n) (λ n a h.
    let q = here bank n h in
    made (with_trees bank more) n (all_through bank (with_trees bank more) (out-Node n).args.now a (below bank n h))
    (record { named = get_left bank.trees more _ _ q.named; fits = q.fits; earlier = q.earlier; size = q.size; weight = q.weight; sort = q.sort }))

-- a term of a bank stays one
pub stays : (old new : Terms) (n : Node) → Grows old new → IsOf old n → IsOf new n
stays old new n g h = subst (λ z. IsOf z n) (sym g.1) (more_stays old g.0 n h)

pub all_stay : (old new : Terms) (bs : List (Bor Node)) → Grows old new → AllOf old bs → AllOf new bs
all_stay old new [] g a = tt
all_stay old new (b ∷ bs) g a = (stays old new b.now g a.0, all_stay old new bs g a.1)

pub grows_none : (bank : Terms) → Grows bank bank
grows_none bank = ([], ap (λ l. let z : Terms = record { sorts = bank.sorts; weights = bank.weights; trees = l } in z) (sym (append-nil bank.trees)))

pub grows_on : (a b c : Terms) → Grows a b → Grows b c → Grows a c
grows_on a b c g h = (g.0 ++ h.0, h.1 ∙ ap (λ z. with_trees z h.0) g.1 ∙ ap (λ l. let z : Terms = record { sorts = a.sorts; weights = a.weights; trees = l } in z) (append_assoc a.trees g.0 h.0))

-- What a term tells of its tree

pub size_is : (bank : Terms) (n : Node) → IsOf bank n → (out-Node n).size ≡ capped (node_count (tree_of n))
size_is bank n h = (here bank n h).size ∙ ap (λ m. capped (node_count (tree_of m))) (roll-out-Node n)

pub weight_is : (bank : Terms) (parts : SigParts) (n : Node) → IsOf bank n → parts.settings.weights ≡ bank.weights → (out-Node n).weight ≡ capped (weight parts (tree_of n))
weight_is bank parts n h e = (here bank n h).weight parts e ∙ ap (λ m. capped (weight parts (tree_of m))) (roll-out-Node n)

pub sort_is : (bank : Terms) (n : Node) → IsOf bank n → (out-Node n).sort ≡ head_sort (sorts_by bank.sorts) (tree_of n)
sort_is bank n h = (here bank n h).sort ∙ ap (λ m. head_sort (sorts_by bank.sorts) (tree_of m)) (roll-out-Node n)

pub sorts_are : (symbols : List Symbol) (n : ℕ) → result_or_first (slice_get symbols n) ≡ slice_index_or (map result_of symbols) n (record { 0 = 0 })
sorts_are [] n = refl
sorts_are (x ∷ xs) zero = refl
sorts_are (x ∷ xs) (suc n) = sorts_are xs n
