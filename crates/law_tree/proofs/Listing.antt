-- The lists of children, and the lines below a node.
use Rattle.std.proofs.Common.{◌≡◌, ◌≢◌, ℕ, zero, suc, ◌<◌, ◌≤◌, ◌+◌, ◌-◌, ◌==◌, if◌then◌else◌, ◌⊎◌, inl, inr, List, [], ◌∷◌, ◌++◌, length, map, reverse, take, drop, true, false, slice_set, slice_index_or, Option, Some, None, option_map, option_and_then, sym, ap, ◌∙◌, subst, refl, arith, length-append, append_assoc, append-nil}
use Rattle.std.specs.List.{slice_get}
use Rattle.std.proofs.lemmas.List.{length-set, length-take, length-drop, take-append-drop, reverse-append, reverse-reverse, length-reverse}
use Rattle.std.proofs.lemmas.Option.{slice_get-map, slice_get-get_or, get_or_from_slice_get}
use Rattle.std.proofs.lemmas.Bool.Decides.{eqb_tells}
use Rattle.law_sig.specs.Lists.{In, Each}
use Rattle.law_sig.specs.Lists.In.{here}
use Rattle.law_laws.proofs.ListFacts.{each_of}
use Rattle.law_splits.specs.Splits.{Split, Kids, lines, lines_in, by_child}
use Rattle.law_splits.specs.Splits.Split.{leaf}
use Rattle.law_splits.proofs.Told.{each_joined}
use Rattle.law_ids.specs.declared.ids.ValueId.{ValueId}
use Rattle.law_tree.specs.declared.nodes.Edge.{Edge}
use Rattle.law_tree.specs.declared.nodes.Node.{Node}
use Rattle.law_tree.specs.declared.nodes.Spot.{Spot}
use Rattle.law_tree.specs.declared.nodes.Spot.TheVariants as spot
use Rattle.law_tree.specs.declared.shape.Shape.{Shape}
use Rattle.law_tree.specs.declared.shape.Shape.TheVariants as shape
use Rattle.law_tree.specs.Nodes.{edge_to, edges_of, IsSpot, IsChild, AreNodes, grown, kids_from, tree_of}
use Rattle.law_tree.specs.Listing.{shape_of, line_of, kept, children_from, children, AreOf, AreChildLists}
use Rattle.law_tree.proofs.ListFacts.{same_or, some_same, get_left, get_right, set_same, set_other}
use Rattle.law_tree.proofs.EdgeFacts.{edge_is, edge_here}
use Rattle.law_tree.proofs.Standing.{Stands, StandBelow, count_edges, child_within, spot_within, leaf_split, one_spot, one_tree, among_child, standing}
use Rattle.law_tree.proofs.Standing.Stands.{at_leaf, at_split}
use Rattle.law_tree.proofs.Standing.StandBelow.{no_more, next}

-- Lists that a function gives

module _ {A : Type 0} where
  pub are_more : (f : ℕ → A) (n : ℕ) (xs : List A) (x : A) → AreOf f n xs → x ≡ f n → AreOf f (n + 1) (xs ++ x ∷ [])
  are_more f n xs x h e = record { size = omega (arith, h.size, length-append xs (x ∷ [])); each = λ k lt. by k (same_or k n) lt }
    where
      by : (k : ℕ) → (k ≡ n) ⊎ (k ≢ n) → k < n + 1 → slice_get (xs ++ x ∷ []) k ≡ Some (f k)
      by k (inl same) lt = get_right xs (x ∷ []) k 0 (omega (arith, same, h.size)) ∙ ap Some (e ∙ ap f (sym same))
      by k (inr ne) lt = get_left xs (x ∷ []) k (omega (arith, h.size)) ∙ h.each k (omega arith)

  pub are_same : (f g : ℕ → A) (n : ℕ) (xs : List A) → AreOf f n xs → ((k : ℕ) → k < n → f k ≡ g k) → AreOf g n xs
  are_same f g n xs h same = record { size = h.size; each = λ k lt. h.each k lt ∙ ap Some (same k lt) }

  -- one item changed
  pub are_set : (f g : ℕ → A) (n : ℕ) (xs : List A) (i : ℕ) (y : A) → AreOf f n xs → i < n → y ≡ g i → ((k : ℕ) → k < n → k ≢ i → f k ≡ g k) → AreOf g n (slice_set xs i y)
  are_set f g n xs i y h lt e same = record { size = length-set xs i y ∙ h.size; each = λ k k_lt. by k (same_or k i) k_lt }
    where
      by : (k : ℕ) → (k ≡ i) ⊎ (k ≢ i) → k < n → slice_get (slice_set xs i y) k ≡ Some (g k)
      by k (inl is) k_lt = subst (λ z. slice_get (slice_set xs i y) z ≡ Some (g z)) (sym is) (set_same xs i y (omega (arith, lt, h.size)) ∙ ap Some e)
      by k (inr ne) k_lt = set_other xs i k y ne ∙ h.each k k_lt ∙ ap Some (same k k_lt ne)

  pub are_read : (f : ℕ → A) (n : ℕ) (xs : List A) (i : ℕ) (d : A) → AreOf f n xs → i < n → slice_index_or xs i d ≡ f i
  are_read f n xs i d h lt = get_or_from_slice_get xs i (f i) d (h.each i lt)

  pub none_are : (f : ℕ → A) → AreOf f 0 []
  none_are f = record { size = refl; each = λ k lt. absurd (omega arith) }

pub item_of_map : {A B : Type 0} (f : A → B) (xs : List A) (i : ℕ) (x : A) (d : B) → i < length xs → x ≡ slice_index_or xs i x → slice_index_or (map f xs) i d ≡ f x
item_of_map f [] i x d lt e = absurd (omega arith)
item_of_map f (y ∷ xs) zero x d lt e = ap f (sym e)
item_of_map f (y ∷ xs) (suc i) x d lt e = item_of_map f xs i x d (omega arith) e

pub drop_here : {A : Type 0} (xs : List A) (i : ℕ) (x : A) → slice_get xs i ≡ Some x → drop i xs ≡ x ∷ drop (suc i) xs
drop_here [] i x e = cc
drop_here (y ∷ xs) zero x e = ap (λ z. z ∷ xs) (some_same y x e)
drop_here (y ∷ xs) (suc i) x e = drop_here xs i x e

-- Children, the last one first

-- the children of a node among those from a place on, the last one first
abbrev pub late_children : List Node → ℕ → ℕ → List ℕ
late_children nodes at k = reverse (children_from at (drop at (edges_of nodes)) k)

edge_self : (e : Edge) → edge_to e.above (Some e) ≡ Some e.value
edge_self e = edge_here e.above e.value

edge_away : (p : ℕ) (e : Edge) → p ≢ e.above → edge_to p (Some e) ≡ None
edge_away p e ne = by (edge_to p (Some e)) refl
  where
    by : (o : Option ValueId) → edge_to p (Some e) ≡ o → o ≡ None
    by None h = refl
    by (Some v) h =
        let (a, is, above, value) = edge_is p (Some e) v h in
        let same : e ≡ a = some_same e a is in
        absurd (ne (sym (ap (λ (z : Edge). z.above) same ∙ above)))

module _ (nodes : List Node) (at : ℕ) (x : Node) (read : slice_get nodes at ≡ Some x) where
  edge_there : slice_get (edges_of nodes) at ≡ Some x.edge
  edge_there = slice_get-map (λ (n : Node). n.edge) nodes at ∙ ap (λ z. option_map (λ (n : Node). n.edge) z) read

  step : (k : ℕ) → late_children nodes at k ≡ reverse (kept (edge_to k x.edge) at (children_from (suc at) (drop (suc at) (edges_of nodes)) k))
  step k = ap (λ z. reverse (children_from at z k)) (drop_here (edges_of nodes) at x.edge edge_there)

  -- a node without an edge is no child
  pub children_without : (n : ℕ) (lists : List (List ℕ)) → x.edge ≡ None → AreOf (late_children nodes (suc at)) n lists → AreOf (late_children nodes at) n lists
  children_without n lists e h =
      are_same (late_children nodes (suc at)) (late_children nodes at) n lists h (λ k lt. sym (step k ∙ ap (λ z. reverse (kept (edge_to k z) at (children_from (suc at) (drop (suc at) (edges_of nodes)) k))) e))

  -- one with an edge is the last child so far of the node above it
  pub children_with : (n : ℕ) (lists : List (List ℕ)) (e : Edge) → x.edge ≡ Some e → e.above < n → AreOf (late_children nodes (suc at)) n lists
      → AreOf (late_children nodes at) n (slice_set lists e.above (slice_index_or lists e.above [] ++ at ∷ []))
  children_with n lists e is lt h =
      are_set (late_children nodes (suc at)) (late_children nodes at) n lists e.above _ h lt
      (ap (λ z. z ++ at ∷ []) (are_read (late_children nodes (suc at)) n lists e.above [] h lt)
      ∙ sym (reverse-append (at ∷ []) (children_from (suc at) (drop (suc at) (edges_of nodes)) e.above))
      ∙ sym (step e.above ∙ ap (λ z. reverse (kept z at (children_from (suc at) (drop (suc at) (edges_of nodes)) e.above))) (ap (edge_to e.above) is ∙ edge_self e)))
      (λ k k_lt ne. sym (step k ∙ ap (λ z. reverse (kept z at (children_from (suc at) (drop (suc at) (edges_of nodes)) k))) (ap (edge_to k) is ∙ edge_away k e ne)))

  pub edge_child : (e : Edge) → x.edge ≡ Some e → IsChild nodes e.above at e.value
  edge_child e is = ap (option_and_then (edge_to e.above)) edge_there ∙ ap (edge_to e.above) is ∙ edge_self e

pub no_late_children : (nodes : List Node) (n k : ℕ) → length nodes ≤ n → late_children nodes n k ≡ []
no_late_children nodes n k h = ap (λ z. reverse (children_from n z k)) (drop_all (edges_of nodes) n (omega (arith, h, count_edges nodes)))
  where
    drop_all : (es : List (Option Edge)) (n : ℕ) → length es ≤ n → drop n es ≡ []
    drop_all [] zero h = refl
    drop_all [] (suc n) h = refl
    drop_all (x ∷ es) zero h = absurd (omega arith)
    drop_all (x ∷ es) (suc n) h = drop_all es n (omega arith)

-- The lines below a node

abbrev pub tree_from : ℕ → List Node → Split ℕ ValueId
tree_from k [] = leaf 0
tree_from k (n ∷ ns) = grown n.spot (kids_from (suc k) ns k)

-- the tree for which the node at a place stands
abbrev pub tree_at : List Node → ℕ → Split ℕ ValueId
tree_at nodes k = tree_from k (drop k nodes)

abbrev pub lines_at : List Node → ℕ → List Shape
lines_at nodes k = lines shape.Split (λ n. shape.Leaf n ∷ []) (tree_at nodes k)

abbrev pub lines_below : List Node → List ℕ → List Shape
lines_below nodes [] = []
lines_below nodes (c ∷ cs) = lines_at nodes c ++ lines_below nodes cs

pub below_joined : (nodes : List Node) (cs ds : List ℕ) → lines_below nodes (cs ++ ds) ≡ lines_below nodes cs ++ lines_below nodes ds
below_joined nodes [] ds = refl
below_joined nodes (c ∷ cs) ds = ap (λ z. lines_at nodes c ++ z) (below_joined nodes cs ds) ∙ sym (append_assoc (lines_at nodes c) (lines_below nodes cs) (lines_below nodes ds))

module _ (nodes : List Node) (are : AreNodes nodes) where
  stands_at : (k : ℕ) → k < length nodes → Stands nodes k (tree_at nodes k)
  stands_at k lt = by (drop k nodes) refl
    where
      size : k ≡ length (take k nodes)
      size = omega (arith, lt, length-take k nodes)

      by : (ns : List Node) → drop k nodes ≡ ns → Stands nodes k (tree_from k ns)
      by [] e = let none : length (drop k nodes) ≡ 0 = ap (λ z. length z) e in absurd (omega (arith, lt, none, length-drop k nodes))
      by (n ∷ ns) e = standing nodes are (take k nodes) n ns k (sym (take-append-drop k nodes) ∙ ap (λ z. take k nodes ++ z) e) size

  lines_of_kids : {p : ℕ} {cs : List ℕ} {kids : Kids ℕ ValueId} → StandBelow nodes p cs kids
      → (length (by_child kids) ≡ length cs) × (lines_in shape.Split (λ n. shape.Leaf n ∷ []) kids ≡ lines_below nodes cs)
  lines_of_kids (no_more p) = (refl, refl)
  lines_of_kids (next p c cs v tree kids h t below) =
      let same : tree ≡ tree_at nodes c = one_tree nodes t (stands_at c (child_within nodes p c v h)) in
      let (count, rest) = lines_of_kids below in
      (ap suc count, ap (λ z. lines shape.Split (λ n. shape.Leaf n ∷ []) z ++ lines_in shape.Split (λ n. shape.Leaf n ∷ []) kids) same ∙ ap (λ z. lines_at nodes c ++ z) rest)

  -- a node's own line, and those below its children
  pub line_and_below : (k : ℕ) (s : Spot) → IsSpot nodes k s → lines_at nodes k ≡ line_of s (length (children nodes k)) ∷ lines_below nodes (children nodes k)
  line_and_below k s is = by (tree_at nodes k) refl (stands_at k (spot_within nodes k s is))
    where
      childless : (n : ℕ) → s ≡ spot.Leaf n → (cs : List ℕ) → children nodes k ≡ cs → cs ≡ []
      childless n e [] same = refl
      childless n e (c ∷ cs) same =
          let h = among_child nodes k c (subst (λ z. In c z) (sym same) here) in
          let t = are.below_splits k c h.0 h.1 in
          absurd (leaf_split n t.0 (one_spot nodes k (spot.Leaf n) (spot.Split t.0) (subst (λ z. IsSpot nodes k z) e is) t.1))

      by : (tree : Split ℕ ValueId) → tree_at nodes k ≡ tree → Stands nodes k tree → lines_at nodes k ≡ line_of s (length (children nodes k)) ∷ lines_below nodes (children nodes k)
      by tree e (at_leaf _ n h) =
          let same : s ≡ spot.Leaf n = one_spot nodes k s (spot.Leaf n) is h in
          ap (lines shape.Split (λ n. shape.Leaf n ∷ [])) e
          ∙ sym (ap (λ z. line_of z (length (children nodes k)) ∷ lines_below nodes (children nodes k)) same ∙ ap (λ z. shape.Leaf n ∷ lines_below nodes z) (childless n same (children nodes k) refl))
      by tree e (at_split _ test kids h below) =
          let same : s ≡ spot.Split test = one_spot nodes k s (spot.Split test) is h in
          let (count, rest) = lines_of_kids below in
          ap (lines shape.Split (λ n. shape.Leaf n ∷ [])) e
          ∙ ap (λ z. shape.Split test z ∷ lines_in shape.Split (λ n. shape.Leaf n ∷ []) kids) count ∙ ap (λ z. shape.Split test (length (children nodes k)) ∷ z) rest
          ∙ sym (ap (λ z. line_of z (length (children nodes k)) ∷ lines_below nodes (children nodes k)) same)

  -- the places that are left, with one taken and its children put in its place
  pub lines_taken : (done : List Shape) (all : List Shape) (left : List ℕ) (at : ℕ) (s : Spot) → IsSpot nodes at s → done ++ lines_below nodes (reverse (left ++ at ∷ [])) ≡ all
      → (done ++ line_of s (length (children nodes at)) ∷ []) ++ lines_below nodes (reverse (left ++ reverse (children nodes at))) ≡ all
  lines_taken done all left at s is e =
      append_assoc done (line_of s (length (children nodes at)) ∷ []) (lines_below nodes (reverse (left ++ reverse (children nodes at))))
      ∙ ap (λ z. done ++ line_of s (length (children nodes at)) ∷ lines_below nodes z) (reverse-append left (reverse (children nodes at)) ∙ ap (λ z. z ++ reverse left) (reverse-reverse (children nodes at)))
      ∙ ap (λ z. done ++ line_of s (length (children nodes at)) ∷ z) (below_joined nodes (children nodes at) (reverse left))
      ∙ sym (ap (λ z. done ++ z) (ap (lines_below nodes) (reverse-append left (at ∷ [])) ∙ ap (λ z. z ++ lines_below nodes (reverse left)) (line_and_below at s is)))
      ∙ e

  -- what is left has a line, where a place is left
  pub lines_left : (done all : List Shape) (left : List ℕ) (at : ℕ) (s : Spot) → IsSpot nodes at s → done ++ lines_below nodes (reverse (left ++ at ∷ [])) ≡ all → length done < length all
  lines_left done all left at s is e =
      let more = lines_taken done all left at s is e in
      let size = length-append (done ++ line_of s (length (children nodes at)) ∷ []) (lines_below nodes (reverse (left ++ reverse (children nodes at)))) in
      let one = length-append done (line_of s (length (children nodes at)) ∷ []) in
      let same = ap (λ z. length z) more in
      omega arith

pub lines_of_root : (n : Node) (ns : List Node) → lines_below (n ∷ ns) (0 ∷ []) ≡ shape_of (tree_of (n ∷ ns))
lines_of_root n ns = append-nil (lines_at (n ∷ ns) 0)

pub children_within : (nodes : List Node) (k : ℕ) → Each (λ c. c < length nodes) (reverse (children nodes k))
children_within nodes k = each_reversed (children nodes k) (each_of (λ c. c < length nodes) (children nodes k) (λ c at. let h = among_child nodes k c at in child_within nodes k c h.0 h.1))
  where
    each_reversed : (xs : List ℕ) → Each (λ c. c < length nodes) xs → Each (λ c. c < length nodes) (reverse xs)
    each_reversed [] h = tt
    each_reversed (x ∷ xs) h = subst (λ z. Each (λ c. c < length nodes) z) (sym (reverse-append (x ∷ []) xs)) (each_joined (λ c. c < length nodes) (reverse xs) (x ∷ []) (each_reversed xs h.1) (h.0, tt))

-- what was read before a place

module _ (nodes : List Node) (d : Node) (at : ℕ) (some : 0 < at) (within : at ≤ length nodes) where
  read_before : slice_get nodes (at - 1) ≡ Some (slice_index_or nodes (at - 1) d)
  read_before = slice_get-get_or nodes (at - 1) d (omega arith)

  again : suc (at - 1) ≡ at
  again = omega arith

  pub before_without : (n : ℕ) (lists : List (List ℕ)) → (slice_index_or nodes (at - 1) d).edge ≡ None → AreOf (late_children nodes at) n lists → AreOf (late_children nodes (at - 1)) n lists
  before_without n lists e h = children_without nodes (at - 1) (slice_index_or nodes (at - 1) d) read_before n lists e (subst (λ z. AreOf (late_children nodes z) n lists) (sym again) h)

  pub before_child : (e : Edge) → (slice_index_or nodes (at - 1) d).edge ≡ Some e → IsChild nodes e.above (at - 1) e.value
  before_child e is = edge_child nodes (at - 1) (slice_index_or nodes (at - 1) d) read_before e is

  pub before_with : (n : ℕ) (lists : List (List ℕ)) (e : Edge) → (slice_index_or nodes (at - 1) d).edge ≡ Some e → e.above < n → AreOf (late_children nodes at) n lists
      → AreOf (late_children nodes (at - 1)) n (slice_set lists e.above (slice_index_or lists e.above [] ++ (at - 1) ∷ []))
  before_with n lists e is lt h =
      children_with nodes (at - 1) (slice_index_or nodes (at - 1) d) read_before n lists e is lt (subst (λ z. AreOf (late_children nodes z) n lists) (sym again) h)

pub each_parts : {A : Type 0} (P : A → Type 0) (xs ys : List A) → Each P (xs ++ ys) → Each P xs × Each P ys
each_parts P [] ys h = (tt, h)
each_parts P (x ∷ xs) ys h = let (a, b) = each_parts P xs ys h.1 in ((h.0, a), b)

-- before the first line: the root is left, where there is one
pub first_lines : (nodes : List Node) (left : List ℕ) → left ≡ (if length nodes == 0 then [] else 0 ∷ [])
    → Each (λ k. k < length nodes) left × (lines_below nodes (reverse left) ≡ shape_of (tree_of nodes))
first_lines [] left e = (subst (λ z. Each (λ k. k < 0) z) (sym e) tt, ap (λ z. lines_below [] (reverse z)) e)
first_lines (n ∷ ns) left e = by (eqb_tells (length (n ∷ ns)) 0)
  where
    by : (((length (n ∷ ns) == 0) ≡ true) × (length (n ∷ ns) ≡ 0)) ⊎ (((length (n ∷ ns) == 0) ≡ false) × (length (n ∷ ns) ≢ 0))
        → Each (λ k. k < length (n ∷ ns)) left × (lines_below (n ∷ ns) (reverse left) ≡ shape_of (tree_of (n ∷ ns)))
    by (inl t) = let no = t.1 in absurd (omega arith)
    by (inr f) =
        let is : left ≡ 0 ∷ [] = e ∙ ap (λ z. if z then [] else 0 ∷ []) f.0 in (
          subst (λ z. Each (λ k. k < length (n ∷ ns)) z) (sym is) ((omega arith), tt),
          ap (λ z. lines_below (n ∷ ns) (reverse z)) is ∙ lines_of_root n ns,
        )

-- one turn: the last place that is left is taken, and its children, the last one first, are left in its stead
module _ (nodes : List Node) (are : AreNodes nodes) (done all : List Shape) (left before : List ℕ) (at : ℕ) (d : Node) (popped : left ≡ before ++ at ∷ []) (within : Each (λ k. k < length nodes) left)
    (so_far : done ++ lines_below nodes (reverse left) ≡ all) where
  pub at_within : at < length nodes
  at_within = (each_parts (λ k. k < length nodes) before (at ∷ []) (subst (λ z. Each (λ k. k < length nodes) z) popped within)).1.0

  spot_read : IsSpot nodes at (slice_index_or nodes at d).spot
  spot_read = slice_get-map (λ (n : Node). n.spot) nodes at ∙ ap (λ z. option_map (λ (n : Node). n.spot) z) (slice_get-get_or nodes at d at_within)

  module _ (lists : List (List ℕ)) (child_lists : AreChildLists nodes lists) (kids : List ℕ) (is : slice_index_or lists at [] ≡ kids) where
    kids_are : kids ≡ reverse (children nodes at)
    kids_are = sym is ∙ are_read (λ k. reverse (children nodes k)) (length nodes) lists at [] child_lists at_within

    pub turn_within : Each (λ k. k < length nodes) (before ++ kids)
    turn_within = each_joined (λ k. k < length nodes) before kids (each_parts (λ k. k < length nodes) before (at ∷ []) (subst (λ z. Each (λ k. k < length nodes) z) popped within)).0
        (subst (λ z. Each (λ k. k < length nodes) z) (sym kids_are) (children_within nodes at))

    pub turn_lines : (done ++ line_of (slice_index_or nodes at d).spot (length kids) ∷ []) ++ lines_below nodes (reverse (before ++ kids)) ≡ all
    turn_lines =
        ap (λ z. (done ++ line_of (slice_index_or nodes at d).spot z ∷ []) ++ lines_below nodes (reverse (before ++ kids))) (ap (λ z. length z) kids_are ∙ length-reverse (children nodes at))
        ∙ ap (λ z. (done ++ line_of (slice_index_or nodes at d).spot (length (children nodes at)) ∷ []) ++ lines_below nodes (reverse (before ++ z))) kids_are
        ∙ lines_taken nodes are done all before at (slice_index_or nodes at d).spot spot_read (sym (ap (λ z. done ++ lines_below nodes (reverse z)) popped) ∙ so_far)

  pub turn_left : length done < length all
  turn_left = lines_left nodes are done all before at (slice_index_or nodes at d).spot spot_read (sym (ap (λ z. done ++ lines_below nodes (reverse z)) popped) ∙ so_far)
