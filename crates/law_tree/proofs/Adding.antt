-- Nodes to which leaves were added below the node at s.
use Rattle.std.proofs.Common.{◌≡◌, ◌≢◌, ℕ, zero, suc, ◌<◌, ◌≤◌, ◌+◌, ◌-◌, ◌⊎◌, inl, inr, ◌↔◌, List, [], ◌∷◌, ◌++◌, length, slice_set, Bool, true, false, cond, ◌==◌, Option, Some, option_and_then, option_map, sym, ap, ◌∙◌, subst, refl, arith, length-append, append_assoc, append-nil}
use Rattle.std.specs.List.{slice_get}
use Rattle.std.proofs.lemmas.List.{map-append, map-set, length-set}
use Rattle.std.proofs.lemmas.Option.{slice_get-map, slice_get_within}
use Rattle.std.proofs.lemmas.Bool.Decides.{eqb_tells}
use Rattle.law_ids.specs.declared.ids.ValueId.{ValueId}
use Rattle.law_tree.specs.declared.compare.Difference.{Difference}
use Rattle.law_tree.specs.declared.nodes.Edge.{Edge}
use Rattle.law_tree.specs.declared.nodes.Node.{Node}
use Rattle.law_tree.specs.declared.nodes.Spot.{Spot}
use Rattle.law_tree.specs.declared.nodes.Spot.TheVariants as spot
use Rattle.law_tree.specs.Nodes.{edge_to, edges_of, spots_of, IsSpot, IsChild, AreNodes, HasTest}
use Rattle.law_tree.specs.Listing.{kept, children_from, children}
use Rattle.law_tree.specs.Looking.{same_key, Finds, AreApart, leaf_node, split_node}
use Rattle.law_tree.proofs.ListFacts.{same_or, before_or, some_same, get_left, get_right, set_same, set_other, set_itself}
use Rattle.law_tree.proofs.EdgeFacts.{child_value, edge_is, edge_here, children_more, no_children, last_child}
use Rattle.law_tree.proofs.Standing.{count_edges, count_spots, spot_within, leaf_split, one_spot}
use Rattle.law_tree.proofs.Growing.{IsGrown}

abbrev edge : ℕ → ValueId → Edge
edge p v = record { above = p; value = v }

-- an edge at the end leads to its split alone
pub last_edge : (es : List (Option Edge)) (s p c : ℕ) (v u : ValueId) → child_value (es ++ Some (edge s v) ∷ []) p c ≡ Some u
    → (child_value es p c ≡ Some u) ⊎ ((p ≡ s) × (c ≡ length es) × (u ≡ v))
last_edge es s p c v u h = at (before_or c (length es))
  where
    late : (k : ℕ) → c ≡ length es + k → option_and_then (edge_to p) (slice_get (Some (edge s v) ∷ []) k) ≡ Some u → (p ≡ s) × (c ≡ length es) × (u ≡ v)
    late zero e h =
        let (a, is, above, value) = edge_is p (Some (edge s v)) u h in
        let same : edge s v ≡ a = cc in
        (sym above ∙ sym (ap (λ (z : Edge). z.above) same), omega arith, sym value ∙ sym (ap (λ (z : Edge). z.value) same))
    late (suc k) e h = cc

    at : ((c < length es) ⊎ (length es ≤ c)) → (child_value es p c ≡ Some u) ⊎ ((p ≡ s) × (c ≡ length es) × (u ≡ v))
    at (inl lt) = inl (sym (ap (option_and_then (edge_to p)) (get_left es (Some (edge s v) ∷ []) c lt)) ∙ h)
    at (inr ge) =
        let e : c ≡ length es + (c - length es) = omega arith in
        inr (late (c - length es) e (sym (ap (option_and_then (edge_to p)) (get_right es (Some (edge s v) ∷ []) c (c - length es) e)) ∙ h))

pub edge_stays : (es fs : List (Option Edge)) (p c : ℕ) (v : ValueId) → child_value es p c ≡ Some v → child_value (es ++ fs) p c ≡ Some v
edge_stays es fs p c v h = ap (option_and_then (edge_to p)) (get_left es fs c (within es c h)) ∙ h
  where
    within : (es : List (Option Edge)) (i : ℕ) → child_value es p i ≡ Some v → i < length es
    within [] i h = cc
    within (x ∷ es) zero h = omega arith
    within (x ∷ es) (suc i) h = let lt = within es i h in omega arith

-- The table of children

value_of : (v w : ValueId) → v.0 ≡ w.0 → v ≡ w
value_of v w e = ap (λ n. let r : ValueId = record { 0 = n } in r) e

same_parts : (s p : ℕ) (w v : ValueId) → same_key (s, w.0) (p, v.0) ≡ true → (p ≡ s) × (v ≡ w)
same_parts s p w v e = by (eqb_tells s p) (eqb_tells w.0 v.0)
  where
    by : (((s == p) ≡ true) × (s ≡ p)) ⊎ (((s == p) ≡ false) × (s ≢ p)) → (((w.0 == v.0) ≡ true) × (w.0 ≡ v.0)) ⊎ (((w.0 == v.0) ≡ false) × (w.0 ≢ v.0)) → (p ≡ s) × (v ≡ w)
    by (inl a) (inl b) = (sym a.1, value_of v w (sym b.1))
    by (inl a) (inr b) = let no : false ≡ true = sym (rw (a.0, b.0)) ∙ e in cc
    by (inr a) other = let no : false ≡ true = sym (rw a.0) ∙ e in cc

same_self : (s : ℕ) (w : ValueId) → same_key (s, w.0) (s, w.0) ≡ true
same_self s w = by (eqb_tells s s) (eqb_tells w.0 w.0)
  where
    by : (((s == s) ≡ true) × (s ≡ s)) ⊎ (((s == s) ≡ false) × (s ≢ s)) → (((w.0 == w.0) ≡ true) × (w.0 ≡ w.0)) ⊎ (((w.0 == w.0) ≡ false) × (w.0 ≢ w.0)) → same_key (s, w.0) (s, w.0) ≡ true
    by (inl a) (inl b) = rw (a.0, b.0)
    by (inl a) (inr b) = absurd (b.1 refl)
    by (inr a) other = absurd (a.1 refl)

abbrev pub FindsBy : List (Option Edge) → (ℕ × ℕ → Option ℕ) → Type 0
FindsBy es found = (p c : ℕ) (v : ValueId) → (child_value es p c ≡ Some v) ↔ (found (p, v.0) ≡ Some c)

pub finds_more : (es : List (Option Edge)) (found after : ℕ × ℕ → Option ℕ) → FindsBy es found → (s : ℕ) (v : ValueId) → ((c : ℕ) → child_value es s c ≡ Some v → ⊥)
    → (n : ℕ) → n ≡ length es → ((q : ℕ × ℕ) → after q ≡ cond (same_key (s, v.0) q) (Some n) (found q)) → FindsBy (es ++ Some (edge s v) ∷ []) after
finds_more es found after finds s v nowhere n size updated p c u = (to, from)
  where
    found_now : (b : Bool) → same_key (s, v.0) (p, u.0) ≡ b → after (p, u.0) ≡ cond b (Some n) (found (p, u.0))
    found_now b e = updated (p, u.0) ∙ ap (λ z. cond z (Some n) (found (p, u.0))) e

    to : child_value (es ++ Some (edge s v) ∷ []) p c ≡ Some u → after (p, u.0) ≡ Some c
    to h = by (last_edge es s p c v u h)
      where
        old : (b : Bool) → same_key (s, v.0) (p, u.0) ≡ b → child_value es p c ≡ Some u → after (p, u.0) ≡ Some c
        old true e k =
            let (same, value) = same_parts s p v u e in
            absurd (nowhere c (subst (λ z. child_value es z c ≡ Some v) same (subst (λ (z : ValueId). child_value es p c ≡ Some z) value k)))
        old false e k = found_now false e ∙ (finds p c u).0 k

        by : (child_value es p c ≡ Some u) ⊎ ((p ≡ s) × (c ≡ length es) × (u ≡ v)) → after (p, u.0) ≡ Some c
        by (inl k) = old (same_key (s, v.0) (p, u.0)) refl k
        by (inr (same, place, value)) =
            let key : same_key (s, v.0) (p, u.0) ≡ true = subst (λ z. same_key (s, v.0) (z, u.0) ≡ true) (sym same) (subst (λ (z : ValueId). same_key (s, v.0) (s, z.0) ≡ true) (sym value) (same_self s v)) in
            found_now true key ∙ ap Some (size ∙ sym place)

    from : after (p, u.0) ≡ Some c → child_value (es ++ Some (edge s v) ∷ []) p c ≡ Some u
    from h = by (same_key (s, v.0) (p, u.0)) refl
      where
        by : (b : Bool) → same_key (s, v.0) (p, u.0) ≡ b → child_value (es ++ Some (edge s v) ∷ []) p c ≡ Some u
        by true e =
            let (same, value) = same_parts s p v u e in
            let place : n ≡ c = some_same n c (sym (found_now true e) ∙ h) in
            last_child es p c (Some (edge s v)) u (sym place ∙ size) (subst (λ z. edge_to p (Some (edge z v)) ≡ Some u) same (subst (λ (z : ValueId). edge_to p (Some (edge p z)) ≡ Some u) value (edge_here p u)))
        by false e = edge_stays es (Some (edge s v) ∷ []) p c u ((finds p c u).1 (sym (found_now false e) ∙ h))

pub finds_apart : (nodes : List Node) (found : ℕ × ℕ → Option ℕ) → Finds nodes found → AreApart nodes
finds_apart nodes found finds p c d v h k = some_same c d (sym ((finds p c v).0 h) ∙ (finds p d v).0 k)

-- Nodes with more edges, all of which lead to s

module _ (nodes after : List Node) (s : ℕ) (es : List (Option Edge)) (edges : edges_of after ≡ edges_of nodes ++ es) (to_s : (p i : ℕ) (v : ValueId) → child_value es p i ≡ Some v → p ≡ s) where
  child_stays : (p c : ℕ) (v : ValueId) → IsChild nodes p c v → IsChild after p c v
  child_stays p c v h = ap (λ z. child_value z p c) edges ∙ edge_stays (edges_of nodes) es p c v h

  children_joined : (p : ℕ) → children after p ≡ children nodes p ++ children_from (length nodes) es p
  children_joined p = ap (λ z. children_from 0 z p) edges ∙ children_more (edges_of nodes) es 0 (length nodes) p (omega (arith, count_edges nodes))

  children_kept : (p : ℕ) → p ≢ s → children after p ≡ children nodes p
  children_kept p ne = children_joined p ∙ ap (λ z. children nodes p ++ z) (no_children es (length nodes) p (λ i v h. ne (to_s p i v h))) ∙ append-nil (children nodes p)

  -- a child was one, or is a new one of s
  child_back : (p c : ℕ) (v : ValueId) → IsChild after p c v → IsChild nodes p c v ⊎ ((p ≡ s) × (length nodes ≤ c))
  child_back p c v h = at (before_or c (length nodes))
    where
      here : child_value (edges_of nodes ++ es) p c ≡ Some v
      here = sym (ap (λ z. child_value z p c) edges) ∙ h

      at : ((c < length nodes) ⊎ (length nodes ≤ c)) → IsChild nodes p c v ⊎ ((p ≡ s) × (length nodes ≤ c))
      at (inl lt) = inl (sym (ap (option_and_then (edge_to p)) (get_left (edges_of nodes) es c (omega (arith, lt, count_edges nodes)))) ∙ here)
      at (inr ge) =
          let e : c ≡ length (edges_of nodes) + (c - length nodes) = omega (arith, ge, count_edges nodes) in
          inr (to_s p (c - length nodes) v (sym (ap (option_and_then (edge_to p)) (get_right (edges_of nodes) es c (c - length nodes) e)) ∙ here), ge)

  module _ (spots : (k : ℕ) (x : Spot) → k ≢ s → IsSpot nodes k x → IsSpot after k x) where
    pub is_grown : IsGrown nodes after s (children_from (length nodes) es s)
    is_grown = record { child_stays = child_stays; spot_stays = spots; children_stay = λ p ne lt. children_kept p ne; children_more = children_joined s }

    pub nodes_grown : AreNodes nodes → s < length nodes → HasTest after s → AreNodes after
    nodes_grown are lt split = record { later = later; below_splits = below }
      where
        later : (p c : ℕ) (v : ValueId) → IsChild after p c v → p < c
        later p c v h = by (child_back p c v h)
          where
            by : IsChild nodes p c v ⊎ ((p ≡ s) × (length nodes ≤ c)) → p < c
            by (inl k) = are.later p c v k
            by (inr k) = let a = k.0 in let b = k.1 in omega arith

        test_stays : (p : ℕ) → (p ≡ s) ⊎ (p ≢ s) → HasTest nodes p → HasTest after p
        test_stays p (inl e) t = subst (λ z. HasTest after z) (sym e) split
        test_stays p (inr ne) t = (t.0, spots p (spot.Split t.0) ne t.1)

        below : (p c : ℕ) (v : ValueId) → IsChild after p c v → HasTest after p
        below p c v h = by (child_back p c v h)
          where
            by : IsChild nodes p c v ⊎ ((p ≡ s) × (length nodes ≤ c)) → HasTest after p
            by (inl k) = test_stays p (same_or p s) (are.below_splits p c v k)
            by (inr k) = subst (λ z. HasTest after z) (sym k.0) split

-- One edge

abbrev one_edge : ℕ → ValueId → List (Option Edge)
one_edge s v = Some (edge s v) ∷ []

one_to : (s : ℕ) (v : ValueId) (p i : ℕ) (u : ValueId) → child_value (one_edge s v) p i ≡ Some u → (p ≡ s) × (i ≡ 0) × (u ≡ v)
one_to s v p i u h = by (last_edge [] s p i v u h)
  where
    by : (child_value [] p i ≡ Some u) ⊎ ((p ≡ s) × (i ≡ 0) × (u ≡ v)) → (p ≡ s) × (i ≡ 0) × (u ≡ v)
    by (inl k) = cc
    by (inr k) = k

one_child : (s n : ℕ) (v : ValueId) → children_from n (one_edge s v) s ≡ n ∷ []
one_child s n v = ap (λ z. kept z n []) (edge_here s v)

module _ (nodes : List Node) (s n test : ℕ) (v : ValueId) (split : IsSpot nodes s (spot.Split test)) where
  abbrev pub with_child : List Node
  with_child = nodes ++ leaf_node s v n ∷ []

  child_edges : edges_of with_child ≡ edges_of nodes ++ one_edge s v
  child_edges = map-append (λ (m : Node). m.edge) nodes (leaf_node s v n ∷ [])

  child_spots : (k : ℕ) (x : Spot) → IsSpot nodes k x → IsSpot with_child k x
  child_spots k x h =
      ap (λ z. slice_get z k) (map-append (λ (m : Node). m.spot) nodes (leaf_node s v n ∷ []))
      ∙ get_left (spots_of nodes) (spot.Leaf n ∷ []) k (slice_get_within (spots_of nodes) k x h) ∙ h

  pub child_leaf : IsSpot with_child (length nodes) (spot.Leaf n)
  child_leaf =
      ap (λ z. slice_get z (length nodes)) (map-append (λ (m : Node). m.spot) nodes (leaf_node s v n ∷ []))
      ∙ get_right (spots_of nodes) (spot.Leaf n ∷ []) (length nodes) 0 (omega (arith, count_spots nodes))

  pub child_there : IsChild with_child s (length nodes) v
  child_there = ap (λ z. child_value z s (length nodes)) child_edges ∙ last_child (edges_of nodes) s (length nodes) (Some (edge s v)) v (omega (arith, count_edges nodes)) (edge_here s v)

  pub child_split : IsSpot with_child s (spot.Split test)
  child_split = child_spots s (spot.Split test) split

  pub child_grown : IsGrown nodes with_child s (length nodes ∷ [])
  child_grown = subst (λ z. IsGrown nodes with_child s z) (one_child s (length nodes) v)
      (is_grown nodes with_child s (one_edge s v) child_edges (λ p i u h. (one_to s v p i u h).0) (λ k x ne h. child_spots k x h))

  pub child_nodes : AreNodes nodes → AreNodes with_child
  child_nodes are = nodes_grown nodes with_child s (one_edge s v) child_edges (λ p i u h. (one_to s v p i u h).0) (λ k x ne h. child_spots k x h) are
      (spot_within nodes s (spot.Split test) split) (test, child_split)

  pub child_finds : (found after : ℕ × ℕ → Option ℕ) → Finds nodes found → ((c : ℕ) → IsChild nodes s c v → ⊥)
      → ((q : ℕ × ℕ) → after q ≡ cond (same_key (s, v.0) q) (Some (length nodes)) (found q)) → Finds with_child after
  child_finds found after finds nowhere updated =
      subst (λ z. FindsBy z after) (sym child_edges) (finds_more (edges_of nodes) found after finds s v nowhere (length nodes) (sym (count_edges nodes)) updated)

-- Two edges

module _ (nodes : List Node) (s a n : ℕ) (d : Difference) (x : Node) (at : slice_get nodes s ≡ Some x) (leaf : x.spot ≡ spot.Leaf a) where
  abbrev with_split : List Node
  with_split = slice_set nodes s (split_node x d.test)

  abbrev pub with_leaves : List Node
  with_leaves = (with_split ++ leaf_node s d.old a ∷ []) ++ leaf_node s d.new n ∷ []

  within : s < length nodes
  within = slice_get_within nodes s x at

  split_edges : edges_of with_split ≡ edges_of nodes
  split_edges = map-set (λ (m : Node). m.edge) nodes s (split_node x d.test) ∙ set_itself (edges_of nodes) s x.edge (slice_get-map (λ (m : Node). m.edge) nodes s ∙ ap (λ z. option_map (λ (m : Node). m.edge) z) at)

  leaves_edges : edges_of with_leaves ≡ (edges_of nodes ++ one_edge s d.old) ++ one_edge s d.new
  leaves_edges =
      map-append (λ (m : Node). m.edge) (with_split ++ leaf_node s d.old a ∷ []) (leaf_node s d.new n ∷ [])
      ∙ ap (λ z. z ++ one_edge s d.new) (map-append (λ (m : Node). m.edge) with_split (leaf_node s d.old a ∷ []) ∙ ap (λ z. z ++ one_edge s d.old) split_edges)

  leaves_joined : edges_of with_leaves ≡ edges_of nodes ++ (Some (edge s d.old) ∷ Some (edge s d.new) ∷ [])
  leaves_joined = leaves_edges ∙ append_assoc (edges_of nodes) (one_edge s d.old) (one_edge s d.new)

  leaves_spots : spots_of with_leaves ≡ (slice_set (spots_of nodes) s (spot.Split d.test) ++ spot.Leaf a ∷ []) ++ spot.Leaf n ∷ []
  leaves_spots =
      map-append (λ (m : Node). m.spot) (with_split ++ leaf_node s d.old a ∷ []) (leaf_node s d.new n ∷ [])
      ∙ ap (λ z. z ++ spot.Leaf n ∷ []) (map-append (λ (m : Node). m.spot) with_split (leaf_node s d.old a ∷ []) ∙ ap (λ z. z ++ spot.Leaf a ∷ []) (map-set (λ (m : Node). m.spot) nodes s (split_node x d.test)))

  count_set : length (slice_set (spots_of nodes) s (spot.Split d.test)) ≡ length nodes
  count_set = length-set (spots_of nodes) s (spot.Split d.test) ∙ count_spots nodes

  -- the spots of old nodes are those of the nodes with a split at s
  old_spot : (k : ℕ) → k < length nodes → slice_get (spots_of with_leaves) k ≡ slice_get (slice_set (spots_of nodes) s (spot.Split d.test)) k
  old_spot k lt =
      ap (λ z. slice_get z k) leaves_spots
      ∙ get_left (slice_set (spots_of nodes) s (spot.Split d.test) ++ spot.Leaf a ∷ []) (spot.Leaf n ∷ []) k (omega (arith, lt, count_set, length-append (slice_set (spots_of nodes) s (spot.Split d.test)) (spot.Leaf a ∷ [])))
      ∙ get_left (slice_set (spots_of nodes) s (spot.Split d.test)) (spot.Leaf a ∷ []) k (omega (arith, lt, count_set))

  leaves_stay : (k : ℕ) (y : Spot) → k ≢ s → IsSpot nodes k y → IsSpot with_leaves k y
  leaves_stay k y ne h = old_spot k (spot_within nodes k y h) ∙ set_other (spots_of nodes) s k (spot.Split d.test) ne ∙ h

  pub leaves_split : IsSpot with_leaves s (spot.Split d.test)
  leaves_split = old_spot s within ∙ set_same (spots_of nodes) s (spot.Split d.test) (omega (arith, within, count_spots nodes))

  pub old_leaf : IsSpot with_leaves (length nodes) (spot.Leaf a)
  old_leaf =
      ap (λ z. slice_get z (length nodes)) leaves_spots
      ∙ get_left (slice_set (spots_of nodes) s (spot.Split d.test) ++ spot.Leaf a ∷ []) (spot.Leaf n ∷ []) (length nodes) (omega (arith, count_set, length-append (slice_set (spots_of nodes) s (spot.Split d.test)) (spot.Leaf a ∷ [])))
      ∙ get_right (slice_set (spots_of nodes) s (spot.Split d.test)) (spot.Leaf a ∷ []) (length nodes) 0 (omega (arith, count_set))

  pub new_leaf : IsSpot with_leaves (length nodes + 1) (spot.Leaf n)
  new_leaf =
      ap (λ z. slice_get z (length nodes + 1)) leaves_spots
      ∙ get_right (slice_set (spots_of nodes) s (spot.Split d.test) ++ spot.Leaf a ∷ []) (spot.Leaf n ∷ []) (length nodes + 1) 0 (omega (arith, count_set, length-append (slice_set (spots_of nodes) s (spot.Split d.test)) (spot.Leaf a ∷ [])))

  count_one : length (edges_of nodes ++ one_edge s d.old) ≡ length nodes + 1
  count_one = omega (arith, count_edges nodes, length-append (edges_of nodes) (one_edge s d.old))

  pub old_child : IsChild with_leaves s (length nodes) d.old
  old_child =
      ap (λ z. child_value z s (length nodes)) leaves_edges
      ∙ edge_stays (edges_of nodes ++ one_edge s d.old) (one_edge s d.new) s (length nodes) d.old
      (last_child (edges_of nodes) s (length nodes) (Some (edge s d.old)) d.old (omega (arith, count_edges nodes)) (edge_here s d.old))

  pub new_child : IsChild with_leaves s (length nodes + 1) d.new
  new_child = ap (λ z. child_value z s (length nodes + 1)) leaves_edges
      ∙ last_child (edges_of nodes ++ one_edge s d.old) s (length nodes + 1) (Some (edge s d.new)) d.new (sym count_one) (edge_here s d.new)

  two_to : (p i : ℕ) (u : ValueId) → child_value (Some (edge s d.old) ∷ Some (edge s d.new) ∷ []) p i ≡ Some u → p ≡ s
  two_to p i u h = by (last_edge (one_edge s d.old) s p i d.new u h)
    where
      by : (child_value (one_edge s d.old) p i ≡ Some u) ⊎ ((p ≡ s) × (i ≡ 1) × (u ≡ d.new)) → p ≡ s
      by (inl k) = (one_to s d.old p i u k).0
      by (inr k) = k.0

  two_children : children_from (length nodes) (Some (edge s d.old) ∷ Some (edge s d.new) ∷ []) s ≡ length nodes ∷ (length nodes + 1) ∷ []
  two_children =
      ap (λ z. kept z (length nodes) (children_from (suc (length nodes)) (one_edge s d.new) s)) (edge_here s d.old)
      ∙ ap (λ z. length nodes ∷ z) (one_child s (suc (length nodes)) d.new ∙ ap (λ z. z ∷ []) (let e : suc (length nodes) ≡ length nodes + 1 = omega arith in e))

  pub leaves_grown : IsGrown nodes with_leaves s (length nodes ∷ (length nodes + 1) ∷ [])
  leaves_grown = subst (λ z. IsGrown nodes with_leaves s z) two_children (is_grown nodes with_leaves s (Some (edge s d.old) ∷ Some (edge s d.new) ∷ []) leaves_joined two_to leaves_stay)

  pub leaves_nodes : AreNodes nodes → AreNodes with_leaves
  leaves_nodes are = nodes_grown nodes with_leaves s (Some (edge s d.old) ∷ Some (edge s d.new) ∷ []) leaves_joined two_to leaves_stay are within (d.test, leaves_split)

  leaf_there : IsSpot nodes s (spot.Leaf a)
  leaf_there = slice_get-map (λ (m : Node). m.spot) nodes s ∙ ap (λ z. option_map (λ (m : Node). m.spot) z) at ∙ ap Some leaf

  pub leaves_find : (found mid after : ℕ × ℕ → Option ℕ) → AreNodes nodes → Finds nodes found → d.old ≢ d.new
      → ((q : ℕ × ℕ) → mid q ≡ cond (same_key (s, d.old.0) q) (Some (length nodes)) (found q))
      → ((q : ℕ × ℕ) → after q ≡ cond (same_key (s, d.new.0) q) (Some (length nodes + 1)) (mid q)) → Finds with_leaves after
  leaves_find found mid after are finds differ first second =
      subst (λ z. FindsBy z after) (sym leaves_edges)
      (finds_more (edges_of nodes ++ one_edge s d.old) mid after
      (finds_more (edges_of nodes) found mid finds s d.old (λ c h. childless c d.old h) (length nodes) (sym (count_edges nodes)) first)
      s d.new apart (length nodes + 1) (sym count_one) second)
    where
      childless : (c : ℕ) (v : ValueId) → IsChild nodes s c v → ⊥
      childless c v h = let t = are.below_splits s c v h in leaf_split a t.0 (one_spot nodes s (spot.Leaf a) (spot.Split t.0) leaf_there t.1)

      apart : (c : ℕ) → child_value (edges_of nodes ++ one_edge s d.old) s c ≡ Some d.new → ⊥
      apart c h = by (last_edge (edges_of nodes) s s c d.old d.new h)
        where
          by : (child_value (edges_of nodes) s c ≡ Some d.new) ⊎ ((s ≡ s) × (c ≡ length (edges_of nodes)) × (d.new ≡ d.old)) → ⊥
          by (inl k) = childless c d.new k
          by (inr k) = differ (sym k.2)
