-- The tree that nodes stand for, as a relation between places and trees.
use Rattle.std.proofs.Common.{◌≡◌, ℕ, zero, suc, ◌<◌, ◌⊎◌, inl, inr, List, [], ◌∷◌, ◌++◌, length, Option, Some, None, option_map, slice_index_or, option_and_then, sym, ap, ◌∙◌, subst, refl, arith, length-append, append_assoc}
use Rattle.std.proofs.lemmas.List.{map-append, length-map}
use Rattle.std.proofs.lemmas.Option.{slice_get_within, slice_get_read, slice_get-map}
use Rattle.std.specs.List.{slice_get}
use Rattle.law_splits.specs.Splits.{Split, Kids}
use Rattle.law_splits.specs.Splits.Split.{leaf, split}
use Rattle.law_splits.specs.Splits.Kids.{none, kid}
use Rattle.law_splits.specs.Placing.{IsKid}
use Rattle.law_splits.specs.Placing.IsKid.{first, later}
use Rattle.law_sig.specs.Lists.{In}
use Rattle.law_laws.proofs.ListFacts.{in_none, in_rest}
use Rattle.law_ids.specs.declared.ids.ValueId.{ValueId}
use Rattle.law_tree.specs.declared.nodes.Edge.{Edge}
use Rattle.law_tree.specs.declared.nodes.Node.{Node}
use Rattle.law_tree.specs.declared.nodes.Spot.{Spot}
use Rattle.law_tree.specs.declared.nodes.Spot.TheVariants as spot
use Rattle.law_tree.specs.Nodes.{edge_to, edges_of, spots_of, IsSpot, IsChild, grown, hung, kids_from, tree_of, AreNodes}
use Rattle.law_tree.specs.Listing.{kept, children_from, children}
use Rattle.law_tree.proofs.ListFacts.{some_same, get_left, get_right}
use Rattle.law_tree.proofs.EdgeFacts.{child_value, child_in, in_child, children_more, no_children}

mutual
  -- the node at a place stands for this tree
  pub data Stands (nodes : List Node) : ℕ → Split ℕ ValueId → Type 0 where
    at_leaf : (k n : ℕ) → IsSpot nodes k (spot.Leaf n) → Stands nodes k (leaf n)
    at_split : (k test : ℕ) (kids : Kids ℕ ValueId) → IsSpot nodes k (spot.Split test) → StandBelow nodes k (children nodes k) kids → Stands nodes k (split test kids)

  -- these children of p stand for these trees
  pub data StandBelow (nodes : List Node) : ℕ → List ℕ → Kids ℕ ValueId → Type 0 where
    no_more : (p : ℕ) → StandBelow nodes p [] none
    next : (p c : ℕ) (cs : List ℕ) (v : ValueId) (tree : Split ℕ ValueId) (kids : Kids ℕ ValueId) → IsChild nodes p c v → Stands nodes c tree
        → StandBelow nodes p cs kids → StandBelow nodes p (c ∷ cs) (kid v tree kids)

pub count_edges : (ns : List Node) → length (edges_of ns) ≡ length ns
count_edges ns = length-map ns (λ (n : Node). n.edge)

pub count_spots : (ns : List Node) → length (spots_of ns) ≡ length ns
count_spots ns = length-map ns (λ (n : Node). n.spot)

pub leaf_number : (m n : ℕ) → spot.Leaf m ≡ spot.Leaf n → m ≡ n
leaf_number m n e = cc

pub split_test : (m n : ℕ) → spot.Split m ≡ spot.Split n → m ≡ n
split_test m n e = cc

pub leaf_split : (m t : ℕ) → spot.Leaf m ≡ spot.Split t → ⊥
leaf_split m t e = cc

pub spot_within : (nodes : List Node) (k : ℕ) (s : Spot) → IsSpot nodes k s → k < length nodes
spot_within nodes k s h = let lt = slice_get_within (spots_of nodes) k s h in omega (arith, lt, count_spots nodes)

-- a node that was read where this stands
pub node_read : (nodes : List Node) (k : ℕ) (s : Spot) (x : Node) → IsSpot nodes k s → x ≡ slice_index_or nodes k x → (slice_get nodes k ≡ Some x) × (x.spot ≡ s)
node_read nodes k s x h e =
    let at = slice_get_read nodes (length nodes) k x refl (spot_within nodes k s h) e in
    (at, some_same x.spot s (sym (slice_get-map (λ (n : Node). n.spot) nodes k ∙ ap (λ z. option_map (λ (n : Node). n.spot) z) at) ∙ h))

pub child_within : (nodes : List Node) (p c : ℕ) (v : ValueId) → IsChild nodes p c v → c < length nodes
child_within nodes p c v h = by (slice_get (edges_of nodes) c) refl h
  where
    by : (o : Option (Option Edge)) → slice_get (edges_of nodes) c ≡ o → option_and_then (edge_to p) o ≡ Some v → c < length nodes
    by None e h = cc
    by (Some x) e h = let lt = slice_get_within (edges_of nodes) c x e in omega (arith, lt, count_edges nodes)

pub one_spot : (nodes : List Node) (k : ℕ) (s t : Spot) → IsSpot nodes k s → IsSpot nodes k t → s ≡ t
one_spot nodes k s t h i = some_same s t (sym h ∙ i)

module _ (nodes : List Node) where
  mutual
    pub one_tree : {k : ℕ} {s t : Split ℕ ValueId} → Stands nodes k s → Stands nodes k t → s ≡ t
    one_tree (at_leaf k n h) (at_leaf _ m i) = ap leaf (leaf_number n m (one_spot nodes k (spot.Leaf n) (spot.Leaf m) h i))
    one_tree (at_leaf k n h) (at_split _ test kids i below) = absurd (leaf_split n test (one_spot nodes k (spot.Leaf n) (spot.Split test) h i))
    one_tree (at_split k test kids h below) (at_leaf _ n i) = absurd (leaf_split n test (one_spot nodes k (spot.Leaf n) (spot.Split test) i h))
    one_tree (at_split k test kids h below) (at_split _ other more i too) =
        let same : test ≡ other = split_test test other (one_spot nodes k (spot.Split test) (spot.Split other) h i) in
        let rest : kids ≡ more = one_below below too in
        cc

    pub one_below : {p : ℕ} {cs : List ℕ} {ks ls : Kids ℕ ValueId} → StandBelow nodes p cs ks → StandBelow nodes p cs ls → ks ≡ ls
    one_below (no_more p) (no_more _) = refl
    one_below (next p c cs v tree kids h t below) (next _ _ _ w other more i u too) =
        let value : v ≡ w = some_same v w (sym h ∙ i) in
        let same : tree ≡ other = one_tree t u in
        let rest : kids ≡ more = one_below below too in
        cc

  -- a child stands for one of the trees below, with its value, and each of these is that of a child
  pub record HasKid (p c : ℕ) (v : ValueId) (kids : Kids ℕ ValueId) : Type 0 where
    pub tree : Split ℕ ValueId
    pub stands : Stands nodes c tree
    pub is_kid : IsKid v tree kids

  pub kid_of_child : {p : ℕ} {cs : List ℕ} {kids : Kids ℕ ValueId} → StandBelow nodes p cs kids → (c : ℕ) (v : ValueId) → In c cs → IsChild nodes p c v → HasKid p c v kids
  kid_of_child (no_more p) c v at h = in_none at
  kid_of_child (next p d ds w tree kids i t below) c v at h = by (in_rest at) (kid_of_child below c v)
    where
      by : (c ≡ d) ⊎ In c ds → (In c ds → IsChild nodes p c v → HasKid p c v kids) → HasKid p c v (kid w tree kids)
      by (inl e) rest =
          let same : w ≡ v = some_same w v (sym i ∙ subst (λ z. IsChild nodes p z v) e h) in
          record { tree = tree; stands = subst (λ z. Stands nodes z tree) (sym e) t; is_kid = subst (λ z. IsKid z tree (kid w tree kids)) same (first kids) }
      by (inr at) rest = let k = rest at h in record { tree = k.tree; stands = k.stands; is_kid = later w tree kids k.is_kid }

  pub child_of_kid : {p : ℕ} {cs : List ℕ} {v : ValueId} {part : Split ℕ ValueId} {kids : Kids ℕ ValueId} → StandBelow nodes p cs kids → IsKid v part kids → (c : ℕ) × IsChild nodes p c v
  child_of_kid (no_more p) k = elim k [ ]
  child_of_kid (next p d ds w tree kids i t below) (first _) = (d, i)
  child_of_kid (next p d ds w tree kids i t below) (later _ _ _ k) = child_of_kid below k

  pub child_among : (p c : ℕ) (v : ValueId) → IsChild nodes p c v → In c (children nodes p)
  child_among p c v h = child_in (edges_of nodes) 0 p c c v (omega arith) h

  pub among_child : (p c : ℕ) → In c (children nodes p) → (v : ValueId) × IsChild nodes p c v
  among_child p c at = let (i, v, e, h) = in_child (edges_of nodes) 0 p c at in (v, subst (λ z. IsChild nodes p z v) (let same : i ≡ c = omega arith in same) h)

-- Each place stands for a tree

edges_joined : (xs ys : List Node) → edges_of (xs ++ ys) ≡ edges_of xs ++ edges_of ys
edges_joined xs ys = map-append (λ (n : Node). n.edge) xs ys

module _ (nodes : List Node) (are : AreNodes nodes) where
  -- the children of a node are among those after it
  children_after : (before : List Node) (n : Node) (ns : List Node) (k : ℕ) → nodes ≡ before ++ n ∷ ns → k ≡ length before
      → children nodes k ≡ children_from (suc k) (edges_of ns) k
  children_after before n ns k e size =
      ap (λ z. children_from 0 z k) parts
      ∙ children_more (edges_of before) (n.edge ∷ edges_of ns) 0 k k (omega (arith, size, count_edges before))
      ∙ ap (λ z. z ++ children_from k (n.edge ∷ edges_of ns) k) none_before
      ∙ not_itself (edge_to k n.edge) refl
    where
      parts : edges_of nodes ≡ edges_of before ++ (n.edge ∷ edges_of ns)
      parts = ap edges_of e ∙ edges_joined before (n ∷ ns)

      earlier : (i : ℕ) (v : ValueId) → i < length (edges_of before) → child_value (edges_of before) k i ≡ Some v → ⊥
      earlier i v lt h =
          let there_too : IsChild nodes k i v = ap (λ z. child_value z k i) parts ∙ ap (option_and_then (edge_to k)) (get_left (edges_of before) (n.edge ∷ edges_of ns) i lt) ∙ h in
          let after = are.later k i v there_too in
          omega (arith, size, lt, after, count_edges before)

      within : (es : List (Option Edge)) (i : ℕ) (v : ValueId) → child_value es k i ≡ Some v → i < length es
      within [] i v h = cc
      within (x ∷ es) zero v h = omega arith
      within (x ∷ es) (suc i) v h = let lt = within es i v h in omega arith

      none_before : children_from 0 (edges_of before) k ≡ []
      none_before = no_children (edges_of before) 0 k (λ i v h. earlier i v (within (edges_of before) i v h) h)

      not_itself : (o : Option ValueId) → edge_to k n.edge ≡ o → kept o k (children_from (suc k) (edges_of ns) k) ≡ children_from (suc k) (edges_of ns) k
      not_itself None h = refl
      not_itself (Some v) h =
          let there_too : IsChild nodes k k v = ap (λ z. child_value z k k) parts
          ∙ ap (option_and_then (edge_to k)) (get_right (edges_of before) (n.edge ∷ edges_of ns) k 0 (omega (arith, size, count_edges before))) ∙ h in
          let after = are.later k k v there_too in
          absurd (omega arith)

  spot_here : (before : List Node) (n : Node) (ns : List Node) (k : ℕ) → nodes ≡ before ++ n ∷ ns → k ≡ length before → IsSpot nodes k n.spot
  spot_here before n ns k e size =
      ap (λ z. slice_get (spots_of z) k) e ∙ ap (λ z. slice_get z k) (map-append (λ (m : Node). m.spot) before (n ∷ ns))
      ∙ get_right (spots_of before) (n.spot ∷ spots_of ns) k 0 (omega (arith, size, count_spots before))

  edge_at : (before : List Node) (n : Node) (ns : List Node) (k p : ℕ) → nodes ≡ before ++ n ∷ ns → k ≡ length before → child_value (edges_of nodes) p k ≡ edge_to p n.edge
  edge_at before n ns k p e size =
      ap (λ z. child_value (edges_of z) p k) e ∙ ap (λ z. child_value z p k) (edges_joined before (n ∷ ns))
      ∙ ap (option_and_then (edge_to p)) (get_right (edges_of before) (n.edge ∷ edges_of ns) k 0 (omega (arith, size, count_edges before)))

  -- a node with what stands below it
  stands_here : (n : Node) (k : ℕ) (kids : Kids ℕ ValueId) → IsSpot nodes k n.spot → StandBelow nodes k (children nodes k) kids → Stands nodes k (grown n.spot kids)
  stands_here n k kids is below = by n.spot is
    where
      by : (s : Spot) → IsSpot nodes k s → Stands nodes k (grown s kids)
      by (spot.Leaf m) is = at_leaf k m is
      by (spot.Split test) is = at_split k test kids is below

  stand_from : (ns before : List Node) (k : ℕ) → nodes ≡ before ++ ns → k ≡ length before → (p : ℕ) → StandBelow nodes p (children_from k (edges_of ns) p) (kids_from k ns p)
  stand_from [] before k e size p = no_more p
  stand_from (n ∷ ns) before k e size p =
      let rest = stand_from ns (before ++ n ∷ []) (suc k) (e ∙ sym (append_assoc before (n ∷ []) ns)) (omega (arith, size, length-append before (n ∷ []))) in
      by (edge_to p n.edge) (edge_at before n ns k p e size) (rest p)
      (stands_here n k (kids_from (suc k) ns k) (spot_here before n ns k e size) (subst (λ z. StandBelow nodes k z (kids_from (suc k) ns k)) (sym (children_after before n ns k e size)) (rest k)))
    where
      by : (o : Option ValueId) → child_value (edges_of nodes) p k ≡ o → StandBelow nodes p (children_from (suc k) (edges_of ns) p) (kids_from (suc k) ns p)
          → Stands nodes k (grown n.spot (kids_from (suc k) ns k))
          → StandBelow nodes p (kept o k (children_from (suc k) (edges_of ns) p)) (hung o (grown n.spot (kids_from (suc k) ns k)) (kids_from (suc k) ns p))
      by None h others here_too = others
      by (Some v) h others here_too = next p k _ v _ _ h here_too others

  -- any node stands for a tree
  pub standing : (before : List Node) (n : Node) (ns : List Node) (k : ℕ) → nodes ≡ before ++ n ∷ ns → k ≡ length before → Stands nodes k (grown n.spot (kids_from (suc k) ns k))
  standing before n ns k e size = stands_here n k (kids_from (suc k) ns k) (spot_here before n ns k e size)
      (subst (λ z. StandBelow nodes k z (kids_from (suc k) ns k)) (sym (children_after before n ns k e size))
      (stand_from ns (before ++ n ∷ []) (suc k) (e ∙ sym (append_assoc before (n ∷ []) ns)) (omega (arith, size, length-append before (n ∷ []))) k))

-- the root stands for the tree of the nodes
pub root_stands : (nodes : List Node) → AreNodes nodes → (tree : Split ℕ ValueId) → tree_of nodes ≡ Some tree → Stands nodes 0 tree
root_stands [] are tree e = cc
root_stands (n ∷ ns) are tree e = subst (λ z. Stands (n ∷ ns) 0 z) (some_same _ tree e) (standing (n ∷ ns) are [] n ns 0 refl refl)

pub tree_is : (nodes : List Node) → AreNodes nodes → (tree : Split ℕ ValueId) → Stands nodes 0 tree → tree_of nodes ≡ Some tree
tree_is [] are (leaf n) (at_leaf _ _ h) = cc
tree_is [] are (split t ks) (at_split _ _ _ h b) = cc
tree_is (n ∷ ns) are tree h = ap Some (one_tree (n ∷ ns) (standing (n ∷ ns) are [] n ns 0 refl refl) h)
