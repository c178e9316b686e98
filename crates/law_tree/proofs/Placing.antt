-- Where an item is led in a tree, and the tree in which it was placed.
use Rattle.std.proofs.Common.{◌≡◌, ◌≢◌, ℕ, zero, suc, ◌<◌, ◌+◌, ◌⊎◌, inl, inr, List, [], ◌∷◌, ◌++◌, length, Option, Some, None, option_map, sym, ap, ◌∙◌, subst, refl, arith}
use Rattle.std.specs.List.{slice_get}
use Rattle.std.proofs.lemmas.Option.{slice_get-map, slice_get_within}
use Rattle.law_sig.specs.Lists.{In, Rising}
use Rattle.law_laws.proofs.ListFacts.{in_none}
use Rattle.law_splits.specs.Splits.{Split, Kids}
use Rattle.law_splits.specs.Splits.Split.{leaf, split}
use Rattle.law_splits.specs.Agree.{HasOneValue, AgreeAt, Differ, IsFirstDifference}
use Rattle.law_splits.specs.Rule.{IsSplitTree, IsTreeOf}
use Rattle.law_splits.specs.Rule.IsSplitTree.{alone}
use Rattle.law_splits.specs.Placing.{LeadsTo}
use Rattle.law_splits.specs.Placing.LeadsTo.{start, down}
use Rattle.law_splits.proofs.Led.{led, cut_of, leaf_exact, new_child_exact, leads_stay}
use Rattle.law_splits.proofs.Growing.{placing_grows}
use Rattle.law_splits.proofs.Renaming.{tree_stays}
use Rattle.law_ids.specs.declared.ids.ValueId.{ValueId}
use Rattle.law_tree.specs.declared.compare.Difference.{Difference}
use Rattle.law_tree.specs.declared.nodes.Node.{Node}
use Rattle.law_tree.specs.declared.nodes.Spot.{Spot}
use Rattle.law_tree.specs.declared.nodes.Spot.TheVariants as spot
use Rattle.law_tree.specs.Asking.{IsOneOf, MeaningStays}
use Rattle.law_tree.specs.Nodes.{IsSpot, AreNodes, tree_of}
use Rattle.law_tree.specs.Listing.{children}
use Rattle.law_tree.specs.Grown.{Grown, numbered, numbers_below, IsTree}
use Rattle.law_tree.specs.Finding.{IsOther}
use Rattle.law_tree.specs.Looking.{AreApart, Reaches, IsAtSplit, IsAtLeaf, IsApart, IsSplitLeaf, leaf_node, root_node}
use Rattle.law_tree.specs.Looking.Reaches.{here as at_root, down as step}
use Rattle.law_tree.proofs.ListFacts.{some_same, index_in, before_place}
use Rattle.law_tree.proofs.Standing.{Stands, StandBelow, kid_of_child, child_of_kid, child_among, spot_within, split_test, leaf_number, leaf_split, one_spot, root_stands, tree_is}
use Rattle.law_tree.proofs.Standing.Stands.{at_leaf, at_split}
use Rattle.law_tree.proofs.Growing.{IsGrown, goes, grow, IsMore, child_here, split_here}
use Rattle.law_tree.proofs.Growing.Goes.{at as there}
use Rattle.law_tree.proofs.Adding.{with_child, child_grown, child_nodes, child_there, child_split, child_leaf, with_leaves, leaves_grown, leaves_nodes, old_child, new_child, old_leaf, new_leaf, leaves_split}
use Rattle.law_tree.proofs.Numbers.{number_in, in_number, one_more_number, numbered_one, numbered_stays, numbered_more, last_numbered, differ_numbered}

-- a tree of some nodes
pub record HasRoot (nodes : List Node) : Type 0 where
  pub root : Split ℕ ValueId
  pub is : tree_of nodes ≡ Some root

pub root_of : (nodes : List Node) → 0 < length nodes → HasRoot nodes
root_of [] lt = absurd (omega arith)
root_of (n ∷ ns) lt = record { root = _; is = refl }

-- the tree stays that of the rule while more is meant
pub more_meant : {T : Type 0} (M N : T → ℕ → ValueId → Type 0) → MeaningStays M N → (tree : Grown T) → IsTree M tree → IsTree N tree
more_meant M N more tree t = by (tree_of tree.nodes) (numbers_below (length tree.items)) t
  where
    by : (o : Option (Split ℕ ValueId)) (ns : List ℕ) → IsTreeOf (IsOneOf tree.tests) (numbered M tree.items) ns o → IsTreeOf (IsOneOf tree.tests) (numbered N tree.items) ns o
    by (Some s) ns t = tree_stays (IsOneOf tree.tests) (numbered M tree.items) (numbered N tree.items) (λ n test v h. numbered_stays M N more tree.items n test v h) ns s t
    by None [] t = tt
    by None (n ∷ ns) t = t

module _ {T : Type 0} (M : T → ℕ → ValueId → Type 0) (one : (x : T) (test : ℕ) (v w : ValueId) → M x test v → M x test w → v ≡ w) (item : T) (tree : Grown T) (is : IsTree M tree) (are : AreNodes tree.nodes) where
  abbrev M1 : ℕ → ℕ → ValueId → Type 0
  M1 = numbered M (tree.items ++ item ∷ [])

  abbrev N1 : ℕ
  N1 = length tree.items

  one_of : HasOneValue M1
  one_of = numbered_one M one (tree.items ++ item ∷ [])

  -- the tree by the new list of items
  as_more : (root : Split ℕ ValueId) → tree_of tree.nodes ≡ Some root → IsSplitTree (IsOneOf tree.tests) M1 (numbers_below N1) root
  as_more root e = tree_stays (IsOneOf tree.tests) (numbered M tree.items) M1 (λ n test v h. numbered_more M tree.items item n test v h) (numbers_below N1) root
      (subst (λ z. IsTreeOf (IsOneOf tree.tests) (numbered M tree.items) (numbers_below N1) z) e is)

  -- where the way of the item comes, and what the node there stands for
  pub record IsThere (root : Split ℕ ValueId) (k n : ℕ) : Type 0 where
    pub part : Split ℕ ValueId
    pub stands : Stands tree.nodes k part
    pub way : LeadsTo (M item) root n part

  pub there_is : (root : Split ℕ ValueId) → tree_of tree.nodes ≡ Some root → (k n : ℕ) → Reaches M item tree.nodes k n → IsThere root k n
  there_is root e k n at_root = record { part = root; stands = root_stands tree.nodes are root e; way = start }
  there_is root e k n (step p c test m v way sp has child) = of (there_is root e p m way)
    where
      in_split : (part : Split ℕ ValueId) → Stands tree.nodes p part → LeadsTo (M item) root m part → IsThere root c (m + 1)
      in_split part (at_leaf _ j h) way = absurd (leaf_split j test (one_spot tree.nodes p (spot.Leaf j) (spot.Split test) h sp))
      in_split part (at_split _ other kids h below) way =
          let same : test ≡ other = split_test test other (one_spot tree.nodes p (spot.Split test) (spot.Split other) sp h) in
          let k = kid_of_child tree.nodes below c v (child_among tree.nodes p c v child) child in
          record { part = k.tree; stands = k.stands; way = down m other kids v k.tree way (subst (λ z. M item z v) same has) k.is_kid }

      of : IsThere root p m → IsThere root c (m + 1)
      of r = in_split r.part r.stands r.way

  -- it comes to a split
  pub record IsAtTest (root : Split ℕ ValueId) (k n test : ℕ) : Type 0 where
    pub kids : Kids ℕ ValueId
    pub below : StandBelow tree.nodes k (children tree.nodes k) kids
    pub way : LeadsTo (M item) root n (split test kids)
    pub is_test : In test tree.tests

  pub at_test : (root : Split ℕ ValueId) → tree_of tree.nodes ≡ Some root → (k n test : ℕ) → Reaches M item tree.nodes k n → IsSpot tree.nodes k (spot.Split test) → IsAtTest root k n test
  at_test root e k n test way sp = of (there_is root e k n way)
    where
      allowed : (kids : Kids ℕ ValueId) → LeadsTo (M item) root n (split test kids) → In test tree.tests
      allowed kids way =
          let r = led (IsOneOf tree.tests) M1 one_of N1 (as_more root e) (leads_stay (M item) (M1 N1) (λ t v h. last_numbered M tree.items item t v h) way) in
          (cut_of (IsOneOf tree.tests) M1 one_of N1 r.tree).is_allowed

      in_split : (part : Split ℕ ValueId) → Stands tree.nodes k part → LeadsTo (M item) root n part → IsAtTest root k n test
      in_split part (at_leaf _ j h) way = absurd (leaf_split j test (one_spot tree.nodes k (spot.Leaf j) (spot.Split test) h sp))
      in_split part (at_split _ other kids h below) way =
          let same : other ≡ test = split_test other test (one_spot tree.nodes k (spot.Split other) (spot.Split test) h sp) in
          let way_there = subst (λ z. LeadsTo (M item) root n (split z kids)) same way in
          record { kids = kids; below = below; way = way_there; is_test = allowed kids way_there }

      of : IsThere root k n → IsAtTest root k n test
      of r = in_split r.part r.stands r.way

  -- it comes to a leaf
  pub at_number : (root : Split ℕ ValueId) → tree_of tree.nodes ≡ Some root → (k n number : ℕ) → Reaches M item tree.nodes k n → IsSpot tree.nodes k (spot.Leaf number) → LeadsTo (M item) root n (leaf number)
  at_number root e k n number way sp = of (there_is root e k n way)
    where
      in_leaf : (part : Split ℕ ValueId) → Stands tree.nodes k part → LeadsTo (M item) root n part → LeadsTo (M item) root n (leaf number)
      in_leaf part (at_split _ test kids h below) way = absurd (leaf_split number test (one_spot tree.nodes k (spot.Leaf number) (spot.Split test) sp h))
      in_leaf part (at_leaf _ j h) way =
          subst (λ z. LeadsTo (M item) root n (leaf z)) (leaf_number j number (one_spot tree.nodes k (spot.Leaf j) (spot.Leaf number) h sp)) way

      of : IsThere root k n → LeadsTo (M item) root n (leaf number)
      of r = in_leaf r.part r.stands r.way

  -- an item that is told apart by its number is told apart
  others_differ : (k : ℕ) (x : T) → slice_get tree.items k ≡ Some x → Differ (IsOneOf tree.tests) M1 N1 k → Differ (IsOneOf tree.tests) M item x
  others_differ k x at d = differ_numbered M tree.items item (IsOneOf tree.tests) k x at d

  number_is : (k : ℕ) (x : T) → slice_get tree.items k ≡ Some x → In k (numbers_below N1)
  number_is k x at = number_in N1 k (slice_get_within tree.items k x at)

  some_nodes : (k : ℕ) (s : Spot) → IsSpot tree.nodes k s → 0 < length tree.nodes
  some_nodes k s h = let lt = spot_within tree.nodes k s h in omega arith

  pub leaf_number_within : (at number : ℕ) → IsAtLeaf M item tree at number → number < length tree.items
  leaf_number_within at number h =
      let r = root_of tree.nodes (some_nodes at (spot.Leaf number) h.leaf) in
      let way = leads_stay (M item) (M1 N1) (λ t v k. last_numbered M tree.items item t v k) (at_number r.root r.is at h.splits number h.way h.leaf) in
      in_number N1 number (leaf_exact (IsOneOf tree.tests) M1 one_of N1 (numbers_below N1) r.root (as_more r.root r.is) number h.splits way).0

  -- all items but the one at the leaf to which it is led differ from it
  pub others_at_leaf : (at number : ℕ) → IsAtLeaf M item tree at number → (k : ℕ) (x : T) → k ≢ number → slice_get tree.items k ≡ Some x → Differ (IsOneOf tree.tests) M item x
  others_at_leaf at number h k x ne is_item =
      let r = root_of tree.nodes (some_nodes at (spot.Leaf number) h.leaf) in
      let way = leads_stay (M item) (M1 N1) (λ t v k. last_numbered M tree.items item t v k) (at_number r.root r.is at h.splits number h.way h.leaf) in
      by ((leaf_exact (IsOneOf tree.tests) M1 one_of N1 (numbers_below N1) r.root (as_more r.root r.is) number h.splits way).1 k (number_is k x is_item))
    where
      by : (k ≡ number) ⊎ Differ (IsOneOf tree.tests) M1 N1 k → Differ (IsOneOf tree.tests) M item x
      by (inl e) = absurd (ne e)
      by (inr d) = others_differ k x is_item d

  pub other_at_split : (at : ℕ) (v : ValueId) → IsAtSplit M item tree at v → IsOther M item tree
  other_at_split at v h k x is_item =
      let r = root_of tree.nodes (some_nodes at (spot.Split h.test) h.split) in
      let t = at_test r.root r.is at h.splits h.test h.way h.split in
      others_differ k x is_item
      (new_child_exact (IsOneOf tree.tests) M1 one_of N1 (numbers_below N1) r.root (as_more r.root r.is) v h.splits h.test t.kids
      (leads_stay (M item) (M1 N1) (λ t v k. last_numbered M tree.items item t v k) t.way) (last_numbered M tree.items item h.test v h.has)
      (λ part kid. let c = child_of_kid tree.nodes t.below kid in h.nowhere c.0 c.1) k (number_is k x is_item))

  -- Placed

  module _ (new : Grown T) (tests : new.tests ≡ tree.tests) (items : new.items ≡ tree.items ++ item ∷ []) where
    -- a tree of the new list of items is the new one
    as_new : (after : List Node) → new.nodes ≡ after → (more : Split ℕ ValueId) → tree_of after ≡ Some more → IsSplitTree (IsOneOf tree.tests) M1 (numbers_below N1 ++ N1 ∷ []) more → IsTree M new
    as_new after nodes more e t =
        subst (λ z. IsTreeOf (IsOneOf new.tests) (numbered M new.items) (numbers_below (length new.items)) z) (sym (ap tree_of nodes ∙ e))
        (subst (λ z. IsSplitTree (IsOneOf z) (numbered M new.items) (numbers_below (length new.items)) more) (sym tests)
        (subst (λ z. IsSplitTree (IsOneOf tree.tests) (numbered M z) (numbers_below (length z)) more) (sym items)
        (subst (λ z. IsSplitTree (IsOneOf tree.tests) M1 z more) (sym (one_more_number tree.items item)) t)))

    -- where the node at the end of the way stands for a tree in which the item was placed, so does the root
    grown_tree : (apart : AreApart tree.nodes) (after : List Node) (s m : ℕ) (kids : List ℕ) (g : IsGrown tree.nodes after s kids) → new.nodes ≡ after → AreNodes after → 0 < length tree.nodes
        → Reaches M item tree.nodes s m → ((part : Split ℕ ValueId) → Stands tree.nodes s part → IsMore tree.nodes after are s kids g apart (IsOneOf tree.tests) M1 N1 s part) → IsTree M new
    grown_tree apart after s m kids g nodes are_after some way here_is =
        let r = root_of tree.nodes some in
        let more = grow tree.nodes after are s kids g apart (IsOneOf tree.tests) M1 N1 here_is 0
        (goes M item (M1 N1) (λ t v h. last_numbered M tree.items item t v h) tree.nodes s s m way there) r.root (root_stands tree.nodes are r.root r.is) in
        as_new after nodes more.more (tree_is after are_after more.more more.stands)
        (placing_grows (IsOneOf tree.tests) M1 N1 (numbers_below N1) r.root more.more (as_more r.root r.is) more.placed)

    pub tree_with_child : AreApart tree.nodes → (s : ℕ) (v : ValueId) → IsAtSplit M item tree s v → new.nodes ≡ tree.nodes ++ leaf_node s v N1 ∷ [] → IsTree M new
    tree_with_child apart s v h nodes =
        grown_tree apart (with_child tree.nodes s N1 h.test v h.split) s h.splits (length tree.nodes ∷ []) (child_grown tree.nodes s N1 h.test v h.split) nodes
        (child_nodes tree.nodes s N1 h.test v h.split are) (some_nodes s (spot.Split h.test) h.split) h.way
        (child_here tree.nodes (with_child tree.nodes s N1 h.test v h.split) are s (length tree.nodes) (child_grown tree.nodes s N1 h.test v h.split) (IsOneOf tree.tests) M1 N1
        h.test h.split (child_split tree.nodes s N1 h.test v h.split) v (last_numbered M tree.items item h.test v h.has) h.nowhere
        (child_there tree.nodes s N1 h.test v h.split) (child_leaf tree.nodes s N1 h.test v h.split) apart)

    pub tree_with_split : AreApart tree.nodes → Rising (λ n m. n < m) tree.tests → (s a : ℕ) (d : Difference) → IsApart M item tree s a d → IsSplitLeaf tree.nodes new.nodes s a N1 d → IsTree M new
    tree_with_split apart rising s a d h l =
        grown_tree apart (with_leaves tree.nodes s a N1 d l.node l.is leaf_is) s h.end.splits (length tree.nodes ∷ (length tree.nodes + 1) ∷ [])
        (leaves_grown tree.nodes s a N1 d l.node l.is leaf_is) l.nodes_are (leaves_nodes tree.nodes s a N1 d l.node l.is leaf_is are) (some_nodes s (spot.Leaf a) h.end.leaf) h.end.way
        (split_here tree.nodes (with_leaves tree.nodes s a N1 d l.node l.is leaf_is) are s (length tree.nodes) (length tree.nodes + 1) (leaves_grown tree.nodes s a N1 d l.node l.is leaf_is)
        (IsOneOf tree.tests) M1 N1 a d.test h.end.leaf (leaves_split tree.nodes s a N1 d l.node l.is leaf_is) first
        (old_child tree.nodes s a N1 d l.node l.is leaf_is) (new_child tree.nodes s a N1 d l.node l.is leaf_is) (old_leaf tree.nodes s a N1 d l.node l.is leaf_is) (new_leaf tree.nodes s a N1 d l.node l.is leaf_is) apart)
      where
        leaf_is : l.node.spot ≡ spot.Leaf a
        leaf_is = some_same l.node.spot (spot.Leaf a) (sym (slice_get-map (λ (m : Node). m.spot) tree.nodes s ∙ ap (λ z. option_map (λ (m : Node). m.spot) z) l.is) ∙ h.end.leaf)

        old_means : (t : ℕ) (v : ValueId) → M h.old t v → M1 a t v
        old_means t v x = numbered_more M tree.items item a t v (h.old, h.is, x)

        agree : (k : ℕ) → k < d.test → In k tree.tests → AgreeAt M1 a N1 k
        agree k lt at =
            let (j, before, e) = before_place tree.tests rising h.told.place k h.told.within (subst (λ z. k < z) (sym h.told.is) lt) at in
            let (v, new_has, old_has) = subst (λ z. AgreeAt M item h.old z) e (h.told.agree j before) in
            (v, old_means k v old_has, last_numbered M tree.items item k v new_has)

        first : IsFirstDifference (IsOneOf tree.tests) M1 a N1 d.test
        first = record {
          is_allowed = subst (λ z. In z tree.tests) h.told.is (index_in tree.tests h.told.place h.told.within);
          agree = agree;
          differ = (d.old, d.new, old_means d.test d.old h.told.old_has, last_numbered M tree.items item d.test d.new h.told.new_has, h.told.differ);
        }

    -- an empty tree has no items, so the first one is the root
    pub tree_of_one : tree.nodes ≡ [] → new.nodes ≡ root_node ∷ [] → IsTree M new
    tree_of_one empty nodes =
        let none_there : numbers_below N1 ≡ [] = no_items (numbers_below N1) (subst (λ z. IsTreeOf (IsOneOf tree.tests) (numbered M tree.items) (numbers_below N1) z) (ap tree_of empty) is) in
        let size : N1 ≡ 0 = no_numbers N1 none_there in
        as_new (root_node ∷ []) nodes (leaf 0) refl
        (subst (λ z. IsSplitTree (IsOneOf tree.tests) M1 z (leaf 0)) (sym (ap (λ z. z ++ N1 ∷ []) none_there ∙ ap (λ z. z ∷ []) size)) (alone 0))
      where
        no_items : (ns : List ℕ) → IsTreeOf (IsOneOf tree.tests) (numbered M tree.items) ns None → ns ≡ []
        no_items [] t = refl
        no_items (n ∷ ns) t = absurd t

        no_numbers : (n : ℕ) → numbers_below n ≡ [] → n ≡ 0
        no_numbers zero e = refl
        no_numbers (suc n) e = in_none (subst (λ z. In n z) e (number_in (suc n) n (omega arith)))

  -- in an empty tree there is no item
  pub none_in_empty : tree.nodes ≡ [] → IsOther M item tree
  none_in_empty empty k x at = by (numbers_below N1) (number_is k x at) (subst (λ z. IsTreeOf (IsOneOf tree.tests) (numbered M tree.items) (numbers_below N1) z) (ap tree_of empty) is)
    where
      by : (ns : List ℕ) → In k ns → IsTreeOf (IsOneOf tree.tests) (numbered M tree.items) ns None → Differ (IsOneOf tree.tests) M item x
      by [] at t = in_none at
      by (n ∷ ns) at t = absurd t

-- the way stays while more is meant
pub way_stays : {T : Type 0} (M N : T → ℕ → ValueId → Type 0) → MeaningStays M N → (item : T) (nodes : List Node) (k n : ℕ) → Reaches M item nodes k n → Reaches N item nodes k n
way_stays M N more item nodes k n at_root = at_root
way_stays M N more item nodes k n (step p c test m v way sp has child) = step p c test m v (way_stays M N more item nodes p m way) sp (more item test v has) child

module _ {T : Type 0} (M : T → ℕ → ValueId → Type 0) (one : (x : T) (test : ℕ) (v w : ValueId) → M x test v → M x test w → v ≡ w) (item : T) (tree : Grown T) (is : IsTree M tree) (are : AreNodes tree.nodes) where
  -- a split on the way stands at an allowed test
  pub test_on_way : (k n test : ℕ) → Reaches M item tree.nodes k n → IsSpot tree.nodes k (spot.Split test) → In test tree.tests
  test_on_way k n test way sp =
      let r = root_of tree.nodes (let lt = spot_within tree.nodes k (spot.Split test) sp in omega arith) in
      (at_test M one item tree is are r.root r.is k n test way sp).is_test
