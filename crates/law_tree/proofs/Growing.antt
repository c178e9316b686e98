-- What nodes stand for when a node was given new children: the tree in which an item was placed.
use Rattle.std.proofs.Common.{◌≡◌, ◌≢◌, ℕ, ◌<◌, ◌≤◌, ◌⊎◌, inl, inr, List, [], ◌∷◌, ◌++◌, length, sym, ap, ◌∙◌, subst, refl, arith}
use Rattle.law_splits.specs.Splits.{Split, Kids}
use Rattle.law_splits.specs.Splits.Split.{leaf, split}
use Rattle.law_splits.specs.Splits.Kids.{none, kid}
use Rattle.law_splits.specs.Placing.{Placed, PlacedAmong}
use Rattle.law_splits.specs.Agree.{IsFirstDifference}
use Rattle.law_splits.specs.Placing.Placed.{apart as split_leaf, below}
use Rattle.law_splits.specs.Placing.PlacedAmong.{at_last, at_kid, past_kid}
use Rattle.law_sig.specs.Lists.{In, Each, Rising}
use Rattle.law_sig.specs.Lists.In.{here as at_first, there}
use Rattle.law_laws.proofs.ListFacts.{in_none, in_rest, each_of, of_each}
use Rattle.law_ids.specs.declared.ids.ValueId.{ValueId}
use Rattle.law_tree.specs.declared.nodes.Node.{Node}
use Rattle.law_tree.specs.declared.nodes.Spot.{Spot}
use Rattle.law_tree.specs.declared.nodes.Spot.TheVariants as spot
use Rattle.law_tree.specs.Nodes.{edges_of, IsSpot, IsChild, AreNodes}
use Rattle.law_tree.specs.Listing.{children}
use Rattle.law_tree.specs.Looking.{AreApart, Reaches}
use Rattle.law_tree.specs.Looking.Reaches.{here as at_root, down as step}
use Rattle.law_tree.proofs.ListFacts.{same_or}
use Rattle.law_tree.proofs.EdgeFacts.{one_parent_at, children_rise}
use Rattle.law_tree.proofs.Standing.{Stands, StandBelow, spot_within, leaf_number, split_test, leaf_split, one_spot, among_child, child_among}
use Rattle.law_tree.proofs.Standing.Stands.{at_leaf, at_split}
use Rattle.law_tree.proofs.Standing.StandBelow.{no_more, next}

-- the node at l is the one at j, or below it
pub data Under (nodes : List Node) (j : ℕ) : ℕ → Type 0 where
  here : Under nodes j j
  down : (p c : ℕ) (v : ValueId) → Under nodes j p → IsChild nodes p c v → Under nodes j c

module _ (nodes : List Node) (are : AreNodes nodes) where
  under_le : (j l : ℕ) → Under nodes j l → j ≤ l
  under_le j l here = omega arith
  under_le j l (down p c v u h) = let a = under_le j p u in let b = are.later p c v h in omega arith

  pub under_child : (p c l : ℕ) (v : ValueId) → IsChild nodes p c v → Under nodes c l → Under nodes p l
  under_child p c l v h here = down p c v here h
  under_child p c l v h (down q d w u k) = down q d w (under_child p c q v h u) k

  -- a node is below one child of a split at most
  pub one_way : (p c d l : ℕ) (v w : ValueId) → IsChild nodes p c v → IsChild nodes p d w → Under nodes c l → Under nodes d l → c ≡ d
  one_way p c d l v w h k here here = refl
  one_way p c d l v w h k here (down q _ u a i) =
      let same : q ≡ p = (one_parent_at (edges_of nodes) q p c u v i h).0 in
      let le = under_le d q a in
      let lt = are.later p d w k in
      absurd (omega arith)
  one_way p c d l v w h k (down q _ u a i) here =
      let same : q ≡ p = (one_parent_at (edges_of nodes) q p d u w i k).0 in
      let le = under_le c q a in
      let lt = are.later p c v h in
      absurd (omega arith)
  one_way p c d l v w h k (down q _ u a i) (down r _ x b j) =
      let same : r ≡ q = (one_parent_at (edges_of nodes) r q l x u j i).0 in
      one_way p c d q v w h k a (subst (λ z. Under nodes d z) same b)

-- a way by values, from the node at q down to the one at s
pub data Goes (P : ℕ → ValueId → Type 0) (nodes : List Node) (s : ℕ) : ℕ → Type 0 where
  at : Goes P nodes s s
  by : (q c test : ℕ) (v : ValueId) → IsSpot nodes q (spot.Split test) → P test v → IsChild nodes q c v → Goes P nodes s c → Goes P nodes s q

pub goes : {T : Type 0} (M : T → ℕ → ValueId → Type 0) (item : T) (P : ℕ → ValueId → Type 0) → ((test : ℕ) (v : ValueId) → M item test v → P test v)
    → (nodes : List Node) (s k n : ℕ) → Reaches M item nodes k n → Goes P nodes s k → Goes P nodes s 0
goes M item P means nodes s k n at_root g = g
goes M item P means nodes s k n (step p c test m v way is has child) g = goes M item P means nodes s p m way (by p c test v is (means test v has) child g)

pub goes_under : (P : ℕ → ValueId → Type 0) (nodes : List Node) (are : AreNodes nodes) (s q : ℕ) → Goes P nodes s q → Under nodes q s
goes_under P nodes are s q at = here
goes_under P nodes are s q (by _ c test v is has child g) = under_child nodes are q c s v child (goes_under P nodes are s c g)

-- the node at s has these new children, and all that stood elsewhere is there
pub record IsGrown (nodes after : List Node) (s : ℕ) (new : List ℕ) : Type 0 where
  pub child_stays : (p c : ℕ) (v : ValueId) → IsChild nodes p c v → IsChild after p c v
  pub spot_stays : (k : ℕ) (x : Spot) → k ≢ s → IsSpot nodes k x → IsSpot after k x
  pub children_stay : (p : ℕ) → p ≢ s → p < length nodes → children after p ≡ children nodes p
  pub children_more : children after s ≡ children nodes s ++ new

module _ (nodes after : List Node) (are : AreNodes nodes) (s : ℕ) (new : List ℕ) (g : IsGrown nodes after s new) where
  within : (k : ℕ) (x : Spot) → IsSpot nodes k x → k < length nodes
  within k x h = spot_within nodes k x h

  -- what isn't above s stays as it was
  mutual
    pub off : {k : ℕ} {tree : Split ℕ ValueId} → Stands nodes k tree → (Under nodes k s → ⊥) → Stands after k tree
    off (at_leaf k n h) away = at_leaf k n (g.spot_stays k (spot.Leaf n) (λ e. away (subst (λ z. Under nodes k z) e here)) h)
    off (at_split k test kids h b) away =
        let ne : k ≢ s = λ e. away (subst (λ z. Under nodes k z) e here) in
        at_split k test kids (g.spot_stays k (spot.Split test) ne h)
        (subst (λ z. StandBelow after k z kids) (sym (g.children_stay k ne (within k (spot.Split test) h)))
        (off_below b (λ c at u. let h = among_child nodes k c at in away (under_child nodes are k c s h.0 h.1 u))))

    pub off_below : {p : ℕ} {cs : List ℕ} {kids : Kids ℕ ValueId} → StandBelow nodes p cs kids → ((c : ℕ) → In c cs → Under nodes c s → ⊥) → StandBelow after p cs kids
    off_below (no_more p) away = no_more p
    off_below (next p c cs v tree kids h t b) away = next p c cs v tree kids (g.child_stays p c v h) (off t (away c at_first)) (off_below b (λ d at. away d (there at)))

  module _ (apart : AreApart nodes) (allowed : ℕ → Type 0) (M : ℕ → ℕ → ValueId → Type 0) (x : ℕ) where
    -- the node at k stands now for the tree in which x was placed
    pub record IsMore (k : ℕ) (tree : Split ℕ ValueId) : Type 0 where
      pub more : Split ℕ ValueId
      pub stands : Stands after k more
      pub placed : Placed allowed M x tree more

    pub record AreMore (p : ℕ) (cs : List ℕ) (test : ℕ) (kids : Kids ℕ ValueId) : Type 0 where
      pub more : Kids ℕ ValueId
      pub stand : StandBelow after p cs more
      pub placed : PlacedAmong allowed M x test kids more

    grow_below : {p : ℕ} {cs : List ℕ} {kids : Kids ℕ ValueId} → StandBelow nodes p cs kids → Each (λ c. (v : ValueId) × IsChild nodes p c v) cs → Rising (λ c d. c < d) cs
        → (c test : ℕ) (v : ValueId) → IsChild nodes p c v → M x test v → In c cs → Under nodes c s → ((tree : Split ℕ ValueId) → Stands nodes c tree → IsMore c tree)
        → AreMore p cs test kids
    grow_below (no_more p) children rise c test v child has member under rec = in_none member
    grow_below (next p d ds u tree kids h t b) children rise c test v child has member under rec =
        of (same_or d c) (in_rest member) (λ later. grow_below b children.1 rise.1 c test v child has later under rec)
      where
        of : (d ≡ c) ⊎ (d ≢ c) → (c ≡ d) ⊎ In c ds → (In c ds → AreMore p ds test kids) → AreMore p (d ∷ ds) test (kid u tree kids)
        of (inl e) where_is rest =
            let r = rec tree (subst (λ z. Stands nodes z tree) e t) in
            let value : u ≡ v = (one_parent_at (edges_of nodes) p p c u v (subst (λ z. IsChild nodes p z u) e h) child).1 in
            record {
              more = kid u r.more kids;
              stand = next p d ds u r.more kids (g.child_stays p d u h) (subst (λ z. Stands after z r.more) (sym e) r.stands)
                  (off_below b (λ q at w.
                  let is = of_each (λ c. (v : ValueId) × IsChild nodes p c v) at children.1 in
                  let lt = of_each (λ m. d < m) at rise.0 in
                  let same : q ≡ c = one_way nodes are p q c s is.0 v is.1 child w under in
                  absurd (omega arith)));
              placed = at_kid test u tree r.more kids (subst (λ z. M x test z) (sym value) has) r.placed;
            }
        of (inr ne) (inl e) rest = absurd (ne (sym e))
        of (inr ne) (inr later) rest =
            let r = rest later in
            record {
              more = kid u tree r.more;
              stand = next p d ds u tree r.more (g.child_stays p d u h) (off t (λ w. ne (one_way nodes are p d c s u v h child w under))) r.stand;
              placed = past_kid test u v tree kids r.more has (λ e. ne (apart p d c u h (subst (λ z. IsChild nodes p c z) e child))) r.placed;
            }

    -- so it is all the way up, where it is at s
    pub grow : (here_is : (tree : Split ℕ ValueId) → Stands nodes s tree → IsMore s tree) → (q : ℕ) → Goes (M x) nodes s q → (tree : Split ℕ ValueId) → Stands nodes q tree → IsMore q tree
    grow here_is q at tree t = here_is tree t
    grow here_is q (by _ c test v is has child way) tree t = of t (grow here_is c way)
      where
        of : {tree : Split ℕ ValueId} → Stands nodes q tree → ((tree : Split ℕ ValueId) → Stands nodes c tree → IsMore c tree) → IsMore q tree
        of (at_leaf _ n h) rec = absurd (leaf_split n test (one_spot nodes q (spot.Leaf n) (spot.Split test) h is))
        of (at_split _ other kids h b) rec =
            let same : test ≡ other = split_test test other (one_spot nodes q (spot.Split test) (spot.Split other) is h) in
            let under = goes_under (M x) nodes are s c way in
            let le = under_le nodes are c s under in
            let lt = are.later q c v child in
            let ne : q ≢ s = λ e. omega arith in
            let r = grow_below b (each_of (λ c. (v : ValueId) × IsChild nodes q c v) (children nodes q) (λ d at. among_child nodes q d at)) (children_rise (edges_of nodes) 0 q).1
            c other v child (subst (λ z. M x z v) same has) (child_among nodes q c v child) under rec in
            record {
              more = split other r.more;
              stands = at_split q other r.more (g.spot_stays q (spot.Split other) ne h)
                  (subst (λ z. StandBelow after q z r.more) (sym (g.children_stay q ne (within q (spot.Split other) h))) r.stand);
              placed = below other kids r.more r.placed;
            }

-- A last child

module _ (nodes after : List Node) (are : AreNodes nodes) (s c : ℕ) (g : IsGrown nodes after s (c ∷ [])) (allowed : ℕ → Type 0) (M : ℕ → ℕ → ValueId → Type 0) (x : ℕ)
    (test : ℕ) (split_there : IsSpot nodes s (spot.Split test)) (split_stays : IsSpot after s (spot.Split test)) (v : ValueId) (has : M x test v)
    (nowhere : (d : ℕ) → IsChild nodes s d v → ⊥) (child : IsChild after s c v) (leaf_there : IsSpot after c (spot.Leaf x)) (apart : AreApart nodes) where
  last_below : {cs : List ℕ} {kids : Kids ℕ ValueId} → StandBelow nodes s cs kids → AreMore nodes after are s (c ∷ []) g apart allowed M x s (cs ++ c ∷ []) test kids
  last_below (no_more _) = record { more = kid v (leaf x) none; stand = next s c [] v (leaf x) none child (at_leaf c x leaf_there) (no_more s); placed = at_last test v has }
  last_below (next _ d ds u tree kids h t b) = after_first (last_below b)
    where
      after_first : AreMore nodes after are s (c ∷ []) g apart allowed M x s (ds ++ c ∷ []) test kids → AreMore nodes after are s (c ∷ []) g apart allowed M x s (d ∷ ds ++ c ∷ []) test (kid u tree kids)
      after_first r = record {
        more = kid u tree r.more;
        stand = next s d (ds ++ c ∷ []) u tree r.more (g.child_stays s d u h)
            (off nodes after are s (c ∷ []) g t (λ w. let le = under_le nodes are d s w in let lt = are.later s d u h in omega arith)) r.stand;
        placed = past_kid test u v tree kids r.more has (λ e. nowhere d (subst (λ z. IsChild nodes s d z) (sym e) h)) r.placed;
      }

  pub child_here : (tree : Split ℕ ValueId) → Stands nodes s tree → IsMore nodes after are s (c ∷ []) g apart allowed M x s tree
  child_here tree (at_leaf _ n h) = absurd (leaf_split n test (one_spot nodes s (spot.Leaf n) (spot.Split test) h split_there))
  child_here tree (at_split _ other kids h b) =
      let same : test ≡ other = split_test test other (one_spot nodes s (spot.Split test) (spot.Split other) split_there h) in
      let r = last_below b in
      subst (λ z. IsMore nodes after are s (c ∷ []) g apart allowed M x s (split z kids)) same
      (record { more = split test r.more; stands = at_split s test r.more split_stays (subst (λ z. StandBelow after s z r.more) (sym g.children_more) r.stand); placed = below test kids r.more r.placed })

-- A leaf that becomes a split

module _ (nodes after : List Node) (are : AreNodes nodes) (s c d : ℕ) (g : IsGrown nodes after s (c ∷ d ∷ [])) (allowed : ℕ → Type 0) (M : ℕ → ℕ → ValueId → Type 0) (x : ℕ)
    (y test : ℕ) (leaf_there : IsSpot nodes s (spot.Leaf y)) (split_now : IsSpot after s (spot.Split test)) (differ : IsFirstDifference allowed M y x test)
    (old_child : IsChild after s c differ.differ.0) (new_child : IsChild after s d differ.differ.1)
    (old_leaf : IsSpot after c (spot.Leaf y)) (new_leaf : IsSpot after d (spot.Leaf x)) (apart : AreApart nodes) where
  pub split_here : (tree : Split ℕ ValueId) → Stands nodes s tree → IsMore nodes after are s (c ∷ d ∷ []) g apart allowed M x s tree
  split_here tree (at_split _ other kids h b) = absurd (leaf_split y other (one_spot nodes s (spot.Leaf y) (spot.Split other) leaf_there h))
  split_here tree (at_leaf _ n h) =
      let same : y ≡ n = leaf_number y n (one_spot nodes s (spot.Leaf y) (spot.Leaf n) leaf_there h) in
      let old_value = differ.differ.0 in
      let new_value = differ.differ.1 in
      let none_there : children nodes s ≡ [] = childless (children nodes s) refl in
      subst (λ z. IsMore nodes after are s (c ∷ d ∷ []) g apart allowed M x s (leaf z)) same
      (record {
        more = split test (kid old_value (leaf y) (kid new_value (leaf x) none));
        stands = at_split s test _ split_now (subst (λ z. StandBelow after s z (kid old_value (leaf y) (kid new_value (leaf x) none))) (sym (g.children_more ∙ ap (λ z. z ++ c ∷ d ∷ []) none_there))
            (next s c (d ∷ []) old_value (leaf y) _ old_child (at_leaf c y old_leaf) (next s d [] new_value (leaf x) none new_child (at_leaf d x new_leaf) (no_more s))));
        placed = split_leaf y test differ;
      })
    where
      childless : (cs : List ℕ) → children nodes s ≡ cs → cs ≡ []
      childless [] e = refl
      childless (q ∷ cs) e =
          let h = among_child nodes s q (subst (λ z. In q z) (sym e) at_first) in
          let t = are.below_splits s q h.0 h.1 in
          absurd (leaf_split y t.0 (one_spot nodes s (spot.Leaf y) (spot.Split t.0) leaf_there t.1))
