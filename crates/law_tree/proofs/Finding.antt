-- What a walk and a comparison say together, and what follows of the old items.
use Rattle.std.proofs.Common.{◌≡◌, ◌≢◌, ℕ, ◌≤◌, ◌+◌, ◌⊎◌, inl, inr, List, [], ◌∷◌, ◌++◌, Option, Some, None, sym, ap, subst, arith}
use Rattle.std.specs.List.{slice_get}
use Rattle.law_sig.specs.Lists.{In}
use Rattle.law_sig.specs.Lists.In.{here}
use Rattle.law_laws.proofs.ListFacts.{in_none, in_rest, in_left, in_right}
use Rattle.law_splits.specs.Agree.{Agree, Differ}
use Rattle.law_splits.proofs.Fixed.{not_agree}
use Rattle.law_ids.specs.declared.ids.ValueId.{ValueId}
use Rattle.law_tree.specs.declared.compare.Difference.{Difference}
use Rattle.law_tree.specs.declared.look.End.{End}
use Rattle.law_tree.specs.declared.look.End.TheVariants as end
use Rattle.law_tree.specs.declared.nodes.Spot.TheVariants as spot
use Rattle.law_tree.specs.Asking.{IsOneOf, MeaningStays, IsOf}
use Rattle.law_tree.specs.Comparing.{IsAskedUpTo, IsTold, IsCompared}
use Rattle.law_tree.specs.Nodes.{AreNodes, IsSpot}
use Rattle.law_tree.specs.Grown.{Grown, IsTree}
use Rattle.law_tree.specs.Finding.{IsSame, IsOther, IsFound, IsExact, IsAsked}
use Rattle.law_tree.specs.Finding.IsAsked.{to_split, to_leaf}
use Rattle.law_tree.specs.Looking.{Reaches, IsAtSplit, IsAtLeaf, IsApart, IsEnd, IsStopped}
use Rattle.law_tree.proofs.ListFacts.{same_or, one_item, some_same, get_in, index_in}
use Rattle.law_tree.proofs.Standing.{spot_within}
use Rattle.law_tree.proofs.Placing.{root_of, at_test, at_number, way_stays, others_at_leaf}

-- the ends of a walk
module _ {T : Type 0} (M : T → ℕ → ValueId → Type 0) (item : T) (tree : Grown T) (before now : ℕ) (e : End) where
  pub ends_at_leaf : (at n : ℕ) → e ≡ end.Leaf at n → IsEnd M item tree before now e → (h : IsAtLeaf M item tree at n) × (now ≤ before + h.splits)
  ends_at_leaf at n is h = subst (λ z. IsEnd M item tree before now z) is h

  pub ends_at_split : (at : ℕ) (v : ValueId) → e ≡ end.Split at v → IsEnd M item tree before now e → (h : IsAtSplit M item tree at v) × (now ≤ before + (h.splits + 1))
  ends_at_split at v is h = subst (λ z. IsEnd M item tree before now z) is h

pub leaf_stays : {T : Type 0} (M N : T → ℕ → ValueId → Type 0) → MeaningStays M N → (item : T) (tree : Grown T) (at n : ℕ) → IsAtLeaf M item tree at n → IsAtLeaf N item tree at n
leaf_stays M N more item tree at n h = record { splits = h.splits; way = way_stays M N more item tree.nodes at h.splits h.way; leaf = h.leaf }

module _ {T : Type 0} (M : T → ℕ → ValueId → Type 0) (one : (x : T) (test : ℕ) (v w : ValueId) → M x test v → M x test w → v ≡ w) (item : T) (tree : Grown T) (is : IsTree M tree) (are : AreNodes tree.nodes) where
  -- how often it is asked

  pub stopped_asked : (before now : ℕ) → IsStopped M item tree before now → IsAsked M item tree before now
  stopped_asked before now h =
      let r = root_of tree.nodes (let lt = spot_within tree.nodes h.place (spot.Split h.test) h.split in omega arith) in
      let t = at_test M one item tree is are r.root r.is h.place h.splits h.test h.way h.split in
      to_split (record { root = r.root; is = r.is; splits = h.splits; test = h.test; kids = t.kids; way = t.way; few = h.few })

  pub split_asked : (before now at : ℕ) (v : ValueId) (h : IsAtSplit M item tree at v) → now ≤ before + (h.splits + 1) → IsAsked M item tree before now
  split_asked before now at v h few = stopped_asked before now (record { place = at; splits = h.splits; way = h.way; test = h.test; split = h.split; few = few })

  pub leaf_asked : (before between now at n splits : ℕ) → Reaches M item tree.nodes at splits → IsSpot tree.nodes at (spot.Leaf n) → (old : T) → slice_get tree.items n ≡ Some old
      → (tests : List ℕ) → tests ≡ tree.tests → between ≤ before + splits → IsAskedUpTo M item old tests between now → IsAsked M item tree before now
  leaf_asked before between now at n splits way leaf old is_old tests e few a =
      let r = root_of tree.nodes (let lt = spot_within tree.nodes at (spot.Leaf n) leaf in omega arith) in
      to_leaf (record {
        root = r.root;
        is = r.is;
        splits = splits;
        number = n;
        way = at_number M one item tree is are r.root r.is at splits n way leaf;
        old = old;
        is_old = is_old;
        few = subst (λ z. IsAskedUpTo M item old z (before + splits) now) e (record { upto = a.upto; within = a.within; agree = a.agree; few = let b = a.few in omega arith });
      })

  -- what is found

  pub same_found : (at n : ℕ) → IsAtLeaf M item tree at n → (old : T) → slice_get tree.items n ≡ Some old → (tests : List ℕ) → tests ≡ tree.tests → (r : Option Difference) → r ≡ None
      → IsCompared M item old tests r → IsSame M item tree n
  same_found at n h old is_old tests e r none compared = record {
    old = old;
    is = is_old;
    agree = subst (λ z. Agree (IsOneOf z) M item old) e (subst (λ z. IsCompared M item old tests z) none compared);
    others = λ k x ne is_x. others_at_leaf M one item tree is are at n h k x ne is_x;
  }

  pub apart_found : (at n : ℕ) → IsAtLeaf M item tree at n → (old : T) → slice_get tree.items n ≡ Some old → (tests : List ℕ) → tests ≡ tree.tests → (r : Option Difference) (d : Difference) → r ≡ Some d
      → IsCompared M item old tests r → IsApart M item tree at n d × IsOther M item tree
  apart_found at n h old is_old tests e r d some compared = (record { end = h; old = old; is = is_old; told = told }, other)
    where
      told : IsTold M item old tree.tests d
      told = subst (λ z. IsTold M item old z d) e (subst (λ z. IsCompared M item old tests z) some compared)

      here_differ : Differ (IsOneOf tree.tests) M item old
      here_differ = record {
        test = d.test;
        is_allowed = subst (λ z. In z tree.tests) told.is (index_in tree.tests told.place told.within);
        differ = (d.new, d.old, told.new_has, told.old_has, λ q. told.differ (sym q));
      }

      other : IsOther M item tree
      other k x is_x = by (same_or k n)
        where
          by : (k ≡ n) ⊎ (k ≢ n) → Differ (IsOneOf tree.tests) M item x
          by (inl same) = subst (λ z. Differ (IsOneOf tree.tests) M item z) (one_item tree.items n old x is_old (subst (λ z. slice_get tree.items z ≡ Some x) same is_x)) here_differ
          by (inr ne) = others_at_leaf M one item tree is are at n h k x ne is_x

module _ {T : Type 0} (M : T → ℕ → ValueId → Type 0) (one : (x : T) (test : ℕ) (v w : ValueId) → M x test v → M x test w → v ≡ w) (item : T) (tree : Grown T) where
  -- a number is found exactly where the item agrees
  pub found_exact : (r : Option ℕ) → IsFound M item tree r → IsExact M item tree r
  found_exact None h n old is_old =
      (λ e. let no : ◌≡◌ {A = Option ℕ} None (Some n) = e in cc, λ a. absurd (not_agree (IsOneOf tree.tests) M one item old (h n old is_old) a))
  found_exact (Some m) h n old is_old = (to, λ a. by (same_or n m) a)
    where
      to : Some m ≡ Some n → Agree (IsOneOf tree.tests) M item old
      to e =
          let same : m ≡ n = some_same m n e in
          subst (λ z. Agree (IsOneOf tree.tests) M item z) (one_item tree.items n h.old old (subst (λ z. slice_get tree.items z ≡ Some h.old) same h.is) is_old) h.agree

      by : (n ≡ m) ⊎ (n ≢ m) → Agree (IsOneOf tree.tests) M item old → Some m ≡ Some n
      by (inl e) a = ap Some (sym e)
      by (inr ne) a = absurd (not_agree (IsOneOf tree.tests) M one item old (h.others n old ne is_old) a)

-- a fault of the new item, or of one of two, is one of all
module _ {T F : Type 0} (True : T → ℕ → F → Type 0) (items : List T) (item : T) (tests : List ℕ) (f : F) where
  pub of_item : IsOf True (item ∷ []) tests f → IsOf True (items ++ item ∷ []) tests f
  of_item h = record { item = h.item; is_item = in_right items h.is_item; test = h.test; is_test = h.is_test; holds = h.holds }

  pub of_two : (n : ℕ) (old : T) → slice_get items n ≡ Some old → (us : List ℕ) → us ≡ tests → IsOf True (item ∷ old ∷ []) us f → IsOf True (items ++ item ∷ []) tests f
  of_two n old is_old us e h = record { item = h.item; is_item = by (in_rest h.is_item); test = h.test; is_test = subst (λ z. In h.test z) e h.is_test; holds = h.holds }
    where
      last : (h.item ≡ old) ⊎ In h.item [] → In h.item (items ++ item ∷ [])
      last (inl same) = in_left (item ∷ []) (subst (λ z. In z items) (sym same) (get_in items n old is_old))
      last (inr none) = in_none none

      by : (h.item ≡ item) ⊎ In h.item (old ∷ []) → In h.item (items ++ item ∷ [])
      by (inl same) = in_right items (subst (λ z. In h.item (z ∷ [])) same here)
      by (inr rest) = last (in_rest rest)
