-- Trees by the placing rule are what a valid certificate asks of its trees.
use Rattle.std.proofs.Common.{◌≡◌, ◌≢◌, ℕ, zero, suc, ◌<◌, ◌⊎◌, inl, inr, Some, IsSome, List, [], ◌∷◌, ◌++◌, map, slice_get, refl, sym, ap, ap₂, ◌∙◌, subst, arith}
use Rattle.law_sig.specs.Lists.{In, Each, AreDistinct}
use Rattle.law_sig.specs.Lists.In.{here, there}
use Rattle.law_sig.specs.Trees.{joined}
use Rattle.law_sig.specs.Signature.{sort_of}
use Rattle.law_sig.specs.Tests.{Pools}
use Rattle.law_sig.specs.declared.tree.Tree.{Tree}
use Rattle.law_sig.specs.declared.parts.SigParts.{SigParts}
use Rattle.law_laws.proofs.BodyFacts.{some_is, none_is}
use Rattle.law_laws.proofs.ListFacts.{in_none, in_rest, in_left, in_right, in_split, each_of, of_each, each_map, each_both}
use Rattle.law_splits.specs.Splits.{Split, Kids, leaves, leaves_in, by_child, cuts, cuts_in}
use Rattle.law_splits.specs.Splits as parted
use Rattle.law_splits.specs.Splits.Split.{leaf, split}
use Rattle.law_splits.specs.Splits.Kids.{none, kid}
use Rattle.law_splits.specs.Agree.{HasOneValue, Agree, Differ}
use Rattle.law_splits.specs.Rule.{IsSplitTree, AreSplitKids}
use Rattle.law_splits.specs.Rule.IsSplitTree.{alone, apart}
use Rattle.law_splits.specs.Rule.AreSplitKids.{no_more, next}
use Rattle.law_splits.specs.Laws as laws
use Rattle.law_splits.proofs.Members.{distinct_joined, each_one_leaf}
use Rattle.law_splits.proofs.Parting.{in_part, first_has, other_has}
use Rattle.law_splits.proofs.Told.{tells}
use Rattle.law_valid.specs.declared.certificate.Branch.{Branch}
use Rattle.law_valid.specs.declared.certificate.Class.{Class}
use Rattle.law_valid.specs.declared.certificate.Entry.{Entry as Stating}
use Rattle.law_valid.specs.declared.certificate.SortTree.{SortTree}
use Rattle.law_valid.specs.Stated.{stated, spread_at, live_at}
use Rattle.law_valid.specs.Splits.{Cut, leaves_of, cuts_of, tests_of, Tells}
use Rattle.law_valid.specs.Trees.{IsNumberOf, AreNumbersOf, value_of, IsTest, IsFlatTest, AreRising, IsOfClass, schemas_of, schemas_in, of_schemas, HasSchemas, HasTerms, IsTree, AreTrees}
use Rattle.law_valid.proofs.Apart.{leaves-Leaf, leaves-Split, cuts-Leaf, cuts-Split, map_parts, map_twice}
use Rattle.law_plan.specs.Trees.{HasValueAt, branch, branches, IsTermTree, IsClassOf, IsPlacedTree, ArePlaced}

-- Lists

distinct_rising : (ns : List ℕ) → AreRising ns → AreDistinct ns
distinct_rising [] r = tt
distinct_rising (n ∷ ns) r = (each_map _ _ (λ m less e. let h : n < m = less in let k : n ≡ m = e in omega arith) ns r.0, distinct_rising ns r.1)

abbrev IsIn : {A B : Type 0} → (A → List B) → List A → B → Type 0
IsIn {A} f xs n = (x : A) × In x xs × In n (f x)

from_joined : {A B : Type 0} (f : A → List B) (xs : List A) (n : B) → In n (joined (map f xs)) → IsIn f xs n
from_joined f [] n at = in_none at
from_joined f (x ∷ xs) n at = by (from_joined f xs n) (in_split (f x) (joined (map f xs)) at)
  where
    by : (In n (joined (map f xs)) → IsIn f xs n) → In n (f x) ⊎ In n (joined (map f xs)) → IsIn f (x ∷ xs) n
    by later (inl h) = (x, here, h)
    by later (inr h) = let (y, to, k) = later h in (y, there to, k)

into_joined : {A B : Type 0} (f : A → List B) {xs : List A} {x : A} (n : B) → In x xs → In n (f x) → In n (joined (map f xs))
into_joined f n (here {xs = xs}) at = in_left (joined (map f xs)) at
into_joined f n (there {y = y} to) at = in_right (f y) (into_joined f n to at)

-- lists that are distinct and have nothing in common are distinct as one
distinct_in : {A B : Type 0} (f : A → List B) (xs : List A) → AreDistinct xs → Each (λ x. AreDistinct (f x)) xs
    → ((x y : A) (n : B) → In x xs → In y xs → In n (f x) → In n (f y) → x ≡ y) → AreDistinct (joined (map f xs))
distinct_in f [] d e one = tt
distinct_in {A} {B} f (x ∷ xs) d e one =
    distinct_joined (f x) (joined (map f xs)) e.0 (distinct_in f xs d.1 e.1 (λ y z n at to. one y z n (there at) (there to))) across
  where
    across : (n m : B) → In n (f x) → In m (joined (map f xs)) → n ≢ m
    across n m at to e =
        let (y, y_in, k) = from_joined f xs m to in
        of_each (λ y. x ≢ y) y_in d.0 (one x y n here (there y_in) at (subst (λ z. In z (f y)) (sym e) k))

-- an item of a list that was mapped
get_back : {A B : Type 0} (f : A → B) (xs : List A) (i : ℕ) (y : B) → slice_get (map f xs) i ≡ Some y → (x : A) × (slice_get xs i ≡ Some x) × (f x ≡ y)
get_back f [] i y e = none_is y e
get_back f (x ∷ xs) zero y e = (x, refl, some_is (f x) y e)
get_back f (x ∷ xs) (suc i) y e = get_back f xs i y e

got_in : {A : Type 0} (xs : List A) (i : ℕ) (x : A) → slice_get xs i ≡ Some x → In x xs
got_in [] i x e = none_is x e
got_in (y ∷ xs) zero x e = subst (λ z. In z (y ∷ xs)) (some_is y x e) here
got_in (y ∷ xs) (suc i) x e = there (got_in xs i x e)

in_got : {A : Type 0} {x : A} {xs : List A} → In x xs → (i : ℕ) × (slice_get xs i ≡ Some x)
in_got here = (0, refl)
in_got (there at) = let (i, e) = in_got at in (suc i, e)

-- A tree as a certificate has it: its leaves and its splits

abbrev as_cut : {A L : Type 0} → (A → L) → parted.Cut A → Cut L
as_cut f cut = record { test = cut.test; kids = map (map f) cut.kids }

module _ {A V L : Type 0} (f : A → L) where
  mutual
    leaves_branch : (tree : Split A V) → leaves_of (branch f tree) ≡ map f (leaves tree)
    leaves_branch (leaf x) = leaves-Leaf L (f x)
    leaves_branch (split test kids) = leaves-Split L test (branches f kids) ∙ ap joined (leaves_branches kids) ∙ joined_leaves kids

    leaves_branches : (kids : Kids A V) → map leaves_of (branches f kids) ≡ map (map f) (by_child kids)
    leaves_branches none = refl
    leaves_branches (kid v tree others) = ap₂ (λ l m. l ∷ m) (leaves_branch tree) (leaves_branches others)

    joined_leaves : (kids : Kids A V) → joined (map (map f) (by_child kids)) ≡ map f (leaves_in kids)
    joined_leaves none = refl
    joined_leaves (kid v tree others) = ap (λ l. map f (leaves tree) ++ l) (joined_leaves others) ∙ sym (map_parts f (leaves tree) (leaves_in others))

  mutual
    cuts_branch : (tree : Split A V) → cuts_of (branch f tree) ≡ map (as_cut f) (cuts tree)
    cuts_branch (leaf x) = cuts-Leaf L (f x)
    cuts_branch (split test kids) = cuts-Split L test (branches f kids)
        ∙ ap₂ (λ (ks : List (List L)) (cs : List (Cut L)). record { test = test; kids = ks } ∷ cs) (leaves_branches kids) (cuts_branches kids)

    cuts_branches : (kids : Kids A V) → joined (map cuts_of (branches f kids)) ≡ map (as_cut f) (cuts_in kids)
    cuts_branches none = refl
    cuts_branches (kid v tree others) = ap₂ (λ l m. l ++ m) (cuts_branch tree) (cuts_branches others) ∙ sym (map_parts (as_cut f) (cuts tree) (cuts_in others))

-- what is below a split is at a leaf of the tree
abbrev AreBelow : {A : Type 0} → List A → parted.Cut A → Type 0
AreBelow all cut = Each (Each (λ x. In x all)) cut.kids

more_below : {A : Type 0} (xs ys : List A) → ((x : A) → In x xs → In x ys) → (cs : List (parted.Cut A)) → Each (AreBelow xs) cs → Each (AreBelow ys) cs
more_below xs ys to cs h = each_map _ _ (λ c. each_map _ _ (λ l. each_map _ _ to l) c.kids) cs h

module _ {A V : Type 0} where
  child_below : (kids : Kids A V) → Each (Each (λ x. In x (leaves_in kids))) (by_child kids)
  child_below none = tt
  child_below (kid v tree others) = (
    each_of _ (leaves tree) (λ x at. in_left (leaves_in others) at),
    each_map _ _ (λ l. each_map _ _ (λ x at. in_right (leaves tree) at) l) (by_child others) (child_below others),
  )

  mutual
    cuts_below : (tree : Split A V) → Each (AreBelow (leaves tree)) (cuts tree)
    cuts_below (leaf x) = tt
    cuts_below (split test kids) = (child_below kids, cuts_in_below kids)

    cuts_in_below : (kids : Kids A V) → Each (AreBelow (leaves_in kids)) (cuts_in kids)
    cuts_in_below none = tt
    cuts_in_below (kid v tree others) = each_both _ (cuts tree) (cuts_in others)
        (more_below (leaves tree) (leaves tree ++ leaves_in others) (λ x at. in_left (leaves_in others) at) (cuts tree) (cuts_below tree))
        (more_below (leaves_in others) (leaves tree ++ leaves_in others) (λ x at. in_right (leaves tree) at) (cuts_in others) (cuts_in_below others))

-- Two items of a tree differ

module _ {A V : Type 0} (allowed : ℕ → Type 0) (M : A → ℕ → V → Type 0) where
  mutual
    pub items_differ : {xs : List A} {tree : Split A V} → IsSplitTree allowed M xs tree → (x y : A) → In x xs → In y xs → (x ≡ y) ⊎ Differ allowed M x y
    items_differ (alone z) x y at bt = by (in_rest at) (in_rest bt)
      where
        by : (x ≡ z) ⊎ In x [] → (y ≡ z) ⊎ In y [] → (x ≡ y) ⊎ Differ allowed M x y
        by (inl e) (inl k) = inl (e ∙ sym k)
        by (inl e) (inr h) = in_none h
        by (inr h) k = in_none h
    items_differ (apart z w others test kids d ks) x y at bt = kids_differ d.is_allowed ks x y at bt

    kids_differ : {test : ℕ} {xs : List A} {kids : Kids A V} → allowed test → AreSplitKids allowed M test xs kids → (x y : A) → In x xs → In y xs → (x ≡ y) ⊎ Differ allowed M x y
    kids_differ is (no_more test) x y at bt = in_none at
    kids_differ is (next test z xs ys zs v tree kids m p t ks) x y at bt =
        by (items_differ t x y) (kids_differ is ks x y) (part x (in_rest at)) (part y (in_rest bt))
      where
        part : (x : A) → (x ≡ z) ⊎ In x xs → In x (z ∷ ys) ⊎ In x zs
        part x (inl e) = inl (subst (λ q. In x (q ∷ ys)) e here)
        part x (inr h) = among (in_part M test p x h)
          where
            among : In x ys ⊎ In x zs → In x (z ∷ ys) ⊎ In x zs
            among (inl k) = inl (there k)
            among (inr k) = inr k

        by : (In x (z ∷ ys) → In y (z ∷ ys) → (x ≡ y) ⊎ Differ allowed M x y) → (In x zs → In y zs → (x ≡ y) ⊎ Differ allowed M x y)
            → In x (z ∷ ys) ⊎ In x zs → In y (z ∷ ys) ⊎ In y zs → (x ≡ y) ⊎ Differ allowed M x y
        by first later (inl h) (inl k) = first h k
        by first later (inr h) (inr k) = later h k
        by first later (inl h) (inr k) =
            let o = other_has M test p y k in
            inr (record { test = test; is_allowed = is; differ = (v, o.0, first_has M test m p x h, o.1, λ e. o.2 (sym e)) })
        by first later (inr h) (inl k) =
            let o = other_has M test p x h in
            inr (record { test = test; is_allowed = is; differ = (o.0, v, o.1, first_has M test m p y k, o.2) })

-- Splits of numbers

module _ (parts : SigParts) (pools : Pools) (ts : List Tree) where
  abbrev V : ℕ → ℕ → Tree → Type 0
  V = HasValueAt parts pools ts

  pub one_value : HasOneValue V
  one_value n test v w h k = some_is v w (sym h ∙ k)

  -- a split that tells numbers apart tells lists of them apart, where all of a list have the value of its number
  module _ (allowed : ℕ → Type 0) (all : List ℕ) (F : List ℕ → List ℕ)
      (from : (test : ℕ) → allowed test → (rs : List ℕ) (n : ℕ) → Each (λ r. In r all) rs → In n (F rs) → (r : ℕ) × In r rs × ((v : Tree) → V r test v → V n test v)) where
    told : (cut : parted.Cut ℕ) → laws.Tells allowed V cut → AreBelow all cut → Tells (value_of parts pools ts) (record { test = cut.test; kids = map F cut.kids })
    told cut h below = record {
      defined = each_of (λ n. IsSome (value_of parts pools ts cut.test n)) (joined (map F cut.kids)) defined;
      apart = λ i j ns ms n m e k at bt. (across i j ns ms n m e k at bt, together i j ns ms n m e k at bt);
    }
      where
        has : (i : ℕ) (rs : List ℕ) (n : ℕ) → slice_get cut.kids i ≡ Some rs → In n (F rs) → (r : ℕ) × In r rs × ((v : Tree) → V r cut.test v → V n cut.test v)
        has i rs n e at = from cut.test h.is_allowed rs n (of_each (λ (l : List ℕ). Each (λ r. In r all) l) (got_in cut.kids i rs e) below) at

        defined : (n : ℕ) → In n (joined (map F cut.kids)) → IsSome (value_of parts pools ts cut.test n)
        defined n at =
            let (rs, rs_in, k) = from_joined F cut.kids n at in
            let (i, e) = in_got rs_in in
            let (r, r_in, value) = has i rs n e k in
            let (v, first, second) = h.agree i rs r r e r_in r_in in
            subst (λ o. IsSome o) (sym (value v first)) refl

        three : (i j : ℕ) → (i < j) ⊎ ((i ≡ j) ⊎ (j < i))
        three i j = grind arith

        across : (i j : ℕ) (ns ms : List ℕ) (n m : ℕ) → slice_get (map F cut.kids) i ≡ Some ns → slice_get (map F cut.kids) j ≡ Some ms → In n ns → In m ms
            → value_of parts pools ts cut.test n ≡ value_of parts pools ts cut.test m → i ≡ j
        across i j ns ms n m e k at bt same =
            let (rs, e', is) = get_back F cut.kids i ns e in
            let (ss, k', ks) = get_back F cut.kids j ms k in
            let (r, r_in, value) = has i rs n e' (subst (λ l. In n l) (sym is) at) in
            let (s, s_in, other) = has j ss m k' (subst (λ l. In m l) (sym ks) bt) in
            by rs ss r s e' k' r_in s_in value other (three i j)
          where
            never : (rs ss : List ℕ) (r s : ℕ) → slice_get cut.kids i ≡ Some rs → slice_get cut.kids j ≡ Some ss → In r rs → In s ss
                → ((v : Tree) → V r cut.test v → V n cut.test v) → ((v : Tree) → V s cut.test v → V m cut.test v) → i ≢ j → ⊥
            never rs ss r s e k r_in s_in value other ne =
                let d = h.differ i j rs ss r s ne e k r_in s_in in
                d.4 (some_is d.0 d.1 (sym (value d.0 d.2) ∙ same ∙ other d.1 d.3))

            by : (rs ss : List ℕ) (r s : ℕ) → slice_get cut.kids i ≡ Some rs → slice_get cut.kids j ≡ Some ss → In r rs → In s ss
                → ((v : Tree) → V r cut.test v → V n cut.test v) → ((v : Tree) → V s cut.test v → V m cut.test v) → (i < j) ⊎ ((i ≡ j) ⊎ (j < i)) → i ≡ j
            by rs ss r s e k r_in s_in value other (inl less) = absurd (never rs ss r s e k r_in s_in value other (λ q. omega arith))
            by rs ss r s e k r_in s_in value other (inr (inl q)) = q
            by rs ss r s e k r_in s_in value other (inr (inr less)) = absurd (never rs ss r s e k r_in s_in value other (λ q. omega arith))

        together : (i j : ℕ) (ns ms : List ℕ) (n m : ℕ) → slice_get (map F cut.kids) i ≡ Some ns → slice_get (map F cut.kids) j ≡ Some ms → In n ns → In m ms
            → i ≡ j → value_of parts pools ts cut.test n ≡ value_of parts pools ts cut.test m
        together i j ns ms n m e k at bt same =
            let (rs, e', is) = get_back F cut.kids i ns e in
            let (ss, k', ks) = get_back F cut.kids j ms k in
            let k'' : slice_get cut.kids i ≡ Some ss = ap (slice_get cut.kids) same ∙ k' in
            let one : ss ≡ rs = some_is ss rs (sym k'' ∙ e') in
            let (r, r_in, value) = has i rs n e' (subst (λ l. In n l) (sym is) at) in
            let (s, s_in, other) = has i ss m k'' (subst (λ l. In m l) (sym ks) bt) in
            let (v, first, second) = h.agree i rs r s e' r_in (subst (λ l. In s l) one s_in) in
            value v first ∙ sym (other v second)

-- The trees

module _ (parts : SigParts) (pools : Pools) (all : List Stating) where
  abbrev spreads : List Tree
  spreads = stated spread_at all

  abbrev lives : List Tree
  lives = stated live_at all

  -- the tests of a tree are allowed
  tests_allowed : {A V L : Type 0} (allowed : ℕ → Type 0) (M : A → ℕ → V → Type 0) (f : A → L) (tree : Split A V) → Each (laws.Tells allowed M) (cuts tree)
      → Each allowed (tests_of (branch f tree))
  tests_allowed {A} {V} {L} allowed M f tree h = subst (Each allowed) (sym (ap (map (λ (c : Cut L). c.test)) (cuts_branch f tree))) (each_test (cuts tree) h)
    where
      each_test : (cs : List (parted.Cut A)) → Each (laws.Tells allowed M) cs → Each allowed (map (λ (c : Cut L). c.test) (map (as_cut f) cs))
      each_test [] h = tt
      each_test (c ∷ cs) h = (h.0.is_allowed, each_test cs h.1)

  -- what holds of each split as a certificate has it
  each_cut : {A V L : Type 0} (P : Cut L → Type 0) (f : A → L) (tree : Split A V) → Each (λ c. P (as_cut f c)) (cuts tree) → Each P (cuts_of (branch f tree))
  each_cut {A} {V} {L} P f tree h = subst (Each P) (sym (cuts_branch f tree)) (mapped (cuts tree) h)
    where
      mapped : (cs : List (parted.Cut A)) → Each (λ c. P (as_cut f c)) cs → Each P (map (as_cut f) cs)
      mapped [] h = tt
      mapped (c ∷ cs) h = (h.0, mapped cs h.1)

  same_list : (ns : List ℕ) → map (λ n. n) ns ≡ ns
  same_list [] = refl
  same_list (n ∷ ns) = ap (λ l. n ∷ l) (same_list ns)

  module _ (schemas : List ℕ) (terms : Branch ℕ) (t : IsTermTree parts pools all schemas terms) where
    telling : Each (laws.Tells (IsTest parts pools) (HasValueAt parts pools lives)) (cuts t.tree)
    telling = tells (IsTest parts pools) (HasValueAt parts pools lives) t.placed

    leaves_are : leaves_of terms ≡ leaves t.tree
    leaves_are = ap leaves_of t.shape ∙ leaves_branch (λ n. n) t.tree ∙ same_list (leaves t.tree)

    term_numbers : AreNumbersOf lives (IsOfClass all schemas) (leaves_of terms)
    term_numbers =
        let l = each_one_leaf (IsTest parts pools) (HasValueAt parts pools lives) (one_value parts pools lives) t.lives t.tree t.placed in
        record {
          once = subst (λ ns. AreDistinct ns) (sym leaves_are) l.once;
          exact = λ n. (
            λ at. (t.exact.exact n).0 ((l.exact n).0 (subst (λ ns. In n ns) leaves_are at)),
            λ is. subst (λ ns. In n ns) (sym leaves_are) ((l.exact n).1 ((t.exact.exact n).1 is)),
          );
        }

    term_tests : Each (IsTest parts pools) (tests_of terms)
    term_tests = subst (λ u. Each (IsTest parts pools) (tests_of u)) (sym t.shape) (tests_allowed (IsTest parts pools) (HasValueAt parts pools lives) (λ n. n) t.tree telling)

    itself : (test : ℕ) → IsTest parts pools test → (rs : List ℕ) (n : ℕ) → Each (λ r. In r (leaves t.tree)) rs → In n (map (λ n. n) rs)
        → (r : ℕ) × In r rs × ((v : Tree) → HasValueAt parts pools lives r test v → HasValueAt parts pools lives n test v)
    itself test is rs n below at = (n, subst (λ l. In n l) (same_list rs) at, λ v h. h)

    both : (cs : List (parted.Cut ℕ)) → Each (laws.Tells (IsTest parts pools) (HasValueAt parts pools lives)) cs → Each (AreBelow (leaves t.tree)) cs
        → Each (λ c. Tells (value_of parts pools lives) (as_cut (λ n. n) c)) cs
    both [] h k = tt
    both (c ∷ cs) h k = (told parts pools lives (IsTest parts pools) (leaves t.tree) (map (λ n. n)) itself c h.0 k.0, both cs h.1 k.1)

    terms_told : Each (Tells (value_of parts pools lives)) (cuts_of terms)
    terms_told = subst (λ u. Each (Tells (value_of parts pools lives)) (cuts_of u)) (sym t.shape)
        (each_cut (Tells (value_of parts pools lives)) (λ n. n) t.tree (both (cuts t.tree) telling (cuts_below t.tree)))

  module _ (tree : SortTree) (t : IsPlacedTree parts pools all tree) where
    abbrev flat : ℕ → Type 0
    flat = IsFlatTest parts pools

    abbrev M : ℕ → ℕ → Tree → Type 0
    M = HasValueAt parts pools spreads

    abbrev schemas_at : ℕ → List ℕ
    schemas_at r = (t.class_of r).schemas

    class_is : (r : ℕ) → In r t.firsts → IsClassOf parts pools all r (t.class_of r)
    class_is r at = of_each (λ n. IsClassOf parts pools all n (t.class_of n)) at t.classes

    l : laws.AreLeaves flat M t.firsts t.split
    l = each_one_leaf flat M (one_value parts pools spreads) t.firsts t.split t.placed

    telling_schemas : Each (laws.Tells flat M) (cuts t.split)
    telling_schemas = tells flat M t.placed

    classes_are : leaves_of tree.tree ≡ map t.class_of (leaves t.split)
    classes_are = ap leaves_of t.shape ∙ leaves_branch t.class_of t.split

    -- all schemas of a class have the value of the first
    class_value : (r : ℕ) → In r t.firsts → (n : ℕ) → In n (schemas_at r) → (test : ℕ) → flat test → (v : Tree) → M r test v → M n test v
    class_value r r_in n at test is v h = by (class_is r r_in)
      where
        by : IsClassOf parts pools all r (t.class_of r) → M n test v
        by c = among (in_rest (subst (λ ns. In n ns) c.schemas at))
          where
            among : (n ≡ r) ⊎ In n c.others → M n test v
            among (inl e) = subst (λ k. M k test v) (sym e) h
            among (inr k) =
                let (w, first, second) = of_each (Agree flat M r) k c.agree test is in
                subst (λ u. M n test u) (one_value parts pools spreads r test w v first h) second

    -- a schema is in one class
    one_class : (r s n : ℕ) → In r (leaves t.split) → In s (leaves t.split) → In n (schemas_at r) → In n (schemas_at s) → r ≡ s
    one_class r s n r_in s_in at bt = by (items_differ flat M t.placed r s first second)
      where
        first : In r t.firsts
        first = (l.exact r).0 r_in

        second : In s t.firsts
        second = (l.exact s).0 s_in

        by : (r ≡ s) ⊎ Differ flat M r s → r ≡ s
        by (inl e) = e
        by (inr d) = absurd (d.differ.4 (one_value parts pools spreads n d.test d.differ.0 d.differ.1
            (class_value r first n at d.test d.is_allowed d.differ.0 d.differ.2) (class_value s second n bt d.test d.is_allowed d.differ.1 d.differ.3)))

    -- what holds of each class
    each_class : (P : Class → Type 0) → ((r : ℕ) → In r t.firsts → P (t.class_of r)) → Each P (map t.class_of (leaves t.split))
    each_class P have = mapped (leaves t.split) (each_of (λ r. P (t.class_of r)) (leaves t.split) (λ r at. have r ((l.exact r).0 at)))
      where
        mapped : (rs : List ℕ) → Each (λ r. P (t.class_of r)) rs → Each P (map t.class_of rs)
        mapped [] h = tt
        mapped (r ∷ rs) h = (h.0, mapped rs h.1)

    schemas_are : schemas_in (leaves_of tree.tree) ≡ joined (map schemas_at (leaves t.split))
    schemas_are = ap schemas_in classes_are ∙ ap joined (map_twice t.class_of schemas_of (leaves t.split))

    has_schemas : HasSchemas parts pools all tree
    has_schemas = record {
      schemas = record {
        once = subst (λ ns. AreDistinct ns) (sym schemas_are) (distinct_in schemas_at (leaves t.split) l.once
            (each_of _ (leaves t.split) (λ r at. distinct_rising (schemas_at r) (class_is r ((l.exact r).0 at)).rising)) one_class);
        exact = λ n. (of_number n, number_of n);
      };
      rising = subst (Each (λ (class : Class). AreRising class.schemas)) (sym classes_are) (each_class (λ class. AreRising class.schemas) (λ r at. (class_is r at).rising));
      flat = subst (λ u. Each flat (tests_of u)) (sym t.shape) (tests_allowed flat M t.class_of t.split telling_schemas);
    }
      where
        of_number : (n : ℕ) → In n (schemas_in (leaves_of tree.tree)) → IsNumberOf spreads (λ c. sort_of parts c ≡ Some tree.sort) n
        of_number n at =
            let (r, r_in, k) = from_joined schemas_at (leaves t.split) n (subst (λ ns. In n ns) schemas_are at) in
            (t.exact n).0 (r, (l.exact r).0 r_in, k)

        number_of : (n : ℕ) → IsNumberOf spreads (λ c. sort_of parts c ≡ Some tree.sort) n → In n (schemas_in (leaves_of tree.tree))
        number_of n is =
            let (r, r_in, k) = (t.exact n).1 is in
            subst (λ ns. In n ns) (sym schemas_are) (into_joined schemas_at n ((l.exact r).1 r_in) k)

    abbrev schemas_below : List ℕ → List ℕ
    schemas_below rs = schemas_in (map t.class_of rs)

    from_class : (test : ℕ) → flat test → (rs : List ℕ) (n : ℕ) → Each (λ r. In r (leaves t.split)) rs → In n (schemas_below rs)
        → (r : ℕ) × In r rs × ((v : Tree) → M r test v → M n test v)
    from_class test is rs n below at =
        let (r, r_in, k) = from_joined schemas_at rs n (subst (λ ns. In n ns) (ap joined (map_twice t.class_of schemas_of rs)) at) in
        (r, r_in, class_value r ((l.exact r).0 (of_each (λ r. In r (leaves t.split)) r_in below)) n k test is)

    both_schemas : (cs : List (parted.Cut ℕ)) → Each (laws.Tells flat M) cs → Each (AreBelow (leaves t.split)) cs
        → Each (λ c. Tells (value_of parts pools spreads) (of_schemas (as_cut t.class_of c))) cs
    both_schemas [] h k = tt
    both_schemas (c ∷ cs) h k = (
      subst (λ (ks : List (List ℕ)). Tells (value_of parts pools spreads) (record { test = c.test; kids = ks })) (sym (map_twice (map t.class_of) schemas_in c.kids))
          (told parts pools spreads flat (leaves t.split) schemas_below from_class c h.0 k.0),
      both_schemas cs h.1 k.1,
    )

    is_tree : IsTree parts pools all tree
    is_tree = record {
      schemas = has_schemas;
      terms = subst (Each (HasTerms parts pools all)) (sym classes_are) (each_class (HasTerms parts pools all)
          (λ r at. let c = (class_is r at).terms in record { terms = term_numbers (schemas_at r) (t.class_of r).terms c; tests = term_tests (schemas_at r) (t.class_of r).terms c }));
      schemas_told = subst (λ u. Each (λ cut. Tells (value_of parts pools spreads) (of_schemas cut)) (cuts_of u)) (sym t.shape)
          (each_cut (λ cut. Tells (value_of parts pools spreads) (of_schemas cut)) t.class_of t.split (both_schemas (cuts t.split) telling_schemas (cuts_below t.split)));
      terms_told = subst (Each (λ (class : Class). Each (Tells (value_of parts pools lives)) (cuts_of class.terms))) (sym classes_are)
          (each_class (λ class. Each (Tells (value_of parts pools lives)) (cuts_of class.terms)) (λ r at. terms_told (schemas_at r) (t.class_of r).terms (class_is r at).terms));
    }

  pub placed_trees : (trees : List SortTree) → ArePlaced parts pools all trees → AreTrees parts pools all trees
  placed_trees trees p = record { rising = p.rising; sorts = p.sorts; each = each_map _ _ is_tree trees p.each }
