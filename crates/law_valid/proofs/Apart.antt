-- Any two items of a split tree are at one leaf, or are told apart by a test.
use Rattle.std.proofs.Common.{◌≡◌, ◌≢◌, ℕ, zero, suc, ◌⊎◌, inl, inr, Option, Some, IsSome, List, [], ◌∷◌, ◌++◌, map, slice_get, option_map, sym, refl, ap, ◌∙◌, subst, arith}
use Rattle.law_sig.specs.Lists.{In, Each}
use Rattle.law_sig.specs.Lists.In.{here, there}
use Rattle.law_sig.specs.Trees.{joined}
use Rattle.law_sig.specs.declared.tree.Tree.{Tree}
use Rattle.law_laws.proofs.ListFacts.{in_none, in_split, in_left, in_right, of_each, each_left, each_right}
use Rattle.law_laws.proofs.BodyFacts.{some_is, none_is}
use Rattle.law_valid.specs.declared.certificate.Branch.{Branch}
use Rattle.law_valid.specs.declared.certificate.Branch.TheOpen.{Branch-F}
use Rattle.law_valid.specs.declared.certificate.Branch.TheOpen as b
use Rattle.law_valid.specs.declared.certificate.Branch.TheVariants.{Leaf, Split, rolls-Leaf, rolls-Split}
use Rattle.law_valid.specs.declared.certificate.Branch.TheViews.{roll-Branch}
use Rattle.law_valid.specs.declared.certificate.Branch.TheFolds.{map-Branch, fold-roll-Branch, ind-Branch}
use Rattle.law_valid.specs.Splits.{Cut, Parted, parted_step, parted, leaves_of, cuts_of, Tells}

-- Lists

places_decided : (i j : ℕ) → (i ≡ j) ⊎ (i ≢ j)
places_decided zero zero = inl refl
places_decided zero (suc j) = inr (λ e. omega arith)
places_decided (suc i) zero = inr (λ e. omega arith)
places_decided (suc i) (suc j) = next (places_decided i j)
  where
    next : (i ≡ j) ⊎ (i ≢ j) → (suc i ≡ suc j) ⊎ (suc i ≢ suc j)
    next (inl e) = inl (ap suc e)
    next (inr d) = inr (λ e. d (omega arith))

-- an item of each of the lists
pub each_joined : {A B : Type 0} (P : B → Type 0) (f : A → List B) (xs : List A) (i : ℕ) (x : A) → slice_get xs i ≡ Some x → Each P (joined (map f xs)) → Each P (f x)
each_joined P f [] i x e h = none_is x e
each_joined P f (y ∷ xs) zero x e h = subst (λ z. Each P (f z)) (some_is y x e) (each_left P (f y) (joined (map f xs)) h)
each_joined P f (y ∷ xs) (suc i) x e h = each_joined P f xs i x e (each_right P (f y) (joined (map f xs)) h)

each_at : {A : Type 0} (P : A → Type 0) (xs : List A) (i : ℕ) (x : A) → slice_get xs i ≡ Some x → Each P xs → P x
each_at P [] i x e h = none_is x e
each_at P (y ∷ xs) zero x e h = subst P (some_is y x e) h.0
each_at P (y ∷ xs) (suc i) x e h = each_at P xs i x e h.1

-- an item in one of the lists
pub record IsAmong {A B : Type 0} (f : A → List B) (n : B) (xs : List A) : Type 0 where
  pub place : ℕ
  pub item : A
  pub there : slice_get xs place ≡ Some item
  pub at : In n (f item)

pub among : {A B : Type 0} (f : A → List B) (n : B) (xs : List A) → In n (joined (map f xs)) → IsAmong f n xs
among f n [] at = in_none at
among f n (x ∷ xs) at = by (among f n xs) (in_split (f x) (joined (map f xs)) at)
  where
    by : (In n (joined (map f xs)) → IsAmong f n xs) → In n (f x) ⊎ In n (joined (map f xs)) → IsAmong f n (x ∷ xs)
    by later (inl h) = record { place = 0; item = x; there = refl; at = h }
    by later (inr h) = let p = later h in record { place = suc p.place; item = p.item; there = p.there; at = p.at }

get_map : {A B : Type 0} (f : A → B) (xs : List A) (i : ℕ) (x : A) → slice_get xs i ≡ Some x → slice_get (map f xs) i ≡ Some (f x)
get_map f [] i x e = none_is x e
get_map f (y ∷ xs) zero x e = ap (option_map f) e
get_map f (y ∷ xs) (suc i) x e = get_map f xs i x e

pub joined_parts : {A : Type 0} (xs ys : List (List A)) → joined (xs ++ ys) ≡ joined xs ++ joined ys
joined_parts [] ys = refl
joined_parts (x ∷ xs) ys = ap (λ l. x ++ l) (joined_parts xs ys) ∙ sym (assoc x (joined xs) (joined ys))
  where
    assoc : {A : Type 0} (a c d : List A) → (a ++ c) ++ d ≡ a ++ (c ++ d)
    assoc [] c d = refl
    assoc (y ∷ a) c d = ap (λ l. y ∷ l) (assoc a c d)

-- Trees of splits

-- what holds of every leaf, and of every split whose children all have it, holds of every tree
pub branch_induct : (L : Type 0) (P : Branch L → Type 0) → ((l : L) → P (Leaf l)) → ((test : ℕ) (kids : List (Branch L)) → Each P kids → P (Split test kids)) → (t : Branch L) → P t
branch_induct L P at_leaf at_split = ind-Branch L P (λ x y is. again y x is (layer y))
  where
    haves : (ys : List ((t : Branch L) × P t)) → Each P (map (λ e. e.0) ys)
    haves [] = tt
    haves (y ∷ ys) = (y.1, haves ys)

    layer : (y : Branch-F L ((t : Branch L) × P t)) → P (roll-Branch L (map-Branch L ((t : Branch L) × P t) (Branch L) (λ e. e.0) y))
    layer (b.Leaf l) = subst P (sym (rolls-Leaf l)) (at_leaf l)
    layer (b.Split test ys) = subst P (sym (rolls-Split test (map (λ e. e.0) ys))) (at_split test (map (λ e. e.0) ys) (haves ys))

    again : (y : Branch-F L ((t : Branch L) × P t)) (x : Branch-F L (Branch L)) → map-Branch L ((t : Branch L) × P t) (Branch L) (λ e. e.0) y ≡ x
        → P (roll-Branch L (map-Branch L ((t : Branch L) × P t) (Branch L) (λ e. e.0) y)) → P (roll-Branch L x)
    again y x is h = subst (λ z. P (roll-Branch L z)) is h

pub parted-Leaf : (L : Type 0) (l : L) → parted (Leaf l) ≡ parted_step (b.Leaf l)
parted-Leaf L l = ap parted (sym (rolls-Leaf l)) ∙ fold-roll-Branch L (Parted L) parted_step (b.Leaf l)

pub parted-Split : (L : Type 0) (test : ℕ) (kids : List (Branch L)) → parted (Split test kids) ≡ parted_step (b.Split test (map parted kids))
parted-Split L test kids = ap parted (sym (rolls-Split test kids)) ∙ fold-roll-Branch L (Parted L) parted_step (b.Split test kids)

pub map_twice : {A B C : Type 0} (f : A → B) (g : B → C) (xs : List A) → map g (map f xs) ≡ map (λ x. g (f x)) xs
map_twice f g [] = refl
map_twice f g (x ∷ xs) = ap (λ l. g (f x) ∷ l) (map_twice f g xs)

pub leaves-Leaf : (L : Type 0) (l : L) → leaves_of (Leaf l) ≡ l ∷ []
leaves-Leaf L l = ap (λ (p : Parted L). p.leaves) (parted-Leaf L l)

pub leaves-Split : (L : Type 0) (test : ℕ) (kids : List (Branch L)) → leaves_of (Split test kids) ≡ joined (map leaves_of kids)
leaves-Split L test kids = ap (λ (p : Parted L). p.leaves) (parted-Split L test kids) ∙ ap joined (map_twice parted (λ (p : Parted L). p.leaves) kids)

-- the split at a tree's root
abbrev pub root_cut : {L : Type 0} → ℕ → List (Branch L) → Cut L
root_cut test kids = record { test = test; kids = map leaves_of kids }

pub cuts-Leaf : (L : Type 0) (l : L) → cuts_of (Leaf l) ≡ []
cuts-Leaf L l = ap (λ (p : Parted L). p.cuts) (parted-Leaf L l)

pub cuts-Split : (L : Type 0) (test : ℕ) (kids : List (Branch L)) → cuts_of (Split test kids) ≡ root_cut test kids ∷ joined (map cuts_of kids)
cuts-Split L test kids = ap (λ (p : Parted L). p.cuts) (parted-Split L test kids)
    ∙ ap (λ (ks : List (List L)). record { test = test; kids = ks } ∷ joined (map (λ (p : Parted L). p.cuts) (map parted kids))) (map_twice parted (λ (p : Parted L). p.leaves) kids)
    ∙ ap (λ (cs : List (List (Cut L))). root_cut test kids ∷ joined cs) (map_twice parted (λ (p : Parted L). p.cuts) kids)

in_joined_at : {A B : Type 0} {n : B} (f : A → List B) (xs : List A) (i : ℕ) (x : A) → slice_get xs i ≡ Some x → In n (f x) → In n (joined (map f xs))
in_joined_at f [] i x e at = none_is x e
in_joined_at {n = n} f (y ∷ xs) zero x e at = in_left (joined (map f xs)) (subst (λ z. In n (f z)) (sym (some_is y x e)) at)
in_joined_at f (y ∷ xs) (suc i) x e at = in_right (f y) (in_joined_at f xs i x e at)

pub map_parts : {A B : Type 0} (f : A → B) (xs ys : List A) → map f (xs ++ ys) ≡ map f xs ++ map f ys
map_parts f [] ys = refl
map_parts f (x ∷ xs) ys = ap (λ l. f x ∷ l) (map_parts f xs ys)

module _ (L : Type 0) (items : L → List ℕ) (value : ℕ → ℕ → Option Tree) where
  -- the numbers at leaves, and a split as one of numbers
  abbrev pub numbers_at : List L → List ℕ
  numbers_at ls = joined (map items ls)

  abbrev pub as_numbers : Cut L → Cut ℕ
  as_numbers cut = record { test = cut.test; kids = map numbers_at cut.kids }

  abbrev pub numbers_of : Branch L → List ℕ
  numbers_of t = numbers_at (leaves_of t)

  numbers_split : (kids : List (Branch L)) → numbers_at (joined (map leaves_of kids)) ≡ joined (map numbers_of kids)
  numbers_split [] = refl
  numbers_split (kid ∷ kids) = ap joined (map_parts items (leaves_of kid) (joined (map leaves_of kids)))
      ∙ joined_parts (map items (leaves_of kid)) (map items (joined (map leaves_of kids))) ∙ ap (λ l. numbers_of kid ++ l) (numbers_split kids)

  -- both are at this leaf
  pub record AreAtOneLeaf (t : Branch L) (n m : ℕ) : Type 0 where
    pub leaf : L
    pub at : In leaf (leaves_of t)
    pub first : In n (items leaf)
    pub second : In m (items leaf)

  -- both have a value at a test of the tree, and not the same one
  pub record AreTold (t : Branch L) (n m : ℕ) : Type 0 where
    pub cut : Cut L
    pub at : In cut (cuts_of t)
    pub first : IsSome (value cut.test n)
    pub second : IsSome (value cut.test m)
    pub differ : value cut.test n ≢ value cut.test m

  abbrev AllTell : List (Cut L) → Type 0
  AllTell cuts = Each (λ cut. Tells value (as_numbers cut)) cuts

  abbrev IsDecided : Branch L → Type 0
  IsDecided t = (n m : ℕ) → AllTell (cuts_of t) → In n (numbers_of t) → In m (numbers_of t) → AreAtOneLeaf t n m ⊎ AreTold t n m

  at_leaf : (l : L) → IsDecided (Leaf l)
  at_leaf l n m tell n_in m_in = inl (record { leaf = l; at = subst (In l) (sym (leaves-Leaf L l)) here; first = only n n_in; second = only m m_in })
    where
      only : (k : ℕ) → In k (numbers_of (Leaf l)) → In k (items l)
      only k at = by (in_split (items l) [] (subst (In k) (ap numbers_at (leaves-Leaf L l)) at))
        where
          by : In k (items l) ⊎ In k [] → In k (items l)
          by (inl h) = h
          by (inr no_more) = in_none no_more

  at_split : (test : ℕ) (kids : List (Branch L)) → Each IsDecided kids → IsDecided (Split test kids)
  at_split test kids have n m tell n_in m_in =
      by (among numbers_of n kids (subst (In n) below n_in)) (among numbers_of m kids (subst (In m) below m_in))
    where
      below : numbers_of (Split test kids) ≡ joined (map numbers_of kids)
      below = ap numbers_at (leaves-Split L test kids) ∙ numbers_split kids

      told : AllTell (root_cut test kids ∷ joined (map cuts_of kids))
      told = subst AllTell (cuts-Split L test kids) tell

      -- a child's numbers, as the split has them
      kid_at : (p : IsAmong numbers_of n kids) → slice_get (map numbers_at (map leaves_of kids)) p.place ≡ Some (numbers_of p.item)
      kid_at p = get_map numbers_at (map leaves_of kids) p.place (leaves_of p.item) (get_map leaves_of kids p.place p.item p.there)

      other_at : (p : IsAmong numbers_of m kids) → slice_get (map numbers_at (map leaves_of kids)) p.place ≡ Some (numbers_of p.item)
      other_at p = get_map numbers_at (map leaves_of kids) p.place (leaves_of p.item) (get_map leaves_of kids p.place p.item p.there)

      defined : (k : ℕ) → In k (numbers_of (Split test kids)) → IsSome (value test k)
      defined k at = of_each (λ n. IsSome (value test n)) (subst (In k) (below ∙ ap joined (sym (map_twice leaves_of numbers_at kids))) at) told.0.defined

      -- from a child to the split
      leaf_up : (place : ℕ) (kid : Branch L) → slice_get kids place ≡ Some kid → AreAtOneLeaf kid n m → AreAtOneLeaf (Split test kids) n m
      leaf_up place kid found is = record {
        leaf = is.leaf;
        at = subst (In is.leaf) (sym (leaves-Split L test kids)) (in_joined_at leaves_of kids place kid found is.at);
        first = is.first;
        second = is.second;
      }

      told_up : (place : ℕ) (kid : Branch L) → slice_get kids place ≡ Some kid → AreTold kid n m → AreTold (Split test kids) n m
      told_up place kid found is = record {
        cut = is.cut;
        at = subst (In is.cut) (sym (cuts-Split L test kids)) (there (in_joined_at cuts_of kids place kid found is.at));
        first = is.first;
        second = is.second;
        differ = is.differ;
      }

      up : (place : ℕ) (kid : Branch L) → slice_get kids place ≡ Some kid → AreAtOneLeaf kid n m ⊎ AreTold kid n m → AreAtOneLeaf (Split test kids) n m ⊎ AreTold (Split test kids) n m
      up place kid found (inl is) = inl (leaf_up place kid found is)
      up place kid found (inr is) = inr (told_up place kid found is)

      cases : (p : IsAmong numbers_of n kids) (q : IsAmong numbers_of m kids) → (p.place ≡ q.place) ⊎ (p.place ≢ q.place) → AreAtOneLeaf (Split test kids) n m ⊎ AreTold (Split test kids) n m
      cases p q (inl same) =
          let one : q.item ≡ p.item = some_is q.item p.item (sym q.there ∙ ap (slice_get kids) (sym same) ∙ p.there) in
          up p.place p.item p.there (each_at IsDecided kids p.place p.item p.there have n m
          (each_joined (λ cut. Tells value (as_numbers cut)) cuts_of kids p.place p.item p.there told.1) p.at (subst (λ kid. In m (numbers_of kid)) one q.at))
      cases p q (inr other) = inr (record {
        cut = root_cut test kids;
        at = subst (In (root_cut test kids)) (sym (cuts-Split L test kids)) here;
        first = defined n n_in;
        second = defined m m_in;
        differ = λ same. other ((told.0.apart p.place q.place (numbers_of p.item) (numbers_of q.item) n m (kid_at p) (other_at q) p.at q.at).0 same);
      })

      by : IsAmong numbers_of n kids → IsAmong numbers_of m kids → AreAtOneLeaf (Split test kids) n m ⊎ AreTold (Split test kids) n m
      by p q = cases p q (places_decided p.place q.place)

  pub decided : (t : Branch L) → IsDecided t
  decided = branch_induct L IsDecided at_leaf at_split

-- Trees whose leaves are numbers

abbrev pub alone : ℕ → List ℕ
alone n = n ∷ []

pub numbers_alone : (ns : List ℕ) → joined (map alone ns) ≡ ns
numbers_alone [] = refl
numbers_alone (n ∷ ns) = ap (λ l. n ∷ l) (numbers_alone ns)

pub cut_alone : (value : ℕ → ℕ → Option Tree) (cut : Cut ℕ) → as_numbers ℕ alone value cut ≡ cut
cut_alone value cut = ap (λ (ks : List (List ℕ)). record { test = cut.test; kids = ks }) (all cut.kids)
  where
    all : (kids : List (List ℕ)) → map (λ ns. joined (map alone ns)) kids ≡ kids
    all [] = refl
    all (ns ∷ kids) = cc (numbers_alone ns, all kids)
