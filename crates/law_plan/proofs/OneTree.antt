-- Spread schemas share a class exactly where they agree at every flat test, and there is one list of trees by the placing rule.
use Rattle.std.proofs.Common.{◌≡◌, ◌≢◌, ℕ, ◌<◌, ◌⊎◌, ◌↔◌, inl, inr, Some, List, [], ◌∷◌, refl, sym, ap, ap₂, ◌∙◌, subst, arith}
use Rattle.law_sig.specs.Lists.{In, Each}
use Rattle.law_sig.specs.Lists.In.{here}
use Rattle.law_sig.specs.Signature.{sort_of}
use Rattle.law_sig.specs.Tests.{Pools}
use Rattle.law_sig.specs.declared.tree.SortId.{SortId}
use Rattle.law_sig.specs.declared.tree.Tree.{Tree}
use Rattle.law_sig.specs.declared.parts.SigParts.{SigParts}
use Rattle.law_laws.proofs.Agreement.{one_order}
use Rattle.law_laws.proofs.ListFacts.{in_rest, each_of, of_each, each_left, each_right}
use Rattle.law_splits.specs.Splits.{Split, Kids, leaves, leaves_in}
use Rattle.law_splits.specs.Splits.Split.{leaf, split}
use Rattle.law_splits.specs.Splits.Kids.{none, kid}
use Rattle.law_splits.specs.Agree.{Agree, Differ}
use Rattle.law_splits.specs.Rule.{IsSplitTree}
use Rattle.law_splits.proofs.Fixed.{rule_fixes}
use Rattle.law_splits.proofs.Members.{leaf_is_item}
use Rattle.law_valid.specs.declared.certificate.Branch.{Branch}
use Rattle.law_valid.specs.declared.certificate.Branch.TheVariants as b
use Rattle.law_valid.specs.declared.certificate.Class.{Class}
use Rattle.law_valid.specs.declared.certificate.Entry.{Entry as Stating}
use Rattle.law_valid.specs.declared.certificate.SortTree.{SortTree}
use Rattle.law_valid.specs.Stated.{stated, spread_at, live_at}
use Rattle.law_valid.specs.Trees.{IsNumberOf, IsTest, IsFlatTest, AreRising, IsOfClass, sorts_in, IsEarlierSort}
use Rattle.law_plan.specs.Trees.{HasValueAt, branch, branches, IsTermTree, IsClassOf, IsClassed, IsPlacedTree, ArePlaced, ShareClass}
use Rattle.law_plan.proofs.Planted.{one_value, items_differ}

-- rising lists of numbers with the same members are one
one_rising : (ns ms : List ℕ) → AreRising ns → AreRising ms → ((n : ℕ) → In n ns → In n ms) → ((n : ℕ) → In n ms → In n ns) → ns ≡ ms
one_rising ns ms r s to from = one_order (λ n m. n < m) (λ n m h k. let a : n < m = h in let c : m < n = k in omega arith) ns ms r s to from

-- trees that are the same but for what stands at leaves of the same name
module _ {A V L : Type 0} (f g : A → L) where
  mutual
    branch_same : (tree : Split A V) → Each (λ x. f x ≡ g x) (leaves tree) → branch f tree ≡ branch g tree
    branch_same (leaf x) h = ap (λ l. b.Leaf l) h.0
    branch_same (split test kids) h = ap (λ ks. b.Split test ks) (branches_same kids h)

    branches_same : (kids : Kids A V) → Each (λ x. f x ≡ g x) (leaves_in kids) → branches f kids ≡ branches g kids
    branches_same none h = refl
    branches_same (kid v tree others) h = ap₂ (λ t ts. t ∷ ts) (branch_same tree (each_left _ (leaves tree) (leaves_in others) h))
        (branches_same others (each_right _ (leaves tree) (leaves_in others) h))

module _ (parts : SigParts) (pools : Pools) (all : List Stating) where
  abbrev flat : ℕ → Type 0
  flat = IsFlatTest parts pools

  abbrev M : ℕ → ℕ → Tree → Type 0
  M = HasValueAt parts pools (stated spread_at all)

  abbrev IsOfSort : SortId → ℕ → Type 0
  IsOfSort sort = IsNumberOf (stated spread_at all) (λ c. sort_of parts c ≡ Some sort)

  -- what is said of a class, from its first schema

  module _ (tree : SortTree) (t : IsPlacedTree parts pools all tree) where
    abbrev schemas_at : ℕ → List ℕ
    schemas_at r = (t.class_of r).schemas

    abbrev TheClass : ℕ → Type 0
    TheClass r = IsClassOf parts pools all r (t.class_of r)

    class_is : (r : ℕ) → In r t.firsts → TheClass r
    class_is r at = of_each (λ n. IsClassOf parts pools all n (t.class_of n)) at t.classes

    itself : (r : ℕ) → In r t.firsts → In r (schemas_at r)
    itself r at = let c : TheClass r = class_is r at in subst (λ ns. In r ns) (sym c.schemas) here

    -- another schema of the class agrees with the first, and has a greater number
    record IsLater (r n : ℕ) : Type 0 where
      pub agree : Agree flat M r n
      pub greater : r < n

    of_first : (r : ℕ) → In r t.firsts → (n : ℕ) → In n (schemas_at r) → (n ≡ r) ⊎ IsLater r n
    of_first r r_in n at = by (class_is r r_in)
      where
        by : TheClass r → (n ≡ r) ⊎ IsLater r n
        by c = among (in_rest (subst (λ ns. In n ns) c.schemas at))
          where
            among : (n ≡ r) ⊎ In n c.others → (n ≡ r) ⊎ IsLater r n
            among (inl e) = inl e
            among (inr k) = inr (record { agree = of_each (Agree flat M r) k c.agree; greater = of_each (λ m. r < m) k (subst AreRising c.schemas c.rising).0 })

    value_below : (r n : ℕ) → (n ≡ r) ⊎ IsLater r n → (test : ℕ) → flat test → (v : Tree) → M r test v → M n test v
    value_below r n (inl e) test is v h = subst (λ k. M k test v) (sym e) h
    value_below r n (inr l) test is v h =
        let (w, first, second) = l.agree test is in
        subst (λ u. M n test u) (one_value parts pools (stated spread_at all) r test w v first h) second

    -- schemas of two classes that agree are of one class
    joined_class : (r s c d : ℕ) → In r t.firsts → In s t.firsts → In c (schemas_at r) → In d (schemas_at s) → Agree flat M c d → r ≡ s
    joined_class r s c d r_in s_in at bt agree = by (items_differ flat M t.placed r s r_in s_in)
      where
        by : (r ≡ s) ⊎ Differ flat M r s → r ≡ s
        by (inl e) = e
        by (inr h) =
            let (x, first, second) = agree h.test h.is_allowed in
            let left = value_below r c (of_first r r_in c at) h.test h.is_allowed h.differ.0 h.differ.2 in
            let right = value_below s d (of_first s s_in d bt) h.test h.is_allowed h.differ.1 h.differ.3 in
            absurd (h.differ.4 (one_value parts pools (stated spread_at all) c h.test h.differ.0 x left first
            ∙ one_value parts pools (stated spread_at all) d h.test x h.differ.1 second right))

    agree_back : (c d : ℕ) → Agree flat M c d → Agree flat M d c
    agree_back c d a test is = let (v, h, k) = a test is in (v, k, h)

    pub by_flat_tests : (c d : ℕ) → IsOfSort tree.sort c → IsOfSort tree.sort d → c ≢ d → ShareClass t.firsts t.class_of c d ↔ Agree flat M c d
    by_flat_tests c d c_is d_is other = (λ s. agree s.0 (of_first s.0 s.1 c s.2) (of_first s.0 s.1 d s.3), share)
      where
        agree : (r : ℕ) → (c ≡ r) ⊎ IsLater r c → (d ≡ r) ⊎ IsLater r d → Agree flat M c d
        agree r (inl e) (inl k) = absurd (other (e ∙ sym k))
        agree r (inl e) (inr l) = subst (λ n. Agree flat M n d) (sym e) l.agree
        agree r (inr l) (inl k) = subst (λ n. Agree flat M c n) (sym k) (agree_back r c l.agree)
        agree r (inr l) (inr m) = λ test is.
            let (v, h, k) = l.agree test is in
            (v, k, value_below r d (inr m) test is v h)

        share : Agree flat M c d → ShareClass t.firsts t.class_of c d
        share a =
            let (r, r_in, at) = (t.exact c).1 c_is in
            let (s, s_in, bt) = (t.exact d).1 d_is in
            (r, r_in, at, subst (λ k. In d (schemas_at k)) (sym (joined_class r s c d r_in s_in at bt a)) bt)

  -- one tree of a sort

  module _ (tree other : SortTree) (sorts : tree.sort ≡ other.sort) (p : IsPlacedTree parts pools all tree) (q : IsPlacedTree parts pools all other) where
    -- the class of a schema in the other tree
    classed_there : (n : ℕ) → IsClassed p.firsts p.class_of n → IsClassed q.firsts q.class_of n
    classed_there n h = (q.exact n).1 (subst (λ s. IsOfSort s n) sorts ((p.exact n).0 h))

    first_there : (r : ℕ) → In r p.firsts → In r q.firsts
    first_there r at = by (classed_there r (r, at, itself tree p r at))
      where
        by : IsClassed q.firsts q.class_of r → In r q.firsts
        by (s, s_in, bt) = among (of_first other q s s_in r bt)
          where
            among : (r ≡ s) ⊎ IsLater other q s r → In r q.firsts
            among (inl e) = subst (λ k. In k q.firsts) (sym e) s_in
            among (inr l) = back ((p.exact s).1 (subst (λ k. IsOfSort k s) (sym sorts) ((q.exact s).0 (s, s_in, itself other q s s_in))))
              where
                never : (s ≡ r) ⊎ IsLater tree p r s → ⊥
                never (inl e) = let k = l.greater in omega arith
                never (inr m) = let k = l.greater in let j = m.greater in omega arith

                back : IsClassed p.firsts p.class_of s → In r q.firsts
                back (w, w_in, ct) = absurd (never (of_first tree p r at s (subst (λ k. In s (schemas_at tree p k))
                    (joined_class tree p w r s r w_in at ct (itself tree p r at) l.agree) ct)))

    schema_there : (r : ℕ) → In r p.firsts → In r q.firsts → (n : ℕ) → In n (schemas_at tree p r) → In n (schemas_at other q r)
    schema_there r at bt n n_in = by (of_first tree p r at n n_in)
      where
        by : (n ≡ r) ⊎ IsLater tree p r n → In n (schemas_at other q r)
        by (inl e) = subst (λ k. In k (schemas_at other q r)) (sym e) (itself other q r bt)
        by (inr l) =
            let (s, s_in, ct) = classed_there n (r, at, n_in) in
            subst (λ k. In n (schemas_at other q k)) (sym (joined_class other q r s r n bt s_in (itself other q r bt) ct l.agree)) ct

  -- live terms below a class
  one_term_tree : (schemas others : List ℕ) (terms more : Branch ℕ) → schemas ≡ others → IsTermTree parts pools all schemas terms → IsTermTree parts pools all others more → terms ≡ more
  one_term_tree schemas others terms more e t u = t.shape ∙ ap (branch (λ n. n)) trees ∙ sym u.shape
    where
      same : t.lives ≡ u.lives
      same = one_rising t.lives u.lives t.rising u.rising
          (λ n at. (u.exact.exact n).1 (subst (λ l. IsNumberOf (stated live_at all) (IsOfClass all l) n) e ((t.exact.exact n).0 at)))
          (λ n at. (t.exact.exact n).1 (subst (λ l. IsNumberOf (stated live_at all) (IsOfClass all l) n) (sym e) ((u.exact.exact n).0 at)))

      trees : t.tree ≡ u.tree
      trees = rule_fixes (IsTest parts pools) (HasValueAt parts pools (stated live_at all)) (one_value parts pools (stated live_at all)) u.lives t.tree u.tree
          (subst (λ l. IsSplitTree (IsTest parts pools) (HasValueAt parts pools (stated live_at all)) l t.tree) same t.placed) u.placed

  module _ (tree other : SortTree) (sorts : tree.sort ≡ other.sort) (p : IsPlacedTree parts pools all tree) (q : IsPlacedTree parts pools all other) where
    firsts_are : p.firsts ≡ q.firsts
    firsts_are = one_rising p.firsts q.firsts p.rising q.rising (first_there tree other sorts p q) (first_there other tree (sym sorts) q p)

    class_same : (r : ℕ) → In r p.firsts → p.class_of r ≡ q.class_of r
    class_same r at =
        let bt = first_there tree other sorts p q r at in
        by (class_is tree p r at) (class_is other q r bt) (schema_there tree other sorts p q r at bt) (schema_there other tree (sym sorts) q p r bt at)
      where
        by : IsClassOf parts pools all r (p.class_of r) → IsClassOf parts pools all r (q.class_of r)
            → ((n : ℕ) → In n (p.class_of r).schemas → In n (q.class_of r).schemas) → ((n : ℕ) → In n (q.class_of r).schemas → In n (p.class_of r).schemas) → p.class_of r ≡ q.class_of r
        by c d to from =
            let schemas = one_rising (p.class_of r).schemas (q.class_of r).schemas c.rising d.rising to from in
            let terms = one_term_tree (p.class_of r).schemas (q.class_of r).schemas (p.class_of r).terms (q.class_of r).terms schemas c.terms d.terms in
            ap₂ (λ (ns : List ℕ) (u : Branch ℕ). let class : Class = record { schemas = ns; terms = u } in class) schemas terms

    splits_are : p.split ≡ q.split
    splits_are = rule_fixes flat M (one_value parts pools (stated spread_at all)) q.firsts p.split q.split (subst (λ l. IsSplitTree flat M l p.split) firsts_are p.placed) q.placed

    one_sort_tree : tree ≡ other
    one_sort_tree = ap₂ (λ (s : SortId) (u : Branch Class). let whole : SortTree = record { sort = s; tree = u } in whole) sorts
        (p.shape ∙ branch_same p.class_of q.class_of p.split (each_of _ (leaves p.split) (λ r at. class_same r (leaf_is_item flat M p.placed r at)))
        ∙ ap (branch q.class_of) splits_are ∙ sym q.shape)

  -- and one list of them

  pairwise : (trees others : List SortTree) → sorts_in trees ≡ sorts_in others → Each (IsPlacedTree parts pools all) trees → Each (IsPlacedTree parts pools all) others → trees ≡ others
  pairwise [] [] e p q = refl
  pairwise [] (u ∷ us) e p q = absurd (let no = e in cc)
  pairwise (t ∷ ts) [] e p q = absurd (let no = e in cc)
  pairwise (t ∷ ts) (u ∷ us) e p q =
      let first : t.sort ≡ u.sort = cc in
      let rest : sorts_in ts ≡ sorts_in us = cc in
      ap₂ (λ x xs. x ∷ xs) (one_sort_tree t u first p.0 q.0) (pairwise ts us rest p.1 q.1)

  pub trees_one : (trees others : List SortTree) → ArePlaced parts pools all trees → ArePlaced parts pools all others → trees ≡ others
  trees_one trees others p q = pairwise trees others (one_order IsEarlierSort never (sorts_in trees) (sorts_in others) p.rising q.rising
      (λ s at. (q.sorts s).1 ((p.sorts s).0 at)) (λ s at. (p.sorts s).1 ((q.sorts s).0 at))) p.each q.each
    where
      never : (s u : SortId) → IsEarlierSort s u → IsEarlierSort u s → ⊥
      never s u h k = let a : s.0 < u.0 = h in let c : u.0 < s.0 = k in omega arith
