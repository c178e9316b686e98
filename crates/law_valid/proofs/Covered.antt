-- A valid certificate covers.
use Rattle.std.proofs.Common.{◌≡◌, ◌≢◌, ℕ, ◌<◌, ◌⊎◌, inl, inr, true≢false, Option, Some, None, IsSome, List, [], ◌∷◌, option_and_then, sym, refl, ap, ◌∙◌, subst}
use Rattle.law_sig.specs.Lists.{In, Each, numbered}
use Rattle.law_sig.specs.Trees.{schema_of}
use Rattle.law_sig.specs.Signature.{sort_of}
use Rattle.law_sig.specs.Derive.{Derivable}
use Rattle.law_sig.specs.Derive.Derivable.{symmetric, transitive}
use Rattle.law_sig.specs.Tests.{InU, Pools, test_count, val}
use Rattle.law_sig.specs.Laws.{IsLaw, IsToldApart, IsCovered}
use Rattle.law_sig.specs.declared.tree.SortId.{SortId}
use Rattle.law_sig.specs.declared.tree.Tree.{Tree}
use Rattle.law_sig.specs.declared.parts.Equation.{Equation}
use Rattle.law_sig.specs.declared.parts.SigParts.{SigParts}
use Rattle.law_laws.proofs.ListFacts.{in_none, in_map, of_each, each_of, each_map, in_rest, in_numbered}
use Rattle.law_laws.proofs.BodyFacts.{some_is}
use Rattle.law_laws.proofs.Sorts.{schema_sort}
use Rattle.law_laws.proofs.Renaming.{bounded_vars, flat_value}
use Rattle.law_valid.specs.declared.certificate.Class.{Class}
use Rattle.law_valid.specs.declared.certificate.Entry.{Entry}
use Rattle.law_valid.specs.declared.certificate.Entry.TheVariants as e
use Rattle.law_valid.specs.declared.certificate.SortTree.{SortTree}
use Rattle.law_valid.specs.Stated.{stated, spread_at, live_at, law_at}
use Rattle.law_valid.specs.Splits.{Cut, leaves_of, cuts_of, Tells}
use Rattle.law_valid.specs.Trees.{value_of, IsTest, IsFlatTest, schemas_of, HasTerms, IsTree, sorts_in}
use Rattle.law_valid.specs.Valid.{IsEntry, IsValid}
use Rattle.law_valid.proofs.StatedFacts.{stated_by}
use Rattle.law_valid.proofs.Derive.{base_of}
use Rattle.law_valid.proofs.Reach.{live_instance, Reached, reached}
use Rattle.law_valid.proofs.Apart.{AreAtOneLeaf, AreTold, decided, numbers_of, as_numbers, alone, numbers_alone, cut_alone}

-- two values that differ tell terms apart
told_apart : (parts : SigParts) (pools : Pools) (s t : Tree) (test : ℕ) → test < test_count parts pools
    → IsSome (val parts pools test s) → IsSome (val parts pools test t) → val parts pools test s ≢ val parts pools test t → IsToldApart parts pools s t
told_apart parts pools s t test within p q differ = by (val parts pools test s) (val parts pools test t) refl refl p q differ
  where
    by : (v w : Option Tree) → val parts pools test s ≡ v → val parts pools test t ≡ w → IsSome v → IsSome w → v ≢ w → IsToldApart parts pools s t
    by None w e k p q d = absurd (true≢false (sym p))
    by (Some v) None e k p q d = absurd (true≢false (sym q))
    by (Some v) (Some w) e k p q d = record { test = test; within = within; left = v; right = w; left_value = e; right_value = k; differ = λ same. d (ap Some same) }

-- the value of a term by its number
value_is : (parts : SigParts) (pools : Pools) (ts : List Tree) (test n : ℕ) (t : Tree) → numbered ts n ≡ Some t → value_of parts pools ts test n ≡ val parts pools test t
value_is parts pools ts test n t is = ap (option_and_then (val parts pools test)) is

-- so are terms whose values are those of numbers that are told apart
by_numbers : (parts : SigParts) (pools : Pools) (ts : List Tree) (s t : Tree) (test n m : ℕ) → test < test_count parts pools
    → value_of parts pools ts test n ≡ val parts pools test s → value_of parts pools ts test m ≡ val parts pools test t
    → IsSome (value_of parts pools ts test n) → IsSome (value_of parts pools ts test m) → value_of parts pools ts test n ≢ value_of parts pools ts test m
    → IsToldApart parts pools s t
by_numbers parts pools ts s t test n m within e k p q differ =
    told_apart parts pools s t test within (subst IsSome e p) (subst IsSome k q) (λ same. differ (e ∙ same ∙ sym k))

module _ (parts : SigParts) (pools : Pools) (all : List Entry) (trees : List SortTree) (valid : IsValid parts pools all trees) where
  -- the schema of a live term, and its number
  pub record HasSchema (sort : SortId) (u : Tree) : Type 0 where
    pub number : ℕ
    pub is : numbered (stated spread_at all) number ≡ Some (schema_of u)
    pub at : In (schema_of u) (stated spread_at all)
    pub sorted : sort_of parts (schema_of u) ≡ Some sort

  has_schema : (sort : SortId) (u : Tree) → InU parts sort u → In u (stated live_at all) → HasSchema sort u
  has_schema sort u bounded live =
      let (c, c_in, is) = live_instance parts pools all trees valid u live in
      let at = subst (λ x. In x (stated spread_at all)) (sym is.schema) c_in in
      let (n, n_is) = in_numbered at in
      record { number = n; is = n_is; at = at; sorted = schema_sort parts u ∙ bounded.sorted }

  abbrev live_value : ℕ → ℕ → Option Tree
  live_value = value_of parts pools (stated live_at all)

  -- two live terms of one class are the same, or told apart
  in_class : (u w : Tree) → In u (stated live_at all) → In w (stated live_at all) → (class : Class) (k m : ℕ) → HasTerms parts pools all class
      → Each (Tells (value_of parts pools (stated live_at all))) (cuts_of class.terms)
      → In k class.schemas → In m class.schemas → numbered (stated spread_at all) k ≡ Some (schema_of u) → numbered (stated spread_at all) m ≡ Some (schema_of w)
      → (u ≡ w) ⊎ IsToldApart parts pools u w
  in_class u w u_live w_live class k m is tell k_in m_in k_is m_is =
      let (i, i_is) = in_numbered u_live in
      let (j, j_is) = in_numbered w_live in
      by i j i_is j_is (decided ℕ alone live_value class.terms i j tell_alone
      (at_leaves i ((is.terms.exact i).1 (u, i_is, (k, k_in, k_is)))) (at_leaves j ((is.terms.exact j).1 (w, j_is, (m, m_in, m_is)))))
    where
      at_leaves : (i : ℕ) → In i (leaves_of class.terms) → In i (numbers_of ℕ alone live_value class.terms)
      at_leaves i at = subst (In i) (sym (numbers_alone (leaves_of class.terms))) at

      tell_alone : Each (λ cut. Tells live_value (as_numbers ℕ alone live_value cut)) (cuts_of class.terms)
      tell_alone = each_map _ _ (λ cut h. subst (Tells (value_of parts pools (stated live_at all))) (sym (cut_alone (value_of parts pools (stated live_at all)) cut)) h) (cuts_of class.terms) tell

      by : (i j : ℕ) → numbered (stated live_at all) i ≡ Some u → numbered (stated live_at all) j ≡ Some w
          → AreAtOneLeaf ℕ alone live_value class.terms i j ⊎ AreTold ℕ alone live_value class.terms i j → (u ≡ w) ⊎ IsToldApart parts pools u w
      by i j i_is j_is (inl leaf) = inl (one (in_rest leaf.first) (in_rest leaf.second))
        where
          one : (i ≡ leaf.leaf) ⊎ In i [] → (j ≡ leaf.leaf) ⊎ In j [] → u ≡ w
          one (inl p) (inl q) = some_is u w (sym i_is ∙ ap (numbered (stated live_at all)) (p ∙ sym q) ∙ j_is)
          one (inl p) (inr no_more) = in_none no_more
          one (inr no_more) q = in_none no_more
      by i j i_is j_is (inr told) = inr (by_numbers parts pools (stated live_at all) u w told.cut.test i j
          (of_each (IsTest parts pools) (in_map (λ (cut : Cut ℕ). cut.test) told.at) is.tests)
          (value_is parts pools (stated live_at all) told.cut.test i u i_is) (value_is parts pools (stated live_at all) told.cut.test j w j_is) told.first told.second told.differ)

  -- two live terms of one sort are the same, or told apart
  live_apart : (sort : SortId) (u w : Tree) → InU parts sort u → InU parts sort w → In u (stated live_at all) → In w (stated live_at all) → (u ≡ w) ⊎ IsToldApart parts pools u w
  live_apart sort u w u_in w_in u_live w_live =
      let (tree, same, is) = tree_of trees ((valid.trees_are.sorts sort).1 (schema_of u, u_schema.at, u_schema.sorted)) valid.trees_are.each in
      in_tree tree is same
    where
      u_schema : HasSchema sort u
      u_schema = has_schema sort u u_in u_live

      w_schema : HasSchema sort w
      w_schema = has_schema sort w w_in w_live

      -- the tree of the sort
      tree_of : (trees : List SortTree) → In sort (sorts_in trees) → Each (IsTree parts pools all) trees → (tree : SortTree) × (tree.sort ≡ sort) × IsTree parts pools all tree
      tree_of [] at is = in_none at
      tree_of (tree ∷ trees) at is = by (tree_of trees) (in_rest at)
        where
          by : (In sort (sorts_in trees) → Each (IsTree parts pools all) trees → (tree : SortTree) × (tree.sort ≡ sort) × IsTree parts pools all tree)
              → (sort ≡ tree.sort) ⊎ In sort (sorts_in trees) → (tree : SortTree) × (tree.sort ≡ sort) × IsTree parts pools all tree
          by later (inl same) = (tree, sym same, is.0)
          by later (inr h) = later h is.1

      in_tree : (tree : SortTree) → IsTree parts pools all tree → tree.sort ≡ sort → (u ≡ w) ⊎ IsToldApart parts pools u w
      in_tree tree is same = by (decided Class schemas_of (value_of parts pools (stated spread_at all)) tree.tree u_schema.number w_schema.number is.schemas_told
          ((is.schemas.schemas.exact u_schema.number).1 (schema_of u, u_schema.is, u_schema.sorted ∙ ap Some (sym same)))
          ((is.schemas.schemas.exact w_schema.number).1 (schema_of w, w_schema.is, w_schema.sorted ∙ ap Some (sym same))))
        where
          flat_is : (t : Tree) → InU parts sort t → (test n : ℕ) → IsFlatTest parts pools test → numbered (stated spread_at all) n ≡ Some (schema_of t)
              → value_of parts pools (stated spread_at all) test n ≡ val parts pools test t
          flat_is t bounded test n flat is = value_is parts pools (stated spread_at all) test n (schema_of t) is
              ∙ flat_value parts pools test flat.1 t (bounded_vars parts t bounded.bounded)

          by : AreAtOneLeaf Class schemas_of (value_of parts pools (stated spread_at all)) tree.tree u_schema.number w_schema.number
              ⊎ AreTold Class schemas_of (value_of parts pools (stated spread_at all)) tree.tree u_schema.number w_schema.number
              → (u ≡ w) ⊎ IsToldApart parts pools u w
          by (inl leaf) = in_class u w u_live w_live leaf.leaf u_schema.number w_schema.number
              (of_each (HasTerms parts pools all) leaf.at is.terms)
              (of_each (λ (class : Class). Each (Tells (value_of parts pools (stated live_at all))) (cuts_of class.terms)) leaf.at is.terms_told)
              leaf.first leaf.second u_schema.is w_schema.is
          by (inr told) =
              let flat = of_each (IsFlatTest parts pools) (in_map (λ (cut : Cut Class). cut.test) told.at) is.schemas.flat in
              inr (by_numbers parts pools (stated spread_at all) u w told.cut.test u_schema.number w_schema.number flat.0
              (flat_is u u_in told.cut.test u_schema.number flat u_schema.is) (flat_is w w_in told.cut.test w_schema.number flat w_schema.is) told.first told.second told.differ)

  law_holds : (q : Equation) → In q (stated law_at all) → IsLaw parts pools q
  law_holds q at = let p = stated_by law_at q all at in by p.before p.entry p.after (valid.each p.before p.entry p.after p.split) p.at
    where
      by : (before : List Entry) (x : Entry) (after : List Entry) → IsEntry parts pools all before x after → In q (law_at x) → IsLaw parts pools q
      by before (e.Law n k) after is at = one (in_rest at)
        where
          one : (q ≡ k) ⊎ In q [] → IsLaw parts pools q
          one (inl same) = subst (IsLaw parts pools) (sym same) is.1
          one (inr no_more) = in_none no_more
      by before (e.Lemma n k steps) after is at = in_none at
      by before (e.Killed k steps) after is at = in_none at
      by before (e.Moved k steps) after is at = in_none at
      by before x after is at = in_none at

  pub covers : IsCovered parts pools (stated law_at all)
  covers = record { terms = λ sort s t s_in t_in. between sort s t (reached parts pools all trees valid s sort s_in) (reached parts pools all trees valid t sort t_in); laws_hold = each_of (IsLaw parts pools) (stated law_at all) law_holds }
    where
      between : (sort : SortId) (s t : Tree) → Reached parts pools all trees valid sort s → Reached parts pools all trees valid sort t
          → IsToldApart parts pools s t ⊎ Derivable parts (base_of parts all) s t
      between sort s t p q = by (live_apart sort p.to q.to p.bounded q.bounded p.is_live q.is_live)
        where
          by : (p.to ≡ q.to) ⊎ IsToldApart parts pools p.to q.to → IsToldApart parts pools s t ⊎ Derivable parts (base_of parts all) s t
          by (inl same) = inr (transitive s p.to t p.derivable (subst (λ x. Derivable parts (base_of parts all) x t) (sym same) (symmetric t q.to q.derivable)))
          by (inr apart) = inl (record {
            test = apart.test;
            within = apart.within;
            left = apart.left;
            right = apart.right;
            left_value = p.same apart.test apart.within ∙ apart.left_value;
            right_value = q.same apart.test apart.within ∙ apart.right_value;
            differ = apart.differ;
          })
