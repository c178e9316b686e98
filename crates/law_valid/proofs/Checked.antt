-- Trees that pass one by one are those of a valid certificate, and so nothing is found wrong exactly where it is valid.
use Rattle.std.proofs.Common.{◌≡◌, ℕ, zero, suc, ◌<◌, ◌⊎◌, inl, inr, List, [], ◌∷◌, ◌++◌, map, None, sym, refl, ap, ◌∙◌, subst, subst₂, arith, append_assoc, append-nil}
use Rattle.law_sig.specs.Lists.{In, Each, Rising}
use Rattle.law_sig.specs.Lists.In.{here}
use Rattle.law_sig.specs.Trees.{joined}
use Rattle.law_sig.specs.Schemas.{AreExactly, IsConsidered, IsInstance}
use Rattle.law_sig.specs.Tests.{Pools}
use Rattle.law_sig.specs.declared.tree.SortId.{SortId}
use Rattle.law_sig.specs.declared.tree.Tree.{Tree}
use Rattle.law_sig.specs.declared.parts.SigParts.{SigParts}
use Rattle.law_laws.proofs.ListFacts.{in_right, each_of, of_each, each_right, each_both, each_left}
use Rattle.law_laws.proofs.Descents.{weighs_something}
use Rattle.law_valid.specs.declared.certificate.Branch.{Branch}
use Rattle.law_valid.specs.declared.certificate.Branch.TheOpen as b
use Rattle.law_valid.specs.declared.certificate.Branch.TheVariants.{Leaf, Split, rolls-Leaf, rolls-Split}
use Rattle.law_valid.specs.declared.certificate.Branch.TheFolds.{fold-roll-Branch}
use Rattle.law_valid.specs.declared.certificate.Class.{Class}
use Rattle.law_valid.specs.declared.certificate.Entry.{Entry}
use Rattle.law_valid.specs.declared.certificate.Entry.TheVariants as e
use Rattle.law_valid.specs.declared.certificate.SortTree.{SortTree}
use Rattle.law_valid.specs.Stated.{stated, spread_at, live_at}
use Rattle.law_valid.specs.Splits.{leaves_of, cuts_of}
use Rattle.law_valid.specs.Trees.{HasSpread, IsEarlierSort, sorts_in, IsTree, AreTrees}
use Rattle.law_valid.specs.Valid.{IsEntry, IsValid}
use Rattle.law_valid.specs.Order.{Decision, spread, killed, live, moved, HaveInstances}
use Rattle.law_valid.specs.Judged.{decision_at, Judging, Whole, whole_step, whole, of_term_cut, of_schema_cut, Entries, entry_after, InTrees, Judged}
use Rattle.law_valid.specs.declared.rule.Answer.TheVariants.{Yes}
use Rattle.law_valid.proofs.Apart.{branch_induct, map_twice, leaves-Leaf, leaves-Split, cuts-Leaf, cuts-Split, root_cut}
use Rattle.law_laws.proofs.Walks.{items_of, added_by, AddThemselves, Walk, walk_rising, walk_each, walk_finds, exact_next, exact_spent}
use Rattle.law_valid.proofs.Passing.{if_yes, background_yes, yes_background, Owes, AllOwe, entries_yes, yes_entries, JudgingTells, TreesPass, trees_yes, yes_trees}
use Rattle.law_valid.proofs.Decisions.{spread_decided, schema_decided, live_decided, first_decided, decisions_whole}
use Rattle.law_valid.proofs.Walked.{in_order_whole}
use Rattle.law_valid.proofs.Passed.{whole_in_order}

-- Lists

each_lists : {A B : Type 0} (P : B → Type 0) (f : A → List B) (xs : List A) → Each P (joined (map f xs)) → Each (λ x. Each P (f x)) xs
each_lists P f [] h = tt
each_lists P f (x ∷ xs) h = (each_left P (f x) (joined (map f xs)) h, each_lists P f xs (each_right P (f x) (joined (map f xs)) h))

lists_each : {A B : Type 0} (P : B → Type 0) (f : A → List B) (xs : List A) → Each (λ x. Each P (f x)) xs → Each P (joined (map f xs))
lists_each P f [] h = tt
lists_each P f (x ∷ xs) h = each_both P (f x) (joined (map f xs)) h.0 (lists_each P f xs h.1)

each_mapped : {A B : Type 0} (P : B → Type 0) (f : A → B) (xs : List A) → Each P (map f xs) → Each (λ x. P (f x)) xs
each_mapped P f [] h = tt
each_mapped P f (x ∷ xs) h = (h.0, each_mapped P f xs h.1)

mapped_each : {A B : Type 0} (P : B → Type 0) (f : A → B) (xs : List A) → Each (λ x. P (f x)) xs → Each P (map f xs)
mapped_each P f [] h = tt
mapped_each P f (x ∷ xs) h = (h.0, mapped_each P f xs h.1)

-- The splits of a whole tree are those above its classes and those below each class

module _ (spreads lives : List Tree) where
  abbrev wholes : Branch Class → Whole
  wholes = whole spreads lives

  whole-Leaf : (class : Class) → wholes (Leaf class) ≡ whole_step spreads lives (b.Leaf class)
  whole-Leaf class = ap wholes (sym (rolls-Leaf class)) ∙ fold-roll-Branch Class Whole (whole_step spreads lives) (b.Leaf class)

  whole-Split : (test : ℕ) (kids : List (Branch Class)) → wholes (Split test kids) ≡ whole_step spreads lives (b.Split test (map wholes kids))
  whole-Split test kids = ap wholes (sym (rolls-Split test kids)) ∙ fold-roll-Branch Class Whole (whole_step spreads lives) (b.Split test kids)

  kids_classes : (kids : List (Branch Class)) → Each (λ t. (wholes t).classes ≡ leaves_of t) kids → map (λ (w : Whole). w.classes) (map wholes kids) ≡ map leaves_of kids
  kids_classes [] have = refl
  kids_classes (kid ∷ kids) have = cc (have.0, kids_classes kids have.1)

  classes_are : (t : Branch Class) → (wholes t).classes ≡ leaves_of t
  classes_are = branch_induct Class (λ t. (wholes t).classes ≡ leaves_of t)
      (λ class. ap (λ (w : Whole). w.classes) (whole-Leaf class) ∙ sym (leaves-Leaf Class class))
      (λ test kids have. ap (λ (w : Whole). w.classes) (whole-Split test kids) ∙ ap joined (kids_classes kids have) ∙ sym (leaves-Split Class test kids))

  cuts_at : Branch Class → List Judging
  cuts_at t = (wholes t).cuts

  leaf_cuts : (class : Class) → cuts_at (Leaf class) ≡ map (of_term_cut lives) (cuts_of class.terms)
  unfolding cuts_at
  leaf_cuts class = ap (λ (w : Whole). w.cuts) (whole-Leaf class)

  split_cuts : (test : ℕ) (kids : List (Branch Class)) → cuts_at (Split test kids) ≡ of_schema_cut spreads (root_cut test kids) ∷ joined (map cuts_at kids)
  unfolding cuts_at
  split_cuts test kids = ap (λ (w : Whole). w.cuts) (whole-Split test kids)
      ∙ ap (λ (ks : List (List Class)). of_schema_cut spreads (record { test = test; kids = ks }) ∷ joined (map (λ (w : Whole). w.cuts) (map wholes kids)))
      (kids_classes kids (each_of (λ t. (wholes t).classes ≡ leaves_of t) kids (λ t at. classes_are t)))
      ∙ ap (λ (cs : List (List Judging)). of_schema_cut spreads (root_cut test kids) ∷ joined cs) (map_twice wholes (λ (w : Whole). w.cuts) kids)

  module _ (Q : Judging → Type 0) where
    abbrev Above : Branch Class → Type 0
    Above t = Each (λ cut. Q (of_schema_cut spreads cut)) (cuts_of t)

    abbrev Below : List Class → Type 0
    Below classes = Each (λ (class : Class). Each (λ cut. Q (of_term_cut lives cut)) (cuts_of class.terms)) classes

    -- both ways
    record AreSplit (t : Branch Class) : Type 0 where
      pub to : Each Q (cuts_at t) → Above t × Below (leaves_of t)
      pub back : Above t → Below (leaves_of t) → Each Q (cuts_at t)

    at_leaf : (class : Class) → AreSplit (Leaf class)
    at_leaf class = record {
      to = λ h. (
        subst (Each (λ cut. Q (of_schema_cut spreads cut))) (sym (cuts-Leaf Class class)) tt,
        subst Below (sym (leaves-Leaf Class class)) (each_mapped Q (of_term_cut lives) (cuts_of class.terms) (subst (Each Q) (leaf_cuts class) h), tt),
      );
      back = λ above below. subst (Each Q) (sym (leaf_cuts class)) (mapped_each Q (of_term_cut lives) (cuts_of class.terms) (subst Below (leaves-Leaf Class class) below).0);
    }

    all_to : (kids : List (Branch Class)) → Each AreSplit kids → Each (λ kid. Each Q (cuts_at kid)) kids → Each Above kids × Each (λ kid. Below (leaves_of kid)) kids
    all_to [] have h = (tt, tt)
    all_to (kid ∷ kids) have h =
        let p = have.0.to h.0 in
        let m = all_to kids have.1 h.1 in
        ((p.0, m.0), (p.1, m.1))

    all_back : (kids : List (Branch Class)) → Each AreSplit kids → Each Above kids → Each (λ kid. Below (leaves_of kid)) kids → Each (λ kid. Each Q (cuts_at kid)) kids
    all_back [] have h k = tt
    all_back (kid ∷ kids) have h k = (have.0.back h.0 k.0, all_back kids have.1 h.1 k.1)

    at_split : (test : ℕ) (kids : List (Branch Class)) → Each AreSplit kids → AreSplit (Split test kids)
    at_split test kids have = record { to = to; back = back }
      where
        to : Each Q (cuts_at (Split test kids)) → Above (Split test kids) × Below (leaves_of (Split test kids))
        to h =
            let k = subst (Each Q) (split_cuts test kids) h in
            let m = all_to kids have (each_lists Q cuts_at kids k.1) in (
              subst (Each (λ cut. Q (of_schema_cut spreads cut))) (sym (cuts-Split Class test kids)) (k.0, lists_each (λ cut. Q (of_schema_cut spreads cut)) cuts_of kids m.0),
              subst Below (sym (leaves-Split Class test kids)) (lists_each (λ (class : Class). Each (λ cut. Q (of_term_cut lives cut)) (cuts_of class.terms)) leaves_of kids m.1),
            )

        back : Above (Split test kids) → Below (leaves_of (Split test kids)) → Each Q (cuts_at (Split test kids))
        back above below =
            let k = subst (Each (λ cut. Q (of_schema_cut spreads cut))) (cuts-Split Class test kids) above in
            let l = subst Below (leaves-Split Class test kids) below in
            subst (Each Q) (sym (split_cuts test kids)) (
              k.0,
              lists_each Q cuts_at kids
                  (all_back kids have (each_lists (λ cut. Q (of_schema_cut spreads cut)) cuts_of kids k.1)
                  (each_lists (λ (class : Class). Each (λ cut. Q (of_term_cut lives cut)) (cuts_of class.terms)) leaves_of kids l)),
            )

    are_split : (t : Branch Class) → AreSplit t
    are_split = branch_induct Class AreSplit at_leaf at_split

    whole_to : (t : Branch Class) → Each Q (whole spreads lives t).cuts → Above t × Below (leaves_of t)
    unfolding cuts_at
    whole_to t = (are_split t).to

    whole_back : (t : Branch Class) → Above t → Below (leaves_of t) → Each Q (whole spreads lives t).cuts
    unfolding cuts_at
    whole_back t = (are_split t).back

-- Sorts in order

sort_id : ℕ → SortId
sort_id n = record { 0 = n }

one_sort : (s u : SortId) → s.0 ≡ u.0 → s ≡ u
unfolding sort_id
one_sort s u e = ap sort_id e

never_earlier : (s : SortId) → IsEarlierSort s s → ⊥
never_earlier s h = omega arith

earlier_chain : (s u v : SortId) → IsEarlierSort s u → IsEarlierSort u v → IsEarlierSort s v
earlier_chain s u v h k = omega arith

numbers_compared : (n m : ℕ) → (n ≡ m) ⊎ ((n < m) ⊎ (m < n))
numbers_compared zero zero = inl refl
numbers_compared zero (suc m) = inr (inl (omega arith))
numbers_compared (suc n) zero = inr (inr (omega arith))
numbers_compared (suc n) (suc m) = next (numbers_compared n m)
  where
    next : (n ≡ m) ⊎ ((n < m) ⊎ (m < n)) → (suc n ≡ suc m) ⊎ ((suc n < suc m) ⊎ (suc m < suc n))
    next (inl same) = inl (ap suc same)
    next (inr (inl h)) = inr (inl (omega arith))
    next (inr (inr h)) = inr (inr (omega arith))

sorts_compared : (s u : SortId) → (s ≡ u) ⊎ (IsEarlierSort s u ⊎ IsEarlierSort u s)
sorts_compared s u = by (numbers_compared s.0 u.0)
  where
    by : (s.0 ≡ u.0) ⊎ ((s.0 < u.0) ⊎ (u.0 < s.0)) → (s ≡ u) ⊎ (IsEarlierSort s u ⊎ IsEarlierSort u s)
    by (inl same) = inl (one_sort s u same)
    by (inr h) = inr h

-- Trees

module _ (parts : SigParts) (pools : Pools) (all : List Entry) where
  abbrev sort_adds : List SortTree → List (SortId × List SortId)
  sort_adds [] = []
  sort_adds (tree ∷ trees) = (tree.sort, []) ∷ sort_adds trees

  sorts_items : (trees : List SortTree) → items_of (sort_adds trees) ≡ sorts_in trees
  sorts_items [] = refl
  sorts_items (tree ∷ trees) = ap (λ l. tree.sort ∷ l) (sorts_items trees)

  sorts_themselves : (trees : List SortTree) → AddThemselves (sort_adds trees)
  sorts_themselves [] = tt
  sorts_themselves (tree ∷ trees) = (tt, sorts_themselves trees)

  abbrev Spread : List SortId → SortId → Type 0
  Spread known = HasSpread parts all

  sorts_walk : (known done : List SortId) (trees : List SortTree) → TreesPass parts pools all done trees → Walk IsEarlierSort Spread known done (sort_adds trees)
  sorts_walk known done [] h = h
  sorts_walk known done (tree ∷ trees) h = (h.0.next, sorts_walk (known ++ []) (done ++ tree.sort ∷ []) trees h.1)

  trees_each : (done : List SortId) (trees : List SortTree) → TreesPass parts pools all done trees → Each (IsTree parts pools all) trees
  trees_each done [] h = tt
  trees_each done (tree ∷ trees) h =
      let told = whole_to (stated spread_at all) (stated live_at all) (JudgingTells parts pools) tree.tree h.0.told in
      (record { schemas = h.0.schemas; terms = h.0.terms; schemas_told = told.0; terms_told = told.1 }, trees_each (done ++ tree.sort ∷ []) trees h.1)

  pub trees_are : (trees : List SortTree) → TreesPass parts pools all [] trees → AreTrees parts pools all trees
  trees_are trees h = record {
    rising = subst (Rising IsEarlierSort) (sorts_items trees) (walk_rising IsEarlierSort never_earlier earlier_chain Spread [] [] (sort_adds trees) walk tt);
    sorts = λ sort. (
      λ at. of_each (HasSpread parts all) (subst (In sort) (sym (sorts_items trees)) at)
          (walk_each IsEarlierSort never_earlier earlier_chain Spread (λ known others w to is. is) (λ known late w after is. is) sorts_compared [] [] (sort_adds trees) walk
          (added_by (sort_adds trees)) (λ a at. at)),
      λ is. subst (In sort) (sorts_items trees)
          (walk_finds IsEarlierSort never_earlier earlier_chain Spread (λ known others w to is. is) (λ known late w after is. is) sorts_compared [] [] (sort_adds trees) walk
          tt (sorts_themselves trees) [] sort tt is tt),
    );
    each = trees_each [] trees h;
  }
    where
      walk : Walk IsEarlierSort Spread [] [] (sort_adds trees)
      walk = sorts_walk [] [] trees h

  trees_pass : (whole_list : List SortTree) → AreTrees parts pools all whole_list → (done : List SortId) (trees : List SortTree) → sorts_in whole_list ≡ done ++ sorts_in trees
      → Each (IsTree parts pools all) trees → TreesPass parts pools all done trees
  trees_pass whole_list are done [] split each = exact_spent IsEarlierSort never_earlier earlier_chain (HasSpread parts all) (HasSpread parts all) done
      (λ sort is. subst (In sort) (split ∙ append-nil done) ((are.sorts sort).1 is)) (λ sort is. is)
  trees_pass whole_list are done (tree ∷ trees) split each = (
    record {
      next = exact_next IsEarlierSort never_earlier earlier_chain (HasSpread parts all) (HasSpread parts all) done tree.sort (sorts_in trees)
          (subst (Rising IsEarlierSort) split are.rising) (λ sort is. subst (In sort) split ((are.sorts sort).1 is)) (λ sort is. is)
          ((are.sorts tree.sort).0 (subst (In tree.sort) (sym split) (in_right done here)));
      schemas = each.0.schemas;
      terms = each.0.terms;
      told = whole_back (stated spread_at all) (stated live_at all) (JudgingTells parts pools) tree.tree each.0.schemas_told each.0.terms_told;
    },
    trees_pass whole_list are (done ++ tree.sort ∷ []) trees (split ∙ sym (append_assoc done (tree.sort ∷ []) (sorts_in trees))) each.1,
  )

  pub are_trees : (trees : List SortTree) → AreTrees parts pools all trees → TreesPass parts pools all [] trees
  are_trees trees are = trees_pass trees are [] trees refl are.each

-- Entries

module _ (parts : SigParts) (pools : Pools) (all : List Entry) where
  -- what an entry owes, with the terms behind it, is all that is asked of it
  of_entry : (before : List Entry) (x : Entry) (xs : List Entry) → Owes parts pools before x → HaveInstances parts (stated live_at all) (decision_at x ++ stated decision_at xs)
      → IsEntry parts pools all before x xs
  of_entry before (e.Law n q) xs owed h = (owed.0.0, record { sort = owed.0.1.sort; left = owed.0.1.left; right = owed.0.1.right; agree = owed.1 })
  of_entry before (e.Lemma n q steps) xs owed h = owed
  of_entry before (e.Spread c) xs owed h = subst (AreExactly parts (IsInstance parts (stated live_at all) c)) (first_decided xs) h.0
  of_entry before (e.Killed q steps) xs owed h = (owed.0, owed.1, sym (first_decided xs) ∙ h.0)
  of_entry before (e.Live t) xs owed h = tt
  of_entry before (e.Moved q steps) xs owed h = owed

  to_owed : (before : List Entry) (x : Entry) (xs : List Entry) → IsEntry parts pools all before x xs → Owes parts pools before x
  to_owed before (e.Law n q) xs is = ((is.0, record { sort = is.1.sort; left = is.1.left; right = is.1.right }), is.1.agree)
  to_owed before (e.Lemma n q steps) xs is = is
  to_owed before (e.Spread c) xs is = tt
  to_owed before (e.Killed q steps) xs is = (is.0, is.1)
  to_owed before (e.Live t) xs is = tt
  to_owed before (e.Moved q steps) xs is = is

  behind : (ds ns : List Decision) → HaveInstances parts (stated live_at all) (ds ++ ns) → HaveInstances parts (stated live_at all) ns
  behind [] ns h = h
  behind (spread c ∷ ds) ns h = behind ds ns h.1
  behind (killed c ∷ ds) ns h = behind ds ns h.1
  behind (live t ∷ ds) ns h = behind ds ns h
  behind (moved t ∷ ds) ns h = behind ds ns h

  entry_at : (before front : List Entry) (x : Entry) (back : List Entry) → AllOwe parts pools before (front ++ x ∷ back)
      → HaveInstances parts (stated live_at all) (stated decision_at (front ++ x ∷ back)) → IsEntry parts pools all (before ++ front) x back
  entry_at before [] x back owed h = subst (λ l. IsEntry parts pools all l x back) (sym (append-nil before)) (of_entry before x back owed.0 h)
  entry_at before (y ∷ front) x back owed h = subst (λ l. IsEntry parts pools all l x back) (append_assoc before (y ∷ []) front)
      (entry_at (before ++ y ∷ []) front x back owed.1 (behind (decision_at y) (stated decision_at (front ++ x ∷ back)) h))

  all_owed : ((before : List Entry) (x : Entry) (after : List Entry) → all ≡ before ++ x ∷ after → IsEntry parts pools all before x after)
      → (before xs : List Entry) → all ≡ before ++ xs → AllOwe parts pools before xs
  all_owed each before [] split = tt
  all_owed each before (x ∷ xs) split = (to_owed before x xs (each before x xs split), all_owed each (before ++ x ∷ []) xs (split ∙ sym (append_assoc before (x ∷ []) xs)))

-- The whole

pub yes_valid : (parts : SigParts) (pools : Pools) (entries : List Entry) (trees : List SortTree) → Judged parts pools entries trees Yes → IsValid parts pools entries trees
yes_valid parts pools entries trees h =
    let limits = if_yes h in
    let given = if_yes limits.1 in
    let true_there = background_yes parts pools parts.settings.background
    (Entries parts pools (InTrees parts pools entries (entry_after entries) [] trees) [] None entries) given.1 in
    let passed = entries_yes parts pools (InTrees parts pools entries (entry_after entries) [] trees) [] None entries true_there.1 in
    let whole = in_order_whole parts (weighs_something parts limits.0.well_formed) (stated decision_at entries) passed.0.goes in
    let instances = subst (λ lives. HaveInstances parts lives (stated decision_at entries)) (live_decided entries) whole.instances in
    record {
      limits = limits.0;
      pools_are = given.0;
      background = true_there.0;
      schemas = subst₂ (λ spreads. AreExactly parts (IsConsidered parts spreads)) (spread_decided entries) (schema_decided entries) whole.schemas;
      first = sym (first_decided entries) ∙ whole.first;
      each = λ before x after split. entry_at parts pools entries [] before x after (subst (AllOwe parts pools []) split passed.0.owed)
          (subst (λ l. HaveInstances parts (stated live_at entries) (stated decision_at l)) split instances);
      trees_are = trees_are parts pools entries trees (trees_yes parts pools entries (entry_after entries) [] trees passed.1);
    }

pub valid_yes : (parts : SigParts) (pools : Pools) (entries : List Entry) (trees : List SortTree) → IsValid parts pools entries trees → Judged parts pools entries trees Yes
valid_yes parts pools entries trees valid = inl (
  valid.limits,
  inl (
    valid.pools_are,
    yes_background parts pools parts.settings.background (Entries parts pools (InTrees parts pools entries (entry_after entries) [] trees) [] None entries) valid.background
        (yes_entries parts pools (InTrees parts pools entries (entry_after entries) [] trees)
        (yes_trees parts pools entries (entry_after entries) [] trees (are_trees parts pools entries trees valid.trees_are)) [] None entries
        (record {
          goes = whole_in_order parts (weighs_something parts valid.limits.well_formed) (stated decision_at entries) (decisions_whole parts pools entries valid.each valid.schemas valid.first);
          owed = all_owed parts pools entries valid.each [] entries refl;
        })),
  ),
)
