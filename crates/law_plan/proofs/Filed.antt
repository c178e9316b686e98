-- Two walks find the live term that is like a term.
use Rattle.std.proofs.Common.{◌≡◌, ℕ, ◌⊎◌, ◌↔◌, inl, inr, List, Some, sym, ◌∙◌, subst}
use Rattle.law_sig.specs.Lists.{In}
use Rattle.law_sig.specs.Trees.{schema_of}
use Rattle.law_sig.specs.Tests.{InU, Pools, val}
use Rattle.law_sig.specs.Least.{AreAlike}
use Rattle.law_sig.specs.declared.tree.SortId.{SortId}
use Rattle.law_sig.specs.declared.tree.Tree.{Tree}
use Rattle.law_sig.specs.declared.parts.SigParts.{SigParts}
use Rattle.law_laws.proofs.BodyFacts.{some_is}
use Rattle.law_laws.proofs.Sorts.{schema_sort}
use Rattle.law_splits.specs.Splits.{Split}
use Rattle.law_splits.specs.Agree.{HasOneValue, Differ}
use Rattle.law_splits.specs.Rule.{IsSplitTree}
use Rattle.law_splits.proofs.Led.{leaf_exact, new_child_exact}
use Rattle.law_valid.specs.Trees.{IsTest, IsFlatTest}
use Rattle.law_plan.specs.Search.{IsFound, NoneFound}
use Rattle.law_plan.specs.Classes.{AreOfClass, AreOwned}
use Rattle.law_plan.specs.Filed.{HasValue, IsLedTo, IsLedOut, IsOfFirst, AreFiled, AreHeld}
use Rattle.law_plan.proofs.Classes.{found_in_class}

module _ (parts : SigParts) (pools : Pools) where
  abbrev M : Tree → ℕ → Tree → Type 0
  M = HasValue parts pools

  one_value : HasOneValue M
  one_value t test v w h k = some_is v w (sym h ∙ k)

  alike_differ : (t u : Tree) → AreAlike parts pools t u → Differ (IsTest parts pools) M t u → ⊥
  alike_differ t u a d = d.differ.4 (some_is d.differ.0 d.differ.1 (sym d.differ.2 ∙ a.same d.test d.is_allowed ∙ d.differ.3))

  pub found_at_leaf : (lives : List Tree) (tree : Split Tree Tree) → IsSplitTree (IsTest parts pools) M lives tree
      → (t y : Tree) → IsLedTo parts pools t tree y → (u : Tree) → IsFound parts pools lives t u ↔ ((u ≡ y) × AreAlike parts pools t u)
  found_at_leaf lives tree placed t y led u = (λ f. (by f (exact.1 u f.held), f.alike), λ h. record { held = subst (λ z. In z lives) (sym h.0) exact.0; alike = h.1 })
    where
      exact : In y lives × ((z : Tree) → In z lives → (z ≡ y) ⊎ Differ (IsTest parts pools) M t z)
      exact = leaf_exact (IsTest parts pools) M one_value t lives tree placed y led.splits led.way

      by : IsFound parts pools lives t u → (u ≡ y) ⊎ Differ (IsTest parts pools) M t u → u ≡ y
      by f (inl e) = e
      by f (inr d) = absurd (alike_differ t u f.alike d)

  pub none_at_split : (lives : List Tree) (tree : Split Tree Tree) → IsSplitTree (IsTest parts pools) M lives tree
      → (t : Tree) → IsLedOut parts pools t tree → NoneFound parts pools lives t
  none_at_split lives tree placed t o u f = alike_differ t u f.alike
      (new_child_exact (IsTest parts pools) M one_value t lives tree placed o.value o.splits o.test o.kids o.way o.has o.nowhere u f.held)

  -- Classes

  class_apart : (c d r : Tree) → AreOfClass parts pools c d → IsOfFirst parts pools r d → Differ (IsFlatTest parts pools) M c r → ⊥
  class_apart c d r k of h = by of
    where
      value : val parts pools h.test d ≡ Some h.differ.0
      value = sym (k.same h.test h.is_allowed.0 h.is_allowed.1) ∙ h.differ.2

      by : IsOfFirst parts pools r d → ⊥
      by (inl e) = h.differ.4 (one_value r h.test h.differ.0 h.differ.1 (subst (λ z. val parts pools h.test z ≡ Some h.differ.0) e value) h.differ.3)
      by (inr a) =
          let (x, first, second) = a h.test h.is_allowed in
          h.differ.4 (one_value d h.test h.differ.0 x value second ∙ one_value r h.test x h.differ.1 first h.differ.3)

  module _ (sort : SortId) (spreads lives firsts : List Tree) (classes : Split Tree Tree) (owned : AreOwned parts pools spreads lives)
      (filed : AreFiled parts pools sort spreads firsts classes) (t : Tree) (t_in : InU parts sort t) where
    -- the class of a live term that is like t
    record HasClass (u : Tree) : Type 0 where
      pub of_class : AreOfClass parts pools (schema_of t) (schema_of u)
      pub first : Tree
      pub at : In first firsts
      pub is : IsOfFirst parts pools first (schema_of u)

    has_class : (u : Tree) → IsFound parts pools lives t u → HasClass u
    has_class u f =
        let (spread, k) = found_in_class parts pools spreads lives owned sort t u t_in f in
        let (r, r_in, is) = filed.classed (schema_of u) spread (k.right ∙ sym k.left ∙ schema_sort parts t ∙ t_in.sorted) in
        record { of_class = k; first = r; at = r_in; is = is }

    pub below_class : (r : Tree) → IsLedTo parts pools (schema_of t) classes r → (u : Tree) → IsFound parts pools lives t u → IsOfFirst parts pools r (schema_of u)
    below_class r led u f = by (has_class u f)
      where
        by : HasClass u → IsOfFirst parts pools r (schema_of u)
        by h = among ((leaf_exact (IsFlatTest parts pools) M one_value (schema_of t) firsts classes filed.placed r led.splits led.way).1 h.first h.at)
          where
            among : (h.first ≡ r) ⊎ Differ (IsFlatTest parts pools) M (schema_of t) h.first → IsOfFirst parts pools r (schema_of u)
            among (inl e) = subst (λ z. IsOfFirst parts pools z (schema_of u)) e h.is
            among (inr d) = absurd (class_apart (schema_of t) (schema_of u) h.first h.of_class h.is d)

    pub none_without : IsLedOut parts pools (schema_of t) classes → NoneFound parts pools lives t
    none_without o u f =
        let h : HasClass u = has_class u f in
        class_apart (schema_of t) (schema_of u) h.first h.of_class h.is
        (new_child_exact (IsFlatTest parts pools) M one_value (schema_of t) firsts classes filed.placed o.value o.splits o.test o.kids o.way o.has o.nowhere h.first h.at)

    pub none_in_other : (r : Tree) → IsLedTo parts pools (schema_of t) classes r → Differ (IsFlatTest parts pools) M (schema_of t) r → NoneFound parts pools lives t
    none_in_other r led d u f =
        let h : HasClass u = has_class u f in
        class_apart (schema_of t) (schema_of u) r h.of_class (below_class r led u f) d

    pub found_in_trees : (held : List Tree) (tree : Split Tree Tree) (r : Tree) → IsLedTo parts pools (schema_of t) classes r
        → AreHeld parts pools lives r held → IsSplitTree (IsTest parts pools) M held tree
        → (y : Tree) → IsLedTo parts pools t tree y → (u : Tree) → IsFound parts pools lives t u ↔ ((u ≡ y) × AreAlike parts pools t u)
    found_in_trees held tree r led are placed y way u = (
      λ f. (found_at_leaf held tree placed t y way u).0 (record { held = (are u).1 (f.held, below_class r led u f); alike = f.alike }),
      λ h. let f = (found_at_leaf held tree placed t y way u).1 h in record { held = ((are u).0 f.held).0; alike = f.alike },
    )
