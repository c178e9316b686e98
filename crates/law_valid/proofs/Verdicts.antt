-- The order of checking has one answer.
use Rattle.std.proofs.Common.{◌≡◌, ℕ, zero, suc, ◌+◌, ◌⊎◌, inl, inr, Option, Some, None, List, [], ◌∷◌, ◌++◌, sym, ◌∙◌}
use Rattle.law_sig.specs.Trees.{joined}
use Rattle.law_sig.specs.Tests.{Pools, test_count, val}
use Rattle.law_sig.specs.declared.tree.SortId.{SortId}
use Rattle.law_sig.specs.declared.tree.Tree.{Tree}
use Rattle.law_sig.specs.declared.parts.Equation.{Equation}
use Rattle.law_sig.specs.declared.parts.SigParts.{SigParts}
use Rattle.law_valid.specs.declared.certificate.Entry.{Entry}
use Rattle.law_valid.specs.declared.certificate.Entry.TheVariants as e
use Rattle.law_valid.specs.declared.certificate.SortTree.{SortTree}
use Rattle.law_valid.specs.declared.rule.Rule.{Rule}
use Rattle.law_valid.specs.declared.rule.Rule.TheVariants as r
use Rattle.law_sig.specs.Lists.{numbered}
use Rattle.law_valid.specs.Splits.{AreApart}
use Rattle.law_valid.specs.Trees.{value_of}
use Rattle.law_valid.specs.Order.{Block}
use Rattle.law_valid.specs.Judged.{If, Valued, Tests, AtTests, Background, block_after, OfEntry, Entries, entry_after, Judging, all_cuts, ItemValued, ItemsValued, CutsTell, InTrees, Judged}
use Rattle.law_valid.specs.declared.rule.Answer.{Answer}
use Rattle.law_valid.specs.declared.rule.Answer.TheVariants.{No, Over}

-- where both sides have one answer each by the rest, they have one by the whole
if_one : {P T U : Type 0} {a b fault : Answer} → (T → U → a ≡ b) → (P × T) ⊎ ((P → ⊥) × (a ≡ fault)) → (P × U) ⊎ ((P → ⊥) × (b ≡ fault)) → a ≡ b
if_one one (inl h) (inl k) = one h.1 k.1
if_one one (inl h) (inr k) = absurd (k.0 h.0)
if_one one (inr h) (inl k) = absurd (h.0 k.0)
if_one one (inr h) (inr k) = h.1 ∙ sym k.1

abbrev IsOne : (Answer → Type 0) → Type 0
IsOne rest = (a b : Answer) → rest a → rest b → a ≡ b

module _ (parts : SigParts) (pools : Pools) where
  tests_one : (rule : Rule) (entry : ℕ) (q : Equation) (rest : Answer → Type 0) → IsOne rest → (n test : ℕ) → IsOne (Tests parts pools rule entry q rest n test)
  tests_one rule entry q rest one zero test a b h k = one a b h k
  tests_one rule entry q rest one (suc n) test a b h k = by (tests_one rule entry q rest one n (suc test) a b) (val parts pools test q.left) (val parts pools test q.right) h k
    where
      by : (Tests parts pools rule entry q rest n (suc test) a → Tests parts pools rule entry q rest n (suc test) b → a ≡ b) → (v w : Option Tree)
          → Valued v (Over entry test q.left) (λ v. Valued w (Over entry test q.right) (λ w. If (v ≡ w) (No rule entry) (Tests parts pools rule entry q rest n (suc test)))) a
          → Valued v (Over entry test q.left) (λ v. Valued w (Over entry test q.right) (λ w. If (v ≡ w) (No rule entry) (Tests parts pools rule entry q rest n (suc test)))) b
          → a ≡ b
      by later None w h k = h ∙ sym k
      by later (Some v) None h k = h ∙ sym k
      by later (Some v) (Some w) h k = if_one later h k

  at_tests_one : (rule : Rule) (entry : ℕ) (q : Equation) (rest : Answer → Type 0) → IsOne rest → IsOne (AtTests parts pools rule entry q rest)
  at_tests_one rule entry q rest one = tests_one rule entry q rest one (test_count parts pools) 0

  background_one : (qs : List Equation) (rest : Answer → Type 0) → IsOne rest → IsOne (Background parts pools qs rest)
  background_one [] rest one = one
  background_one (q ∷ qs) rest one = at_tests_one r.V3 0 q (Background parts pools qs rest) (background_one qs rest one)

  entry_one : (before : List Entry) (block : Option Block) (x : Entry) (rest : Answer → Type 0) → IsOne rest → IsOne (OfEntry parts pools before block x rest)
  entry_one before block (e.Law n q) rest one a b h k = if_one (at_tests_one r.V3 (entry_after before) q rest one a b) h k
  entry_one before block (e.Lemma n q steps) rest one a b h k = if_one (one a b) h k
  entry_one before block (e.Spread c) rest one a b h k = if_one (if_one (one a b)) h k
  entry_one before block (e.Killed q steps) rest one a b h k = if_one (if_one (if_one (at_tests_one r.V6 (entry_after before) q rest one a b))) h k
  entry_one before block (e.Live t) rest one a b h k = if_one (if_one (one a b)) h k
  entry_one before block (e.Moved q steps) rest one a b h k = if_one (if_one (if_one (at_tests_one r.V7 (entry_after before) q rest one a b))) h k

  entries_one : (close : Answer → Type 0) → IsOne close → (before : List Entry) (block : Option Block) (xs : List Entry) → IsOne (Entries parts pools close before block xs)
  entries_one close one before block [] a b = if_one (if_one (one a b))
  entries_one close one before block (x ∷ xs) a b = entry_one before block x (Entries parts pools close (before ++ x ∷ []) (block_after block x) xs)
      (entries_one close one (before ++ x ∷ []) (block_after block x) xs) a b

  items_one : (rule : Rule) (entry : ℕ) (ts : List Tree) (test : ℕ) (ns : List ℕ) (rest : Answer → Type 0) → IsOne rest
      → IsOne (ItemsValued parts pools rule entry ts test ns rest)
  items_one rule entry ts test [] rest one a b h k = one a b h k
  items_one rule entry ts test (n ∷ ns) rest one a b h k = by (items_one rule entry ts test ns rest one a b) (numbered ts n) h k
    where
      valued : (t : Tree) (v : Option Tree) → (ItemsValued parts pools rule entry ts test ns rest a → ItemsValued parts pools rule entry ts test ns rest b → a ≡ b)
          → Valued v (Over entry test t) (λ v. ItemsValued parts pools rule entry ts test ns rest) a
          → Valued v (Over entry test t) (λ v. ItemsValued parts pools rule entry ts test ns rest) b → a ≡ b
      valued t None later h k = h ∙ sym k
      valued t (Some v) later h k = later h k

      by : (ItemsValued parts pools rule entry ts test ns rest a → ItemsValued parts pools rule entry ts test ns rest b → a ≡ b) → (o : Option Tree)
          → ItemValued parts pools rule entry test o (ItemsValued parts pools rule entry ts test ns rest) a
          → ItemValued parts pools rule entry test o (ItemsValued parts pools rule entry ts test ns rest) b → a ≡ b
      by later None h k = h ∙ sym k
      by later (Some t) h k = valued t (val parts pools test t) later h k

  cuts_one : (entry : ℕ) (js : List Judging) (rest : Answer → Type 0) → IsOne rest → IsOne (CutsTell parts pools entry js rest)
  cuts_one entry [] rest one a b h k = one a b h k
  cuts_one entry (j ∷ js) rest one a b h k = items_one j.rule entry j.terms j.cut.test (joined j.cut.kids)
      (If (AreApart (value_of parts pools j.terms) j.cut) (No j.rule entry) (CutsTell parts pools entry js rest)) (λ c d. if_one (cuts_one entry js rest one c d)) a b h k

  trees_one : (all : List Entry) (entry : ℕ) (done : List SortId) (trees : List SortTree) → IsOne (InTrees parts pools all entry done trees)
  trees_one all entry done [] a b h k = if_one (λ x y. x ∙ sym y) h k
  trees_one all entry done (tree ∷ trees) a b h k =
      if_one (if_one (if_one (cuts_one entry (all_cuts all tree) (InTrees parts pools all (entry + 1) (done ++ tree.sort ∷ []) trees)
      (trees_one all (entry + 1) (done ++ tree.sort ∷ []) trees) a b))) h k

pub one_answer : (parts : SigParts) (pools : Pools) (entries : List Entry) (trees : List SortTree) (a b : Answer)
    → Judged parts pools entries trees a → Judged parts pools entries trees b → a ≡ b
one_answer parts pools entries trees a b h k = if_one (if_one (background_one parts pools parts.settings.background
    (Entries parts pools (InTrees parts pools entries (entry_after entries) [] trees) [] None entries)
    (entries_one parts pools (InTrees parts pools entries (entry_after entries) [] trees) (trees_one parts pools entries (entry_after entries) [] trees) [] None entries) a b)) h k
