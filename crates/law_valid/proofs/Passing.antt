-- Where the answer is Yes, each condition holds, and the other way round.
use Rattle.std.proofs.Common.{◌≡◌, ℕ, zero, suc, ◌+◌, ◌<◌, ◌≤◌, ◌⊎◌, inl, inr, Option, Some, None, IsSome, true≢false, List, [], ◌∷◌, ◌++◌, sym, refl, ap, ◌∙◌, subst, arith, option_and_then}
use Rattle.law_sig.specs.Lists.{Each, numbered}
use Rattle.law_sig.specs.Trees.{joined}
use Rattle.law_sig.specs.Tests.{Pools, test_count, val, Agrees}
use Rattle.law_sig.specs.declared.tree.SortId.{SortId}
use Rattle.law_sig.specs.declared.tree.Tree.{Tree}
use Rattle.law_sig.specs.declared.parts.Equation.{Equation}
use Rattle.law_sig.specs.declared.parts.SigParts.{SigParts}
use Rattle.law_laws.proofs.BodyFacts.{some_is}
use Rattle.law_valid.proofs.Going.{expected_first, go_on, go_then}
use Rattle.law_valid.proofs.Decisions.{progress_after}
use Rattle.law_valid.specs.declared.certificate.Entry.{Entry}
use Rattle.law_valid.specs.declared.certificate.Entry.TheVariants as e
use Rattle.law_valid.specs.declared.certificate.SortTree.{SortTree}
use Rattle.law_valid.specs.declared.rule.Rule.{Rule}
use Rattle.law_valid.specs.declared.rule.Rule.TheVariants as r
use Rattle.law_valid.specs.Stated.{stated, live_at}
use Rattle.law_valid.specs.Splits.{leaves_of, AreApart, Tells}
use Rattle.law_valid.specs.Trees.{value_of, HasSchemas, HasTerms, HasSpread, IsEarlierSort}
use Rattle.law_valid.specs.Valid.{IsNextNumber, IsLemma, IsKilled, IsMoved}
use Rattle.law_sig.specs.Expected.{IsFirstAbove, IsSpent}
use Rattle.law_valid.specs.Order.{Block, IsBlockSpent, IsNextTerm, AreExpected, GoInOrder}
use Rattle.law_valid.specs.Judged.{If, Valued, Tests, AtTests, Background, decision_at, progress, block_after, HasSides, OfEntry, Entries, entry_after, Judging, all_cuts, ItemValued, ItemsValued, CutsTell, InTrees}
use Rattle.law_valid.specs.declared.rule.Answer.{Answer}
use Rattle.law_valid.specs.declared.rule.Answer.TheVariants.{Yes, No, Over}

-- a condition before the rest
pub if_yes : {P T : Type 0} {rule : Rule} {entry : ℕ} → (P × T) ⊎ ((P → ⊥) × (Yes ≡ No rule entry)) → P × T
if_yes (inl h) = h
if_yes (inr h) = absurd (no h.1)
  where
    no : {rule : Rule} {entry : ℕ} → Yes ≡ No rule entry → ⊥
    no same = cc

never_over : (entry test : ℕ) (t : Tree) → Yes ≡ Over entry test t → ⊥
never_over entry test t same = cc

pub never_no : (rule : Rule) (entry : ℕ) → Yes ≡ No rule entry → ⊥
never_no rule entry same = cc

module _ (parts : SigParts) (pools : Pools) where
  -- Tests

  -- both sides have one value at a test
  pub record IsOneValue (q : Equation) (test : ℕ) : Type 0 where
    pub defined : IsSome (val parts pools test q.left)
    pub same : val parts pools test q.left ≡ val parts pools test q.right

  tests_yes : (rule : Rule) (entry : ℕ) (q : Equation) (rest : Answer → Type 0) (n test : ℕ) → Tests parts pools rule entry q rest n test Yes
      → ((k : ℕ) → test ≤ k → k < n + test → IsOneValue q k) × rest Yes
  tests_yes rule entry q rest zero test h = (λ k low high. absurd (omega arith), h)
  tests_yes rule entry q rest (suc n) test h = by (tests_yes rule entry q rest n (suc test)) (val parts pools test q.left) (val parts pools test q.right) refl refl h
    where
      at_last : ((k : ℕ) → suc test ≤ k → k < n + suc test → IsOneValue q k) → IsOneValue q test → (k : ℕ) → test ≤ k → k < suc n + test → (k ≡ test) ⊎ (suc test ≤ k) → IsOneValue q k
      at_last later one k low high (inl same) = subst (IsOneValue q) (sym same) one
      at_last later one k low high (inr above) = later k above (omega arith)

      split : (k : ℕ) → test ≤ k → (k ≡ test) ⊎ (suc test ≤ k)
      split k low = grind arith

      by : (Tests parts pools rule entry q rest n (suc test) Yes → ((k : ℕ) → suc test ≤ k → k < n + suc test → IsOneValue q k) × rest Yes) → (v w : Option Tree)
          → val parts pools test q.left ≡ v → val parts pools test q.right ≡ w
          → Valued v (Over entry test q.left) (λ v. Valued w (Over entry test q.right) (λ w. If (v ≡ w) (No rule entry) (Tests parts pools rule entry q rest n (suc test)))) Yes
          → ((k : ℕ) → test ≤ k → k < suc n + test → IsOneValue q k) × rest Yes
      by later None w e k h = absurd (never_over entry test q.left h)
      by later (Some v) None e k h = absurd (never_over entry test q.right h)
      by later (Some v) (Some w) e k h =
          let p = if_yes h in
          let m = later p.1 in
          let one : IsOneValue q test = record { defined = subst IsSome (sym e) refl; same = e ∙ ap Some p.0 ∙ sym k } in
          (λ k low high. at_last m.0 one k low high (split k low), m.1)

  yes_tests : (rule : Rule) (entry : ℕ) (q : Equation) (rest : Answer → Type 0) → rest Yes → (n test : ℕ) → ((k : ℕ) → test ≤ k → k < n + test → IsOneValue q k)
      → Tests parts pools rule entry q rest n test Yes
  yes_tests rule entry q rest h zero test have = h
  yes_tests rule entry q rest h (suc n) test have = by (val parts pools test q.left) (val parts pools test q.right) refl refl
      (yes_tests rule entry q rest h n (suc test) (λ k low high. have k (omega arith) (omega arith)))
    where
      one : IsOneValue q test
      one = have test (omega arith) (omega arith)

      by : (v w : Option Tree) → val parts pools test q.left ≡ v → val parts pools test q.right ≡ w → Tests parts pools rule entry q rest n (suc test) Yes
          → Valued v (Over entry test q.left) (λ v. Valued w (Over entry test q.right) (λ w. If (v ≡ w) (No rule entry) (Tests parts pools rule entry q rest n (suc test)))) Yes
      by None w e k later = absurd (true≢false (sym (subst IsSome e one.defined)))
      by (Some v) None e k later = absurd (true≢false (sym (subst IsSome (one.same ∙ k) one.defined)))
      by (Some v) (Some w) e k later = inl (some_is v w (sym e ∙ one.same ∙ k), later)

  pub at_tests_yes : (rule : Rule) (entry : ℕ) (q : Equation) (rest : Answer → Type 0) → AtTests parts pools rule entry q rest Yes → Agrees parts pools q.left q.right × rest Yes
  at_tests_yes rule entry q rest h =
      let p = tests_yes rule entry q rest (test_count parts pools) 0 h in
      (record { same = λ test within. (p.0 test (omega arith) (omega arith)).same; defined = λ test within. (p.0 test (omega arith) (omega arith)).defined }, p.1)

  pub yes_at_tests : (rule : Rule) (entry : ℕ) (q : Equation) (rest : Answer → Type 0) → Agrees parts pools q.left q.right → rest Yes → AtTests parts pools rule entry q rest Yes
  yes_at_tests rule entry q rest agree h = yes_tests rule entry q rest h (test_count parts pools) 0
      (λ k low high. record { defined = agree.defined k (omega arith); same = agree.same k (omega arith) })

  pub background_yes : (qs : List Equation) (rest : Answer → Type 0) → Background parts pools qs rest Yes → Each (λ (q : Equation). Agrees parts pools q.left q.right) qs × rest Yes
  background_yes [] rest h = (tt, h)
  background_yes (q ∷ qs) rest h =
      let p = at_tests_yes r.V3 0 q (Background parts pools qs rest) h in
      let m = background_yes qs rest p.1 in
      ((p.0, m.0), m.1)

  pub yes_background : (qs : List Equation) (rest : Answer → Type 0) → Each (λ (q : Equation). Agrees parts pools q.left q.right) qs → rest Yes → Background parts pools qs rest Yes
  yes_background [] rest have h = h
  yes_background (q ∷ qs) rest have h = yes_at_tests r.V3 0 q (Background parts pools qs rest) have.0 (yes_background qs rest have.1 h)

  -- Entries

  -- what an entry owes, apart from the order
  abbrev pub Owes : List Entry → Entry → Type 0
  Owes before (e.Law number q) = (IsNextNumber parts before number × HasSides parts q) × Agrees parts pools q.left q.right
  Owes before (e.Lemma number q steps) = IsNextNumber parts before number × IsLemma parts before q steps
  Owes before (e.Spread c) = Unit {0}
  Owes before (e.Killed q steps) = IsKilled parts before q steps × Agrees parts pools q.left q.right
  Owes before (e.Live t) = Unit {0}
  Owes before (e.Moved q steps) = IsMoved parts before q steps × Agrees parts pools q.left q.right

  abbrev pub AllOwe : List Entry → List Entry → Type 0
  AllOwe before [] = Unit {0}
  AllOwe before (x ∷ xs) = Owes before x × AllOwe (before ++ x ∷ []) xs

  -- an entry is expected, and has what it owes
  pub record Passes (before : List Entry) (block : Option Block) (x : Entry) : Type 0 where
    pub expected : AreExpected (progress parts before block) (decision_at x)
    pub owed : Owes before x

  -- so do all entries, and nothing is expected where they end
  pub record AllPass (before : List Entry) (block : Option Block) (xs : List Entry) : Type 0 where
    pub goes : GoInOrder (progress parts before block) (stated decision_at xs)
    pub owed : AllOwe before xs

  entry_yes : (before : List Entry) (block : Option Block) (x : Entry) (rest : Answer → Type 0) → OfEntry parts pools before block x rest Yes → Passes before block x × rest Yes
  entry_yes before block (e.Law n q) rest h =
      let p = if_yes h in
      let m = at_tests_yes r.V3 (entry_after before) q rest p.1 in
      (record { expected = tt; owed = (p.0, m.0) }, m.1)
  entry_yes before block (e.Lemma n q steps) rest h = let p = if_yes h in (record { expected = tt; owed = p.0 }, p.1)
  entry_yes before block (e.Spread c) rest h =
      let p = if_yes h in
      let m = if_yes p.1 in
      (record { expected = ((p.0, m.0), tt); owed = tt }, m.1)
  entry_yes before block (e.Killed q steps) rest h =
      let p = if_yes h in
      let m = if_yes p.1 in
      let k = if_yes m.1 in
      let a = at_tests_yes r.V6 (entry_after before) q rest k.1 in
      (record { expected = ((p.0, m.0), tt); owed = (k.0, a.0) }, a.1)
  entry_yes before block (e.Live t) rest h =
      let p = if_yes h in
      let m = if_yes p.1 in
      (record { expected = (m.0, tt); owed = tt }, m.1)
  entry_yes before block (e.Moved q steps) rest h =
      let p = if_yes h in
      let m = if_yes p.1 in
      let k = if_yes m.1 in
      let a = at_tests_yes r.V7 (entry_after before) q rest k.1 in
      (record { expected = (m.0, tt); owed = (k.0, a.0) }, a.1)

  -- where an instance is expected, not none is
  not_spent : (lives : List Tree) (block : Option Block) (t : Tree) → IsNextTerm parts lives block t → IsBlockSpent parts lives block → ⊥
  not_spent lives None t next spent = next
  not_spent lives (Some block) t next spent = spent t next.is next.above

  yes_entry : (before : List Entry) (block : Option Block) (x : Entry) (rest : Answer → Type 0) → Passes before block x → rest Yes → OfEntry parts pools before block x rest Yes
  yes_entry before block (e.Law n q) rest h later = inl (h.owed.0, yes_at_tests r.V3 (entry_after before) q rest h.owed.1 later)
  yes_entry before block (e.Lemma n q steps) rest h later = inl (h.owed, later)
  yes_entry before block (e.Spread c) rest h later = inl (h.expected.0.0, inl (h.expected.0.1, later))
  yes_entry before block (e.Killed q steps) rest h later =
      inl (h.expected.0.0, inl (h.expected.0.1, inl (h.owed.0, yes_at_tests r.V6 (entry_after before) q rest h.owed.1 later)))
  yes_entry before block (e.Live t) rest h later = inl (not_spent (stated live_at before) block t h.expected.0, inl (h.expected.0, later))
  yes_entry before block (e.Moved q steps) rest h later = inl (
    not_spent (stated live_at before) block q.left h.expected.0,
    inl (h.expected.0, inl (h.owed.0, yes_at_tests r.V7 (entry_after before) q rest h.owed.1 later)),
  )

  pub entries_yes : (close : Answer → Type 0) (before : List Entry) (block : Option Block) (xs : List Entry) → Entries parts pools close before block xs Yes
      → AllPass before block xs × close Yes
  entries_yes close before block [] h =
      let p = if_yes h in
      let m = if_yes p.1 in
      (record { goes = record { each = tt; ends = (p.0, m.0) }; owed = tt }, m.1)
  entries_yes close before block (x ∷ xs) h =
      let p = entry_yes before block x (Entries parts pools close (before ++ x ∷ []) (block_after block x) xs) h in
      let m = entries_yes close (before ++ x ∷ []) (block_after block x) xs p.1 in (
        record {
          goes = go_on (progress parts before block) (decision_at x) (stated decision_at xs) p.0.expected
              (subst (λ at. GoInOrder at (stated decision_at xs)) (sym (progress_after parts before block x)) m.0.goes);
          owed = (p.0.owed, m.0.owed);
        },
        m.1,
      )

  pub yes_entries : (close : Answer → Type 0) → close Yes → (before : List Entry) (block : Option Block) (xs : List Entry) → AllPass before block xs
      → Entries parts pools close before block xs Yes
  yes_entries close end before block [] h = inl (h.goes.ends.0, inl (h.goes.ends.1, end))
  yes_entries close end before block (x ∷ xs) h = yes_entry before block x (Entries parts pools close (before ++ x ∷ []) (block_after block x) xs)
      (record { expected = expected_first (progress parts before block) (decision_at x) (stated decision_at xs) h.goes.each; owed = h.owed.0 })
      (yes_entries close end (before ++ x ∷ []) (block_after block x) xs (record {
        goes = subst (λ at. GoInOrder at (stated decision_at xs)) (progress_after parts before block x) (go_then (progress parts before block) (decision_at x) (stated decision_at xs) h.goes);
        owed = h.owed.1;
      }))

  -- Trees

  items_yes : (rule : Rule) (entry : ℕ) (ts : List Tree) (test : ℕ) (ns : List ℕ) (rest : Answer → Type 0) → ItemsValued parts pools rule entry ts test ns rest Yes
      → Each (λ n. IsSome (value_of parts pools ts test n)) ns × rest Yes
  items_yes rule entry ts test [] rest h = (tt, h)
  items_yes rule entry ts test (n ∷ ns) rest h = by (items_yes rule entry ts test ns rest) (numbered ts n) refl h
    where
      valued : (t : Tree) (v : Option Tree) → val parts pools test t ≡ v → Valued v (Over entry test t) (λ v. ItemsValued parts pools rule entry ts test ns rest) Yes
          → IsSome (val parts pools test t) × ItemsValued parts pools rule entry ts test ns rest Yes
      valued t None e h = absurd (never_over entry test t h)
      valued t (Some v) e h = (subst IsSome (sym e) refl, h)

      by : (ItemsValued parts pools rule entry ts test ns rest Yes → Each (λ n. IsSome (value_of parts pools ts test n)) ns × rest Yes) → (o : Option Tree) → numbered ts n ≡ o
          → ItemValued parts pools rule entry test o (ItemsValued parts pools rule entry ts test ns rest) Yes
          → Each (λ n. IsSome (value_of parts pools ts test n)) (n ∷ ns) × rest Yes
      by later None is h = absurd (never_no rule entry h)
      by later (Some t) is h =
          let p = valued t (val parts pools test t) refl h in
          let m = later p.1 in
          ((subst (λ o. IsSome (option_and_then (val parts pools test) o)) (sym is) p.0, m.0), m.1)

  yes_items : (rule : Rule) (entry : ℕ) (ts : List Tree) (test : ℕ) (ns : List ℕ) (rest : Answer → Type 0) → Each (λ n. IsSome (value_of parts pools ts test n)) ns → rest Yes
      → ItemsValued parts pools rule entry ts test ns rest Yes
  yes_items rule entry ts test [] rest have h = h
  yes_items rule entry ts test (n ∷ ns) rest have h = by (numbered ts n) have.0 (yes_items rule entry ts test ns rest have.1 h)
    where
      valued : (t : Tree) (v : Option Tree) → IsSome v → ItemsValued parts pools rule entry ts test ns rest Yes → Valued v (Over entry test t) (λ v. ItemsValued parts pools rule entry ts test ns rest) Yes
      valued t None some later = absurd (true≢false (sym some))
      valued t (Some v) some later = later

      by : (o : Option Tree) → IsSome (option_and_then (val parts pools test) o) → ItemsValued parts pools rule entry ts test ns rest Yes
          → ItemValued parts pools rule entry test o (ItemsValued parts pools rule entry ts test ns rest) Yes
      by None some later = absurd (true≢false (sym some))
      by (Some t) some later = valued t (val parts pools test t) some later

  -- a split tells its terms apart
  abbrev pub JudgingTells : Judging → Type 0
  JudgingTells j = Tells (value_of parts pools j.terms) j.cut

  pub cuts_yes : (entry : ℕ) (js : List Judging) (rest : Answer → Type 0) → CutsTell parts pools entry js rest Yes → Each JudgingTells js × rest Yes
  cuts_yes entry [] rest h = (tt, h)
  cuts_yes entry (j ∷ js) rest h =
      let p = items_yes j.rule entry j.terms j.cut.test (joined j.cut.kids) (If (AreApart (value_of parts pools j.terms) j.cut) (No j.rule entry) (CutsTell parts pools entry js rest)) h in
      let m = if_yes p.1 in
      let l = cuts_yes entry js rest m.1 in
      ((record { defined = p.0; apart = m.0 }, l.0), l.1)

  pub yes_cuts : (entry : ℕ) (js : List Judging) (rest : Answer → Type 0) → Each JudgingTells js → rest Yes → CutsTell parts pools entry js rest Yes
  yes_cuts entry [] rest have h = h
  yes_cuts entry (j ∷ js) rest have h = yes_items j.rule entry j.terms j.cut.test (joined j.cut.kids)
      (If (AreApart (value_of parts pools j.terms) j.cut) (No j.rule entry) (CutsTell parts pools entry js rest)) have.0.defined (inl (have.0.apart, yes_cuts entry js rest have.1 h))

  -- the conditions of one tree, and of all
  pub record TreePasses (all : List Entry) (done : List SortId) (tree : SortTree) : Type 0 where
    pub next : IsFirstAbove IsEarlierSort (HasSpread parts all) done tree.sort
    pub schemas : HasSchemas parts pools all tree
    pub terms : Each (HasTerms parts pools all) (leaves_of tree.tree)
    pub told : Each JudgingTells (all_cuts all tree)

  abbrev pub TreesPass : List Entry → List SortId → List SortTree → Type 0
  TreesPass all done [] = IsSpent IsEarlierSort (HasSpread parts all) done
  TreesPass all done (tree ∷ trees) = TreePasses all done tree × TreesPass all (done ++ tree.sort ∷ []) trees

  pub trees_yes : (all : List Entry) (entry : ℕ) (done : List SortId) (trees : List SortTree) → InTrees parts pools all entry done trees Yes → TreesPass all done trees
  trees_yes all entry done [] h = (if_yes h).0
  trees_yes all entry done (tree ∷ trees) h =
      let p = if_yes h in
      let m = if_yes p.1 in
      let k = if_yes m.1 in
      let l = cuts_yes entry (all_cuts all tree) (InTrees parts pools all (entry + 1) (done ++ tree.sort ∷ []) trees) k.1 in
      (record { next = p.0; schemas = m.0; terms = k.0; told = l.0 }, trees_yes all (entry + 1) (done ++ tree.sort ∷ []) trees l.1)

  pub yes_trees : (all : List Entry) (entry : ℕ) (done : List SortId) (trees : List SortTree) → TreesPass all done trees → InTrees parts pools all entry done trees Yes
  yes_trees all entry done [] h = inl (h, refl)
  yes_trees all entry done (tree ∷ trees) h = inl (
    h.0.next,
    inl (
      h.0.schemas,
      inl (
        h.0.terms,
        yes_cuts entry (all_cuts all tree) (InTrees parts pools all (entry + 1) (done ++ tree.sort ∷ []) trees) h.0.told (yes_trees all (entry + 1) (done ++ tree.sort ∷ []) trees h.1),
      ),
    ),
  )
