-- What a search finds, written as a certificate, is all that it owes.
use Rattle.std.proofs.Common.{◌≡◌, suc, ◌+◌, ◌⊎◌, inl, inr, List, [], ◌∷◌, ◌++◌, map, length, drop, refl, sym, ap, ap₂, ◌∙◌, subst, append_assoc, append-nil}
use Rattle.law_sig.specs.Lists.{In, Each}
use Rattle.law_sig.specs.Lists.In.{here, there}
use Rattle.law_sig.specs.Chains.{Replays}
use Rattle.law_sig.specs.Tests.{Pools, IsDefined}
use Rattle.law_sig.specs.declared.chain.Step.{Step}
use Rattle.law_sig.specs.declared.parts.Equation.{Equation}
use Rattle.law_sig.specs.declared.parts.SigParts.{SigParts}
use Rattle.law_laws.proofs.ListFacts.{in_none, in_rest, in_left, in_right, in_split, of_each}
use Rattle.law_laws.specs.Derivation.{HasOneSort}
use Rattle.law_rewriting.specs.Completion.{Kept, equation_of, equations_of, State, Halt}
use Rattle.law_rewriting.specs.Completion as completion
use Rattle.law_valid.specs.declared.certificate.Entry.{Entry as Stating}
use Rattle.law_valid.specs.declared.certificate.Entry.TheVariants as e
use Rattle.law_valid.specs.declared.certificate.SortTree.{SortTree}
use Rattle.law_valid.specs.Stated.{stated, equation_at, known}
use Rattle.law_valid.specs.Valid.{IsLemma}
use Rattle.law_valid.proofs.StatedFacts.{stated_parts, grown, kept}
use Rattle.law_plan.specs.Plan.{Entry}
use Rattle.law_plan.specs.Plan as plan
use Rattle.law_plan.specs.Course.{Line, lemmas_between, Answers, Goes}
use Rattle.law_plan.specs.Course as course
use Rattle.law_plan.specs.Course.Answers.{known as joined_already, by_lemmas, as_law}
use Rattle.law_plan.specs.Course.Goes.{ends as goes_ends, past, through}
use Rattle.law_plan.specs.Goals.{goal_at}
use Rattle.law_plan.specs.Owed.{planned_at, planned, IsOwed, Owed}
use Rattle.law_plan.specs.Written.{AreWritten, IsFoundOf}
use Rattle.law_plan.specs.Written.AreWritten.{ends, law, lemma, spread, killed, live, moved}
use Rattle.law_plan.proofs.Items.{stated_in}
use Rattle.law_plan.proofs.Planted.{placed_trees}

-- The entries are those of the plan

abbrev entry_in : Line → List Entry
entry_in (course.law q h) = []
entry_in (course.lemma q) = []
entry_in (course.entry x) = x ∷ []

abbrev found_between : State → State → List Equation
found_between s t = equations_of (drop (length s.kept) t.kept)

no_entries : (qs : List Equation) → stated entry_in (map course.lemma qs) ≡ []
no_entries [] = refl
no_entries (q ∷ qs) = no_entries qs

module _ (parts : SigParts) where
  answer_bare : {q : Equation} {s t : State} {new : List Line} → Answers parts q s new t → stated entry_in new ≡ []
  answer_bare (joined_already j) = refl
  answer_bare {s = s} (by_lemmas t h never a j) = no_entries (found_between s t)
  answer_bare {q = q} {s = s} (as_law t h never a none) = stated_parts entry_in (lemmas_between s t) (course.law q h ∷ []) ∙ append-nil (stated entry_in (lemmas_between s t)) ∙ no_entries (found_between s t)

  goes_plan : {s t : State} {es : List Entry} {lines : List Line} → Goes parts s es lines t → stated entry_in lines ≡ es
  goes_plan (goes_ends s) = refl
  goes_plan (past s t x es lines none g) = ap (λ l. x ∷ l) (goes_plan g)
  goes_plan (through s t u q x es new lines one a g) = stated_parts entry_in new (course.entry x ∷ lines)
      ∙ ap (λ l. l ++ x ∷ stated entry_in lines) (answer_bare a) ∙ ap (λ l. x ∷ l) (goes_plan g)

  written_plan : {k : List Kept} {lines : List Line} {xs : List Stating} → AreWritten parts k lines xs → planned xs ≡ stated entry_in lines
  written_plan (ends k) = refl
  written_plan (law k q h lines xs w) = written_plan w
  written_plan (lemma k q steps lines xs sorted chain w) = written_plan w
  written_plan (spread k c lines xs w) = ap (λ l. plan.spread c ∷ l) (written_plan w)
  written_plan (killed k q steps lines xs chain w) = ap (λ l. plan.killed q.left q.right ∷ l) (written_plan w)
  written_plan (live k t lines xs w) = ap (λ l. plan.live t ∷ l) (written_plan w)
  written_plan (moved k q steps lines xs chain w) = ap (λ l. plan.moved q.left q.right ∷ l) (written_plan w)

  -- A law is a goal

  no_law : (q : Equation) (h : Halt) (qs : List Equation) → In (course.law q h) (map course.lemma qs) → ⊥
  no_law q h [] at = in_none at
  no_law q h (p ∷ qs) at = by (no_law q h qs) (in_rest at)
    where
      by : (In (course.law q h) (map course.lemma qs) → ⊥) → (course.law q h ≡ course.lemma p) ⊎ In (course.law q h) (map course.lemma qs) → ⊥
      by rest (inl same) = cc
      by rest (inr later) = rest later

  answer_goal : {q : Equation} {s t : State} {new : List Line} → Answers parts q s new t → (p : Equation) (h : Halt) → In (course.law p h) new → p ≡ q
  answer_goal (joined_already j) p h at = in_none at
  answer_goal {s = s} (by_lemmas t g never a j) p h at = absurd (no_law p h (found_between s t) at)
  answer_goal {q = q} {s = s} (as_law t g never a none) p h at = by (in_split (lemmas_between s t) (course.law q g ∷ []) at)
    where
      last : (course.law p h ≡ course.law q g) ⊎ In (course.law p h) [] → p ≡ q
      last (inl same) = cc
      last (inr more) = in_none more

      by : In (course.law p h) (lemmas_between s t) ⊎ In (course.law p h) (course.law q g ∷ []) → p ≡ q
      by (inl k) = absurd (no_law p h (found_between s t) k)
      by (inr k) = last (in_rest k)

  law_goal : {s t : State} {es : List Entry} {lines : List Line} → Goes parts s es lines t → (p : Equation) (h : Halt) → In (course.law p h) lines → In p (stated goal_at es)
  law_goal (goes_ends s) p h at = in_none at
  law_goal (past s t x es lines none g) p h at = by (law_goal g p h) (in_rest at)
    where
      by : (In (course.law p h) lines → In p (stated goal_at es)) → (course.law p h ≡ course.entry x) ⊎ In (course.law p h) lines → In p (stated goal_at (x ∷ es))
      by rest (inl same) = absurd (let no = same in cc)
      by rest (inr k) = in_right (goal_at x) (rest k)
  law_goal (through s t u q x es new lines one a g) p h at = by (law_goal g p h) (in_split new (course.entry x ∷ lines) at)
    where
      own : p ≡ q → In p (stated goal_at (x ∷ es))
      own same = in_left (stated goal_at es) (subst (λ l. In p l) (sym one) (subst (λ z. In p (z ∷ [])) same here))

      later : (In (course.law p h) lines → In p (stated goal_at es)) → (course.law p h ≡ course.entry x) ⊎ In (course.law p h) lines → In p (stated goal_at (x ∷ es))
      later rest (inl same) = absurd (let no = same in cc)
      later rest (inr k) = in_right (goal_at x) (rest k)

      by : (In (course.law p h) lines → In p (stated goal_at es)) → In (course.law p h) new ⊎ In (course.law p h) (course.entry x ∷ lines) → In p (stated goal_at (x ∷ es))
      by rest (inl k) = own (answer_goal a p h k)
      by rest (inr k) = later rest (in_rest k)

  -- What each entry owes

  module _ (pools : Pools) (all : List Stating) (goals_defined : Each (λ (q : Equation). IsDefined parts pools q.left) (stated goal_at (planned all))) where
    -- what is kept is what chains may name
    abbrev AreKnown : List Kept → List Stating → Type 0
    AreKnown k front = equations_of k ≡ known parts front

    more_known : (k : List Kept) (front : List Stating) (x : Stating) (more : List Kept) → equations_of more ≡ equation_at x → AreKnown k front → AreKnown (k ++ more) (front ++ x ∷ [])
    more_known k front x more is h = both k more ∙ ap₂ (λ a b. a ++ b) h is ∙ append_assoc parts.settings.background (stated equation_at front) (equation_at x)
        ∙ ap (λ l. parts.settings.background ++ l) (grown equation_at front x)
      where
        both : (k more : List Kept) → equations_of (k ++ more) ≡ equations_of k ++ equations_of more
        both [] more = refl
        both (a ∷ k) more = ap (λ l. equation_of a ∷ l) (both k more)

    same_known : (k : List Kept) (front : List Stating) (x : Stating) → equation_at x ≡ [] → AreKnown k front → AreKnown k (front ++ x ∷ [])
    same_known k front x bare h = h ∙ ap (λ l. parts.settings.background ++ l) (kept equation_at front x bare)

    next_number : (k : List Kept) (front : List Stating) → AreKnown k front → length k + 1 ≡ length (known parts front) + 1
    next_number k front h = ap (λ n. n + 1) (sym (lengths k) ∙ ap length h)
      where
        lengths : (k : List Kept) → length (equations_of k) ≡ length k
        lengths [] = refl
        lengths (a ∷ k) = ap (λ n. suc n) (lengths k)

    goal_defined : (x : Stating) (y : Entry) (q : Equation) → In x all → In y (planned_at x) → In q (goal_at y) → IsDefined parts pools q.left
    goal_defined x y q at y_in q_in = of_each (λ (q : Equation). IsDefined parts pools q.left) (stated_in goal_at (stated_in planned_at at y_in) q_in) goals_defined

    abbrev LawsAreGoals : List Line → Type 0
    LawsAreGoals lines = (q : Equation) (h : Halt) → In (course.law q h) lines → In q (stated goal_at (planned all))

    abbrev AllOwe : List Stating → List Stating → Type 0
    AllOwe front xs = (before : List Stating) (x : Stating) (after : List Stating) → xs ≡ before ++ x ∷ after → IsOwed parts pools all (front ++ before) x

    -- the first of them, and then the others
    first_and_others : (front : List Stating) (y : Stating) (xs : List Stating) → IsOwed parts pools all front y → AllOwe (front ++ y ∷ []) xs → AllOwe front (y ∷ xs)
    first_and_others front y xs first others [] x after split =
        let same : y ≡ x = cc in
        subst (λ z. IsOwed parts pools all (front ++ []) z) same (subst (λ l. IsOwed parts pools all l y) (sym (append-nil front)) first)
    first_and_others front y xs first others (z ∷ before) x after split =
        let same : y ≡ z = cc in
        let rest : xs ≡ before ++ x ∷ after = cc in
        subst (λ l. IsOwed parts pools all l x) (append_assoc front (y ∷ []) before ∙ ap (λ w. front ++ w ∷ before) same) (others before x after rest)

    none_owe : (front : List Stating) → AllOwe front []
    none_owe front [] x after split = absurd (let bare = split in cc)
    none_owe front (z ∷ before) x after split = absurd (let bare = split in cc)

    lemma_owed : (k : List Kept) (front : List Stating) (q : Equation) (steps : List Step) → AreKnown k front → HasOneSort parts q
        → Replays parts (equations_of k) steps q.left q.right → IsLemma parts front q steps
    lemma_owed k front q steps h sorted chain = record {
      sort = sorted.sort;
      left = sorted.left;
      right = sorted.right;
      chain = subst (λ l. Replays parts l steps q.left q.right) h chain;
    }

    each_owes : (front : List Stating) {k : List Kept} {lines : List Line} {xs : List Stating} → AreWritten parts k lines xs → all ≡ front ++ xs → AreKnown k front
        → LawsAreGoals lines → AllOwe front xs
    each_owes front (ends k) split h goals = none_owe front
    each_owes front (law k q halt lines xs w) split h goals =
        let y = e.Law (length k + 1) q in
        first_and_others front y xs (record { numbered = next_number k front h; goal = goals q halt here; defined = of_each (λ (q : Equation). IsDefined parts pools q.left) (goals q halt here) goals_defined })
        (each_owes (front ++ y ∷ []) w (split ∙ sym (append_assoc front (y ∷ []) xs)) (more_known k front y (completion.stated q ∷ []) refl h) (λ p g at. goals p g (there at)))
    each_owes front (lemma k q steps lines xs sorted chain w) split h goals =
        let y = e.Lemma (length k + 1) q steps in
        first_and_others front y xs (next_number k front h, lemma_owed k front q steps h sorted chain)
        (each_owes (front ++ y ∷ []) w (split ∙ sym (append_assoc front (y ∷ []) xs)) (more_known k front y (completion.lemma q ∷ []) refl h) (λ p g at. goals p g (there at)))
    each_owes front (spread k c lines xs w) split h goals =
        let y = e.Spread c in
        first_and_others front y xs tt (each_owes (front ++ y ∷ []) w (split ∙ sym (append_assoc front (y ∷ []) xs)) (same_known k front y refl h) (λ p g at. goals p g (there at)))
    each_owes front (killed k q steps lines xs chain w) split h goals =
        let y = e.Killed q steps in
        first_and_others front y xs (record {
          chain = subst (λ l. Replays parts l steps q.left q.right) h chain;
          defined = goal_defined y (plan.killed q.left q.right) q (subst (In y) (sym split) (in_right front here)) here here;
        }) (each_owes (front ++ y ∷ []) w (split ∙ sym (append_assoc front (y ∷ []) xs)) (same_known k front y refl h) (λ p g at. goals p g (there at)))
    each_owes front (live k t lines xs w) split h goals =
        let y = e.Live t in
        first_and_others front y xs tt (each_owes (front ++ y ∷ []) w (split ∙ sym (append_assoc front (y ∷ []) xs)) (same_known k front y refl h) (λ p g at. goals p g (there at)))
    each_owes front (moved k q steps lines xs chain w) split h goals =
        let y = e.Moved q steps in
        first_and_others front y xs (record {
          chain = subst (λ l. Replays parts l steps q.left q.right) h chain;
          defined = goal_defined y (plan.moved q.left q.right) q (subst (In y) (sym split) (in_right front here)) here here;
        }) (each_owes (front ++ y ∷ []) w (split ∙ sym (append_assoc front (y ∷ []) xs)) (same_known k front y refl h) (λ p g at. goals p g (there at)))

begun_known : (qs : List Equation) → equations_of (map completion.stated qs) ≡ qs ++ []
begun_known [] = refl
begun_known (q ∷ qs) = ap (λ l. q ∷ l) (begun_known qs)

pub found_owed : (parts : SigParts) (pools : Pools) (lines : List Line) (entries : List Stating) (trees : List SortTree) → IsFoundOf parts pools lines entries trees
    → Owed parts pools entries trees
found_owed parts pools lines entries trees f = record {
  limits = f.limits;
  pools_are = f.pools_are;
  background = f.background;
  plan = subst (plan.IsPlan parts pools) (sym same) f.search.is_plan;
  each = each_owes parts pools entries (subst (λ es. Each (λ (q : Equation). IsDefined parts pools q.left) (stated goal_at es)) (sym same) f.defined)
      [] f.written refl (begun_known parts.settings.background)
      (λ q h at. subst (λ es. In q (stated goal_at es)) (sym same) (law_goal parts f.search.goes q h at));
  trees_are = placed_trees parts pools entries trees f.trees_are;
}
  where
    same : planned entries ≡ f.search.plan
    same = written_plan parts f.written ∙ goes_plan parts f.search.goes
