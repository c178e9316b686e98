-- There is one search at most, and completion adds lemmas alone.
use Rattle.std.proofs.Common.{◌≡◌, ℕ, List, [], ◌∷◌, ◌++◌, map, length, drop, refl, sym, ap, ap₂, ◌∙◌, subst, append_assoc, append-nil}
use Rattle.law_sig.specs.Tests.{Pools}
use Rattle.law_sig.specs.declared.parts.Equation.{Equation}
use Rattle.law_sig.specs.declared.parts.SigParts.{SigParts}
use Rattle.law_laws.specs.Orders.{WeighsSomething}
use Rattle.law_rewriting.specs.Completion.{equations_of, lemma_of, State, Becomes, Takes, Halt, Advances}
use Rattle.law_rewriting.specs.Completion as completion
use Rattle.law_rewriting.specs.Completion.Becomes.{set_aside, joined, learnt}
use Rattle.law_rewriting.specs.Completion.Advances.{spent, saturated, aside, takes}
use Rattle.law_rewriting.proofs.Advancing.{SameEnd, advances_one}
use Rattle.law_plan.specs.Plan.{Entry}
use Rattle.law_plan.specs.Goals.{goal_at}
use Rattle.law_plan.specs.Course.{Line, law, lemma, entry, IsJoined, with_law, lemmas_between, Answers, Goes, IsSearch}
use Rattle.law_plan.specs.Course.Answers.{known, by_lemmas, as_law}
use Rattle.law_plan.specs.Course.Goes.{ends, past, through}
use Rattle.law_plan.proofs.Followed.{one_plan}

-- One course

module _ (parts : SigParts) where
  record SameLines (ls ms : List Line) (t u : State) : Type 0 where
    pub lines : ls ≡ ms
    pub state : t ≡ u

  module _ (q : Equation) (s : State) where
    one_answer : {ls ms : List Line} {t u : State} → Answers parts q s ls t → Answers parts q s ms u → SameLines ls ms t u
    one_answer (known j) (known k) = record { lines = refl; state = refl }
    one_answer (known j) (by_lemmas t h not a k) = absurd (not j)
    one_answer (known j) (as_law t h not a never) = absurd (not j)
    one_answer (by_lemmas t h not a k) (known j) = absurd (not j)
    one_answer (by_lemmas t h not a k) (by_lemmas u g other b l) =
        let same : SameEnd t u h g = advances_one parts a b in
        record { lines = ap (lemmas_between s) same.state; state = same.state }
    one_answer (by_lemmas t h not a k) (as_law u g other b never) =
        let same : SameEnd t u h g = advances_one parts a b in
        absurd (never (subst (λ z. IsJoined parts z q) same.state k))
    one_answer (as_law t h not a never) (known j) = absurd (not j)
    one_answer (as_law t h not a never) (by_lemmas u g other b l) =
        let same : SameEnd t u h g = advances_one parts a b in
        absurd (never (subst (λ z. IsJoined parts z q) (sym same.state) l))
    one_answer (as_law t h not a never) (as_law u g other b none) =
        let same : SameEnd t u h g = advances_one parts a b in
        record { lines = ap₂ (λ z k. lemmas_between s z ++ law q k ∷ []) same.state same.halt; state = ap (λ z. with_law z q) same.state }

  no_goal : {q : Equation} (e : Entry) → goal_at e ≡ [] → goal_at e ≡ q ∷ [] → ⊥
  no_goal {q} e none one = by (sym none ∙ one)
    where
      by : [] ≡ q ∷ [] → ⊥
      by h = cc

  one_goal : {p q : Equation} (e : Entry) → goal_at e ≡ p ∷ [] → goal_at e ≡ q ∷ [] → q ≡ p
  one_goal {p} {q} e h k = by (sym k ∙ h)
    where
      by : q ∷ [] ≡ p ∷ [] → q ≡ p
      by h = cc

  one_course : {s t u : State} {es : List Entry} {ls ms : List Line} → Goes parts s es ls t → Goes parts s es ms u → ls ≡ ms
  one_course (ends s) (ends _) = refl
  one_course (past s t e es ls none h) (past _ u _ _ ms bare k) = ap (λ l. entry e ∷ l) (one_course h k)
  one_course (past s t e es ls none h) (through _ u v q _ _ new ms one a k) = absurd (no_goal e none one)
  one_course (through s t v q e es new ls one a h) (past _ u _ _ ms none k) = absurd (no_goal e none one)
  one_course (through s t v q e es new ls one a h) (through _ u w p _ _ more ms is b k) =
      let same : SameLines new more t u = one_answer q s a (subst (λ z. Answers parts z s more u) (one_goal e one is) b) in
      ap₂ (λ l m. l ++ entry e ∷ m) same.lines (one_course h (subst (λ z. Goes parts z es ms w) (sym same.state) k))

pub one_search : (parts : SigParts) (weighs : WeighsSomething parts) (pools : Pools) (lines others : List Line) → IsSearch parts pools lines → IsSearch parts pools others → lines ≡ others
one_search parts weighs pools lines others a b =
    one_course parts a.goes (subst (λ z. Goes parts _ z others b.last) (one_plan parts pools weighs b.plan a.plan b.is_plan a.is_plan) b.goes)

-- Lemmas alone

dropped : {A : Type 0} (xs ys : List A) → drop (length xs) (xs ++ ys) ≡ ys
dropped [] ys = refl
dropped (x ∷ xs) ys = dropped xs ys

equations_lemmas : (new : List Equation) → equations_of (map completion.lemma new) ≡ new
equations_lemmas [] = refl
equations_lemmas (q ∷ new) = ap (λ l. q ∷ l) (equations_lemmas new)

abbrev Adds : State → State → Type 0
Adds s t = (new : List Equation) × (t.kept ≡ s.kept ++ map completion.lemma new)

taken_adds : (parts : SigParts) (s t : State) → Takes parts s t → Adds s t
taken_adds parts s t h = by h.becomes
  where
    by : {t : State} → Becomes parts s h.pair t → Adds s t
    by (set_aside large) = ([], sym (append-nil s.kept))
    by (joined small m) = ([], sym (append-nil s.kept))
    by (learnt small u v ls rs l r differ) = (lemma_of parts u v ∷ [], refl)

adds : (parts : SigParts) {s t : State} {n : ℕ} {h : Halt} → Advances parts s n t h → Adds s t
adds parts (spent s x i) = ([], sym (append-nil s.kept))
adds parts (saturated s q e none) = ([], sym (append-nil s.kept))
adds parts (aside s q name e some) = ([], sym (append-nil s.kept))
adds parts (takes s t e q h k more) = by (taken_adds parts s t k) (adds parts more)
  where
    mapped_both : (xs ys : List Equation) → map completion.lemma xs ++ map completion.lemma ys ≡ map completion.lemma (xs ++ ys)
    mapped_both [] ys = refl
    mapped_both (x ∷ xs) ys = ap (λ l. completion.lemma x ∷ l) (mapped_both xs ys)

    by : Adds s t → Adds t e → Adds s e
    by (xs, first) (ys, then) = (
      xs ++ ys,
      then ∙ ap (λ l. l ++ map completion.lemma ys) first ∙ append_assoc s.kept (map completion.lemma xs) (map completion.lemma ys)
          ∙ ap (λ l. s.kept ++ l) (mapped_both xs ys),
    )

pub lemmas_added : (parts : SigParts) (s t : State) (n : ℕ) (h : Halt) → Advances parts s n t h
    → (new : List Equation) × (t.kept ≡ s.kept ++ map completion.lemma new) × (lemmas_between s t ≡ map lemma new)
lemmas_added parts s t n h a =
    let (new, grown) = adds parts a in (
      new,
      grown,
      ap (λ l. map lemma (equations_of (drop (length s.kept) l))) grown ∙ ap (λ l. map lemma (equations_of l)) (dropped s.kept (map completion.lemma new))
          ∙ ap (map lemma) (equations_lemmas new),
    )
