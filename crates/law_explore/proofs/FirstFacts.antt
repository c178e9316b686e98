-- The first places of the classes so far, and the table that finds them.
use Rattle.std.proofs.Common.{◌≡◌, ℕ, zero, suc, ◌+◌, ◌<◌, ◌≤◌, ◌⊎◌, inl, inr, ◌==◌, Bool, true, false, if◌then◌else◌, List, [], ◌∷◌, ◌++◌, length, append_assoc, Option, Some, None, slice_get, MatchOption, arith, sym, ap, ◌∙◌, refl, subst}
use Rattle.std.proofs.lemmas.Bool.{cases_lt, eqb-true, eq-eqb}
use Rattle.std.proofs.Math.Path.{subst₂}
use Rattle.std.proofs.lemmas.List.{length_push}
use Rattle.law_explore.specs.Firsts.{IsFirstSame, AreFirsts, FindsFirst, IsNoted, KnowsBefore}

-- the first places of the classes before a place
pub record FirstsTo (classes : List ℕ) (at : ℕ) (firsts : List ℕ) : Type 0 where
  pub so_many : length firsts ≡ at
  pub each : (k first : ℕ) → slice_get firsts k ≡ Some first → IsFirstSame classes k first

-- what stands at a place of a list with one item more
get_push : {A : Type 0} (xs : List A) (y z : A) (k : ℕ) → slice_get (xs ++ y ∷ []) k ≡ Some z → (slice_get xs k ≡ Some z) ⊎ ((k ≡ length xs) × (y ≡ z))
get_push [] y z zero e = inr (refl, cc)
get_push [] y z (suc k) e = cc
get_push (x ∷ xs) y z zero e = inl e
get_push (x ∷ xs) y z (suc k) e = next (get_push xs y z k e)
  where
    next : (slice_get xs k ≡ Some z) ⊎ ((k ≡ length xs) × (y ≡ z)) → (slice_get xs k ≡ Some z) ⊎ ((suc k ≡ suc (length xs)) × (y ≡ z))
    next (inl h) = inl h
    next (inr h) = inr (ap suc h.0, h.1)

module _ (classes : List ℕ) (at : ℕ) where
  -- this class doesn't stand before this place; and the first place where it does is before this one
  abbrev None_before : ℕ → ℕ → Type 0
  None_before n class = (k : ℕ) → k < n → slice_get classes k ≡ Some class → ⊥

  abbrev First_before : ℕ → ℕ → ℕ → Type 0
  First_before n class first = (first < n) × (slice_get classes first ≡ Some class) × ((k : ℕ) → slice_get classes k ≡ Some class → first ≤ k)

  -- what is known of a class stays known, if it doesn't stand at this place for the first time
  stays : (o : Option ℕ) (class : ℕ) → MatchOption o (None_before at class) (First_before at class)
      → (None_before at class → slice_get classes at ≡ Some class → ⊥) → MatchOption o (None_before (at + 1) class) (First_before (at + 1) class)
  stays None class none other = λ k less e. elim (cases_lt k at) [
    | inl l ↦ none k l e
    | inr l ↦ let is : k ≡ at = omega arith in other none (subst (λ j. slice_get classes j ≡ Some class) is e)
  ]
  stays (Some first) class known other = (let less = known.0 in omega arith, known.1, known.2)

  module _ (old new : FindsFirst) (v : ℕ) (first : ℕ) (here : slice_get classes at ≡ Some v) where
    abbrev Step : Type 0
    Step = KnowsBefore classes (at + 1) new × IsFirstSame classes at first

    noted_new : None_before at v → first ≡ at → ((w : ℕ) → new w ≡ (if v == w then Some at else old w)) → KnowsBefore classes at old → Step
    noted_new none is new_is known = (
      λ w. of w (v == w) refl (new_is w),
      record {
        class = v;
        here = here;
        there = subst (λ k. slice_get classes k ≡ Some v) (sym is) here;
        least = λ k e. elim (cases_lt k at) [ inl l ↦ absurd (none k l e) | inr l ↦ omega arith ];
      },
    )
      where
        of : (w : ℕ) (b : Bool) → (v == w) ≡ b → new w ≡ (if b then Some at else old w)
            → MatchOption (new w) (None_before (at + 1) w) (First_before (at + 1) w)
        of w true same e =
            let is_it : v ≡ w = eqb-true v w same in
            subst (λ o. MatchOption o (None_before (at + 1) w) (First_before (at + 1) w)) (sym e)
            (let less : at < at + 1 = omega arith in
            (less, here ∙ ap Some is_it, λ k d. elim (cases_lt k at) [ inl l ↦ absurd (none k l (d ∙ ap Some (sym is_it))) | inr l ↦ l ]))
        of w false other e = subst (λ o. MatchOption o (None_before (at + 1) w) (First_before (at + 1) w)) (sym e)
            (stays (old w) w (known w)
            (λ none_too d. let is_it : v ≡ w = some_is (sym here ∙ d) in
            let same = eq-eqb v w is_it in cc))
          where
            some_is : {x y : ℕ} → Some x ≡ Some y → x ≡ y
            some_is e = cc

    noted_again : (place : ℕ) → First_before at v place → first ≡ place → ((w : ℕ) → new w ≡ old w) → KnowsBefore classes at old → Step
    noted_again place found is new_is known = (
      λ w. subst (λ o. MatchOption o (None_before (at + 1) w) (First_before (at + 1) w)) (sym (new_is w))
          (stays (old w) w (known w) (λ none d. none place found.0 (found.1 ∙ sym here ∙ d))),
      record {
        class = v;
        here = here;
        there = subst (λ k. slice_get classes k ≡ Some v) (sym is) found.1;
        least = λ k e. let l = found.2 k e in omega arith;
      },
    )

    noted : KnowsBefore classes at old → IsNoted old new v at first → Step
    noted known is = by (old v) (known v) is
      where
        by : (o : Option ℕ) → MatchOption o (None_before at v) (First_before at v)
            → MatchOption o ((first ≡ at) × ((w : ℕ) → new w ≡ (if v == w then Some at else old w))) (λ place. (first ≡ place) × ((w : ℕ) → new w ≡ old w))
            → Step
        by None none h = noted_new none h.0 h.1 known
        by (Some place) found h = noted_again place found h.0 h.1 known

-- one class more
one_more : (classes : List ℕ) (at : ℕ) (old new : FindsFirst) (v : ℕ) (first : ℕ) (firsts more : List ℕ)
    → slice_get classes at ≡ Some v → KnowsBefore classes at old → FirstsTo classes at firsts → IsNoted old new v at first → more ≡ firsts ++ first ∷ []
    → KnowsBefore classes (at + 1) new × FirstsTo classes (at + 1) more
one_more classes at old new v first firsts more here known so_far is grows =
    let (known_too, one) = noted classes at old new v first here known is in
    (known_too, subst (FirstsTo classes (at + 1)) (sym grows) (record { so_many = length_push firsts first ∙ ap (λ n. n + 1) so_far.so_many; each = of one }))
  where
    of : IsFirstSame classes at first → (k f : ℕ) → slice_get (firsts ++ first ∷ []) k ≡ Some f → IsFirstSame classes k f
    of one k f e = elim (get_push firsts first f k e) [
      | inl h ↦ so_far.each k f h
      | inr h ↦ subst₂ (IsFirstSame classes) (sym (h.0 ∙ so_far.so_many)) h.1 one
    ]

-- none so far
pub none_yet : (classes : List ℕ) → FirstsTo classes 0 []
none_yet classes = record { so_many = refl; each = λ k f e. absurd (let h : ⊥ = cc in h) }

pub finds_none : (classes : List ℕ) (found : FindsFirst) → ((v : ℕ) → found v ≡ None) → KnowsBefore classes 0 found
finds_none classes found none v =
    subst (λ o. MatchOption o (None_before classes 0 0 v) (First_before classes 0 0 v)) (sym (none v)) (λ k less e. absurd (omega arith))

-- all of them
pub all_firsts : (classes : List ℕ) (at : ℕ) (firsts : List ℕ) → at ≡ length classes → FirstsTo classes at firsts → AreFirsts classes firsts
all_firsts classes at firsts end so_far = record { one_each = so_far.so_many ∙ end; each = so_far.each }

-- one class more, where the classes are taken out of their list one by one
pub one_taken : (all yielded rest left : List ℕ) (v at : ℕ) (old new : FindsFirst) (first : ℕ) (firsts more : List ℕ)
    → yielded ++ rest ≡ all → rest ≡ v ∷ left → at ≡ length firsts
    → KnowsBefore all (length yielded) old → FirstsTo all (length yielded) firsts → IsNoted old new v at first → more ≡ firsts ++ first ∷ []
    → ((yielded ++ v ∷ []) ++ left ≡ all) × KnowsBefore all (length (yielded ++ v ∷ [])) new × FirstsTo all (length (yielded ++ v ∷ [])) more
one_taken all yielded rest left v at old new first firsts more whole taken counted known so_far noted grows =
    let place : at ≡ length yielded = counted ∙ so_far.so_many in
    let is : yielded ++ v ∷ left ≡ all = ap (λ l. yielded ++ l) (sym taken) ∙ whole in
    let here : slice_get all (length yielded) ≡ Some v = ap (λ l. slice_get l (length yielded)) (sym is) ∙ at_end yielded in
    let (known_too, so_far_too) = one_more all (length yielded) old new v first firsts more here known so_far (subst (λ n. IsNoted old new v n first) place noted) grows in
    let next : length yielded + 1 ≡ length (yielded ++ v ∷ []) = sym (length_push yielded v) in (
      append_assoc yielded (v ∷ []) left ∙ is,
      subst (λ n. KnowsBefore all n new) next known_too,
      subst (λ n. FirstsTo all n more) next so_far_too,
    )
  where
    at_end : (xs : List ℕ) → slice_get (xs ++ v ∷ left) (length xs) ≡ Some v
    at_end [] = refl
    at_end (x ∷ xs) = at_end xs
