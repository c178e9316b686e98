-- The answer to an entry, by what was tested of it.
use Rattle.std.proofs.Common.{◌≡◌, ◌↔◌, ℕ, zero, suc, ◌+◌, inl, inr, IsTrue, Bool, true, false, true≢false, is_some, Option, Some, None, MatchOption, slice_get, List, [], ◌∷◌, length, refl, sym, ap, ◌∙◌, subst}
use Rattle.law_sig.specs.Lists.{In}
use Rattle.law_sig.specs.Lists.In.{here, there}
use Rattle.law_sig.specs.Trees.{schema_of}
use Rattle.law_sig.specs.declared.tree.Tree.{Tree}
use Rattle.law_sig.specs.declared.parts.Equation.{Equation}
use Rattle.law_sig.specs.declared.parts.SigParts.{SigParts}
use Rattle.law_laws.proofs.ListFacts.{of_each}
use Rattle.law_laws.proofs.BodyFacts.{some_is, none_is}
use Rattle.law_draws.specs.Draws.{pools_by}
use Rattle.law_testing.specs.Values.{IsTestable}
use Rattle.law_valid.specs.declared.certificate.Entry.{Entry}
use Rattle.law_valid.specs.declared.certificate.Entry.TheVariants as e
use Rattle.law_sig.specs.declared.chain.Step.{Step}
use Rattle.law_valid.specs.declared.rule.Answer.{Answer}
use Rattle.law_valid.specs.declared.rule.Answer.TheVariants.{Yes, No}
use Rattle.law_valid.specs.declared.rule.Rule.TheVariants as r
use Rattle.law_valid.specs.Stated.{stated, live_at, known}
use Rattle.law_valid.specs.Order.{Block, IsBlockSpent, Progress, IsSchemaNext, AreSpent, IsTermNext, IsTermSpent}
use Rattle.law_valid.specs.Judged.{AtTests, HasSides, progress}
use Rattle.law_checking.specs.Rules.{TellsLemma, TellsKilled, TellsMoved}
use Rattle.law_checking.specs.Parts.{IsYes}
use Rattle.law_checking.specs.Steps.{Sight, HasSeen, HasPlace, IsAnswerTo, IsAnswerAtEnd}
use Rattle.law_checking.proofs.StepFacts.{universe_testable, next_testable}

never_of : {P : Type 0} {b : Bool} → (IsTrue b ↔ P) → b ≡ false → P → ⊥
never_of exact off p = true≢false (sym (exact.1 p) ∙ off)

-- nothing but that none is expected can be said of a block of which it isn't so that some is
pub spent_of : (parts : SigParts) (lives : List Tree) (block : Option Block) → ((IsBlockSpent parts lives block → ⊥) → ⊥) → IsBlockSpent parts lives block
spent_of parts lives None never = tt
spent_of parts lives (Some block) never = λ t is above. never (λ spent. spent t is above)

-- what an item that is found in a list says
pub get_in : {A : Type 0} (xs : List A) (at : ℕ) (x : A) → slice_get xs at ≡ Some x → In x xs
get_in [] at x h = none_is x h
get_in (y ∷ xs) zero x h = subst (λ z. In z (y ∷ xs)) (some_is y x h) here
get_in (y ∷ xs) (suc n) x h = there (get_in xs n x h)

pub found_in : {A : Type 0} (xs : List A) (x : A) (place : Option ℕ) → MatchOption place (In x xs → ⊥) (λ k. slice_get xs k ≡ Some x) → (IsTrue (is_some place) ↔ In x xs)
found_in xs x None h = ((λ t. absurd (true≢false (sym t))), (λ at. absurd (h at)))
found_in xs x (Some k) h = ((λ t. get_in xs k x h), (λ at. refl))

module _ (parts : SigParts) (seen : Sight) (number : ℕ) where
  -- what the agenda tells
  abbrev pub TellsAwaited : Bool → Type 0
  TellsAwaited b = (p : Progress) → seen.At p → (IsTrue b ↔ (IsTermSpent p → ⊥))

  abbrev pub TellsSchema : Tree → Bool → Type 0
  TellsSchema c b = (p : Progress) → seen.At p → parts ≡ p.parts → IsTermSpent p → (IsTrue b ↔ IsSchemaNext p c)

  abbrev pub TellsTerm : Tree → Bool → Type 0
  TellsTerm t b = (p : Progress) → seen.At p → seen.lives ≡ p.lives → (IsTrue b ↔ IsTermNext p t)

  abbrev pub TellsSchemas : Bool → Type 0
  TellsSchemas b = (p : Progress) → seen.At p → IsTermSpent p → (IsTrue b ↔ (AreSpent p → ⊥))

  spent : (before : List Entry) (block : Option Block) → HasSeen parts before block seen → (b : Bool) → TellsAwaited b → b ≡ false
      → IsBlockSpent parts (stated live_at before) block
  spent before block has b tells off = spent_of parts (stated live_at before) block (never_of (tells (progress parts before block) has.at) off)

  -- Laws

  pub law_misnumbered : (own : ℕ) (q : Equation) (b : Bool) → (IsTrue b ↔ (own ≡ length seen.known + 1)) → b ≡ false
      → IsAnswerTo parts seen number (e.Law own q) (No r.V3 number)
  law_misnumbered own q b exact off before block has at = inr ((λ p. never_of exact off (p.0 ∙ ap (λ l. length l + 1) (sym has.equations))), ap (No r.V3) at)

  pub law_outside : (own : ℕ) (q : Equation) (b : Bool) → (IsTrue b ↔ HasSides parts q) → b ≡ false → IsAnswerTo parts seen number (e.Law own q) (No r.V3 number)
  law_outside own q b exact off before block has at = inr ((λ p. never_of exact off p.1), ap (No r.V3) at)

  pub law_agrees : (own : ℕ) (q : Equation) (b c : Bool) (a : Answer) → (IsTrue b ↔ (own ≡ length seen.known + 1)) → b ≡ true → (IsTrue c ↔ HasSides parts q) → c ≡ true
      → AtTests parts (pools_by parts) r.V3 number q IsYes a → IsAnswerTo parts seen number (e.Law own q) a
  law_agrees own q b c a exact on sides in_sides tests before block has at = inl (
    (exact.0 on ∙ ap (λ l. length l + 1) has.equations, sides.0 in_sides),
    subst (λ n. AtTests parts (pools_by parts) r.V3 n q IsYes a) at tests,
  )

  pub law_is : (q : Equation) (b : Bool) → (IsTrue b ↔ HasSides parts q) → b ≡ true → IsTestable parts q.left × IsTestable parts q.right
  law_is q b exact on = let h = exact.0 on in (universe_testable parts h.sort q.left h.left, universe_testable parts h.sort q.right h.right)

  -- Lemmas

  pub lemma_misnumbered : (own : ℕ) (q : Equation) (steps : List Step) (b : Bool) → (IsTrue b ↔ (own ≡ length seen.known + 1)) → b ≡ false
      → IsAnswerTo parts seen number (e.Lemma own q steps) (No r.V4 number)
  lemma_misnumbered own q steps b exact off before block has at = inr ((λ p. never_of exact off (p.0 ∙ ap (λ l. length l + 1) (sym has.equations))), ap (No r.V4) at)

  pub lemma_refused : (own : ℕ) (q : Equation) (steps : List Step) (b : Bool) → TellsLemma parts seen.known q steps b → b ≡ false
      → IsAnswerTo parts seen number (e.Lemma own q steps) (No r.V4 number)
  lemma_refused own q steps b tells off before block has at = inr ((λ p. never_of (tells before has.equations) off p.1), ap (No r.V4) at)

  pub lemma_holds : (own : ℕ) (q : Equation) (steps : List Step) (b c : Bool) → (IsTrue b ↔ (own ≡ length seen.known + 1)) → b ≡ true → TellsLemma parts seen.known q steps c → c ≡ true
      → IsAnswerTo parts seen number (e.Lemma own q steps) Yes
  lemma_holds own q steps b c exact on tells holds before block has at =
      inl ((exact.0 on ∙ ap (λ l. length l + 1) has.equations, (tells before has.equations).0 holds), refl)

  -- Spread schemas

  pub spread_early : (c : Tree) (b : Bool) → TellsAwaited b → b ≡ true → IsAnswerTo parts seen number (e.Spread c) (No r.V7 number)
  spread_early c b tells on before block has at = inr ((tells (progress parts before block) has.at).0 on, ap (No r.V7) at)

  pub spread_other : (c : Tree) (b d : Bool) → TellsAwaited b → b ≡ false → TellsSchema c d → d ≡ false → IsAnswerTo parts seen number (e.Spread c) (No r.V5 number)
  spread_other c b d tells off next other before block has at =
      let s = spent before block has b tells off in
      inl (s, inr (never_of (next (progress parts before block) has.at refl s) other, ap (No r.V5) at))

  pub spread_holds : (c : Tree) (b d : Bool) → TellsAwaited b → b ≡ false → TellsSchema c d → d ≡ true → IsAnswerTo parts seen number (e.Spread c) Yes
  spread_holds c b d tells off next is before block has at =
      let s = spent before block has b tells off in
      inl (s, inl ((next (progress parts before block) has.at refl s).0 is, refl))

  -- Killed schemas

  pub killed_early : (q : Equation) (steps : List Step) (b : Bool) → TellsAwaited b → b ≡ true → IsAnswerTo parts seen number (e.Killed q steps) (No r.V7 number)
  killed_early q steps b tells on before block has at = inr ((tells (progress parts before block) has.at).0 on, ap (No r.V7) at)

  pub killed_other : (q : Equation) (steps : List Step) (c : Tree) (b d : Bool) → c ≡ schema_of q.left → TellsAwaited b → b ≡ false → TellsSchema c d → d ≡ false
      → IsAnswerTo parts seen number (e.Killed q steps) (No r.V5 number)
  killed_other q steps c b d same tells off next other before block has at =
      let s = spent before block has b tells off in
      inl (s, inr ((λ n. never_of (next (progress parts before block) has.at refl s) other (subst (IsSchemaNext (progress parts before block)) (sym same) n)), ap (No r.V5) at))

  pub killed_refused : (q : Equation) (steps : List Step) (c : Tree) (b d f : Bool) → c ≡ schema_of q.left → TellsAwaited b → b ≡ false → TellsSchema c d → d ≡ true
      → TellsKilled parts seen.known q steps f → f ≡ false → IsAnswerTo parts seen number (e.Killed q steps) (No r.V6 number)
  killed_refused q steps c b d f same tells off next is killed refused before block has at =
      let s = spent before block has b tells off in
      inl (
        s,
        inl (
          subst (IsSchemaNext (progress parts before block)) same ((next (progress parts before block) has.at refl s).0 is),
          inr (never_of (killed before has.equations) refused, ap (No r.V6) at),
        ),
      )

  pub killed_agrees : (q : Equation) (steps : List Step) (c : Tree) (b d f : Bool) (a : Answer) → c ≡ schema_of q.left → TellsAwaited b → b ≡ false → TellsSchema c d
      → d ≡ true → TellsKilled parts seen.known q steps f → f ≡ true → AtTests parts (pools_by parts) r.V6 number q IsYes a → IsAnswerTo parts seen number (e.Killed q steps) a
  killed_agrees q steps c b d f a same tells off next is killed holds tests before block has at =
      let s = spent before block has b tells off in
      inl (
        s,
        inl (
          subst (IsSchemaNext (progress parts before block)) same ((next (progress parts before block) has.at refl s).0 is),
          inl ((killed before has.equations).0 holds, subst (λ n. AtTests parts (pools_by parts) r.V6 n q IsYes a) at tests),
        ),
      )

  pub killed_is : (q : Equation) (steps : List Step) (f : Bool) → HasPlace parts seen → TellsKilled parts seen.known q steps f → f ≡ true → IsTestable parts q.left × IsTestable parts q.right
  killed_is q steps f at killed holds =
      let k = (killed at.before at.has.equations).0 holds in
      (universe_testable parts k.sort q.left k.left, universe_testable parts k.sort q.right k.right)

  -- Live terms

  pub live_late : (t : Tree) (b : Bool) → TellsAwaited b → b ≡ false → IsAnswerTo parts seen number (e.Live t) (No r.V5 number)
  live_late t b tells off before block has at = inr (never_of (tells (progress parts before block) has.at) off, ap (No r.V5) at)

  pub live_other : (t : Tree) (b d : Bool) → TellsAwaited b → b ≡ true → TellsTerm t d → d ≡ false → IsAnswerTo parts seen number (e.Live t) (No r.V7 number)
  live_other t b d tells on next other before block has at =
      inl ((tells (progress parts before block) has.at).0 on, inr (never_of (next (progress parts before block) has.at has.live) other, ap (No r.V7) at))

  pub live_holds : (t : Tree) (b d : Bool) → TellsAwaited b → b ≡ true → TellsTerm t d → d ≡ true → IsAnswerTo parts seen number (e.Live t) Yes
  live_holds t b d tells on next is before block has at =
      inl ((tells (progress parts before block) has.at).0 on, inl ((next (progress parts before block) has.at has.live).0 is, refl))

  -- Moved terms

  -- whether its target is an earlier live term is known
  abbrev pub IsEarlier : Equation → Bool → Type 0
  IsEarlier q b = IsTrue b ↔ In q.right seen.lives

  earlier_before : (before : List Entry) (block : Option Block) → HasSeen parts before block seen → (q : Equation) (b : Bool) → IsEarlier q b → (IsTrue b ↔ In q.right (stated live_at before))
  earlier_before before block has q b exact = subst (λ l. IsTrue b ↔ In q.right l) has.live exact

  pub moved_late : (q : Equation) (steps : List Step) (b : Bool) → TellsAwaited b → b ≡ false → IsAnswerTo parts seen number (e.Moved q steps) (No r.V5 number)
  moved_late q steps b tells off before block has at = inr (never_of (tells (progress parts before block) has.at) off, ap (No r.V5) at)

  pub moved_other : (q : Equation) (steps : List Step) (b d : Bool) → TellsAwaited b → b ≡ true → TellsTerm q.left d → d ≡ false
      → IsAnswerTo parts seen number (e.Moved q steps) (No r.V7 number)
  moved_other q steps b d tells on next other before block has at =
      inl ((tells (progress parts before block) has.at).0 on, inr (never_of (next (progress parts before block) has.at has.live) other, ap (No r.V7) at))

  pub moved_refused : (q : Equation) (steps : List Step) (b d g f : Bool) → TellsAwaited b → b ≡ true → TellsTerm q.left d → d ≡ true → IsEarlier q g → TellsMoved parts seen.known g q steps f → f ≡ false
      → IsAnswerTo parts seen number (e.Moved q steps) (No r.V7 number)
  moved_refused q steps b d g f tells on next is earlier moved refused before block has at =
      inl (
        (tells (progress parts before block) has.at).0 on,
        inl (
          (next (progress parts before block) has.at has.live).0 is,
          inr (never_of (moved before has.equations (earlier_before before block has q g earlier)) refused, ap (No r.V7) at),
        ),
      )

  pub moved_agrees : (q : Equation) (steps : List Step) (b d g f : Bool) (a : Answer) → TellsAwaited b → b ≡ true → TellsTerm q.left d → d ≡ true → IsEarlier q g → TellsMoved parts seen.known g q steps f
      → f ≡ true → AtTests parts (pools_by parts) r.V7 number q IsYes a → IsAnswerTo parts seen number (e.Moved q steps) a
  moved_agrees q steps b d g f a tells on next is earlier moved holds tests before block has at =
      inl (
        (tells (progress parts before block) has.at).0 on,
        inl (
          (next (progress parts before block) has.at has.live).0 is,
          inl ((moved before has.equations (earlier_before before block has q g earlier)).0 holds, subst (λ n. AtTests parts (pools_by parts) r.V7 n q IsYes a) at tests),
        ),
      )

  pub moved_is : (q : Equation) (steps : List Step) (d g f : Bool) → HasPlace parts seen → TellsTerm q.left d → d ≡ true → IsEarlier q g → TellsMoved parts seen.known g q steps f → f ≡ true
      → IsTestable parts q.left × IsTestable parts q.right
  moved_is q steps d g f at next is earlier moved holds = (
    next_testable parts (stated live_at at.before) at.block q.left ((next (progress parts at.before at.block) at.has.at at.has.live).0 is),
    of_each (IsTestable parts) ((moved at.before at.has.equations (earlier_before at.before at.block at.has q g earlier)).0 holds).earlier at.has.live_testable,
  )

  -- The end of the entries

  pub end_early : (b : Bool) → TellsAwaited b → b ≡ true → IsAnswerAtEnd parts seen number (No r.V7 number)
  end_early b tells on before block has at = inr ((tells (progress parts before block) has.at).0 on, ap (No r.V7) at)

  pub end_other : (b d : Bool) → TellsAwaited b → b ≡ false → TellsSchemas d → d ≡ true → IsAnswerAtEnd parts seen number (No r.V5 number)
  end_other b d tells off next is before block has at =
      let s = spent before block has b tells off in
      inl (s, inr ((next (progress parts before block) has.at s).0 is, ap (No r.V5) at))

  pub end_holds : (b d : Bool) → TellsAwaited b → b ≡ false → TellsSchemas d → d ≡ false → IsAnswerAtEnd parts seen number Yes
  end_holds b d tells off next none before block has at =
      let s = spent before block has b tells off in
      let all : AreSpent (progress parts before block) = λ t is above. never_of (next (progress parts before block) has.at s) none (λ spent. spent t is above) in
      inl (s, inl (all, refl))
