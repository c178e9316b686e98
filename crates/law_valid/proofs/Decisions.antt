-- What entries decide of schemas and terms, and what they state.
use Rattle.std.proofs.Common.{◌≡◌, Option, None, List, [], ◌∷◌, ◌++◌, sym, refl, ap, ◌∙◌, subst, subst₂, append_assoc}
use Rattle.law_sig.specs.Lists.{In, Rising}
use Rattle.law_sig.specs.Tests.{Pools}
use Rattle.law_sig.specs.Order.{IsBefore}
use Rattle.law_sig.specs.Schemas.{AreExactly, IsConsidered, IsInstance}
use Rattle.law_sig.specs.declared.chain.Step.{Step}
use Rattle.law_sig.specs.declared.tree.Tree.{Tree}
use Rattle.law_sig.specs.declared.parts.Equation.{Equation}
use Rattle.law_sig.specs.declared.parts.SigParts.{SigParts}
use Rattle.law_laws.proofs.ListFacts.{rising_at}
use Rattle.law_valid.specs.declared.certificate.Entry.{Entry}
use Rattle.law_valid.specs.declared.certificate.Entry.TheVariants as e
use Rattle.law_valid.specs.declared.certificate.SortTree.{SortTree}
use Rattle.law_valid.specs.Stated.{stated, schema_at, spread_at, live_at, terms_after}
use Rattle.law_valid.specs.Order.{Block, Progress, Decision, spread, live, after, after_all, spread_in, schema_in, live_in, terms_first, HaveInstances, AreWhole}
use Rattle.law_valid.specs.Valid.{IsEntry, IsValid}
use Rattle.law_valid.specs.Judged.{decision_at, progress, block_after}
use Rattle.law_valid.proofs.StatedFacts.{stated_parts, grown, kept}
use Rattle.law_valid.proofs.Blocks.{term_in, AreOrdered, whole_ordered}
use Rattle.law_valid.proofs.Blocks as blocks

-- the term of an entry
abbrev pub term_at : Entry → List Tree
term_at (e.Live t) = t ∷ []
term_at (e.Moved q steps) = q.left ∷ []
term_at x = []

by_decisions : {A : Type 0} (f : Decision → List A) (g : Entry → List A) → ((x : Entry) → stated f (decision_at x) ≡ g x) → (xs : List Entry) → stated f (stated decision_at xs) ≡ stated g xs
by_decisions f g same [] = refl
by_decisions f g same (x ∷ xs) = stated_parts f (decision_at x) (stated decision_at xs) ∙ ap (λ l. l ++ stated f (stated decision_at xs)) (same x) ∙ ap (λ l. g x ++ l) (by_decisions f g same xs)

spread_of : (x : Entry) → stated spread_in (decision_at x) ≡ spread_at x
spread_of (e.Law n q) = refl
spread_of (e.Lemma n q steps) = refl
spread_of (e.Spread c) = refl
spread_of (e.Killed q steps) = refl
spread_of (e.Live t) = refl
spread_of (e.Moved q steps) = refl

schema_of_decision : (x : Entry) → stated schema_in (decision_at x) ≡ schema_at x
schema_of_decision (e.Law n q) = refl
schema_of_decision (e.Lemma n q steps) = refl
schema_of_decision (e.Spread c) = refl
schema_of_decision (e.Killed q steps) = refl
schema_of_decision (e.Live t) = refl
schema_of_decision (e.Moved q steps) = refl

live_of : (x : Entry) → stated live_in (decision_at x) ≡ live_at x
live_of (e.Law n q) = refl
live_of (e.Lemma n q steps) = refl
live_of (e.Spread c) = refl
live_of (e.Killed q steps) = refl
live_of (e.Live t) = refl
live_of (e.Moved q steps) = refl

term_of : (x : Entry) → stated term_in (decision_at x) ≡ term_at x
term_of (e.Law n q) = refl
term_of (e.Lemma n q steps) = refl
term_of (e.Spread c) = refl
term_of (e.Killed q steps) = refl
term_of (e.Live t) = refl
term_of (e.Moved q steps) = refl

pub spread_decided : (xs : List Entry) → stated spread_in (stated decision_at xs) ≡ stated spread_at xs
spread_decided = by_decisions spread_in spread_at spread_of

pub schema_decided : (xs : List Entry) → stated schema_in (stated decision_at xs) ≡ stated schema_at xs
schema_decided = by_decisions schema_in schema_at schema_of_decision

pub live_decided : (xs : List Entry) → stated live_in (stated decision_at xs) ≡ stated live_at xs
live_decided = by_decisions live_in live_at live_of

term_decided : (xs : List Entry) → stated term_in (stated decision_at xs) ≡ stated term_at xs
term_decided = by_decisions term_in term_at term_of

pub first_decided : (xs : List Entry) → terms_first (stated decision_at xs) ≡ terms_after xs
first_decided [] = refl
first_decided (e.Law n q ∷ xs) = first_decided xs
first_decided (e.Lemma n q steps ∷ xs) = first_decided xs
first_decided (e.Spread c ∷ xs) = refl
first_decided (e.Killed q steps ∷ xs) = refl
first_decided (e.Live t ∷ xs) = ap (λ l. t ∷ l) (first_decided xs)
first_decided (e.Moved q steps ∷ xs) = ap (λ l. q.left ∷ l) (first_decided xs)

-- spread schemas are schemas, live terms are terms, and so are those up to the next schema
pub spread_schema : (c : Tree) (xs : List Entry) → In c (stated spread_at xs) → In c (stated schema_at xs)
spread_schema c xs at = subst (In c) (schema_decided xs) (blocks.spread_among c (stated decision_at xs) (subst (In c) (sym (spread_decided xs)) at))

pub live_term : (t : Tree) (xs : List Entry) → In t (stated live_at xs) → In t (stated term_at xs)
live_term t xs at = subst (In t) (term_decided xs) (blocks.live_among t (stated decision_at xs) (subst (In t) (sym (live_decided xs)) at))

pub after_term : (t : Tree) (xs : List Entry) → In t (terms_after xs) → In t (stated term_at xs)
after_term t xs at = subst (In t) (term_decided xs) (blocks.first_among t (stated decision_at xs) (subst (In t) (sym (first_decided xs)) at))

-- how far one more entry leads
module _ (parts : SigParts) where
  abbrev place : List Tree → List Tree → List Tree → Option Block → Progress
  place spreads schemas lives block = record { parts = parts; spreads = spreads; schemas = schemas; lives = lives; block = block }

  same_place : (a b c x y z : List Tree) (block : Option Block) → a ≡ x → b ≡ y → c ≡ z → place a b c block ≡ place x y z block
  same_place a b c x y z block p q r = ap (λ l. place l b c block) p ∙ ap (λ l. place x l c block) q ∙ ap (λ l. place x y l block) r

  pub progress_after : (before : List Entry) (block : Option Block) (x : Entry) → after_all (progress parts before block) (decision_at x) ≡ progress parts (before ++ x ∷ []) (block_after block x)
  progress_after before block (e.Law n q) = let x = e.Law n q in same_place _ _ _ _ _ _ block (kept spread_at before x refl) (kept schema_at before x refl) (kept live_at before x refl)
  progress_after before block (e.Lemma n q steps) = let x = e.Lemma n q steps in same_place _ _ _ _ _ _ block (kept spread_at before x refl) (kept schema_at before x refl) (kept live_at before x refl)
  progress_after before block (e.Spread c) = let x = e.Spread c in same_place _ _ _ _ _ _ _ (grown spread_at before x) (grown schema_at before x) (kept live_at before x refl)
  progress_after before block (e.Killed q steps) = let x = e.Killed q steps in same_place _ _ _ _ _ _ None (kept spread_at before x refl) (grown schema_at before x) (kept live_at before x refl)
  progress_after before block (e.Live t) = let x = e.Live t in same_place _ _ _ _ _ _ (block_after block x) (kept spread_at before x refl) (kept schema_at before x refl) (grown live_at before x)
  progress_after before block (e.Moved q steps) = let x = e.Moved q steps in same_place _ _ _ _ _ _ (block_after block x) (kept spread_at before x refl) (kept schema_at before x refl) (kept live_at before x refl)

-- Those of a valid certificate

module _ (parts : SigParts) (pools : Pools) (all : List Entry) (each : (before : List Entry) (x : Entry) (after : List Entry) → all ≡ before ++ x ∷ after → IsEntry parts pools all before x after) where
  have_instances : (before xs : List Entry) → all ≡ before ++ xs → HaveInstances parts (stated live_at all) (stated decision_at xs)
  have_instances before [] split = tt
  have_instances before (e.Spread c ∷ xs) split = (
    subst (AreExactly parts (IsInstance parts (stated live_at all) c)) (sym (first_decided xs)) (each before (e.Spread c) xs split),
    have_instances (before ++ e.Spread c ∷ []) xs (split ∙ sym (append_assoc before (e.Spread c ∷ []) xs)),
  )
  have_instances before (e.Killed q steps ∷ xs) split = (
    first_decided xs ∙ (each before (e.Killed q steps) xs split).2,
    have_instances (before ++ e.Killed q steps ∷ []) xs (split ∙ sym (append_assoc before (e.Killed q steps ∷ []) xs)),
  )
  have_instances before (e.Law n q ∷ xs) split = have_instances (before ++ e.Law n q ∷ []) xs (split ∙ sym (append_assoc before (e.Law n q ∷ []) xs))
  have_instances before (e.Lemma n q steps ∷ xs) split = have_instances (before ++ e.Lemma n q steps ∷ []) xs (split ∙ sym (append_assoc before (e.Lemma n q steps ∷ []) xs))
  have_instances before (e.Live t ∷ xs) split = have_instances (before ++ e.Live t ∷ []) xs (split ∙ sym (append_assoc before (e.Live t ∷ []) xs))
  have_instances before (e.Moved q steps ∷ xs) split = have_instances (before ++ e.Moved q steps ∷ []) xs (split ∙ sym (append_assoc before (e.Moved q steps ∷ []) xs))

  pub decisions_whole : AreExactly parts (IsConsidered parts (stated spread_at all)) (stated schema_at all) → terms_after all ≡ [] → AreWhole parts (stated decision_at all)
  decisions_whole schemas first = record {
    schemas = subst₂ (λ spreads. AreExactly parts (IsConsidered parts spreads)) (sym (spread_decided all)) (sym (schema_decided all)) schemas;
    first = first_decided all ∙ first;
    instances = subst (λ lives. HaveInstances parts lives (stated decision_at all)) (sym (live_decided all)) (have_instances [] all refl);
  }

-- its terms stand in the order of exploring, each an instance of a spread schema
pub valid_ordered : (parts : SigParts) (pools : Pools) (all : List Entry) (trees : List SortTree) → IsValid parts pools all trees
    → AreOrdered parts (stated live_at all) (stated spread_at all) (stated term_at all)
valid_ordered parts pools all trees valid = subst (AreOrdered parts (stated live_at all) (stated spread_at all)) (term_decided all)
    (subst₂ (λ lives spreads. AreOrdered parts lives spreads (stated term_in (stated decision_at all))) (live_decided all) (spread_decided all)
    (whole_ordered parts (stated decision_at all) (decisions_whole parts pools all valid.each valid.schemas valid.first)))

-- a live term before a term entry stands before its term
pub earlier_before : (parts : SigParts) (all front : List Entry) (q : Equation) (steps : List Step) (back : List Entry) → all ≡ front ++ e.Moved q steps ∷ back
    → Rising (IsBefore parts) (stated term_at all) → (u : Tree) → In u (stated live_at front) → IsBefore parts u q.left
earlier_before parts all front q steps back split rising u at = rising_at (IsBefore parts) (stated term_at front) q.left (stated term_at back)
    (subst (Rising (IsBefore parts)) (ap (stated term_at) split ∙ stated_parts term_at front (e.Moved q steps ∷ back)) rising) (live_term u front at)
