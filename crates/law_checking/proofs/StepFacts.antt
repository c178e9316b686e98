-- What is asked of one entry, and then the rest; and what has been seen after it.
use Rattle.std.proofs.Common.{◌≡◌, ◌≢◌, ℕ, zero, suc, ◌⊎◌, inl, inr, Bool, true, false, Option, Some, None, List, [], ◌∷◌, ◌++◌, refl, sym, ap, ◌∙◌, subst, append_assoc, append-nil, lt-ltb}
use Rattle.law_sig.specs.Lists.{In, Each, AreDistinct}
use Rattle.law_sig.specs.Trees.{schema_of}
use Rattle.law_sig.specs.WellFormed.{vars_step}
use Rattle.law_sig.specs.Tests.{InU, Pools, test_count, val}
use Rattle.law_sig.specs.Order.{IsBefore}
use Rattle.law_sig.specs.declared.tree.Tree.{Tree}
use Rattle.law_sig.specs.declared.parts.Equation.{Equation}
use Rattle.law_sig.specs.declared.parts.SigParts.{SigParts}
use Rattle.law_laws.specs.Renaming.{has_vars}
use Rattle.law_laws.proofs.TreeFacts.{fold-Var, fold-App}
use Rattle.law_laws.proofs.ListFacts.{each_map, each_of, of_each, each_both, rising_both}
use Rattle.law_laws.proofs.Orders.{never_before_itself}
use Rattle.law_laws.proofs.Sorts.{var_sorted}
use Rattle.law_laws.proofs.Renaming.{all_true, bounded_vars}
use Rattle.law_testing.specs.Values.{IsTestable}
use Rattle.law_valid.specs.declared.certificate.Entry.{Entry}
use Rattle.law_valid.specs.declared.certificate.Entry.TheVariants as e
use Rattle.law_sig.specs.declared.chain.Step.{Step}
use Rattle.law_valid.specs.declared.rule.Answer.{Answer}
use Rattle.law_valid.specs.declared.rule.Answer.TheVariants.{Yes, No, Over}
use Rattle.law_valid.specs.declared.rule.Rule.{Rule}
use Rattle.law_valid.specs.declared.rule.Rule.TheVariants as r
use Rattle.law_valid.specs.Stated.{stated, equation_at, schema_at, spread_at, live_at, known}
use Rattle.law_sig.specs.Schemas.{IsConsidered}
use Rattle.law_sig.specs.Schemas.IsConsidered.{variable, application}
use Rattle.law_valid.specs.Order.{Block, IsNextTerm, Progress, at_start, after_spread, after_killed, after_term, IsSchemaNext, IsTermNext, IsTermSpent, IsSchemaTurn, IsTermTurn}
use Rattle.law_valid.specs.Judged.{If, Valued, Tests, AtTests, Background, entry_after, OfEntry, OfEnd, progress}
use Rattle.law_sig.specs.Expected.{IsAbove}
use Rattle.law_valid.proofs.StatedFacts.{grown, kept}
use Rattle.law_valid.proofs.Decisions.{spread_schema, progress_after}
use Rattle.law_valid.proofs.Passing.{if_yes, never_no}
use Rattle.law_checking.specs.Steps.{Sight, HasSeen, IsPassed, SeesMore}

-- Another rest

-- the rest says the same answer
if_map : {P T U : Type 0} {a fault : Answer} → (T → U) → (P × T) ⊎ ((P → ⊥) × (a ≡ fault)) → (P × U) ⊎ ((P → ⊥) × (a ≡ fault))
if_map to (inl h) = inl (h.0, to h.1)
if_map to (inr h) = inr h

-- nothing is found wrong before the rest, which says an answer
if_on : {P T U : Type 0} {rule : Rule} {entry : ℕ} {a : Answer} → (T → U) → (P × T) ⊎ ((P → ⊥) × (Yes ≡ No rule entry)) → (P × U) ⊎ ((P → ⊥) × (a ≡ No rule entry))
if_on to (inl h) = inl (h.0, to h.1)
if_on {rule = rule} {entry = entry} to (inr h) = absurd (never_no rule entry h.1)

never_over : (entry test : ℕ) (t : Tree) → Yes ≡ Over entry test t → ⊥
never_over entry test t same = cc

module _ (parts : SigParts) (pools : Pools) where
  module _ (rule : Rule) (entry : ℕ) (q : Equation) (short long : Answer → Type 0) where
    tests_map : (a : Answer) → (short a → long a) → (n test : ℕ) → Tests parts pools rule entry q short n test a → Tests parts pools rule entry q long n test a
    tests_map a to zero test h = to h
    tests_map a to (suc n) test h = by (tests_map a to n (suc test)) (val parts pools test q.left) (val parts pools test q.right) h
      where
        by : (Tests parts pools rule entry q short n (suc test) a → Tests parts pools rule entry q long n (suc test) a) → (v w : Option Tree)
            → Valued v (Over entry test q.left) (λ v. Valued w (Over entry test q.right) (λ w. If (v ≡ w) (No rule entry) (Tests parts pools rule entry q short n (suc test)))) a
            → Valued v (Over entry test q.left) (λ v. Valued w (Over entry test q.right) (λ w. If (v ≡ w) (No rule entry) (Tests parts pools rule entry q long n (suc test)))) a
        by later None w h = h
        by later (Some v) None h = h
        by later (Some v) (Some w) h = if_map later h

    tests_on : (a : Answer) → (short Yes → long a) → (n test : ℕ) → Tests parts pools rule entry q short n test Yes → Tests parts pools rule entry q long n test a
    tests_on a to zero test h = to h
    tests_on a to (suc n) test h = by (tests_on a to n (suc test)) (val parts pools test q.left) (val parts pools test q.right) h
      where
        by : (Tests parts pools rule entry q short n (suc test) Yes → Tests parts pools rule entry q long n (suc test) a) → (v w : Option Tree)
            → Valued v (Over entry test q.left) (λ v. Valued w (Over entry test q.right) (λ w. If (v ≡ w) (No rule entry) (Tests parts pools rule entry q short n (suc test)))) Yes
            → Valued v (Over entry test q.left) (λ v. Valued w (Over entry test q.right) (λ w. If (v ≡ w) (No rule entry) (Tests parts pools rule entry q long n (suc test)))) a
        by later None w h = absurd (never_over entry test q.left h)
        by later (Some v) None h = absurd (never_over entry test q.right h)
        by later (Some v) (Some w) h = if_on later h

    at_map : (a : Answer) → (short a → long a) → AtTests parts pools rule entry q short a → AtTests parts pools rule entry q long a
    at_map a to h = tests_map a to (test_count parts pools) 0 h

    at_on : (a : Answer) → (short Yes → long a) → AtTests parts pools rule entry q short Yes → AtTests parts pools rule entry q long a
    at_on a to h = tests_on a to (test_count parts pools) 0 h

  module _ (short long : Answer → Type 0) where
    pub background_map : (a : Answer) → (short a → long a) → (qs : List Equation) → Background parts pools qs short a → Background parts pools qs long a
    background_map a to [] h = to h
    background_map a to (q ∷ qs) h = at_map r.V3 0 q (Background parts pools qs short) (Background parts pools qs long) a (background_map a to qs) h

    pub background_on : (a : Answer) → (short Yes → long a) → (qs : List Equation) → Background parts pools qs short Yes → Background parts pools qs long a
    background_on a to [] h = to h
    background_on a to (q ∷ qs) h = at_on r.V3 0 q (Background parts pools qs short) (Background parts pools qs long) a (background_on a to qs) h

    module _ (before : List Entry) (block : Option Block) where
      pub entry_map : (x : Entry) (a : Answer) → (short a → long a) → OfEntry parts pools before block x short a → OfEntry parts pools before block x long a
      entry_map (e.Law n q) a to h = if_map (at_map r.V3 (entry_after before) q short long a to) h
      entry_map (e.Lemma n q steps) a to h = if_map to h
      entry_map (e.Spread c) a to h = if_map (if_map to) h
      entry_map (e.Killed q steps) a to h = if_map (if_map (if_map (at_map r.V6 (entry_after before) q short long a to))) h
      entry_map (e.Live t) a to h = if_map (if_map to) h
      entry_map (e.Moved q steps) a to h = if_map (if_map (if_map (at_map r.V7 (entry_after before) q short long a to))) h

      pub entry_on : (x : Entry) (a : Answer) → (short Yes → long a) → OfEntry parts pools before block x short Yes → OfEntry parts pools before block x long a
      entry_on (e.Law n q) a to h = if_on (at_on r.V3 (entry_after before) q short long a to) h
      entry_on (e.Lemma n q steps) a to h = if_on to h
      entry_on (e.Spread c) a to h = if_on (if_on to) h
      entry_on (e.Killed q steps) a to h = if_on (if_on (if_on (at_on r.V6 (entry_after before) q short long a to))) h
      entry_on (e.Live t) a to h = if_on (if_on to) h
      entry_on (e.Moved q steps) a to h = if_on (if_on (if_on (at_on r.V7 (entry_after before) q short long a to))) h

      pub end_map : (a : Answer) → (short a → long a) → OfEnd parts before block short a → OfEnd parts before block long a
      end_map a to h = if_map (if_map to) h

      pub end_on : (a : Answer) → (short Yes → long a) → OfEnd parts before block short Yes → OfEnd parts before block long a
      end_on a to h = if_on (if_on to) h

-- What is stated after one more entry

known_grown : (parts : SigParts) (before : List Entry) (x : Entry) → known parts before ++ equation_at x ≡ known parts (before ++ x ∷ [])
known_grown parts before x = append_assoc parts.settings.background (stated equation_at before) (equation_at x) ∙ ap (λ l. parts.settings.background ++ l) (grown equation_at before x)

known_kept : (parts : SigParts) (before : List Entry) (x : Entry) → equation_at x ≡ [] → known parts before ≡ known parts (before ++ x ∷ [])
known_kept parts before x none = ap (λ l. parts.settings.background ++ l) (kept equation_at before x none)

-- Terms that have values at tests

pub universe_testable : (parts : SigParts) (sort : _) (t : Tree) → InU parts sort t → IsTestable parts t
universe_testable parts sort t u = record { sort = sort; sorted = u.sorted; variables = bounded_vars parts t u.bounded }

considered_testable : (parts : SigParts) (spreads : List Tree) (c : Tree) → Each (IsTestable parts) spreads → IsConsidered parts spreads c → IsTestable parts c
considered_testable parts spreads c fine (variable sort declared some) = record {
  sort = sort;
  sorted = var_sorted parts sort 0 declared;
  variables = fold-Var Bool (vars_step parts) sort 0 ∙ lt-ltb 0 _ some;
}
considered_testable parts spreads c fine (application f cs sort explored each sorted small) = record {
  sort = sort;
  sorted = sorted;
  variables = fold-App Bool (vars_step parts) f cs ∙ all_true (has_vars parts) cs
      (each_map (λ c. In c spreads) (λ c. has_vars parts c ≡ true) (λ c at. (of_each (IsTestable parts) at fine).variables) cs each);
}

pub next_testable : (parts : SigParts) (lives : List Tree) (block : Option Block) (t : Tree) → IsNextTerm parts lives block t → IsTestable parts t
next_testable parts lives None t h = absurd h
next_testable parts lives (Some block) t h = universe_testable parts h.is.sort t h.is.bounded

-- What has been seen before the first entry

pub none_seen : (parts : SigParts) (seen : Sight) → seen.known ≡ parts.settings.background → seen.spreads ≡ [] → seen.lives ≡ [] → seen.At (at_start parts)
    → HasSeen parts [] None seen
none_seen parts seen k s l a = record {
  equations = k ∙ sym (append-nil parts.settings.background);
  spread = s;
  live = l;
  at = a;
  spread_distinct = tt;
  spread_testable = tt;
  live_testable = tt;
}

-- Whose turn it is, where nothing is wrong with an entry

pub spread_turn : (parts : SigParts) (seen : Sight) (c : Tree) → IsPassed parts seen (e.Spread c) → IsSchemaTurn seen.At parts c
spread_turn parts seen c p =
    let spent = if_yes p.fine in
    record { progress = progress parts p.before p.block; at = p.has.at; parts_are = refl; spent = spent.0; next = (if_yes spent.1).0 }

pub killed_turn : (parts : SigParts) (seen : Sight) (q : Equation) (steps : List Step) → IsPassed parts seen (e.Killed q steps) → IsSchemaTurn seen.At parts (schema_of q.left)
killed_turn parts seen q steps p =
    let spent = if_yes p.fine in
    record { progress = progress parts p.before p.block; at = p.has.at; parts_are = refl; spent = spent.0; next = (if_yes spent.1).0 }

pub live_turn : (parts : SigParts) (seen : Sight) (t : Tree) → IsPassed parts seen (e.Live t) → IsTermTurn seen.At parts t
live_turn parts seen t p = record { progress = progress parts p.before p.block; at = p.has.at; parts_are = refl; next = (if_yes (if_yes p.fine).1).0 }

pub moved_turn : (parts : SigParts) (seen : Sight) (q : Equation) (steps : List Step) → IsPassed parts seen (e.Moved q steps) → IsTermTurn seen.At parts q.left
moved_turn parts seen q steps p = record { progress = progress parts p.before p.block; at = p.has.at; parts_are = refl; next = (if_yes (if_yes p.fine).1).0 }

-- What has been seen after one more entry

-- a schema that stands after all others is none of them
distinct_more : (parts : SigParts) (before : List Entry) (c : Tree) → AreDistinct (stated spread_at before) → IsAbove (IsBefore parts) (stated schema_at before) c
    → AreDistinct (stated spread_at before ++ c ∷ [])
distinct_more parts before c distinct above = rising_both (λ x y. x ≢ y) (stated spread_at before) (c ∷ []) distinct (tt, tt) (each_of (λ d. Each (λ y. d ≢ y) (c ∷ [])) (stated spread_at before)
    (λ d at. (λ same. never_before_itself parts c (subst (λ z. IsBefore parts z c) same (of_each (λ y. IsBefore parts y c) (spread_schema d before at) above)), tt)))

pub law_more : (parts : SigParts) (seen new : Sight) (number : ℕ) (q : Equation) → new.known ≡ seen.known ++ q ∷ [] → new.spreads ≡ seen.spreads → new.lives ≡ seen.lives
    → ((p : Progress) → seen.At p → new.At p) → SeesMore parts seen (e.Law number q) new
law_more parts seen new number q k s l a before block has of =
    let x = e.Law number q in record {
      equations = k ∙ ap (λ l. l ++ q ∷ []) has.equations ∙ known_grown parts before x;
      spread = s ∙ has.spread ∙ kept spread_at before x refl;
      live = l ∙ has.live ∙ kept live_at before x refl;
      at = a (progress parts (before ++ x ∷ []) block) (subst seen.At (progress_after parts before block x) has.at);
      spread_distinct = subst AreDistinct (kept spread_at before x refl) has.spread_distinct;
      spread_testable = subst (Each (IsTestable parts)) (kept spread_at before x refl) has.spread_testable;
      live_testable = subst (Each (IsTestable parts)) (kept live_at before x refl) has.live_testable;
    }

pub lemma_more : (parts : SigParts) (seen new : Sight) (number : ℕ) (q : Equation) (steps : List Step) → new.known ≡ seen.known ++ q ∷ [] → new.spreads ≡ seen.spreads
    → new.lives ≡ seen.lives → ((p : Progress) → seen.At p → new.At p) → SeesMore parts seen (e.Lemma number q steps) new
lemma_more parts seen new number q steps k s l a before block has of =
    let x = e.Lemma number q steps in record {
      equations = k ∙ ap (λ l. l ++ q ∷ []) has.equations ∙ known_grown parts before x;
      spread = s ∙ has.spread ∙ kept spread_at before x refl;
      live = l ∙ has.live ∙ kept live_at before x refl;
      at = a (progress parts (before ++ x ∷ []) block) (subst seen.At (progress_after parts before block x) has.at);
      spread_distinct = subst AreDistinct (kept spread_at before x refl) has.spread_distinct;
      spread_testable = subst (Each (IsTestable parts)) (kept spread_at before x refl) has.spread_testable;
      live_testable = subst (Each (IsTestable parts)) (kept live_at before x refl) has.live_testable;
    }

pub spread_more : (parts : SigParts) (seen new : Sight) (c : Tree) → new.known ≡ seen.known → new.spreads ≡ seen.spreads ++ c ∷ [] → new.lives ≡ seen.lives
    → ((p : Progress) → seen.At p → parts ≡ p.parts → IsTermSpent p → IsSchemaNext p c → new.At (after_spread p c))
    → SeesMore parts seen (e.Spread c) new
spread_more parts seen new c k s l a before block has of =
    let x = e.Spread c in
    let p = if_yes of in
    let m = if_yes p.1 in record {
      equations = k ∙ has.equations ∙ known_kept parts before x refl;
      spread = s ∙ ap (λ l. l ++ c ∷ []) has.spread ∙ grown spread_at before x;
      live = l ∙ has.live ∙ kept live_at before x refl;
      at = subst new.At (progress_after parts before block x) (a (progress parts before block) has.at refl p.0 m.0);
      spread_distinct = subst AreDistinct (grown spread_at before x) (distinct_more parts before c has.spread_distinct m.0.above);
      spread_testable = subst (Each (IsTestable parts)) (grown spread_at before x) (each_both (IsTestable parts) (stated spread_at before) (c ∷ []) has.spread_testable
          (considered_testable parts (stated spread_at before) c has.spread_testable m.0.is, tt));
      live_testable = subst (Each (IsTestable parts)) (kept live_at before x refl) has.live_testable;
    }

pub killed_more : (parts : SigParts) (seen new : Sight) (q : Equation) (steps : List Step) → new.known ≡ seen.known → new.spreads ≡ seen.spreads → new.lives ≡ seen.lives
    → ((p : Progress) (t : Tree) → seen.At p → parts ≡ p.parts → IsTermSpent p → IsSchemaNext p t → new.At (after_killed p t))
    → SeesMore parts seen (e.Killed q steps) new
killed_more parts seen new q steps k s l a before block has of =
    let x = e.Killed q steps in
    let p = if_yes of in
    let m = if_yes p.1 in record {
      equations = k ∙ has.equations ∙ known_kept parts before x refl;
      spread = s ∙ has.spread ∙ kept spread_at before x refl;
      live = l ∙ has.live ∙ kept live_at before x refl;
      at = subst new.At (progress_after parts before block x) (a (progress parts before block) (schema_of q.left) has.at refl p.0 m.0);
      spread_distinct = subst AreDistinct (kept spread_at before x refl) has.spread_distinct;
      spread_testable = subst (Each (IsTestable parts)) (kept spread_at before x refl) has.spread_testable;
      live_testable = subst (Each (IsTestable parts)) (kept live_at before x refl) has.live_testable;
    }

pub live_more : (parts : SigParts) (seen new : Sight) (t : Tree) → new.known ≡ seen.known → new.spreads ≡ seen.spreads → new.lives ≡ seen.lives ++ t ∷ []
    → ((p : Progress) (u : Tree) → seen.At p → parts ≡ p.parts → IsTermNext p u → new.At (after_term p u true))
    → SeesMore parts seen (e.Live t) new
live_more parts seen new t k s l a before block has of =
    let x = e.Live t in
    let p = if_yes of in
    let m = if_yes p.1 in record {
      equations = k ∙ has.equations ∙ known_kept parts before x refl;
      spread = s ∙ has.spread ∙ kept spread_at before x refl;
      live = l ∙ ap (λ l. l ++ t ∷ []) has.live ∙ grown live_at before x;
      at = subst new.At (progress_after parts before block x) (a (progress parts before block) t has.at refl m.0);
      spread_distinct = subst AreDistinct (kept spread_at before x refl) has.spread_distinct;
      spread_testable = subst (Each (IsTestable parts)) (kept spread_at before x refl) has.spread_testable;
      live_testable = subst (Each (IsTestable parts)) (grown live_at before x) (each_both (IsTestable parts) (stated live_at before) (t ∷ []) has.live_testable
          (next_testable parts (stated live_at before) block t m.0, tt));
    }

pub moved_more : (parts : SigParts) (seen new : Sight) (q : Equation) (steps : List Step) → new.known ≡ seen.known → new.spreads ≡ seen.spreads → new.lives ≡ seen.lives
    → ((p : Progress) (u : Tree) → seen.At p → parts ≡ p.parts → IsTermNext p u → new.At (after_term p u false))
    → SeesMore parts seen (e.Moved q steps) new
moved_more parts seen new q steps k s l a before block has of =
    let x = e.Moved q steps in
    let p = if_yes of in
    let m = if_yes p.1 in record {
      equations = k ∙ has.equations ∙ known_kept parts before x refl;
      spread = s ∙ has.spread ∙ kept spread_at before x refl;
      live = l ∙ has.live ∙ kept live_at before x refl;
      at = subst new.At (progress_after parts before block x) (a (progress parts before block) q.left has.at refl m.0);
      spread_distinct = subst AreDistinct (kept spread_at before x refl) has.spread_distinct;
      spread_testable = subst (Each (IsTestable parts)) (kept spread_at before x refl) has.spread_testable;
      live_testable = subst (Each (IsTestable parts)) (kept live_at before x refl) has.live_testable;
    }
