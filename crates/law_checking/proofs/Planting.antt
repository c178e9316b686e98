-- What the lines of a tree say is what is asked of the tree.
use Rattle.std.proofs.Common.{◌↔◌, ℕ, inl, inr, List, [], ◌∷◌, map, sym, subst}
use Rattle.law_sig.specs.Lists.{Each}
use Rattle.law_sig.specs.Tests.{Pools}
use Rattle.law_sig.specs.declared.parts.SigParts.{SigParts}
use Rattle.law_laws.proofs.ListFacts.{each_map}
use Rattle.law_valid.specs.declared.certificate.Entry.{Entry}
use Rattle.law_valid.specs.declared.certificate.SortTree.{SortTree}
use Rattle.law_valid.specs.declared.rule.Answer.{Answer}
use Rattle.law_valid.specs.declared.rule.Answer.TheVariants.{No}
use Rattle.law_valid.specs.declared.rule.Rule.TheVariants as r
use Rattle.law_valid.specs.Stated.{stated, spread_at, live_at}
use Rattle.law_valid.specs.Splits.{leaves_of, tests_of}
use Rattle.law_valid.specs.Trees.{AreNumbersOf, IsTest, IsFlatTest, AreRising, HasSchemas, HasTerms}
use Rattle.law_valid.specs.Judged.{If, CutsTell, all_cuts}
use Rattle.law_named.specs.Named.{schema_lines}
use Rattle.law_checking.specs.declared.part.Part.TheVariants.{Tests}
use Rattle.law_checking.specs.Lines.{HasKid, parts_of, Held, held_in, judgings}
use Rattle.law_checking.specs.Planted.{IsOfSort, AreSchemasOf, AreTermsOf, JudgesTree}
use Rattle.law_checking.proofs.LineFacts.{schema_numbers, upper_are, held_are, held_by, judged_are, schema_tests}

each_on : {A B : Type 0} (P : B → Type 0) (f : A → B) (xs : List A) → Each (λ x. P (f x)) xs → Each P (map f xs)
each_on P f [] h = tt
each_on P f (x ∷ xs) h = (h.0, each_on P f xs h.1)

each_off : {A B : Type 0} (P : B → Type 0) (f : A → B) (xs : List A) → Each P (map f xs) → Each (λ x. P (f x)) xs
each_off P f [] h = tt
each_off P f (x ∷ xs) h = (h.0, each_off P f xs h.1)

-- conditions that come to the same
if_same : (P Q : Type 0) (fault : Answer) (short long : Answer → Type 0) (a : Answer) → (P ↔ Q) → (P → short a → long a) → If P fault short a → If Q fault long a
if_same P Q fault short long a same on (inl h) = inl (same.0 h.0, on h.0 h.1)
if_same P Q fault short long a same on (inr h) = inr (λ q. h.0 (same.1 q), h.1)

module _ (parts : SigParts) (pools : Pools) (all : List Entry) (tree : SortTree) (full : Each HasKid (schema_lines tree.tree)) where
  schemas_same : AreSchemasOf parts pools (stated spread_at all) tree.sort (schema_lines tree.tree) ↔ HasSchemas parts pools all tree
  schemas_same = (
    λ h. record {
      schemas = subst (AreNumbersOf (stated spread_at all) (IsOfSort parts tree.sort)) (schema_numbers tree.tree) h.schemas;
      rising = each_off (λ (held : Held). AreRising held.schemas) held_by (leaves_of tree.tree) (subst (Each (λ (held : Held). AreRising held.schemas)) (held_are tree.tree full) h.rising);
      flat = subst (Each (IsFlatTest parts pools)) (upper_are tree.tree full) h.flat;
    },
    λ h. record {
      schemas = subst (AreNumbersOf (stated spread_at all) (IsOfSort parts tree.sort)) (sym (schema_numbers tree.tree)) h.schemas;
      rising = subst (Each (λ (held : Held). AreRising held.schemas)) (sym (held_are tree.tree full)) (each_on (λ (held : Held). AreRising held.schemas) held_by (leaves_of tree.tree) h.rising);
      flat = subst (Each (IsFlatTest parts pools)) (sym (upper_are tree.tree full)) h.flat;
    },
  )

  abbrev HasHeld : Held → Type 0
  HasHeld = AreTermsOf parts pools (stated spread_at all) (stated live_at all)

  terms_same : Each HasHeld (held_in (schema_lines tree.tree)) ↔ Each (HasTerms parts pools all) (leaves_of tree.tree)
  terms_same = (
    λ h. each_map (λ class. HasHeld (held_by class)) (HasTerms parts pools all) (λ class own. record { terms = own.terms; tests = own.tests }) (leaves_of tree.tree)
        (each_off HasHeld held_by (leaves_of tree.tree) (subst (Each HasHeld) (held_are tree.tree full) h)),
    λ h. subst (Each HasHeld) (sym (held_are tree.tree full)) (each_on HasHeld held_by (leaves_of tree.tree)
        (each_map (HasTerms parts pools all) (λ class. HasHeld (held_by class)) (λ class own. record { terms = own.terms; tests = own.tests }) (leaves_of tree.tree) h)),
  )

  -- the tests of all splits are tests where those above and below the classes are
  tests_hold : HasSchemas parts pools all tree → Each (HasTerms parts pools all) (leaves_of tree.tree) → Each (IsTest parts pools) (parts_of Tests (schema_lines tree.tree))
  tests_hold schemas terms = schema_tests (IsTest parts pools) tree.tree
      (each_map (IsFlatTest parts pools) (IsTest parts pools) (λ test h. h.0) (tests_of tree.tree) schemas.flat)
      (each_map (HasTerms parts pools all) (λ class. Each (IsTest parts pools) (tests_of class.terms)) (λ class h. h.tests) (leaves_of tree.tree) terms)

  abbrev Tested : Type 0
  Tested = Each (IsTest parts pools) (parts_of Tests (schema_lines tree.tree))

  abbrev Told : ℕ → (Answer → Type 0) → Answer → Type 0
  Told entry rest = CutsTell parts pools entry (judgings (stated spread_at all) (stated live_at all) (schema_lines tree.tree)) rest

  abbrev Wanted : ℕ → (Answer → Type 0) → Answer → Type 0
  Wanted entry rest = CutsTell parts pools entry (all_cuts all tree) rest

  cuts_same : (entry : ℕ) (rest : Answer → Type 0) (a : Answer) → Tested → If Tested (No r.V9 entry) (Told entry rest) a → Wanted entry rest a
  cuts_same entry rest a tests (inl h) = subst (λ js. CutsTell parts pools entry js rest a) (judged_are (stated spread_at all) (stated live_at all) tree.tree full) h.1
  cuts_same entry rest a tests (inr h) = absurd (h.0 tests)

  pub tree_judged : (entry : ℕ) (rest : Answer → Type 0) (a : Answer)
      → JudgesTree parts pools (stated spread_at all) (stated live_at all) entry tree.sort (schema_lines tree.tree) rest a
      → If (HasSchemas parts pools all tree) (No r.V8 entry)
      (If (Each (HasTerms parts pools all) (leaves_of tree.tree)) (No r.V9 entry)
      (CutsTell parts pools entry (all_cuts all tree) rest)) a
  tree_judged entry rest a =
      if_same (AreSchemasOf parts pools (stated spread_at all) tree.sort (schema_lines tree.tree)) (HasSchemas parts pools all tree) (No r.V8 entry)
      (If (Each HasHeld (held_in (schema_lines tree.tree))) (No r.V9 entry) (If Tested (No r.V9 entry) (Told entry rest)))
      (If (Each (HasTerms parts pools all) (leaves_of tree.tree)) (No r.V9 entry) (Wanted entry rest)) a schemas_same (λ schemas.
      if_same (Each HasHeld (held_in (schema_lines tree.tree))) (Each (HasTerms parts pools all) (leaves_of tree.tree)) (No r.V9 entry)
      (If Tested (No r.V9 entry) (Told entry rest)) (Wanted entry rest) a terms_same (λ terms.
      cuts_same entry rest a (tests_hold (schemas_same.0 schemas) (terms_same.0 terms))))
