-- What an error tells, and background equations that hold or break.
use Rattle.std.proofs.Common.{◌≡◌, ◌≢◌, ℕ, zero, suc, ◌+◌, ◌<◌, ◌≤◌, Option, Some, None, IsSome, Result, Ok, Err, IfErr, List, [], ◌∷◌, length, take, slice_get, slice_index_or, sym, refl, ap, ◌∙◌, subst, arith}
use Rattle.std.specs.Result.{IsErrAnd}
use Rattle.std.proofs.lemmas.Option.{slice_get-get_or}
use Rattle.law_sig.specs.Lists.{Each}
use Rattle.law_sig.specs.Tests.{Agrees}
use Rattle.law_sig.specs.declared.tree.Tree.{Tree}
use Rattle.law_sig.specs.declared.parts.Equation.{Equation}
use Rattle.law_sig.specs.declared.parts.SigParts.{SigParts}
use Rattle.law_laws.specs.Renaming.{HasWidth}
use Rattle.law_own.specs.Own.{IsNextOwn, vars_of}
use Rattle.law_own.proofs.OwnTests.{own_tells, passes_on}
use Rattle.law_own.proofs.Standing.{first_within, second_within}
use Rattle.law_ids.specs.declared.ids.ValueId.{ValueId}
use Rattle.law_ids.specs.Values.{IsShared, tree_of, Grows}
use Rattle.law_draws.specs.Draws.{pools_by}
use Rattle.law_testing.specs.Values.{IsTestable, IsValue, tests_by, val_by}
use Rattle.law_testing.proofs.Testing.{value_stays}
use Rattle.law_explore.specs.declared.refusal.ExploreErr.{ExploreErr}
use Rattle.law_explore.specs.declared.refusal.ExploreErr.TheVariants as err
use Rattle.law_explore.specs.Refusals.{Refusal, IsFirstAnswer, Breaks, HasBrokenBackground, IsTold}
use Rattle.law_explore.specs.Refusals.Breaks.{left_over, right_over, differs}
use Rattle.law_explore.specs.Values.{IsLacking, HoldsAt}
use Rattle.law_explore.proofs.LawFacts.{some_is}

-- what follows from what an error tells, it tells too
pub told_on : (parts : SigParts) (P Q : Refusal → Type 0) → ((r : Refusal) → P r → Q r) → (e : ExploreErr) → IsTold parts P e → IsTold parts Q e
told_on parts P Q f (err.Over term test) h = (h.0, h.1, f _ h.2)
told_on parts P Q f (err.BackgroundFails law test) h = f _ h
told_on parts P Q f err.Assignments h = f _ h
told_on parts P Q f err.TooManyTerms h = f _ h
told_on parts P Q f (err.ValueTooLarge pool sort) h = f _ h
told_on parts P Q f err.NoMemory h = tt

-- an error that is handed on
pub handed_on : (parts : SigParts) (P Q : Refusal → Type 0) {T : Type 0} (r : Result T ExploreErr) (x : ExploreErr) → ((r : Refusal) → P r → Q r)
    → IsErrAnd r (λ y. y ≡ x) → IsTold parts P x → IfErr r (IsTold parts Q)
handed_on parts P Q (Ok y) x f h told = absurd h
handed_on parts P Q (Err y) x f h told = subst (IsTold parts Q) (sym h) (told_on parts P Q f x told)

-- One equation at a test

pub lacking_left : (parts : SigParts) (number test : ℕ) (e : Equation) (r : Refusal) → IsLacking parts e.left test r → Breaks parts (pools_by parts) number e test r
lacking_left parts number test e r h = subst (Breaks parts (pools_by parts) number e test) (sym h.0) (left_over h.1)

pub lacking_right : (parts : SigParts) (bank : List Tree) (number test : ℕ) (e : Equation) (v : ValueId) → IsValue parts bank test e.left v
    → (r : Refusal) → IsLacking parts e.right test r → Breaks parts (pools_by parts) number e test r
lacking_right parts bank number test e v is r h = subst (Breaks parts (pools_by parts) number e test) (sym h.0) (right_over (tree_of bank v) is.is h.1)

pub values_hold : (parts : SigParts) (old bank : List Tree) (test : ℕ) (e : Equation) (v w : ValueId) → IsValue parts old test e.left v → Grows old bank → IsValue parts bank test e.right w
    → v ≡ w → HoldsAt parts e test
values_hold parts old bank test e v w left grows right same = record {
  value = tree_of bank w;
  left = (value_stays parts old bank test e.left v grows left).is ∙ ap (λ x. Some (tree_of bank x)) same;
  right = right.is;
}

pub values_differ : (parts : SigParts) (old bank : List Tree) (number test : ℕ) (e : Equation) (v w : ValueId) → IsValue parts old test e.left v → Grows old bank
    → IsValue parts bank test e.right w → IsShared bank → v ≢ w → Breaks parts (pools_by parts) number e test (Refusal.BackgroundFails number test)
values_differ parts old bank number test e v w left grows right shared other =
    let kept = value_stays parts old bank test e.left v grows left in
    differs (tree_of bank v) (tree_of bank w) kept.is right.is (λ same. other (shared v w kept.held right.held same))

-- where it holds nothing breaks
breaks_not : (parts : SigParts) (number test : ℕ) (e : Equation) (v : Tree) → val_by parts test e.left ≡ Some v → val_by parts test e.right ≡ Some v
    → (r : Refusal) → Breaks parts (pools_by parts) number e test r → ⊥
breaks_not parts number test e v left right r (left_over none) = let h : Some v ≡ None = sym left ∙ none in cc
breaks_not parts number test e v left right r (right_over w is none) = let h : Some v ≡ None = sym right ∙ none in cc
breaks_not parts number test e v left right r (differs x y is own other) = other (some_is (sym is ∙ left ∙ sym right ∙ own))

-- One equation at all tests

pub breaks_first : (parts : SigParts) (number test : ℕ) (e : Equation) → test < tests_by parts → ((k : ℕ) → k < test → HoldsAt parts e k)
    → (r : Refusal) → Breaks parts (pools_by parts) number e test r → IsFirstAnswer (Breaks parts (pools_by parts) number e) (tests_by parts) r
breaks_first parts number test e within holds r breaks = record {
  at = test;
  within = within;
  answer = breaks;
  before = λ k less b h. let own = holds k less in breaks_not parts number k e own.value own.left own.right b h;
}

-- up to the next own test of the variables
pub holds_on : (parts : SigParts) → HasWidth parts → (e : Equation) → IsTestable parts e.left → IsTestable parts e.right → (test next : ℕ) → ((k : ℕ) → k < test → HoldsAt parts e k)
    → HoldsAt parts e test → IsNextOwn parts (vars_of e.left e.right) test next → (k : ℕ) → k < next → HoldsAt parts e k
holds_on parts has e left right test next holds own step = passes_on parts has (vars_of e.left e.right) (HoldsAt parts e)
    (λ t h. record {
      value = h.value;
      left = sym (own_tells parts has (vars_of e.left e.right) (pools_by parts) t e.left left.variables (first_within e.left e.right)) ∙ h.left;
      right = sym (own_tells parts has (vars_of e.left e.right) (pools_by parts) t e.right right.variables (second_within e.left e.right)) ∙ h.right;
    }) test next step holds own

pub holds_all : (parts : SigParts) (e : Equation) (test : ℕ) → ((k : ℕ) → k < test → HoldsAt parts e k) → tests_by parts ≤ test → Agrees parts (pools_by parts) e.left e.right
holds_all parts e test holds end = record {
  same = λ k less. let own = holds k (omega arith) in own.left ∙ sym own.right;
  defined = λ k less. let own = holds k (omega arith) in subst IsSome (sym own.left) refl;
}

-- an equation that agrees doesn't break
is_some : {A : Type 0} (o : Option A) → IsSome o → (x : A) × (o ≡ Some x)
is_some None h = absurd (let f : ⊥ = cc in f)
is_some (Some x) h = (x, refl)

pub agrees_not : (parts : SigParts) (number : ℕ) (e : Equation) → Agrees parts (pools_by parts) e.left e.right
    → (r : Refusal) → IsFirstAnswer (Breaks parts (pools_by parts) number e) (tests_by parts) r → ⊥
agrees_not parts number e agrees r first =
    let (v, is) = is_some (val_by parts first.at e.left) (agrees.defined first.at first.within) in
    breaks_not parts number first.at e v is (sym (agrees.same first.at first.within) ∙ is) r first.answer

-- All equations

-- what each of the first items has, the one at a place before has
pub each_got : {A : Type 0} (P : A → Type 0) (xs : List A) (n at : ℕ) (x : A) → Each P (take n xs) → at < n → slice_get xs at ≡ Some x → P x
each_got P [] n at x have less e = cc
each_got P (y ∷ xs) zero at x have less e = absurd (omega arith)
each_got P (y ∷ xs) (suc n) zero x have less e = subst P (let is : y ≡ x = cc in is) have.0
each_got P (y ∷ xs) (suc n) (suc at) x have less e = each_got P xs n at x have.1 (omega arith) e

abbrev pub HoldsAll : SigParts → Equation → Type 0
HoldsAll parts e = Agrees parts (pools_by parts) e.left e.right

pub background_breaks : (parts : SigParts) (background : List Equation) (at : ℕ) (e : Equation) → background ≡ parts.settings.background → at < length background
    → e ≡ slice_index_or background at e → Each (HoldsAll parts) (take at background)
    → (r : Refusal) → IsFirstAnswer (Breaks parts (pools_by parts) (at + 1) e) (tests_by parts) r → HasBrokenBackground parts (pools_by parts) r
background_breaks parts background at e is less there holds r breaks = record {
  at = at;
  within = subst (λ l. at < length l) is less;
  answer = record {
    equation = e;
    there = ap (λ l. slice_get l at) (sym is) ∙ slice_get-get_or background at e less ∙ ap Some (sym there);
    breaks = breaks;
  };
  before = λ k lower b h.
      agrees_not parts (k + 1) h.equation (each_got (HoldsAll parts) background at k h.equation holds lower (ap (λ l. slice_get l k) is ∙ h.there)) b h.breaks;
}
