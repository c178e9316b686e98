-- The vectors of terms, and those of applications from those of their arguments.
use Rattle.std.proofs.Common.{◌≡◌, ℕ, zero, suc, ◌+◌, ◌<◌, ◌≤◌, inl, inr, Option, Some, None, IsSome, MatchOption, Result, Ok, Err, IfOk, List, [], ◌∷◌, ◌++◌, length, take, slice_get, slice_index_or, slice_set, option_map, Vec, sym, refl, ap, ap₂, ◌∙◌, subst, arith}
use Rattle.std.specs.declared.alloc.Global.{Global}
use Rattle.std.proofs.lemmas.Bool.{cases_lt}
use Rattle.std.proofs.lemmas.List.{length_push, map_push, get_or_default, take_more_set}
use Rattle.std.proofs.lemmas.Option.{slice_get-map, slice_get-get_or, get_or_from_slice_get}
use Rattle.law_sig.specs.Lists.{In, Each}
use Rattle.law_sig.specs.Evaluate.{Made, ap as applied}
use Rattle.law_sig.specs.WellFormed.{IsWellFormed}
use Rattle.law_sig.specs.declared.seq.NoMemory.{NoMemory}
use Rattle.law_sig.specs.declared.tree.SortId.{SortId}
use Rattle.law_sig.specs.declared.tree.SymId.{SymId}
use Rattle.law_sig.specs.declared.tree.Tree.{Tree}
use Rattle.law_sig.specs.declared.tree.Tree.TheVariants.{Var, App}
use Rattle.law_sig.specs.declared.parts.SigParts.{SigParts}
use Rattle.law_laws.specs.Renaming.{HasWidth}
use Rattle.law_laws.proofs.TreeFacts.{same_app, var_no_app}
use Rattle.law_own.specs.Own.{own, vars_of}
use Rattle.law_own.proofs.OwnTests.{own_tells}
use Rattle.law_own.proofs.Standing.{first_within}
use Rattle.law_ids.specs.declared.ids.ValueId.{ValueId}
use Rattle.law_ids.specs.Values.{AreOf, Grows}
use Rattle.law_ids.proofs.BankFacts.{take_all}
use Rattle.law_ids.proofs.Reading.{each_at, take_next, ids_keep}
use Rattle.law_eval.specs.declared.error.EvalErr.{EvalErr}
use Rattle.law_draws.specs.Draws.{pools_by}
use Rattle.law_testing.specs.Values.{IsTestable, IsValue, Both, applied_value, tests_by, val_by}
use Rattle.law_test.specs.Memo.{Gives}
use Rattle.law_testing.proofs.BothFacts.{both_more, both_map, both_long}
use Rattle.law_testing.proofs.Testing.{value_stays, values_held, application_value, few_args}
use Rattle.law_explore.specs.declared.refusal.ExploreErr.{ExploreErr}
use Rattle.law_explore.specs.Refusals.{LacksValue, IsTold, IsOver}
use Rattle.law_explore.specs.Refusals.Refusal.{Over}
use Rattle.law_explore.specs.Values.{AreIds, IsVector, StandsAt, IsPlaced, HasClass, HasArgClasses, HasVector, HasArgVectors, IsRead, IsMadeIn, items_of, id_in, id_at, ids_at}
use Rattle.law_explore.proofs.Breaking.{told_on}
use Rattle.law_explore.proofs.LawFacts.{some_is}

-- One id more

place_before : (xs : List ℕ) (x k : ℕ) → k < length xs → slice_index_or (xs ++ x ∷ []) k 0 ≡ slice_index_or xs k 0
place_before [] x k less = absurd (omega arith)
place_before (y ∷ xs) x zero less = refl
place_before (y ∷ xs) x (suc k) less = place_before xs x k (omega arith)

place_last : (xs : List ℕ) (x : ℕ) → slice_index_or (xs ++ x ∷ []) (length xs) 0 ≡ x
place_last [] x = refl
place_last (y ∷ xs) x = place_last xs x

pub ids_next : (parts : SigParts) (old new : List Tree) (t : Tree) (test : ℕ) (ids more : List ℕ) (v : ValueId) → AreIds parts old t test ids → Grows old new
    → IsValue parts new test t v → more ≡ ids ++ v.0 ∷ [] → AreIds parts new t (test + 1) more
ids_next parts old new t test ids more v are grows is e = subst (AreIds parts new t (test + 1)) (sym e) (record {
  one_each = length_push ids v.0 ∙ ap (λ n. n + 1) are.one_each;
  values = λ k less. elim (cases_lt k test) [
    | inl l ↦
        let long = are.one_each in
        let same : slice_index_or (ids ++ v.0 ∷ []) k 0 ≡ slice_index_or ids k 0 = place_before ids v.0 k (omega arith) in
        subst (IsValue parts new k t) (ap id_is (sym same)) (value_stays parts old new k t (id_in ids k) grows (are.values k l))
    | inr l ↦
        let is_test : test ≡ k = omega arith in
        let same : slice_index_or (ids ++ v.0 ∷ []) k 0 ≡ v.0 = ap (λ n. slice_index_or (ids ++ v.0 ∷ []) n 0) (sym is_test ∙ sym are.one_each) ∙ place_last ids v.0 in
        subst (λ n. IsValue parts new n t (id_in (ids ++ v.0 ∷ []) k)) is_test (subst (IsValue parts new test t) (ap id_is (sym same)) is)
  ];
})
  where
    id_is : ℕ → ValueId
    id_is n = record { 0 = n }

ids_before : (parts : SigParts) (bank : List Tree) (t : Tree) (test : ℕ) (ids : List ℕ) → AreIds parts bank t test ids → (k : ℕ) → k < test → IsSome (val_by parts k t)
ids_before parts bank t test ids are k less = subst IsSome (sym (are.values k less).is) refl

-- The vectors at some places

vector_there : (vectors : List (Vec ℕ Global)) (place : ℕ) (v : Vec ℕ Global) → slice_get vectors place ≡ Some v → slice_index_or (items_of vectors) place [] ≡ v.items
vector_there vectors place v e = get_or_from_slice_get (items_of vectors) place v.items [] (slice_get-map (λ v. v.items) vectors place ∙ ap (option_map (λ v. v.items)) e)

args_values : (parts : SigParts) (bank : List Tree) (vectors : List (Vec ℕ Global)) (test : ℕ) → test < tests_by parts → (args : List Tree) (places : List ℕ)
    → Both (HasVector parts bank vectors) args places → Both (IsValue parts bank test) args (ids_at vectors test places)
args_values parts bank vectors test less [] [] have = tt
args_values parts bank vectors test less [] (p ∷ places) have = absurd have
args_values parts bank vectors test less (t ∷ args) [] have = absurd have
args_values parts bank vectors test less (t ∷ args) (p ∷ places) have = (
  subst (IsValue parts bank test t) (ap (λ l. id_in l test) (sym (vector_there vectors p have.0.vector have.0.there))) (have.0.is.values test less),
  args_values parts bank vectors test less args places have.1,
)

args_read : (parts : SigParts) (bank : List Tree) (vectors : List (Vec ℕ Global)) (test : ℕ) → test < tests_by parts → (args : List Tree) (places : List ℕ)
    → Both (HasVector parts bank vectors) args places → Each (IsRead vectors test) places
args_read parts bank vectors test less [] [] have = tt
args_read parts bank vectors test less [] (p ∷ places) have = absurd have
args_read parts bank vectors test less (t ∷ args) [] have = absurd have
args_read parts bank vectors test less (t ∷ args) (p ∷ places) have = (
  record { vector = have.0.vector; there = have.0.there; within = let long = have.0.is.long in omega arith },
  args_read parts bank vectors test less args places have.1,
)

pub vector_stays : (parts : SigParts) (old new : List Tree) (t : Tree) (vector : List ℕ) → Grows old new → IsVector parts old t vector → IsVector parts new t vector
vector_stays parts old new t vector grows is = record {
  long = is.long;
  values = λ test less. value_stays parts old new test t (id_in vector test) grows (is.values test less);
  sort = is.sort;
  sorted = is.sorted;
  last = is.last;
}

-- the arguments of an application at a test
pub record HasArgValues (parts : SigParts) (bank : List Tree) (vectors : List (Vec ℕ Global)) (test : ℕ) (term : Tree) (f : SymId) (places : List ℕ) : Type 0 where
  pub read : Each (IsRead vectors test) places
  pub held : AreOf bank (ids_at vectors test places)
  pub few : length places ≤ 8
  pub value : val_by parts test term ≡ applied_value parts f bank (ids_at vectors test places)

pub arg_values : (parts : SigParts) → IsWellFormed parts → (bank : List Tree) (vectors : List (Vec ℕ Global)) (test : ℕ) (term : Tree) (f : SymId) (args : List Tree) (places : List ℕ)
    → IsTestable parts term → term ≡ App f args → HasArgVectors parts bank vectors term places → test < tests_by parts → HasArgValues parts bank vectors test term f places
arg_values parts well bank vectors test term f args places testable is known within =
    let have = known f args is in
    let values = args_values parts bank vectors test within args places have in
    let few = few_args parts well f args (subst (IsTestable parts) is testable) in
    let long = both_long (HasVector parts bank vectors) args places have in
    record {
      read = args_read parts bank vectors test within args places have;
      held = values_held parts bank test args (ids_at vectors test places) values;
      few = omega arith;
      value = ap (val_by parts test) is ∙ application_value parts bank test f args (ids_at vectors test places) values;
    }

-- what is made of them is the term's value
pub made_value : (parts : SigParts) (bank new : List Tree) (vectors : List (Vec ℕ Global)) (test : ℕ) (term : Tree) (f : SymId) (places : List ℕ)
    → HasArgValues parts bank vectors test term f places → (r : Result ValueId EvalErr) → IfOk r (IsMadeIn (applied_value parts f bank (ids_at vectors test places)) new)
    → IfOk r (IsValue parts new test term)
made_value parts bank new vectors test term f places values (Ok v) made = record { held = made.held; is = values.value ∙ made.is }
made_value parts bank new vectors test term f places values (Err e) made = made

-- a term that is over
pub lacks_value : (parts : SigParts) (bank : List Tree) (test : ℕ) (term : Tree) (ids : List ℕ) → val_by parts test term ≡ None → AreIds parts bank term test ids → test < tests_by parts
    → (e : ExploreErr) → IsOver parts term test e → IsTold parts (LacksValue parts (pools_by parts) term) e
lacks_value parts bank test term ids none are within =
    told_on parts (λ r. r ≡ Over term test) (LacksValue parts (pools_by parts) term) (λ r is. record {
      test = test;
      is = is;
      within = within;
      lacks = none;
      before = ids_before parts bank term test ids are;
    })

-- The own test of a term's variables

-- the term has the same value there
pub own_value : (parts : SigParts) → HasWidth parts → (term : Tree) → IsTestable parts term → (test first : ℕ) → first ≡ own parts (vars_of term term) test
    → val_by parts first term ≡ val_by parts test term
own_value parts has term testable test first is = ap (λ n. val_by parts n term) is
    ∙ own_tells parts has (vars_of term term) (pools_by parts) test term testable.variables (first_within term term)

-- so its id there is one here
pub own_id : (parts : SigParts) (bank : List Tree) (term : Tree) (test first : ℕ) (ids : List ℕ) → AreIds parts bank term test ids → first < test
    → val_by parts first term ≡ val_by parts test term → IsValue parts bank test term (id_in ids first)
own_id parts bank term test first ids are less same = let there = are.values first less in record { held = there.held; is = sym same ∙ there.is }

-- Classes of arguments

pub no_args : (terms : List Tree) (classes : List ℕ) (t : Tree) (s : SortId) (i : ℕ) (found : List ℕ) → t ≡ Var s i → HasArgClasses terms classes t found
no_args terms classes t s i found is f args other = absurd (var_no_app s i f args (sym is ∙ other))

pub args_found : (terms : List Tree) (classes : List ℕ) (t : Tree) (f : SymId) (args slice : List Tree) → t ≡ App f args → slice ≡ args → (r : Result (List ℕ) NoMemory)
    → IfOk r (λ found. Both (HasClass terms classes) slice found) → IfOk r (λ found. HasArgClasses terms classes t found)
args_found terms classes t f args slice is same (Ok found) both = λ g others other.
    subst (λ ts. Both (HasClass terms classes) ts found) (same ∙ (same_app f g args others (sym is ∙ other)).1) both
args_found terms classes t f args slice is same (Err e) both = both

-- they keep their vectors while the bank grows
pub args_stay : (parts : SigParts) (old new : List Tree) (vectors : List (Vec ℕ Global)) (t : Tree) (places : List ℕ) → Grows old new → HasArgVectors parts old vectors t places
    → HasArgVectors parts new vectors t places
args_stay parts old new vectors t places grows have f args is =
    both_map (HasVector parts old vectors) (HasVector parts new vectors) (λ s p k. record { vector = k.vector; there = k.there; is = vector_stays parts old new s k.vector.items grows k.is })
    args places (have f args is)

-- one class more
pub class_found : (terms : List Tree) (classes : List ℕ) (t : Tree) (o : Option ℕ) (place class : ℕ) → o ≡ Some place → MatchOption o (In t terms → ⊥) (λ k. StandsAt terms t k)
    → place < length classes → class ≡ slice_index_or classes place 0 → HasClass terms classes t class
class_found terms classes t o place class is found within there = record {
  place = place;
  stands = subst (λ p. MatchOption p (In t terms → ⊥) (λ k. StandsAt terms t k)) is found;
  is = slice_get-get_or classes place 0 within ∙ ap Some (sym there);
}

pub class_within : (terms args : List Tree) (classes : List ℕ) (at : ℕ) (t : Tree) (o : Option ℕ) (place : ℕ) → Each (IsPlaced terms classes) args → at < length args
    → t ≡ slice_index_or args at t → o ≡ Some place → MatchOption o (In t terms → ⊥) (λ k. StandsAt terms t k) → place < length classes
class_within terms args classes at t o place all less there is found =
    (each_at (IsPlaced terms classes) args at t all less there).within place (subst (λ p. MatchOption p (In t terms → ⊥) (λ k. StandsAt terms t k)) is found)

pub always_found : (terms args : List Tree) (classes : List ℕ) (at : ℕ) (t : Tree) (o : Option ℕ) → Each (IsPlaced terms classes) args → at < length args → t ≡ slice_index_or args at t → o ≡ None
    → MatchOption o (In t terms → ⊥) (λ k. StandsAt terms t k) → ⊥
always_found terms args classes at t o all less there is found =
    let none : In t terms → ⊥ = subst (λ p. MatchOption p (In t terms → ⊥) (λ k. StandsAt terms t k)) is found in
    none (each_at (IsPlaced terms classes) args at t all less there).there

pub classes_next : (terms args : List Tree) (classes : List ℕ) (at : ℕ) (t : Tree) (class : ℕ) (found more : List ℕ) → at < length args → t ≡ slice_index_or args at t
    → Both (HasClass terms classes) (take at args) found → HasClass terms classes t class → more ≡ found ++ class ∷ [] → Both (HasClass terms classes) (take (at + 1) args) more
classes_next terms args classes at t class found more less there both is grows =
    subst (Both (HasClass terms classes) (take (at + 1) args)) (sym grows)
    (subst (λ l. Both (HasClass terms classes) l (found ++ class ∷ [])) (sym (take_next args at t less there))
    (both_more (HasClass terms classes) (take at args) found t class both is))

-- One argument's id more

pub row_next : (vectors : List (Vec ℕ Global)) (test at d : ℕ) (classes : List ℕ) (row more : List ValueId) (v : Vec ℕ Global) (slice : List ℕ) → Each (IsRead vectors test) classes
    → take at row ≡ ids_at vectors test (take at classes) → at < length classes → at < length row → Some v ≡ slice_get vectors (slice_index_or classes at 0) → slice ≡ v.items
    → more ≡ slice_set row at (record { 0 = slice_index_or slice test d }) → take (at + 1) more ≡ ids_at vectors test (take (at + 1) classes)
row_next vectors test at d classes row more v slice reads so_far less within is own grows =
    let p = slice_index_or classes at 0 in
    let there : p ≡ slice_index_or classes at p = get_or_default classes at 0 p less in
    let read = each_at (IsRead vectors test) classes at p reads less there in
    let v_is : v ≡ read.vector = some_is (is ∙ read.there) in
    let items : slice ≡ read.vector.items = own ∙ ap (λ (w : Vec ℕ Global). w.items) v_is in
    let id : slice_index_or slice test d ≡ slice_index_or (slice_index_or (items_of vectors) p []) test 0
    = ap (λ l. slice_index_or l test d) items ∙ get_or_default read.vector.items test d 0 read.within ∙ ap (λ l. slice_index_or l test 0) (sym (vector_there vectors p read.vector read.there)) in
    ap (take (at + 1)) grows ∙ take_more_set row at (record { 0 = slice_index_or slice test d }) within
    ∙ ap₂ (λ l n. l ++ record { 0 = n } ∷ []) so_far id ∙ sym (map_push (id_at vectors test) (take at classes) p)
    ∙ ap (ids_at vectors test) (sym (take_next classes at p less there))

-- all of them
pub row_all : (vectors : List (Vec ℕ Global)) (test at : ℕ) (classes : List ℕ) (row : List ValueId) → at ≡ length classes → take at row ≡ ids_at vectors test (take at classes)
    → take (length classes) row ≡ ids_at vectors test classes
row_all vectors test at classes row end so_far =
    ap (λ n. take n row) (sym end) ∙ so_far ∙ ap (ids_at vectors test) (take_all classes at (let e = end in omega arith))

pub row_long : (n : ℕ) (row : List ValueId) → n ≤ length row → n ≡ length (take n row)
row_long zero row h = refl
row_long (suc n) [] h = absurd (omega arith)
row_long (suc n) (x ∷ row) h = ap suc (row_long n row (omega arith))

-- what a symbol gives of them is made in the bank
pub given_is_made : (parts : SigParts) (old new : List Tree) (f : SymId) (ids own : List ValueId) (r : Result ValueId EvalErr) → own ≡ ids → AreOf old ids → Grows old new
    → IfOk r (Gives parts new f own) → IfOk r (IsMadeIn (applied_value parts f old ids) new)
given_is_made parts old new f ids own (Ok v) same held grows gives =
    let kept = ids_keep old new grows ids held in
    record {
      held = gives.held;
      is = ap (λ ts. option_map (λ (m : Made). m.value) (applied parts f ts parts.settings.budget)) (sym kept.1) ∙ ap (applied_value parts f new) (sym same) ∙ gives.is;
    }
given_is_made parts old new f ids own (Err e) same held grows gives = gives

-- a class and a test of it are there
id_read : (vectors : List (Vec ℕ Global)) (test at : ℕ) (classes : List ℕ) → Each (IsRead vectors test) classes → at < length classes → IsRead vectors test (slice_index_or classes at 0)
id_read vectors test at classes reads less =
    let p = slice_index_or classes at 0 in each_at (IsRead vectors test) classes at p reads less (get_or_default classes at 0 p less)

pub always_read : (vectors : List (Vec ℕ Global)) (test at : ℕ) (classes : List ℕ) → Each (IsRead vectors test) classes → at < length classes
    → None ≡ slice_get vectors (slice_index_or classes at 0) → ⊥
always_read vectors test at classes reads less none =
    let read = id_read vectors test at classes reads less in
    let h : None ≡ Some read.vector = none ∙ read.there in
    cc

pub id_within : (vectors : List (Vec ℕ Global)) (test at : ℕ) (classes : List ℕ) (v : Vec ℕ Global) (slice : List ℕ) → Each (IsRead vectors test) classes → at < length classes
    → Some v ≡ slice_get vectors (slice_index_or classes at 0) → slice ≡ v.items → test < length slice
id_within vectors test at classes v slice reads less is own =
    let read = id_read vectors test at classes reads less in
    let v_is : v ≡ read.vector = some_is (is ∙ read.there) in
    subst (λ l. test < length l) (ap (λ (w : Vec ℕ Global). w.items) (sym v_is) ∙ sym own) read.within
