-- What an evaluator knows, in a bank that grows.
use Rattle.std.proofs.Common.{◌≡◌, ℕ, zero, suc, ◌+◌, ◌<◌, ◌≤◌, ◌++◌, take, slice_index_or, slice_set, Option, Some, None, IfSome, Result, Ok, Err, IfOk, List, [], ◌∷◌, length, option_map, sym, refl, ap, ap₂, ◌∙◌, subst, arith}
use Rattle.std.proofs.lemmas.List.{take_more_set}
use Rattle.law_sig.specs.Evaluate.{Made, ap as applied}
use Rattle.law_sig.specs.WellFormed.{IsWellFormed}
use Rattle.law_sig.specs.declared.tree.SymId.{SymId}
use Rattle.law_sig.specs.declared.tree.Tree.{Tree}
use Rattle.law_sig.specs.declared.tree.Tree.TheVariants.{App}
use Rattle.law_sig.specs.declared.parts.SigParts.{SigParts}
use Rattle.law_ids.specs.declared.ids.ValueId.{ValueId}
use Rattle.law_ids.specs.Values.{IsOf, AreOf, tree_of, trees_of, Grows}
use Rattle.law_eval.specs.declared.error.EvalErr.{EvalErr}
use Rattle.law_ids.proofs.Reading.{id_keeps, ids_keep, each_at, take_next}
use Rattle.law_test.specs.declared.memo.Key.{Key}
use Rattle.law_test.specs.declared.memo.Known.{Known}
use Rattle.law_testing.specs.Values.{IsTestable, IsValue, Both, val_by, applied_value}
use Rattle.law_test.specs.Memo.{Gives, row_of, IsRight, AreRight}
use Rattle.law_testing.proofs.BothFacts.{both_more, both_map}
use Rattle.law_testing.proofs.Testing.{value_stays, few_args, HasValues}

-- What is known stays when the bank grows

pub gives_stays : (parts : SigParts) (old new : List Tree) (f : SymId) (ids : List ValueId) (v : ValueId) → Grows old new → Gives parts old f ids v → Gives parts new f ids v
gives_stays parts old new f ids v grows g =
    let row = ids_keep old new grows ids g.row in
    let value = id_keeps old new grows v g.held in
    record {
      row = row.0;
      held = value.0;
      is = ap (λ ts. option_map (λ (m : Made). m.value) (applied parts f ts parts.settings.budget)) row.1 ∙ g.is ∙ ap Some (sym value.1);
    }

pub right_stay : (parts : SigParts) (old new : List Tree) (places : List (Option Known)) → Grows old new → AreRight parts old places → AreRight parts new places
right_stay parts old new [] grows right = tt
right_stay parts old new (None ∷ places) grows right = (right.0, right_stay parts old new places grows right.1)
right_stay parts old new (Some k ∷ places) grows right =
    (gives_stays parts old new k.key.sym (row_of k.key) k.value grows right.0, right_stay parts old new places grows right.1)

-- Places

pub right_more : (parts : SigParts) (bank : List Tree) (places more : List (Option Known)) → more ≡ places ++ None ∷ [] → AreRight parts bank places → AreRight parts bank more
right_more parts bank places more is right = subst (AreRight parts bank) (sym is) (all places right)
  where
    all : (xs : List (Option Known)) → AreRight parts bank xs → AreRight parts bank (xs ++ None ∷ [])
    all [] h = (tt, tt)
    all (x ∷ xs) h = (h.0, all xs h.1)

pub right_set : (parts : SigParts) (bank : List Tree) (places : List (Option Known)) (at : ℕ) (known : Known) → AreRight parts bank places → IsRight parts bank known
    → AreRight parts bank (slice_set places at (Some known))
right_set parts bank places at known right is = all places at right
  where
    all : (xs : List (Option Known)) (i : ℕ) → AreRight parts bank xs → AreRight parts bank (slice_set xs i (Some known))
    all [] i h = tt
    all (x ∷ xs) zero h = (is, h.1)
    all (x ∷ xs) (suc i) h = (h.0, all xs i h.1)

pub right_at : (parts : SigParts) (bank : List Tree) (places : List (Option Known)) (at : ℕ) (o : Option Known) (known : Known) → AreRight parts bank places → at < length places
    → o ≡ slice_index_or places at o → o ≡ Some known → IsRight parts bank known
right_at parts bank places at o known right less there is =
    subst (λ p. IfSome p (IsRight parts bank)) is (each_at (λ (p : Option Known). IfSome p (IsRight parts bank)) places at o right less there)

-- Keys

pub same_key : (a b : Key) → a.sym.0 ≡ b.sym.0 → a.count ≡ b.count → a.first ≡ b.first → a.second ≡ b.second → a.third ≡ b.third → a ≡ b
same_key a b f n x y z =
    let named : a.sym ≡ b.sym = ap (λ k. let s : SymId = record { 0 = k } in s) f in
    let one : a ≡ record a { sym = b.sym } = ap (λ s. let k : Key = record { sym = s; count = a.count; first = a.first; second = a.second; third = a.third } in k) named in
    let two : record a { sym = b.sym } ≡ record a { sym = b.sym; count = b.count } =
    ap (λ c. let k : Key = record { sym = b.sym; count = c; first = a.first; second = a.second; third = a.third } in k) n in
    let three : record a { sym = b.sym; count = b.count } ≡ record b { second = a.second; third = a.third } =
    ap (λ v. let k : Key = record { sym = b.sym; count = b.count; first = v; second = a.second; third = a.third } in k) x in
    let four : record b { second = a.second; third = a.third } ≡ b =
    ap₂ (λ v w. let k : Key = record { sym = b.sym; count = b.count; first = b.first; second = v; third = w } in k) y z in
    one ∙ two ∙ three ∙ four

pub known_gives : (parts : SigParts) (bank : List Tree) (key : Key) (f : SymId) (ids : List ValueId) (v : ValueId) → key.sym ≡ f → row_of key ≡ ids
    → IsRight parts bank (record { key = key; value = v }) → Gives parts bank f ids v
known_gives parts bank key f ids v named row right =
    subst (λ r. Gives parts bank f r v) row (subst (λ s. Gives parts bank s (row_of key) v) named right)

pub gives_known : (parts : SigParts) (bank : List Tree) (key : Key) (f : SymId) (ids : List ValueId) (v : ValueId) → key.sym ≡ f → row_of key ≡ ids
    → Gives parts bank f ids v → IsRight parts bank (record { key = key; value = v })
gives_known parts bank key f ids v named row gives =
    subst (λ s. Gives parts bank s (row_of key) v) (sym named) (subst (λ r. Gives parts bank f r v) (sym row) gives)

-- An application

pub gives_made : (parts : SigParts) (old new : List Tree) (f : SymId) (ids : List ValueId) (budget cost : ℕ) (v : ValueId) → AreOf old ids → Grows old new
    → budget ≡ parts.settings.budget → IsOf new v → applied parts f (trees_of old ids) budget ≡ Some (record { value = tree_of new v; cost = cost })
    → Gives parts new f ids v
gives_made parts old new f ids budget cost v held grows is of e =
    let row = ids_keep old new grows ids held in
    record {
      row = row.0;
      held = of;
      is = ap (λ ts. option_map (λ (m : Made). m.value) (applied parts f ts parts.settings.budget)) row.1
          ∙ ap (λ b. option_map (λ (m : Made). m.value) (applied parts f (trees_of old ids) b)) (sym is)
          ∙ ap (option_map (λ (m : Made). m.value)) e;
    }

pub made_over : (parts : SigParts) (old : List Tree) (f : SymId) (ids : List ValueId) (budget : ℕ) → budget ≡ parts.settings.budget
    → applied parts f (trees_of old ids) budget ≡ None → applied_value parts f old ids ≡ None
made_over parts old f ids budget is e =
    ap (λ b. option_map (λ (m : Made). m.value) (applied parts f (trees_of old ids) b)) (sym is) ∙ ap (option_map (λ (m : Made). m.value)) e

-- A row of values

pub few_here : (parts : SigParts) → IsWellFormed parts → (term : Tree) (f : SymId) (args own : List Tree) → term ≡ App f args → IsTestable parts term → own ≡ args → length own ≤ 8
few_here parts well term f args own is testable same =
    subst (λ l. length l ≤ 8) (sym same) (few_args parts well f args (subst (IsTestable parts) is testable))

-- one value more stands in the row
pub row_next : (parts : SigParts) (old new : List Tree) (test : ℕ) (args : List Tree) (at : ℕ) (t : Tree) (row more : List ValueId) (v : ValueId)
    → Both (IsValue parts old test) (take at args) (take at row) → Grows old new → at < length args → t ≡ slice_index_or args at t → at < length row
    → IsValue parts new test t v → more ≡ slice_set row at v → Both (IsValue parts new test) (take (at + 1) args) (take (at + 1) more)
row_next parts old new test args at t row more v both grows less there within is e =
    subst (λ r. Both (IsValue parts new test) (take (at + 1) args) (take (at + 1) r)) (sym e)
    (subst (Both (IsValue parts new test) (take (at + 1) args)) (sym (take_more_set row at v within))
    (subst (λ l. Both (IsValue parts new test) l (take at row ++ v ∷ [])) (sym (take_next args at t less there))
    (both_more (IsValue parts new test) (take at args) (take at row) t v
    (both_map (IsValue parts old test) (IsValue parts new test) (λ s w k. value_stays parts old new test s w grows k) (take at args) (take at row) both) is)))

-- the term's value by what its symbol gives of them
pub given_value : (parts own : SigParts) (old new : List Tree) (test : ℕ) (term : Tree) (f : SymId) (ids : List ValueId) (v : ValueId) → own ≡ parts → Grows old new
    → HasValues parts old test term f ids → Gives own new f ids v → IsValue parts new test term v
given_value parts own old new test term f ids v same grows values gives =
    let g : Gives parts new f ids v = subst (λ p. Gives p new f ids v) same gives in
    let row = ids_keep old new grows ids values.held in
    record {
      held = g.held;
      is = values.value ∙ ap (λ ts. option_map (λ (m : Made). m.value) (applied parts f ts parts.settings.budget)) (sym row.1) ∙ g.is;
    }

pub given_none : (parts own : SigParts) (old : List Tree) (test : ℕ) (term : Tree) (f : SymId) (ids : List ValueId) → own ≡ parts
    → HasValues parts old test term f ids → applied_value own f old ids ≡ None → val_by parts test term ≡ None
given_none parts own old test term f ids same values none = values.value ∙ subst (λ p. applied_value p f old ids ≡ None) same none

pub taken_long : (n : ℕ) (row : List ValueId) → n ≤ length row → n ≡ length (take n row)
taken_long zero row h = refl
taken_long (suc n) [] h = absurd (omega arith)
taken_long (suc n) (x ∷ row) h = ap suc (taken_long n row (omega arith))

-- a result that is good is so in another sense
pub if_ok : (P Q : ValueId → Type 0) (result : Result ValueId EvalErr) → ((v : ValueId) → P v → Q v) → IfOk result P → IfOk result Q
if_ok P Q (Ok v) f h = f v h
if_ok P Q (Err e) f h = tt
