-- What an evaluation that begins with one application says of it.
use Rattle.std.proofs.Common.{◌≡◌, ℕ, suc, ◌+◌, ◌-◌, ◌<◌, List, [], ◌∷◌, length, Option, Some, None, slice_get, option_map, refl, sym, ap, subst, subst₂, ◌∙◌, arith}
use Rattle.std.proofs.lemmas.Option.{slice_get-map}
use Rattle.law_sig.specs.Evaluate.{ap as applied}
use Rattle.law_sig.specs.Relation.{Applies}
use Rattle.law_sig.specs.declared.tree.SymId.{SymId}
use Rattle.law_sig.specs.declared.tree.Tree.{Tree}
use Rattle.law_sig.specs.declared.parts.SigParts.{SigParts}
use Rattle.law_laws.proofs.Application.{gives_ap, costs_over}
use Rattle.law_ids.specs.declared.ids.ValueId.{ValueId}
use Rattle.law_ids.specs.Values.{IsOf, AreOf, tree_of, trees_of}
use Rattle.law_eval.specs.Work.{Todo, Ids, IsAnswer}
use Rattle.law_eval.specs.Work.Todo.{apply}
use Rattle.law_eval.specs.Runs.{Ends, Stuck, seen}
use Rattle.law_eval.specs.Took.{IsSound, IsRun}

-- the work of one application
abbrev pub asked : SymId → ℕ → List ValueId → ℕ → Ids
asked f count args budget = record { tasks = apply f count ∷ []; rows = args ∷ ([] ∷ []); frames = []; left = budget }

pub asked_sound : (bank : List Tree) (f : SymId) (count : ℕ) (args : List ValueId) (budget : ℕ) → AreOf bank args → IsSound bank (asked f count args budget)
asked_sound bank f count args budget held = record { tasks = (tt, tt); rows = (held, (tt, tt)); frames = tt }

length_trees : (bank : List Tree) (row : List ValueId) → length (trees_of bank row) ≡ length row
length_trees bank [] = refl
length_trees bank (v ∷ row) = ap suc (length_trees bank row)

applies_ends : (parts : SigParts) (bank : List Tree) (f : SymId) (args : List ValueId) (budget : ℕ) (v : Tree) (c : ℕ) → Applies parts f (trees_of bank args) v c
    → Ends parts (seen bank (asked f (length args) args budget)) v c
applies_ends parts bank f args budget v c applies =
    (length_trees bank args, record { given = v; spent = c; later = 0; gives = applies; ends = (refl, refl); sum = omega arith })

ends_applies : (parts : SigParts) (bank : List Tree) (f : SymId) (args : List ValueId) (budget : ℕ) (v : Tree) (c : ℕ)
    → Ends parts (seen bank (asked f (length args) args budget)) v c → Applies parts f (trees_of bank args) v c
ends_applies parts bank f args budget v c e =
    let t = e.1 in
    let value : t.given ≡ v = some_tree t.given v t.ends.0 in
    let cost : t.spent ≡ c = omega (arith, t.sum, t.ends.1) in
    subst₂ (λ w k. Applies parts f (trees_of bank args) w k) value cost t.gives
  where
    some_tree : (x y : Tree) → ◌≡◌ {A = Option Tree} (Some x) (Some y) → x ≡ y
    some_tree x y e = cc

-- a stuck evaluation: no value is given within the budget
pub over : (parts : SigParts) (bank : List Tree) (f : SymId) (args : List ValueId) (budget : ℕ) → Stuck parts (seen bank (asked f (length args) args budget))
    → applied parts f (trees_of bank args) budget ≡ None
over parts bank f args budget stuck = costs_over parts f (trees_of bank args) budget (λ v c applies. stuck v c (applies_ends parts bank f args budget v c applies))

-- what is left to do is nothing, and there is no answer
pub no_answer : (parts : SigParts) (bank : List Tree) (ids : Ids) → ids.tasks ≡ [] → ((value : ValueId) → IsAnswer ids value → ⊥) → Stuck parts (seen bank ids)
no_answer parts bank ids done none v c e = by ids.rows refl (subst (λ (l : List Todo). Ends parts (seen bank (record ids { tasks = l })) v c) done e)
  where
    item : (row : List ValueId) → ids.left ≡ ids.left → (slice_get (trees_of bank row) 0 ≡ Some v) → (value : ValueId) × (slice_get row 0 ≡ Some value)
    item [] h e = cc
    item (value ∷ row) h e = (value, refl)

    by : (rows : List (List ValueId)) → ids.rows ≡ rows → Ends parts (seen bank (record ids { tasks = []; rows = rows })) v c → ids.left < c
    by [] k e = absurd e
    by (row ∷ rows) k e = let found = item row refl e.0 in absurd (none found.0 (record { row = row; rows = rows; is = k; first = found.1 }))

-- an answer is the value, and what was paid is the cost
pub answered : (parts : SigParts) (bank bank' : List Tree) (f : SymId) (args : List ValueId) (budget : ℕ) (ids : Ids) (value : ValueId) (cost : ℕ)
    → IsRun parts bank (asked f (length args) args budget) bank' ids → ids.tasks ≡ [] → IsAnswer ids value → cost ≡ budget - ids.left
    → applied parts f (trees_of bank args) budget ≡ Some (record { value = tree_of bank' value; cost = cost })
answered parts bank bank' f args budget ids value cost run done answer is =
    let first : slice_get (trees_of bank' answer.row) 0 ≡ Some (tree_of bank' value) = slice_get-map (tree_of bank') answer.row 0 ∙ ap (option_map (tree_of bank')) answer.first in
    let end : Ends parts (seen bank' (record ids { tasks = []; rows = answer.row ∷ answer.rows })) (tree_of bank' value) 0 = (first, refl) in
    let ends : Ends parts (seen bank' ids) (tree_of bank' value) 0 =
    subst₂ (λ (l : List Todo) (r : List (List ValueId)). Ends parts (seen bank' (record ids { tasks = l; rows = r })) (tree_of bank' value) 0) (sym done) (sym answer.is) end in
    let applies = ends_applies parts bank f args budget (tree_of bank' value) (0 + run.steps.spent) (run.steps.back (tree_of bank' value) 0 ends) in
    let paid : 0 + run.steps.spent ≡ cost = omega (arith, run.steps.pays, is) in
    subst (λ k. applied parts f (trees_of bank args) budget ≡ Some (record { value = tree_of bank' value; cost = k })) paid
    (gives_ap parts budget applies (omega (arith, run.steps.pays)))

-- the answer's id is of the bank
pub answer_held : (bank : List Tree) (ids : Ids) (value : ValueId) → IsSound bank ids → IsAnswer ids value → IsOf bank value
answer_held bank ids value sound answer = by answer.row answer.first (subst (λ (r : List (List ValueId)). Rattle.law_sig.specs.Lists.Each (AreOf bank) r) answer.is sound.rows).0
  where
    by : (row : List ValueId) → slice_get row 0 ≡ Some value → AreOf bank row → IsOf bank value
    by [] e held = cc
    by (v ∷ row) e held = let is : v ≡ value = cc in subst (IsOf bank) is held.0
