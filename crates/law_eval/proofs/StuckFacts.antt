-- Where an evaluation can't go on, no cost at which it ends is within what is left.
use Rattle.std.proofs.Common.{◌≡◌, ℕ, suc, ◌<◌, ◌≤◌, List, [], ◌∷◌, length, map, Option, Some, None, slice_get, option_map, refl, sym, ap, subst, ◌∙◌, arith}
use Rattle.std.proofs.lemmas.Option.{slice_get-map}
use Rattle.law_sig.specs.Relation.{Named, Applies}
use Rattle.law_sig.specs.declared.tree.SymId.{SymId}
use Rattle.law_sig.specs.declared.tree.Tree.{Tree}
use Rattle.law_sig.specs.declared.tree.Body.{Body}
use Rattle.law_sig.specs.declared.tree.Body.TheOpen as b
use Rattle.law_sig.specs.declared.tree.Body.TheViews.{out-Body}
use Rattle.law_sig.specs.declared.parts.SigParts.{SigParts}
use Rattle.law_ids.specs.declared.ids.ValueId.{ValueId}
use Rattle.law_ids.specs.Values.{tree_of, trees_of}
use Rattle.law_eval.specs.Work.{Running, Ids, IsFirst, LacksRow}
use Rattle.law_eval.specs.Work.Todo.{eval, build, apply}
use Rattle.law_eval.specs.Runs.{IsMade, AfterRow, Finishes, Stuck, matched_fields, named_of, seen}
use Rattle.law_eval.specs.Took.{on_top, LacksRows}
use Rattle.law_laws.proofs.Application.{costs_something}
use Rattle.law_eval.proofs.Parts.{field_parts, param_parts}

length_trees : (bank : List Tree) (row : List ValueId) → length (trees_of bank row) ≡ length row
length_trees bank [] = refl
length_trees bank (v ∷ row) = ap suc (length_trees bank row)

none_is_some : {A : Type 0} {x : A} → ◌≡◌ {A = Option A} None (Some x) → ⊥
none_is_some e = cc

-- a field that the running function doesn't have
pub field_stuck : (parts : SigParts) (bank : List Tree) (body : Body) (ids : Ids) (number : ℕ) → out-Body body ≡ b.Field number
    → ((frame : Running) → IsFirst ids.frames frame → slice_get (matched_fields bank frame.matched) number ≡ None) → Stuck parts (seen bank (on_top (eval body) ids))
field_stuck parts bank body ids number o lacks v cost e = by (map (trees_of bank) ids.rows) ids.frames lacks e
  where
    by : (rows : List (List Tree)) (frames : List Running) → ((frame : Running) → IsFirst frames frame → slice_get (matched_fields bank frame.matched) number ≡ None)
        → Finishes parts v (eval body ∷ ids.tasks) rows (map (named_of bank) frames) cost → ids.left < cost
    by [] frames lacks e = absurd e
    by (row ∷ rows) [] lacks e = absurd e
    by (row ∷ rows) (frame ∷ frames) lacks e =
        absurd (none_is_some (sym (lacks frame (record { others = frames; is = refl })) ∙ (field_parts parts number o e.gives).0))

-- an argument that it doesn't have
pub param_stuck : (parts : SigParts) (bank : List Tree) (body : Body) (ids : Ids) (number : ℕ) → out-Body body ≡ b.Param number
    → ((frame : Running) → IsFirst ids.frames frame → slice_get frame.params number ≡ None) → Stuck parts (seen bank (on_top (eval body) ids))
param_stuck parts bank body ids number o lacks v cost e = by (map (trees_of bank) ids.rows) ids.frames lacks e
  where
    by : (rows : List (List Tree)) (frames : List Running) → ((frame : Running) → IsFirst frames frame → slice_get frame.params number ≡ None)
        → Finishes parts v (eval body ∷ ids.tasks) rows (map (named_of bank) frames) cost → ids.left < cost
    by [] frames lacks e = absurd e
    by (row ∷ rows) [] lacks e = absurd e
    by (row ∷ rows) (frame ∷ frames) lacks e =
        absurd (none_is_some (sym (ap (option_map (tree_of bank)) (lacks frame (record { others = frames; is = refl })))
        ∙ sym (slice_get-map (tree_of bank) frame.params number) ∙ (param_parts parts number o e.gives).0))

-- A row that can't be taken

lacks_stuck : (gives : List Tree → Tree → ℕ → Type 0) → ((row : List Tree) (v : Tree) (c : ℕ) → gives row v c → 1 ≤ c)
    → (bank : List Tree) (count : ℕ) (rest : List (List Tree) → List Named → ℕ → Type 0) (ids : Ids) → LacksRows ids count
    → (named : List Named) (cost : ℕ) → AfterRow gives count rest (map (trees_of bank) ids.rows) named cost → ids.left < cost
lacks_stuck gives costs bank count rest ids lacks named cost e = by ids.rows refl e
  where
    by : (rows : List (List ValueId)) → ids.rows ≡ rows → AfterRow gives count rest (map (trees_of bank) rows) named cost → ids.left < cost
    by [] k e = absurd e
    by (row ∷ []) k e = absurd e
    by (row ∷ below ∷ rows) k e =
        let none : ids.left ≡ 0 = lacks row below rows k (sym (length_trees bank row) ∙ e.0) in
        let some : 1 ≤ e.1.spent = costs (trees_of bank row) e.1.given e.1.spent e.1.gives in
        omega (arith, e.1.sum)

pub build_stuck : (parts : SigParts) (bank : List Tree) (f : SymId) (count : ℕ) (ids : Ids) → LacksRows ids count → Stuck parts (seen bank (on_top (build f count) ids))
build_stuck parts bank f count ids lacks v cost e =
    lacks_stuck (IsMade f) (λ row w c made. omega (arith, made.one)) bank count (Finishes parts v ids.tasks) ids lacks (map (named_of bank) ids.frames) cost e

pub apply_stuck : (parts : SigParts) (bank : List Tree) (f : SymId) (count : ℕ) (ids : Ids) → LacksRows ids count → Stuck parts (seen bank (on_top (apply f count) ids))
apply_stuck parts bank f count ids lacks v cost e =
    lacks_stuck (Applies parts f) (λ row w c applied. costs_something parts applied) bank count (Finishes parts v ids.tasks) ids lacks (map (named_of bank) ids.frames) cost e

pub no_row : (ids : Ids) (count : ℕ) → LacksRow ids count → LacksRows ids count
no_row ids count lacks row below rows e fits = absurd (lacks row (below ∷ rows) e fits)

-- a symbol that gives nothing of the first row
pub gives_none : (parts : SigParts) (bank : List Tree) (f : SymId) (count : ℕ) (ids : Ids) (row : List ValueId) (others : List (List ValueId)) → ids.rows ≡ row ∷ others
    → ((v : Tree) (c : ℕ) → Applies parts f (trees_of bank row) v c → ⊥) → Stuck parts (seen bank (on_top (apply f count) ids))
gives_none parts bank f count ids row others is none v cost e = by others (subst (λ l. Finishes parts v (apply f count ∷ ids.tasks) (map (trees_of bank) l) (map (named_of bank) ids.frames) cost) is e)
  where
    by : (others : List (List ValueId)) → Finishes parts v (apply f count ∷ ids.tasks) (map (trees_of bank) (row ∷ others)) (map (named_of bank) ids.frames) cost → ids.left < cost
    by [] e = absurd e
    by (below ∷ others) e = absurd (none e.1.given e.1.spent e.1.gives)
