-- What a step keeps, and by what it comes nearer to the end.
use Rattle.std.specs.Prelude.{◌≡◌, ℕ, ◌+◌, ◌-◌, ◌*◌, ◌<◌, ◌≤◌, List, [], ◌∷◌, ◌++◌, length, map, Option, Some, None}
use Rattle.law_sig.specs.Lists.{Each, total}
use Rattle.law_sig.specs.Bodies.{body_nodes}
use Rattle.law_sig.specs.Evaluate.{chosen}
use Rattle.law_sig.specs.declared.tree.SymId.{SymId}
use Rattle.law_sig.specs.declared.tree.Tree.{Tree}
use Rattle.law_sig.specs.declared.tree.Tree.TheVariants.{App}
use Rattle.law_sig.specs.declared.parts.Fun.{Fun}
use Rattle.law_sig.specs.declared.tree.Body.{Body}
use Rattle.law_sig.specs.declared.parts.SigParts.{SigParts}
use Rattle.law_ids.specs.declared.ids.ValueId.{ValueId}
use Rattle.law_ids.specs.Values.{IsOf, AreOf, tree_of, trees_of, Grows}
use Rattle.law_eval.specs.Work.{Todo, Running, Ids}
use Rattle.law_eval.specs.Work.Todo.{eval, each, build, apply, leave}
use Rattle.law_eval.specs.Runs.{seen, matched_fields, Steps}

-- the ids of a frame are of the bank
abbrev pub IsMatchedOf : List Tree → Option ValueId → Type 0
IsMatchedOf bank None = Unit {0}
IsMatchedOf bank (Some v) = IsOf bank v

pub record IsFrameOf (bank : List Tree) (frame : Running) : Type 0 where
  pub matched : IsMatchedOf bank frame.matched
  pub params : AreOf bank frame.params

-- the bodies of a task are no larger than those of a well-formed signature
abbrev pub IsSmall : Todo → Type 0
IsSmall (eval body) = body_nodes body ≤ 4096
IsSmall (each bodies) = total (map body_nodes bodies) ≤ 4096
IsSmall (build f count) = Unit {0}
IsSmall (apply f count) = Unit {0}
IsSmall leave = Unit {0}

-- all ids are of the bank, and all bodies are small
pub record IsSound (bank : List Tree) (ids : Ids) : Type 0 where
  pub tasks : Each IsSmall ids.tasks
  pub rows : Each (AreOf bank) ids.rows
  pub frames : Each (IsFrameOf bank) ids.frames

-- a bound of the steps that a task takes, the calls in it left out
abbrev pub weight_of : Todo → ℕ
weight_of (eval body) = 4 * body_nodes body - 1
weight_of (each bodies) = 4 * total (map body_nodes bodies) + 1
weight_of (build f count) = 1
weight_of (apply f count) = 1
weight_of leave = 1

-- a bound of all the steps that are left: a call costs 1, and begins a body of fewer than 16,384 steps
abbrev pub steps_left : Ids → ℕ
steps_left ids = 16384 * ids.left + total (map weight_of ids.tasks)

-- a step was taken
pub record Took (parts : SigParts) (bank bank' : List Tree) (s t : Ids) : Type 0 where
  pub steps : Steps parts (seen bank s) (seen bank' t)
  pub falls : steps_left t < steps_left s
  pub sound : IsSound bank' t

-- a task before all others
abbrev pub on_top : Todo → Ids → Ids
on_top task ids = record ids { tasks = task ∷ ids.tasks }

-- the body that a function takes, and the value that it matched
pub record IsChosen (parts : SigParts) (bank : List Tree) (fun : Fun) (args : List ValueId) (body : Body) (matched : Option ValueId) : Type 0 where
  pub is : chosen parts fun (trees_of bank args) ≡ Some (record { body = body; fields = matched_fields bank matched })
  pub of_bank : IsMatchedOf bank matched

-- the first row went, and the one below it has the value that a constructor makes of it, at cost 1
pub record IsBuilt (bank bank' : List Tree) (old : Ids) (f : SymId) (count : ℕ) (new : Ids) : Type 0 where
  pub row : List ValueId
  pub below : List ValueId
  pub rows : List (List ValueId)
  pub left : ℕ
  pub value : ValueId
  pub fits : length row ≡ count
  pub before : old.rows ≡ row ∷ below ∷ rows
  pub pays : old.left ≡ left + 1
  pub after : new ≡ record old { rows = (below ++ value ∷ []) ∷ rows; left = left }
  pub of_bank : IsOf bank' value
  pub tree : tree_of bank' value ≡ App f (trees_of bank row)

-- where there are two rows, and the first has so many values, nothing is left of the budget
abbrev pub LacksRows : Ids → ℕ → Type 0
LacksRows ids count = (row below : List ValueId) (rows : List (List ValueId)) → ids.rows ≡ row ∷ below ∷ rows → length row ≡ count → ids.left ≡ 0

-- what was done so far: one state has led to another, in a bank that has grown
pub record IsRun (parts : SigParts) (bank : List Tree) (old : Ids) (bank' : List Tree) (new : Ids) : Type 0 where
  pub steps : Steps parts (seen bank old) (seen bank' new)
  pub sound : IsSound bank' new
  pub grows : Grows bank bank'
