-- An evaluation under way, as contracts see it: by ids, and by the trees that these have in the bank.
use Rattle.std.specs.Prelude.{◌≡◌, ℕ, List, [], ◌∷◌, ◌++◌, length, Option, Some, slice_get}
use Rattle.law_sig.specs.declared.tree.SymId.{SymId}
use Rattle.law_sig.specs.declared.tree.Body.{Body}
use Rattle.law_ids.specs.declared.ids.ValueId.{ValueId}
use Rattle.law_ids.specs.Tops.{tops}
use Rattle.law_eval.specs.declared.work.Task.{Task}
use Rattle.law_eval.specs.declared.work.Task.TheVariants as task
use Rattle.law_eval.specs.declared.work.Frame.{Frame}
use Rattle.law_eval.specs.declared.work.Work.{Work}

-- something that is left to do
pub data Todo : Type 0 where
  eval : Body → Todo
  each : List Body → Todo
  build : SymId → ℕ → Todo
  apply : SymId → ℕ → Todo
  leave : Todo

abbrev pub todo_of : Task → Todo
todo_of (task.Eval body) = eval body.now
todo_of (task.Each bodies) = each bodies.now
todo_of (task.Build f count) = build f count
todo_of (task.Apply f count) = apply f count
todo_of task.Leave = leave

-- a function that runs
pub record Running : Type 0 where
  pub matched : Option ValueId
  pub params : List ValueId

-- all that is under way, by ids; what comes next stands first in each list
pub record Ids : Type 0 where
  pub tasks : List Todo
  pub rows : List (List ValueId)
  pub frames : List Running
  pub left : ℕ

abbrev pub running : Frame → Running
running frame = record { matched = frame.matched; params = frame.params.items }

abbrev pub ids_of : Work → Ids
ids_of work = record {
  tasks = tops todo_of work.tasks.items;
  rows = tops (λ row. row.items) work.rows.items;
  frames = tops running work.frames.items;
  left = work.left;
}

-- a value stands at the end of the row that comes next, and nothing else has changed
pub record IsAdded (old : Ids) (value : ValueId) (new : Ids) : Type 0 where
  pub row : List ValueId
  pub rows : List (List ValueId)
  pub before : old.rows ≡ row ∷ rows
  pub after : new ≡ record old { rows = (row ++ value ∷ []) ∷ rows }

-- a row of so many values was taken
pub record IsTaken (old : Ids) (row : List ValueId) (count : ℕ) (new : Ids) : Type 0 where
  pub before : old ≡ record new { rows = row ∷ new.rows }
  pub fits : length row ≡ count

-- the row that comes next, if there is one, has another number of values
abbrev pub LacksRow : Ids → ℕ → Type 0
LacksRow ids count = (row : List ValueId) (rows : List (List ValueId)) → ids.rows ≡ row ∷ rows → length row ≡ count → ⊥

-- the function that ran has ended
pub record IsLeft (old new : Ids) : Type 0 where
  pub frame : Running
  pub before : old ≡ record new { frames = frame ∷ new.frames }

-- this function runs
pub record IsFirst (frames : List Running) (frame : Running) : Type 0 where
  pub others : List Running
  pub is : frames ≡ frame ∷ others

-- what evaluating these bodies begins with
abbrev pub spread_out : List Body → List Todo → List Todo
spread_out [] more = more
spread_out (body ∷ bodies) more = eval body ∷ each bodies ∷ more

-- a row and a function are there, and the bodies are what comes next
pub record IsSpread (old : Ids) (bodies : List Body) (new : Ids) : Type 0 where
  pub row : List ValueId
  pub rows : List (List ValueId)
  pub frame : Running
  pub frames : List Running
  pub has_row : old.rows ≡ row ∷ rows
  pub has_frame : old.frames ≡ frame ∷ frames
  pub after : new ≡ record old { tasks = spread_out bodies old.tasks }

-- the value that the first row begins with
pub record IsAnswer (ids : Ids) (value : ValueId) : Type 0 where
  pub row : List ValueId
  pub rows : List (List ValueId)
  pub is : ids.rows ≡ row ∷ rows
  pub first : slice_get row 0 ≡ Some value
