-- What an evaluation under way will give: a value at a cost, where it ends.
use Rattle.std.specs.Prelude.{◌≡◌, ℕ, ◌+◌, ◌<◌, List, [], ◌∷◌, ◌++◌, length, map, Option, Some, None, slice_get}
use Rattle.law_sig.specs.Relation.{Named, Gives, GiveAll, Applies}
use Rattle.law_sig.specs.declared.tree.SymId.{SymId}
use Rattle.law_sig.specs.declared.tree.Tree.{Tree}
use Rattle.law_sig.specs.declared.tree.Tree.TheVariants.{App}
use Rattle.law_sig.specs.declared.tree.Body.{Body}
use Rattle.law_sig.specs.declared.parts.SigParts.{SigParts}
use Rattle.law_ids.specs.declared.ids.ValueId.{ValueId}
use Rattle.law_ids.specs.Values.{tree_of, trees_of, fields_of}
use Rattle.law_eval.specs.Work.{Todo, Running, Ids}
use Rattle.law_eval.specs.Work.Todo.{eval, each, build, apply, leave}

-- the same by trees
pub record State : Type 0 where
  pub tasks : List Todo
  pub rows : List (List Tree)
  pub named : List Named
  pub left : ℕ

-- the fields of the matched value, and none where there is no match
abbrev pub matched_fields : List Tree → Option ValueId → List Tree
matched_fields bank None = []
matched_fields bank (Some v) = fields_of (tree_of bank v)

abbrev pub named_of : List Tree → Running → Named
named_of bank frame = record { fields = matched_fields bank frame.matched; params = trees_of bank frame.params }

abbrev pub seen : List Tree → Ids → State
seen bank ids = record { tasks = ids.tasks; rows = map (trees_of bank) ids.rows; named = map (named_of bank) ids.frames; left = ids.left }

-- something is given at a cost, and with it what is left to do ends at the rest of the cost
pub record Then {A : Type 0} (how next : A → ℕ → Type 0) (cost : ℕ) : Type 0 where
  pub given : A
  pub spent : ℕ
  pub later : ℕ
  pub gives : how given spent
  pub ends : next given later
  pub sum : cost ≡ spent + later

-- what a constructor makes of these fields, at cost 1
pub record IsMade (f : SymId) (fields : List Tree) (v : Tree) (cost : ℕ) : Type 0 where
  pub value : v ≡ App f fields
  pub one : cost ≡ 1

-- Each task, and how what follows it ends: by the rows, the functions that run, and the cost

-- the first row gets the value of a body of the function that runs
abbrev pub AfterBody : SigParts → Body → (List (List Tree) → List Named → ℕ → Type 0) → List (List Tree) → List Named → ℕ → Type 0
AfterBody parts body rest [] named cost = ⊥
AfterBody parts body rest (row ∷ rows) [] cost = ⊥
AfterBody parts body rest (row ∷ rows) (n ∷ named) cost = Then (Gives parts n body) (λ v later. rest ((row ++ v ∷ []) ∷ rows) (n ∷ named) later) cost

-- it gets the values of all these
abbrev pub AfterBodies : SigParts → List Body → (List (List Tree) → List Named → ℕ → Type 0) → List (List Tree) → List Named → ℕ → Type 0
AfterBodies parts bodies rest [] named cost = ⊥
AfterBodies parts bodies rest (row ∷ rows) [] cost = ⊥
AfterBodies parts bodies rest (row ∷ rows) (n ∷ named) cost = Then (GiveAll parts n bodies) (λ vs later. rest ((row ++ vs) ∷ rows) (n ∷ named) later) cost

-- the first row, of so many values, goes, and the one below it gets what is given of it
abbrev pub AfterRow : (List Tree → Tree → ℕ → Type 0) → ℕ → (List (List Tree) → List Named → ℕ → Type 0) → List (List Tree) → List Named → ℕ → Type 0
AfterRow gives count rest [] named cost = ⊥
AfterRow gives count rest (row ∷ []) named cost = ⊥
AfterRow gives count rest (row ∷ below ∷ rows) named cost = (length row ≡ count) × Then (gives row) (λ v later. rest ((below ++ v ∷ []) ∷ rows) named later) cost

-- a function ends
abbrev pub AfterLeave : (List (List Tree) → List Named → ℕ → Type 0) → List (List Tree) → List Named → ℕ → Type 0
AfterLeave rest rows [] cost = ⊥
AfterLeave rest rows (n ∷ named) cost = rest rows named cost

abbrev pub After : SigParts → Todo → (List (List Tree) → List Named → ℕ → Type 0) → List (List Tree) → List Named → ℕ → Type 0
After parts (eval body) rest rows named cost = AfterBody parts body rest rows named cost
After parts (each bodies) rest rows named cost = AfterBodies parts bodies rest rows named cost
After parts (build f count) rest rows named cost = AfterRow (IsMade f) count rest rows named cost
After parts (apply f count) rest rows named cost = AfterRow (Applies parts f) count rest rows named cost
After parts leave rest rows named cost = AfterLeave rest rows named cost

-- at the end the first row has the value
abbrev pub AtEnd : Tree → List (List Tree) → ℕ → Type 0
AtEnd v [] cost = ⊥
AtEnd v (row ∷ rows) cost = (slice_get row 0 ≡ Some v) × (cost ≡ 0)

-- what is left to do ends with this value, at this cost
abbrev pub Finishes : SigParts → Tree → List Todo → List (List Tree) → List Named → ℕ → Type 0
Finishes parts v [] rows named cost = AtEnd v rows cost
Finishes parts v (task ∷ tasks) rows named cost = After parts task (Finishes parts v tasks) rows named cost

abbrev pub Ends : SigParts → State → Tree → ℕ → Type 0
Ends parts s v cost = Finishes parts v s.tasks s.rows s.named cost

-- one state leads to another for so much of the budget: they end alike, at costs that differ by it
pub record Steps (parts : SigParts) (s t : State) : Type 0 where
  pub spent : ℕ
  pub pays : s.left ≡ t.left + spent
  pub on : (v : Tree) (cost : ℕ) → Ends parts s v cost → (later : ℕ) × Ends parts t v later × (cost ≡ later + spent)
  pub back : (v : Tree) (later : ℕ) → Ends parts t v later → Ends parts s v (later + spent)

-- what is left of the budget is less than any cost at which the state ends
abbrev pub Stuck : SigParts → State → Type 0
Stuck parts s = (v : Tree) (cost : ℕ) → Ends parts s v cost → s.left < cost
