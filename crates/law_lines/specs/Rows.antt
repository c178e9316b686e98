-- What the readers of terms and of rows of terms say.
use Rattle.std.specs.Prelude.{◌≡◌, ℕ, ◌+◌, ◌<◌, ◌≤◌, Bool, true, false, List, [], ◌∷◌, ◌++◌, map, length, Option, Some, None}
use Rattle.std.specs.List.{list_all}
use Rattle.law_lines.specs.Pieces.{pieces}
use Rattle.law_lines.specs.declared.raw.RawHead.{RawHead}
use Rattle.law_lines.specs.declared.raw.RawTerm.{RawTerm}
use Rattle.law_lines.specs.declared.want.Want.{Want}
use Rattle.law_lines.specs.declared.want.Want.TheVariants as w
use Rattle.law_lines.specs.declared.want.Bounds.{Bounds}
use Rattle.law_lines.specs.declared.want.Bounds.TheVariants.{Kept}
use Rattle.law_lines.specs.declared.want.Place.{Place}
use Rattle.law_lines.specs.declared.want.Row.{Row}
use Rattle.law_lines.specs.declared.want.Row.TheVariants as r
use Rattle.law_lines.specs.declared.want.Ending.{Ending}
use Rattle.law_lines.specs.declared.want.Ending.TheVariants as e
use Rattle.law_lines.specs.Spelling.{arg_spelling, spaced, head_spelling, term_spelling}
use Rattle.law_lines.specs.Terms.{nodes_fit, node_count, depth, head_fits, is_name_in, IsTerm}
use Rattle.law_lines.specs.Walk.{walk, before_item, item_place, mark_text, enough, behind}

-- a row of terms; values stand at the first level
abbrev pub IsTermRow : Row → ℕ → Type 0
IsTermRow r.Sorts level = ⊥
IsTermRow r.Names level = ⊥
IsTermRow (r.Args place) level = Unit {0}
IsTermRow r.Values level = level ≡ 1

-- what stands behind a row
abbrev pub closer : Ending → List ℕ
closer e.Line = []
closer e.Bracket = 41 ∷ []
closer (e.Mark mark) = 32 ∷ mark_text mark

-- what stands there once the space before a fixed word was read
abbrev pub mark_of : Ending → List ℕ
mark_of e.Line = []
mark_of e.Bracket = []
mark_of (e.Mark mark) = mark_text mark

-- the nodes that count further on
abbrev pub nodes_behind : Ending → ℕ → ℕ
nodes_behind e.Line nodes = 0
nodes_behind e.Bracket nodes = nodes
nodes_behind (e.Mark mark) nodes = 0

abbrev pub is_enough : Ending → Row → ℕ → Type 0
is_enough e.Line row count = enough row count ≡ true
is_enough e.Bracket row count = 0 < count
is_enough (e.Mark mark) row count = Unit {0}

-- The row ended here.
pub record RowEnds (nodes : ℕ) (row : Row) (level count : ℕ) (ending : Ending) (old new : List ℕ) : Type 0 where
  pub text : old ≡ closer ending ++ new
  pub walked : (rest : List Want) → walk nodes (w.Row row level count ending ∷ rest) (pieces old) ≡ walk (nodes_behind ending nodes) rest (pieces new)
  pub some : is_enough ending row count

-- The row goes on: a space was read.
pub record RowGoes (nodes : ℕ) (row : Row) (level count : ℕ) (ending : Ending) (old new : List ℕ) : Type 0 where
  pub text : old ≡ 32 ∷ new
  pub walked : (rest : List Want) → walk nodes (w.Row row level count ending ∷ rest) (pieces old) ≡ walk nodes (w.Item row level count ending ∷ rest) (pieces new)

abbrev pub RowStep : ℕ → Row → ℕ → ℕ → Ending → List ℕ → List ℕ → Bool → Type 0
RowStep nodes row level count ending old new true = RowGoes nodes row level count ending old new
RowStep nodes row level count ending old new false = RowEnds nodes row level count ending old new

-- how many arguments a symbol may have
abbrev pub HasRoom : Row → ℕ → Type 0
HasRoom r.Sorts count = count < 8
HasRoom r.Names count = Unit {0}
HasRoom (r.Args place) count = count < 8
HasRoom r.Values count = Unit {0}

-- a term at a level fits there, and the count of nodes goes on behind it
pub record Fits (place : Place) (level nodes : ℕ) (term : RawTerm) (more : ℕ) : Type 0 where
  pub each : nodes_fit Kept place term ≡ true
  pub count : more ≡ nodes + node_count term
  pub few : more ≤ 4096
  pub deep : level + depth term ≤ 257

-- the fixed word behind the row
pub record MarkRead (nodes : ℕ) (row : Row) (level count : ℕ) (ending : Ending) (old new : List ℕ) : Type 0 where
  pub text : 32 ∷ old ≡ closer ending ++ new
  pub walked : (rest : List Want) → walk nodes (w.Item row level count ending ∷ rest) (pieces old) ≡ walk (nodes_behind ending nodes) rest (pieces new)
  pub some : is_enough ending row count

pub record ItemRead (nodes : ℕ) (row : Row) (level count : ℕ) (ending : Ending) (old new : List ℕ) (term : RawTerm) (more : ℕ) : Type 0 where
  pub text : old ≡ arg_spelling term ++ new
  pub walked : (rest : List Want) → walk nodes (w.Item row level count ending ∷ rest) (pieces old) ≡ walk more (w.Row row level (count + 1) ending ∷ rest) (pieces new)
  pub fits : Fits (item_place row) level (before_item row nodes) term more
  pub room : HasRoom row count

abbrev pub ItemStep : ℕ → Row → ℕ → ℕ → Ending → List ℕ → List ℕ → Option (RawTerm × ℕ) → Type 0
ItemStep nodes row level count ending old new None = MarkRead nodes row level count ending old new
ItemStep nodes row level count ending old new (Some found) = ItemRead nodes row level count ending old new found.0 found.1

-- A term in brackets was read, from behind the opening bracket on.
pub record BracketRead (nodes : ℕ) (place : Place) (level : ℕ) (old new : List ℕ) (term : RawTerm) (more : ℕ) : Type 0 where
  pub text : 40 ∷ old ≡ arg_spelling term ++ new
  pub walked : (rest : List Want) → walk nodes (w.Head ∷ w.Row (r.Args place) level 0 e.Bracket ∷ rest) (pieces old) ≡ walk more rest (pieces new)
  pub each : nodes_fit Kept place term ≡ true
  pub count : more ≡ nodes + node_count term
  pub few : more ≤ 4096
  pub deep : level + depth term ≤ 258

-- the terms of a row: each fits, and the count of nodes adds up, where it isn't taken up anew
abbrev pub AllFit : Row → ℕ → ℕ → List RawTerm → ℕ → Type 0
AllFit row level nodes [] more = more ≡ nodes
AllFit row level nodes (term ∷ terms) more =
    (next : ℕ) × Fits (item_place row) level (before_item row nodes) term next × AllFit row level next terms more

abbrev pub IsFew : Row → ℕ → Type 0
IsFew r.Sorts count = count ≤ 8
IsFew r.Names count = Unit {0}
IsFew (r.Args place) count = count ≤ 8
IsFew r.Values count = Unit {0}

-- The terms of a row were read, so far or whole.
pub record RowSoFar (nodes : ℕ) (row : Row) (level : ℕ) (ending : Ending) (old new : List ℕ) (terms : List RawTerm) (more : ℕ) : Type 0 where
  pub text : old ≡ spaced (map arg_spelling terms) ++ new
  pub walked : (rest : List Want) → walk nodes (w.Row row level 0 ending ∷ rest) (pieces old) ≡ walk more (w.Row row level (length terms) ending ∷ rest) (pieces new)
  pub fits : AllFit row level nodes terms more
  pub few : IsFew row (length terms)

pub record RowRead (nodes : ℕ) (row : Row) (level : ℕ) (ending : Ending) (old new : List ℕ) (terms : List RawTerm) (more : ℕ) : Type 0 where
  pub text : old ≡ spaced (map arg_spelling terms) ++ (closer ending ++ new)
  pub walked : (rest : List Want) → walk nodes (w.Row row level 0 ending ∷ rest) (pieces old) ≡ walk (nodes_behind ending more) rest (pieces new)
  pub fits : AllFit row level nodes terms more
  pub few : IsFew row (length terms)
  pub some : is_enough ending row (length terms)

-- A term by itself was read, up to and with the fixed word behind it.
pub record RootRead (place : Place) (ending : Ending) (old new : List ℕ) (term : RawTerm) : Type 0 where
  pub text : old ≡ term_spelling term ++ (closer ending ++ new)
  pub walked : (rest : List Want) → walk 0 (w.Root place ending ∷ rest) (pieces old) ≡ walk 0 rest (pieces new)
  pub is_term : IsTerm Kept place term

-- an atom stands for this head
pub record AtomRead (bounds : Bounds) (place : Place) (bytes : List ℕ) (head : RawHead) : Type 0 where
  pub text : head_spelling head ≡ bytes
  pub fits : head_fits bounds place head true ≡ true

abbrev pub IsRootEnding : Ending → Type 0
IsRootEnding e.Line = Unit {0}
IsRootEnding e.Bracket = ⊥
IsRootEnding (e.Mark mark) = Unit {0}

-- what stands behind a variable, a parameter or a field was read
pub record BehindRead (ending : Ending) (old new : List ℕ) : Type 0 where
  pub text : old ≡ closer ending ++ new
  pub walked : (rest : List Want) → walk 0 (behind ending rest) (pieces old) ≡ walk 0 rest (pieces new)

abbrev pub IsNameRow : Row → Type 0
IsNameRow r.Sorts = Unit {0}
IsNameRow r.Names = Unit {0}
IsNameRow (r.Args place) = ⊥
IsNameRow r.Values = ⊥

pub record NameRead (nodes : ℕ) (row : Row) (count : ℕ) (ending : Ending) (old new name : List ℕ) : Type 0 where
  pub text : old ≡ name ++ new
  pub walked : (rest : List Want) → walk nodes (w.Item row 0 count ending ∷ rest) (pieces old) ≡ walk 1 (w.Row row 0 (count + 1) ending ∷ rest) (pieces new)
  pub named : is_name_in Kept name ≡ true
  pub room : HasRoom row count

abbrev pub NameStep : ℕ → Row → ℕ → Ending → List ℕ → List ℕ → Option (List ℕ) → Type 0
NameStep nodes row count ending old new None = MarkRead nodes row 0 count ending old new
NameStep nodes row count ending old new (Some name) = NameRead nodes row count ending old new name

-- The names of a row were read, so far or whole.
pub record NamesSoFar (nodes : ℕ) (row : Row) (ending : Ending) (old new : List ℕ) (found : List (List ℕ)) : Type 0 where
  pub text : old ≡ spaced found ++ new
  pub walked : (rest : List Want) → walk 0 (w.Row row 0 0 ending ∷ rest) (pieces old) ≡ walk nodes (w.Row row 0 (length found) ending ∷ rest) (pieces new)
  pub each : list_all (is_name_in Kept) found ≡ true
  pub few : IsFew row (length found)

pub record NamesRead (row : Row) (ending : Ending) (old new : List ℕ) (found : List (List ℕ)) : Type 0 where
  pub text : old ≡ spaced found ++ (closer ending ++ new)
  pub walked : (rest : List Want) → walk 0 (w.Row row 0 0 ending ∷ rest) (pieces old) ≡ walk 0 rest (pieces new)
  pub each : list_all (is_name_in Kept) found ≡ true
  pub few : IsFew row (length found)
