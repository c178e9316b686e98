-- Spread schemas by sort and weight.
use Rattle.std.specs.Prelude.{◌≡◌, ℕ, ◌+◌, ◌<◌, List, [], ◌∷◌, ◌++◌, length, map, take, Option, Some, None, Vec, slice_get, slice_index_or, slice_set}
use Rattle.std.specs.declared.alloc.Global.{Global}
use denote.Bor.{Bor}
use Rattle.law_sig.specs.declared.tree.SortId.{SortId}
use Rattle.law_sig.specs.declared.tree.Tree.{Tree}
use Rattle.law_bank.specs.declared.node.Node.{Node}
use Rattle.law_bank.specs.Terms.{tree_of}
use Rattle.law_listing.specs.declared.pick.Pick.{Pick}
use Rattle.law_schema.specs.declared.stock.Entry.{Entry}

-- by the number of the sort, and then by weight
abbrev pub Columns : Type 0
Columns = List (List (List Entry))

abbrev pub columns_of : List (Vec (List Entry) Global) → Columns
columns_of vecs = map (λ (v : Vec (List Entry) Global). v.items) vecs

-- those of a sort and a weight
abbrev pub bucket : Columns → SortId → ℕ → List Entry
bucket columns sort weight = slice_index_or (slice_index_or columns sort.0 []) weight []

abbrev pub trees_in : List Entry → List Tree
trees_in entries = map (λ (e : Entry). tree_of e.schema.now) entries

-- those of a sort by weight, below a weight; and the same for each of these sorts
abbrev pub column_below : Columns → ℕ → SortId → List (List Tree)
column_below columns weight sort = map trees_in (take weight (slice_index_or columns sort.0 []))

abbrev pub lists_below : Columns → ℕ → List SortId → List (List (List Tree))
lists_below columns weight sorts = map (column_below columns weight) sorts

-- how many there are
abbrev pub sizes_below : Columns → ℕ → SortId → List ℕ
sizes_below columns weight sort = map length (take weight (slice_index_or columns sort.0 []))

abbrev pub counts_below : Columns → ℕ → List SortId → List (List ℕ)
counts_below columns weight sorts = map (sizes_below columns weight) sorts

-- what a row picks, a pick for each of these sorts
abbrev pub present : {A : Type 0} → Option A → List A
present None = []
present (Some x) = x ∷ []

abbrev pub entries_of : Columns → List SortId → List Pick → List Entry
entries_of columns [] row = []
entries_of columns (sort ∷ sorts) [] = []
entries_of columns (sort ∷ sorts) (p ∷ row) = present (slice_get (bucket columns sort p.weight) p.at) ++ entries_of columns sorts row

abbrev pub schemas_in : List Entry → List (Bor Node)
schemas_in entries = map (λ (e : Entry). e.schema) entries

abbrev pub numbers_in : List Entry → List ℕ
numbers_in entries = map (λ (e : Entry). e.number) entries

-- one more of a sort and a weight
abbrev pub filed : Columns → SortId → ℕ → Entry → Columns
filed columns sort weight entry = slice_set columns sort.0 (slice_set (slice_index_or columns sort.0 []) weight (bucket columns sort weight ++ entry ∷ []))

pub record HasPlace (columns : Columns) (s : SortId) (w : ℕ) : Type 0 where
  pub sort : s.0 < length columns
  pub weight : w < length (slice_index_or columns s.0 [])

-- no spread schema yet: each sort has a place for each weight up to this one, and nothing is there
pub record AreFresh (sorts size : ℕ) (columns : Columns) : Type 0 where
  pub long : length columns ≡ sorts
  pub places : (s : SortId) → s.0 < sorts → length (slice_index_or columns s.0 []) ≡ size + 1
  pub empty : (s : SortId) (k : ℕ) → bucket columns s k ≡ []

-- Private words

-- nothing in any bucket
abbrev pub AreBare : List (List Entry) → Type 0
AreBare column = (k : ℕ) → slice_index_or column k [] ≡ []
