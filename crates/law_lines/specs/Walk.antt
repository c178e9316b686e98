-- A line read from left to right, piece by piece. What is still wanted is a list; a piece is taken or
-- not, and changes what is wanted. It serves proofs alone: what a line must be is said by its spelling, and
-- what a fault is by `Places`.
use Rattle.std.specs.Prelude.{ℕ, ◌+◌, Bool, true, false, ◌&&◌, ◌||◌, not, nat_lt, ◌==◌, List, [], ◌∷◌, ◌++◌, Option, Some, None, codes}
use Rattle.std.specs.Str.{bytes_eq}
use Rattle.std.specs.List.{list_all}
use Rattle.law_lines.specs.Words.{is_word_of_letters}
use Rattle.law_lines.specs.Pieces.{Piece, pieces}
use Rattle.law_lines.specs.Pieces.Piece.{space, opening, closing, word}
use Rattle.law_lines.specs.declared.want.Bounds.{Bounds}
use Rattle.law_lines.specs.declared.want.Bounds.TheVariants.{Kept, Free}
use Rattle.law_lines.specs.declared.want.Place.{Place}
use Rattle.law_lines.specs.declared.want.Place.TheVariants as p
use Rattle.law_lines.specs.declared.want.Mark.{Mark}
use Rattle.law_lines.specs.declared.want.Mark.TheVariants.{Equals, Arrow, Height, Count}
use Rattle.law_lines.specs.declared.want.Ending.{Ending}
use Rattle.law_lines.specs.declared.want.Ending.TheVariants as e
use Rattle.law_lines.specs.declared.want.Row.{Row}
use Rattle.law_lines.specs.declared.want.Row.TheVariants as r
use Rattle.law_lines.specs.declared.want.Want.{Want}
use Rattle.law_lines.specs.declared.want.Want.TheVariants as w
use Rattle.law_lines.specs.declared.error.ReadKind.{ReadKind}
use Rattle.law_lines.specs.declared.error.ReadKind.TheVariants as k
use Rattle.law_lines.specs.declared.stage.Version.{Version}
use Rattle.law_lines.specs.declared.stage.Version.TheVariants.{First, Second, Third}
use Rattle.law_lines.specs.declared.stage.Key.{Key}
use Rattle.law_lines.specs.declared.stage.Key.TheVariants as key
use Rattle.law_lines.specs.declared.stage.Stage.{Stage}
use Rattle.law_lines.specs.Stages.{allows, key_text}
use Rattle.law_lines.specs.Terms.{within, is_name_in}
use Rattle.law_lines.specs.Numbers.{cut, is_index, is_number, is_bad_index, is_bad_behind}
use Rattle.law_lines.specs.Faults.{is_closed_by, is_printed, is_spaced}

abbrev pub mark_text : Mark → List ℕ
mark_text Equals = codes "="
mark_text Arrow = codes "->"
mark_text Height = codes "height"
mark_text Count = codes "count"

abbrev pub is_variable : Bounds → Option (List ℕ × List ℕ) → Bool
is_variable bounds None = false
is_variable bounds (Some parts) = is_name_in bounds parts.0 && is_index parts.1

-- `#` or `@`, and a number
abbrev pub is_numbered : List ℕ → Bool
is_numbered [] = false
is_numbered (b ∷ bs) = (b == 35 || b == 64) && is_index bs

-- an atom that isn't a name
abbrev pub is_special : Bounds → Place → List ℕ → Bool
is_special bounds p.Equation bytes = is_variable bounds (cut bytes)
is_special bounds p.Body bytes = is_numbered bytes
is_special bounds p.Value bytes = false

abbrev pub is_atom : Bounds → Place → List ℕ → Bool
is_atom bounds place bytes = is_name_in bounds bytes || is_special bounds place bytes

abbrev pub below : Bounds → ℕ → ℕ → Bool
below Kept most n = nat_lt n most
below Free most n = true

abbrev pub is_item : Bounds → Row → List ℕ → Bool
is_item bounds r.Sorts bytes = is_name_in bounds bytes
is_item bounds r.Names bytes = is_name_in bounds bytes
is_item bounds (r.Args place) bytes = is_atom bounds place bytes
is_item bounds r.Values bytes = is_atom bounds p.Value bytes

-- whether one more item may come, by the nodes that the term has so far
abbrev pub may_come : Bounds → ℕ → Row → ℕ → ℕ → Bool
may_come bounds nodes r.Sorts depth count = below bounds 8 count
may_come bounds nodes r.Names depth count = true
may_come bounds nodes (r.Args place) depth count = below bounds 8 count && (below bounds 4096 nodes && within bounds 256 depth)
may_come bounds nodes r.Values depth count = true

-- the same for one in brackets
abbrev pub may_open : Bounds → ℕ → Row → ℕ → ℕ → Bool
may_open bounds nodes r.Sorts depth count = false
may_open bounds nodes r.Names depth count = false
may_open bounds nodes (r.Args place) depth count = below bounds 8 count && (below bounds 4095 nodes && below bounds 256 depth)
may_open bounds nodes r.Values depth count = true

abbrev pub is_mark : Ending → List ℕ → Bool
is_mark e.Line bytes = false
is_mark e.Bracket bytes = false
is_mark (e.Mark mark) bytes = bytes_eq bytes (mark_text mark)

abbrev pub has_mark : Ending → Bool
has_mark e.Line = false
has_mark e.Bracket = false
has_mark (e.Mark mark) = true

abbrev pub takes_space : Bounds → ℕ → Want → Bool
takes_space bounds nodes w.Gap = true
takes_space bounds nodes (w.Row row depth count ending) = has_mark ending || may_come bounds nodes row depth count
takes_space bounds nodes want = false

abbrev pub takes_opening : Bounds → ℕ → Want → Bool
takes_opening bounds nodes (w.Item row depth count ending) = may_open bounds nodes row depth count
takes_opening bounds nodes want = false

abbrev pub takes_closing : Want → Bool
takes_closing (w.Row row depth count e.Bracket) = nat_lt 0 count
takes_closing want = false

abbrev pub later_keys : List Key
later_keys = key.Fun ∷ key.Match ∷ key.Body ∷ key.Case ∷ key.Explore ∷ key.Background ∷ key.Pool ∷ key.Values ∷ key.End ∷ []

abbrev pub all_keys : List Key
all_keys = key.Signature ∷ key.Vars ∷ key.Size ∷ key.Width ∷ key.Budget ∷ key.Pairs ∷ key.Pools ∷ key.Sort ∷ key.Con ∷ later_keys

abbrev pub chosen_key : Bool → Key → Option Key → Option Key
chosen_key true k found = Some k
chosen_key false k found = found

abbrev pub key_in : List Key → List ℕ → Option Key
key_in [] bytes = None
key_in (k ∷ ks) bytes = chosen_key (bytes_eq bytes (key_text k)) k (key_in ks bytes)

abbrev pub key_of : List ℕ → Option Key
key_of bytes = key_in all_keys bytes

abbrev pub allows_found : Stage → Option Key → Bool
allows_found stage None = false
allows_found stage (Some k) = allows stage k

abbrev pub is_version : List ℕ → Bool
is_version bytes = bytes_eq bytes (codes "1") || (bytes_eq bytes (codes "2") || bytes_eq bytes (codes "3"))

abbrev pub is_pools : List ℕ → Bool
is_pools bytes = bytes_eq bytes (codes "given") || bytes_eq bytes (codes "seed")

abbrev pub takes_word : Bounds → ℕ → Want → List ℕ → Bool
takes_word bounds nodes (w.Key stage) bytes = allows_found stage (key_of bytes)
takes_word bounds nodes w.Version bytes = is_version bytes
takes_word bounds nodes w.Pools bytes = is_pools bytes
takes_word bounds nodes w.Gap bytes = false
takes_word bounds nodes (w.Fixed mark) bytes = bytes_eq bytes (mark_text mark)
takes_word bounds nodes w.Number bytes = is_number bytes
takes_word bounds nodes w.Name bytes = is_name_in bounds bytes
takes_word bounds nodes w.Head bytes = is_name_in bounds bytes
takes_word bounds nodes (w.Root place ending) bytes = is_atom bounds place bytes
takes_word bounds nodes (w.Row row depth count ending) bytes = false
takes_word bounds nodes (w.Item row depth count ending) bytes = is_mark ending bytes || (may_come bounds nodes row depth count && is_item bounds row bytes)

-- where a word alone may come
abbrev pub is_word_want : Want → Bool
is_word_want w.Gap = false
is_word_want (w.Row row depth count ending) = false
is_word_want (w.Item row depth count ending) = false
is_word_want want = true

abbrev pub takes : Bounds → ℕ → Want → Piece → Bool
takes bounds nodes want space = takes_space bounds nodes want
takes bounds nodes want opening = takes_opening bounds nodes want
takes bounds nodes want closing = takes_closing want
takes bounds nodes want (word bytes) = takes_word bounds nodes want bytes

-- Where a number stands that isn't one, a word like it with its number put right would be taken.
abbrev pub is_mended : ℕ → Want → List ℕ → Bool
is_mended nodes want bytes = (not (is_number bytes) && takes_word Free nodes want (codes "0"))
    || ((is_bad_index (cut bytes) && takes_word Free nodes want (codes "A.0"))
    || ((is_bad_behind 35 bytes && takes_word Free nodes want (codes "#0"))
    || (is_bad_behind 64 bytes && takes_word Free nodes want (codes "@0"))))

abbrev pub kind_by : Bool → Bool → ReadKind
kind_by true free = k.Number
kind_by false true = k.TooLong
kind_by false false = k.Word

abbrev pub number_fault : ℕ → Want → Piece → Bool
number_fault nodes want (word bytes) = is_mended nodes want bytes
number_fault nodes want piece = false

-- The kind of a place that isn't taken.
abbrev pub kind_at : ℕ → Want → Piece → ReadKind
kind_at nodes want piece = kind_by (number_fault nodes want piece) (takes Free nodes want piece)

-- what a line has behind its key
abbrev pub setting : List Want
setting = w.Gap ∷ w.Number ∷ []

abbrev pub line_wants : Version → Key → List Want
line_wants version key.Signature = w.Gap ∷ w.Version ∷ []
line_wants version key.Vars = setting
line_wants version key.Size = setting
line_wants version key.Width = setting
line_wants version key.Budget = setting
line_wants version key.Pairs = setting
line_wants version key.Pools = w.Gap ∷ w.Pools ∷ []
line_wants First key.Sort = w.Gap ∷ w.Name ∷ []
line_wants Second key.Sort = w.Gap ∷ w.Name ∷ w.Gap ∷ w.Number ∷ w.Gap ∷ w.Number ∷ []
line_wants Third key.Sort = w.Gap ∷ w.Name ∷ w.Gap ∷ w.Number ∷ w.Gap ∷ w.Number ∷ []
line_wants First key.Con = w.Gap ∷ w.Name ∷ w.Row r.Sorts 0 0 e.Line ∷ []
line_wants Second key.Con = w.Gap ∷ w.Name ∷ w.Row r.Sorts 0 0 e.Line ∷ []
line_wants Third key.Con = w.Gap ∷ w.Number ∷ w.Gap ∷ w.Name ∷ w.Row r.Sorts 0 0 e.Line ∷ []
line_wants First key.Fun = w.Gap ∷ w.Name ∷ w.Row r.Sorts 0 0 (e.Mark Arrow) ∷ w.Gap ∷ w.Name ∷ []
line_wants Second key.Fun = w.Gap ∷ w.Name ∷ w.Row r.Sorts 0 0 (e.Mark Arrow) ∷ w.Gap ∷ w.Name ∷ []
line_wants Third key.Fun = w.Gap ∷ w.Number ∷ w.Gap ∷ w.Name ∷ w.Row r.Sorts 0 0 (e.Mark Arrow) ∷ w.Gap ∷ w.Name ∷ []
line_wants version key.Match = setting
line_wants version key.Body = w.Gap ∷ w.Fixed Equals ∷ w.Gap ∷ w.Root p.Body e.Line ∷ []
line_wants version key.Case = w.Gap ∷ w.Name ∷ w.Gap ∷ w.Fixed Equals ∷ w.Gap ∷ w.Root p.Body e.Line ∷ []
line_wants version key.Explore = w.Row r.Names 0 0 e.Line ∷ []
line_wants version key.Background = w.Gap ∷ w.Root p.Equation (e.Mark Equals) ∷ w.Gap ∷ w.Root p.Equation e.Line ∷ []
line_wants version key.Pool = []
line_wants version key.Values = w.Gap ∷ w.Name ∷ w.Row r.Values 1 0 e.Line ∷ []
line_wants version key.End = []

abbrev pub seed_wants : List Want
seed_wants = w.Gap ∷ w.Number ∷ w.Gap ∷ w.Fixed Height ∷ w.Gap ∷ w.Number ∷ w.Gap ∷ w.Fixed Count ∷ w.Gap ∷ w.Number ∷ []

abbrev pub wants_found : Stage → Option Key → List Want
wants_found stage None = []
wants_found stage (Some k) = line_wants stage.version k

-- behind a variable, a parameter or a field that stands as a whole term
abbrev pub behind : Ending → List Want → List Want
behind e.Line rest = rest
behind e.Bracket rest = rest
behind (e.Mark mark) rest = w.Gap ∷ w.Fixed mark ∷ rest

-- arguments count with the nodes of their term, a value counts its own
abbrev pub before_item : Row → ℕ → ℕ
before_item (r.Args place) nodes = nodes
before_item row nodes = 0

abbrev pub item_place : Row → Place
item_place (r.Args place) = place
item_place row = p.Value

-- How far a line is: the nodes of the term at work, and what is wanted.
pub record State : Type 0 where
  pub nodes : ℕ
  pub wants : List Want

abbrev pub pools_wants : Bool → List Want
pools_wants true = []
pools_wants false = seed_wants

abbrev pub root_moved : Bool → Place → Ending → List Want → State
root_moved true place ending rest = record { nodes = 1; wants = w.Row (r.Args place) 2 0 ending ∷ rest }
root_moved false place ending rest = record { nodes = 0; wants = behind ending rest }

abbrev pub item_moved : Bool → ℕ → Row → ℕ → ℕ → Ending → List Want → State
item_moved true nodes row depth count ending rest = record { nodes = 0; wants = rest }
item_moved false nodes row depth count ending rest =
    record { nodes = before_item row nodes + 1; wants = w.Row row depth (count + 1) ending ∷ rest }

abbrev pub word_moved : ℕ → Want → List Want → List ℕ → State
word_moved nodes (w.Key stage) rest bytes = record { nodes = 0; wants = wants_found stage (key_of bytes) ++ rest }
word_moved nodes w.Pools rest bytes = record { nodes = 0; wants = pools_wants (bytes_eq bytes (codes "given")) ++ rest }
word_moved nodes w.Head rest bytes = record { nodes = nodes + 1; wants = rest }
word_moved nodes (w.Root place ending) rest bytes = root_moved (is_word_of_letters bytes) place ending rest
word_moved nodes (w.Item row depth count ending) rest bytes = item_moved (is_mark ending bytes) nodes row depth count ending rest
word_moved nodes want rest bytes = record { nodes = nodes; wants = rest }

abbrev pub space_moved : ℕ → Want → List Want → State
space_moved nodes (w.Row row depth count ending) rest = record { nodes = nodes; wants = w.Item row depth count ending ∷ rest }
space_moved nodes want rest = record { nodes = nodes; wants = rest }

abbrev pub opening_moved : ℕ → Want → List Want → State
opening_moved nodes (w.Item row depth count ending) rest =
    record { nodes = before_item row nodes; wants = w.Head ∷ w.Row (r.Args (item_place row)) (depth + 1) 0 e.Bracket ∷ w.Row row depth (count + 1) ending ∷ rest }
opening_moved nodes want rest = record { nodes = nodes; wants = rest }

abbrev pub moved : ℕ → Want → List Want → Piece → State
moved nodes want rest space = space_moved nodes want rest
moved nodes want rest opening = opening_moved nodes want rest
moved nodes want rest closing = record { nodes = nodes; wants = rest }
moved nodes want rest (word bytes) = word_moved nodes want rest bytes

-- whether the line may end where this is wanted
abbrev pub enough : Row → ℕ → Bool
enough r.Values count = nat_lt 0 count
enough row count = true

abbrev pub may_end : Want → Bool
may_end (w.Row row depth count e.Line) = enough row count
may_end want = false

abbrev pub ends : List Want → Bool
ends [] = true
ends (want ∷ rest) = may_end want && ends rest

abbrev pub end_fault : Bool → Option ReadKind
end_fault true = None
end_fault false = Some k.Missing

abbrev pub step : Bool → ReadKind → Option ReadKind → Option ReadKind
step true kind further = further
step false kind further = Some kind

-- The kind of the first place that isn't taken under these bounds; `None` where all are and the line may end.
unfoldable pub walk_in : Bounds → ℕ → List Want → List Piece → Option ReadKind
walk_in bounds nodes wants [] = end_fault (ends wants)
walk_in bounds nodes [] (piece ∷ pieces) = Some k.Word
walk_in bounds nodes (want ∷ rest) (piece ∷ pieces) = step (takes bounds nodes want piece) (kind_at nodes want piece)
    (walk_in bounds (moved nodes want rest piece).nodes (moved nodes want rest piece).wants pieces)

abbrev pub walk : ℕ → List Want → List Piece → Option ReadKind
walk nodes wants pieces = walk_in Kept nodes wants pieces

abbrev pub kind_in_order : Bool → Bool → Bool → Option ReadKind → Option ReadKind
kind_in_order false spaced closed place = Some k.Byte
kind_in_order true false closed place = Some k.Doubled
kind_in_order true true true place = Some k.Word
kind_in_order true true false place = place

-- The kind of a line that may not come at this stage: a byte out of range, a space too many, a line
-- behind `end`, and else the first place of the line that has no reading.
abbrev pub line_fault : Stage → List ℕ → Option ReadKind
line_fault stage line = kind_in_order (list_all is_printed line) (is_spaced line) (is_closed_by stage.last) (walk 0 (w.Key stage ∷ []) (pieces line))

-- the same of a term by itself
abbrev pub term_fault : List ℕ → Option ReadKind
term_fault bytes = kind_in_order (list_all is_printed bytes) (is_spaced bytes) false (walk 0 (w.Root p.Equation e.Line ∷ []) (pieces bytes))
