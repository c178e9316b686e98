-- The first line of a text that shows a fault, and the first fault on it. On each line the faults are looked for in order;
-- some of them speak of what stands before the line, some of what stands behind it, and some of the whole text.
use Rattle.std.specs.Prelude.{ℕ, zero, suc, ◌+◌, ◌-◌, List, [], ◌∷◌, ◌++◌, length, Bool, false, not, ◌&&◌, ◌||◌, ◌==◌, nat_lt, nat_le, is_some, ◌≡◌, Result, Ok, Err, Option, Some, None, slice_get}
use Rattle.std.specs.List.{list_all}
use Rattle.std.specs.Option.{option_or}
use Rattle.law_sig.specs.Trees.{same_sort}
use Rattle.law_sig.specs.Signature.{args_of, result_of, constructors_from}
use Rattle.law_sig.specs.WellFormed.{is_function}
use Rattle.law_sig.specs.declared.tree.SortId.{SortId}
use Rattle.law_sig.specs.declared.tree.SymId.{SymId}
use Rattle.law_sig.specs.declared.parts.Sym.{Sym}
use Rattle.law_lines.specs.declared.raw.RawHead.{RawHead}
use Rattle.law_lines.specs.declared.raw.RawHead.TheVariants as head
use Rattle.law_lines.specs.declared.raw.RawTerm.{RawTerm}
use Rattle.law_lines.specs.declared.raw.RawTerm.TheViews.{out-RawTerm}
use Rattle.law_lines.specs.declared.raw.RawLine.{RawLine}
use Rattle.law_lines.specs.declared.raw.RawLine.TheVariants as line
use Rattle.law_typing.specs.Names.{number_of, stands_before}
use Rattle.law_typing.specs.Declarations.{whole, is_low, has_value}
use Rattle.law_typing.specs.TermFaults.{fault_if, first_of, mismatch, symbol_of, wanted_of, term_fault}
use Rattle.law_typing.specs.declared.errors.TypeErr.{TypeErr}
use Rattle.law_typing.specs.declared.errors.TypeErr.TheVariants as err
use Rattle.law_typing.specs.declared.errors.TypeKind.{TypeKind}
use Rattle.law_typing.specs.declared.errors.TypeKind.TheVariants as kind
use Rattle.law_typing.specs.declared.scope.Scope.{Scope}
use Rattle.law_typing.specs.declared.scope.Standing.TheVariants as standing
use Rattle.law_typing.specs.declared.seen.Seen.{Seen}
use Rattle.law_typing.specs.declared.whole.Whole.{Whole}

-- What stands before a line

abbrev pub nothing_seen : Seen
nothing_seen = record { sorts = 0; symbols = 0; place = None; cases = []; pools = 0; values = 0 }

abbrev pub after_sort : Seen → Seen
after_sort seen = record { sorts = seen.sorts + 1; symbols = seen.symbols; place = seen.place; cases = seen.cases; pools = seen.pools; values = seen.values }

abbrev pub after_symbol : Seen → Seen
after_symbol seen = record { sorts = seen.sorts; symbols = seen.symbols + 1; place = None; cases = []; pools = seen.pools; values = seen.values }

abbrev pub after_match : ℕ → Seen → Seen
after_match place seen = record { sorts = seen.sorts; symbols = seen.symbols; place = Some place; cases = []; pools = seen.pools; values = seen.values }

abbrev pub after_case : List ℕ → Seen → Seen
after_case con seen = record { sorts = seen.sorts; symbols = seen.symbols; place = seen.place; cases = seen.cases ++ con ∷ []; pools = seen.pools; values = seen.values }

abbrev pub after_pool : Seen → Seen
after_pool seen = record { sorts = seen.sorts; symbols = seen.symbols; place = seen.place; cases = seen.cases; pools = seen.pools + 1; values = 0 }

abbrev pub after_values : Seen → Seen
after_values seen = record { sorts = seen.sorts; symbols = seen.symbols; place = seen.place; cases = seen.cases; pools = seen.pools; values = seen.values + 1 }

abbrev pub seen_after : Seen → RawLine → Seen
seen_after seen (line.SortLine name) = after_sort seen
seen_after seen (line.SortLine2 name vars width) = after_sort seen
seen_after seen (line.ConLine name args) = after_symbol seen
seen_after seen (line.ConLine3 weight name args) = after_symbol seen
seen_after seen (line.FunLine name args result) = after_symbol seen
seen_after seen (line.FunLine3 weight name args result) = after_symbol seen
seen_after seen (line.MatchLine place) = after_match place seen
seen_after seen (line.CaseLine con body) = after_case con seen
seen_after seen line.Pool = after_pool seen
seen_after seen (line.Values sort values) = after_values seen
seen_after seen other = seen

-- Settings

-- a number outside of this range, both ends included
abbrev pub out_of : ℕ → ℕ → ℕ → Option TypeKind
out_of low high n = fault_if (not (nat_le low n && nat_le n high)) kind.SettingRange

-- whether the height is below the least height of some sort that has a value; the sorts from this number on, of which there
-- are so many
abbrev pub is_too_low : Whole → ℕ → SortId → Bool
is_too_low text height sort = has_value text sort && not (is_low text height sort)

abbrev pub some_too_low : Whole → ℕ → ℕ → ℕ → Bool
some_too_low text height sort zero = false
some_too_low text height sort (suc count) = is_too_low text height (record { 0 = sort }) || some_too_low text height (sort + 1) count

abbrev pub seed_faults : Whole → ℕ → ℕ → Option TypeKind
seed_faults text height count = first_of (
    out_of 1 16 height
    ∷ out_of 1 16 count
    ∷ fault_if (some_too_low text height 0 (length text.sorts)) kind.SettingRange
    ∷ [])

-- Sorts and symbols

abbrev pub sort_faults : Whole → Seen → List ℕ → Option TypeKind
sort_faults text seen name = first_of (
    fault_if (nat_le 64 seen.sorts) kind.SettingRange
    ∷ fault_if (stands_before text.sorts seen.sorts name) kind.NameTwice
    ∷ fault_if (not (has_value text (record { 0 = seen.sorts }))) kind.EmptySort
    ∷ [])

-- names that aren't sorts, from the left
abbrev pub unknown_sort : Whole → List ℕ → Option TypeKind
unknown_sort text name = fault_if (not (is_some (number_of text.sorts name))) kind.UnknownSort

abbrev pub unknown_sorts : Whole → List (List ℕ) → Option TypeKind
unknown_sorts text [] = None
unknown_sorts text (name ∷ names) = option_or (unknown_sort text name) (unknown_sorts text names)

-- the name of a symbol
abbrev pub name_faults : Whole → Seen → List ℕ → Option TypeKind
name_faults text seen name = first_of (
    fault_if (nat_le 4294967295 seen.symbols) kind.SettingRange
    ∷ fault_if (stands_before text.names seen.symbols name) kind.NameTwice
    ∷ [])

abbrev pub con_faults : Whole → Seen → List ℕ → List (List ℕ) → Option TypeKind
con_faults text seen name args = first_of (name_faults text seen name ∷ unknown_sorts text args ∷ [])

abbrev pub fun_faults : Whole → Seen → List ℕ → List (List ℕ) → List ℕ → Option TypeKind
fun_faults text seen name args result = first_of (name_faults text seen name ∷ unknown_sorts text args ∷ unknown_sort text result ∷ [])

-- Functions

-- the function at work is the symbol that was declared last
abbrev pub owner : Seen → ℕ
owner seen = seen.symbols - 1

abbrev pub own_symbol : Whole → Seen → Option Sym
own_symbol text seen = slice_get text.symbols (owner seen)

abbrev pub sort_given : Option Sym → Option SortId
sort_given None = None
sort_given (Some symbol) = Some (result_of symbol)

abbrev pub body_scope : Whole → Seen → List SortId → Scope
body_scope text seen fields = record {
  standing = standing.Body;
  owner = owner seen;
  place = seen.place;
  fields = fields;
  params = wanted_of (own_symbol text seen);
}

abbrev pub body_fault : Whole → Seen → List SortId → RawTerm → Option TypeKind
body_fault text seen fields body = term_fault text (body_scope text seen fields) (sort_given (own_symbol text seen)) body

-- the names of the cases that come next
abbrev pub case_names : List RawLine → List (List ℕ)
case_names (line.CaseLine con body ∷ lines) = con ∷ case_names lines
case_names lines = []

abbrev pub is_case : List (List ℕ) → Option (List ℕ) → Bool
is_case cases None = false
is_case cases (Some name) = is_some (number_of cases name)

abbrev pub has_case : Whole → List (List ℕ) → SymId → Bool
has_case text cases con = is_case cases (slice_get text.names con.0)

-- the constructors of the sort at the match place all have a case among those that come next
abbrev pub match_faults : Whole → List (List ℕ) → Option SortId → Option TypeKind
match_faults text cases None = Some kind.Arity
match_faults text cases (Some sort) = fault_if (not (list_all (has_case text cases) (constructors_from 0 text.symbols sort))) kind.CaseMissing

-- the sort at a place, where there is a place and it is an argument's
abbrev pub sort_at : Option ℕ → List SortId → Option SortId
sort_at None sorts = None
sort_at (Some place) sorts = slice_get sorts place

-- a constructor of another sort, or a function, where the match is on a value of this sort
abbrev pub wrong_case : Option SortId → Sym → Option TypeKind
wrong_case None symbol = None
wrong_case (Some sort) symbol =
    fault_if (is_function (Some symbol) || not (same_sort sort (result_of symbol))) (kind.SortMismatch sort (result_of symbol))

-- the sort of the argument at the match place
abbrev pub matched : Whole → Seen → Option SortId
matched text seen = sort_at seen.place (wanted_of (own_symbol text seen))

-- a case of the symbol with this number: a function that is declared later is no name yet
abbrev pub symbol_case_faults : Whole → Seen → List ℕ → RawTerm → ℕ → Option Sym → Option TypeKind
symbol_case_faults text seen con body number None = Some kind.UnknownName
symbol_case_faults text seen con body number (Some symbol) = first_of (
    fault_if (is_function (Some symbol) && nat_lt (owner seen) number) kind.UnknownName
    ∷ wrong_case (matched text seen) symbol
    ∷ fault_if (is_some (number_of seen.cases con)) kind.CaseTwice
    ∷ body_fault text seen (args_of symbol) body
    ∷ [])

abbrev pub case_faults : Whole → Seen → List ℕ → RawTerm → Option ℕ → Option TypeKind
case_faults text seen con body None = Some kind.UnknownName
case_faults text seen con body (Some number) = symbol_case_faults text seen con body number (slice_get text.symbols number)

-- Explored names, background and pools

-- a name, behind those that were explored before
abbrev pub explored_fault : Whole → List (List ℕ) → List ℕ → Option TypeKind
explored_fault text before name = first_of (
    fault_if (not (is_some (number_of text.names name))) kind.UnknownName
    ∷ fault_if (is_some (number_of before name)) kind.NameTwice
    ∷ [])

-- these names likewise, from the left
abbrev pub explored_faults : Whole → List (List ℕ) → List (List ℕ) → Option TypeKind
explored_faults text before [] = None
explored_faults text before (name ∷ names) =
    option_or (explored_fault text before name) (explored_faults text (before ++ name ∷ []) names)

abbrev pub side_scope : Scope
side_scope = record { standing = standing.Side; owner = 0; place = None; fields = []; params = [] }

abbrev pub value_scope : Scope
value_scope = record { standing = standing.Value; owner = 0; place = None; fields = []; params = [] }

-- the sort of what a term begins with
abbrev pub variable_sort : Option ℕ → Option SortId
variable_sort None = None
variable_sort (Some sort) = Some (record { 0 = sort })

abbrev pub name_sort : Whole → Option ℕ → Option SortId
name_sort text number = sort_given (symbol_of text number)

abbrev pub head_sort : Whole → RawHead → Option SortId
head_sort text (head.Name name) = name_sort text (number_of text.names name)
head_sort text (head.Var sort index) = variable_sort (number_of text.sorts sort)
head_sort text (head.Param number) = None
head_sort text (head.Field number) = None

abbrev pub root_sort : Whole → RawTerm → Option SortId
root_sort text term = head_sort text (out-RawTerm term).head

abbrev pub sides_mismatch : Option SortId → Option SortId → Option TypeKind
sides_mismatch left None = None
sides_mismatch left (Some right) = mismatch left right

abbrev pub background_faults : Whole → RawTerm → RawTerm → Option TypeKind
background_faults text left right = first_of (
    term_fault text side_scope None left
    ∷ term_fault text side_scope None right
    ∷ sides_mismatch (root_sort text left) (root_sort text right)
    ∷ [])

-- how many lines of values come next
abbrev pub values_count : List RawLine → ℕ
values_count (line.Values sort values ∷ lines) = values_count lines + 1
values_count lines = 0

abbrev pub pool_faults : Whole → Seen → List RawLine → Option TypeKind
pool_faults text seen rest = first_of (
    fault_if (nat_le 16 seen.pools) kind.SettingRange
    ∷ fault_if (not (values_count rest == length text.sorts)) kind.Arity
    ∷ [])

abbrev pub each_value_fault : Whole → SortId → List RawTerm → Option TypeKind
each_value_fault text sort [] = None
each_value_fault text sort (value ∷ values) = option_or (term_fault text value_scope (Some sort) value) (each_value_fault text sort values)

-- whether there are as many values as the width of their sort
abbrev pub is_width : ℕ → Option ℕ → Bool
is_width count None = false
is_width count (Some width) = count == width

-- values of the sort with this number
abbrev pub values_faults : Whole → Seen → List RawTerm → Option ℕ → Option TypeKind
values_faults text seen values None = Some kind.UnknownSort
values_faults text seen values (Some sort) = first_of (
    mismatch (Some (record { 0 = seen.values })) (record { 0 = sort })
    ∷ fault_if (not (is_width (length values) (slice_get text.widths sort))) kind.Arity
    ∷ each_value_fault text (record { 0 = sort }) values
    ∷ [])

-- A line, and the lines behind it

-- a line of settings
abbrev pub setting_fault : RawLine → Option TypeKind
setting_fault (line.Vars n) = out_of 0 8 n
setting_fault (line.Size n) = out_of 1 32 n
setting_fault (line.Width n) = out_of 1 16 n
setting_fault (line.Budget n) = out_of 1 1000000 n
setting_fault (line.Pairs n) = out_of 0 4096 n
setting_fault other = None

-- a line that declares a sort or a symbol
abbrev pub declared_fault : Whole → Seen → RawLine → Option TypeKind
declared_fault text seen (line.SortLine name) = sort_faults text seen name
declared_fault text seen (line.SortLine2 name vars width) = first_of (sort_faults text seen name ∷ out_of 0 8 vars ∷ out_of 1 16 width ∷ [])
declared_fault text seen (line.ConLine name args) = con_faults text seen name args
declared_fault text seen (line.ConLine3 weight name args) = first_of (con_faults text seen name args ∷ out_of 1 4 weight ∷ [])
declared_fault text seen (line.FunLine name args result) = fun_faults text seen name args result
declared_fault text seen (line.FunLine3 weight name args result) = first_of (fun_faults text seen name args result ∷ out_of 1 4 weight ∷ [])
declared_fault text seen other = None

abbrev pub line_fault : Whole → Seen → List RawLine → RawLine → Option TypeKind
line_fault text seen rest (line.PoolsSeed seed height count) = seed_faults text height count
line_fault text seen rest (line.MatchLine place) = match_faults text (case_names rest) (slice_get (wanted_of (own_symbol text seen)) place)
line_fault text seen rest (line.BodyLine body) = body_fault text seen [] body
line_fault text seen rest (line.CaseLine con body) = case_faults text seen con body (number_of text.names con)
line_fault text seen rest (line.Explore names) = explored_faults text [] names
line_fault text seen rest (line.Background left right) = background_faults text left right
line_fault text seen rest line.Pool = pool_faults text seen rest
line_fault text seen rest (line.Values sort values) = values_faults text seen values (number_of text.sorts sort)
line_fault text seen rest other = first_of (setting_fault other ∷ declared_fault text seen other ∷ [])

-- The first line that shows a fault

abbrev pub fault_at : ℕ → Option TypeKind → Option TypeErr → Option TypeErr
fault_at number None later = later
fault_at number (Some fault) later = Some (err.At number fault)

-- among these lines, the first of which has this number
abbrev pub faults_from : Whole → Seen → ℕ → List RawLine → Option TypeErr
faults_from text seen number [] = None
faults_from text seen number (l ∷ lines) =
    fault_at number (line_fault text seen lines l) (faults_from text (seen_after seen l) (number + 1) lines)

abbrev pub first_fault : List RawLine → Option TypeErr
first_fault lines = faults_from (whole lines) nothing_seen 1 lines

-- an answer: Ok where there is no fault, and else the first one
abbrev pub TellsFault : {A : Type 0} → Result A TypeErr → Option TypeErr → Type 0
TellsFault (Ok x) fault = fault ≡ None
TellsFault (Err (err.At line kind)) fault = fault ≡ Some (err.At line kind)
TellsFault (Err err.NoMemory) fault = Unit {0}
