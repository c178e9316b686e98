-- What the lines of a text declare, whatever else may be wrong with them: names, and by number the sorts of symbols.
use Rattle.std.specs.Prelude.{ℕ, zero, suc, ◌+◌, ◌-◌, List, [], ◌∷◌, ◌++◌, length, map, Bool, false, nat_lt, not, ◌||◌, Option, Some, None, unwrap_or}
use Rattle.std.specs.List.{list_any}
use Rattle.law_sig.specs.WellFormed.{makes_from}
use Rattle.law_sig.specs.declared.tree.SortId.{SortId}
use Rattle.law_sig.specs.declared.parts.Sym.{Sym}
use Rattle.law_sig.specs.declared.parts.Sym.TheVariants as sym
use Rattle.law_lines.specs.declared.raw.RawLine.{RawLine}
use Rattle.law_lines.specs.declared.raw.RawLine.TheVariants as line
use Rattle.law_typing.specs.Names.{number_of}
use Rattle.law_typing.specs.declared.whole.Whole.{Whole}

-- the number of a sort, and for a name that isn't a sort the number after the last one
abbrev pub sort_id : List (List ℕ) → List ℕ → SortId
sort_id sorts name = record { 0 = unwrap_or (number_of sorts name) (length sorts) }

-- What each line declares

-- the name of the sort that a line declares
abbrev pub sort_in : RawLine → Option (List ℕ)
sort_in (line.SortLine name) = Some name
sort_in (line.SortLine2 name vars width) = Some name
sort_in other = None

-- the name of the symbol that a line declares
abbrev pub symbol_in : RawLine → Option (List ℕ)
symbol_in (line.ConLine name args) = Some name
symbol_in (line.ConLine3 weight name args) = Some name
symbol_in (line.FunLine name args result) = Some name
symbol_in (line.FunLine3 weight name args result) = Some name
symbol_in other = None

abbrev pub constructor : List (List ℕ) → ℕ → List (List ℕ) → Sym
constructor sorts sort args = sym.Con (record { sort = record { 0 = sort - 1 }; args = map (sort_id sorts) args })

abbrev pub function : List (List ℕ) → List (List ℕ) → List ℕ → Sym
function sorts args result =
    sym.Fun (record { args = map (sort_id sorts) args; result = sort_id sorts result; place = None; cases = [] })

-- the symbol that a line declares, a function without its bodies; so many sort lines stand before it, and a constructor
-- belongs to the last of them
abbrev pub declared_in : List (List ℕ) → ℕ → RawLine → Option Sym
declared_in sorts before (line.ConLine name args) = Some (constructor sorts before args)
declared_in sorts before (line.ConLine3 weight name args) = Some (constructor sorts before args)
declared_in sorts before (line.FunLine name args result) = Some (function sorts args result)
declared_in sorts before (line.FunLine3 weight name args result) = Some (function sorts args result)
declared_in sorts before other = None

-- one more sort where the line declares one
abbrev pub sorts_after : ℕ → Option (List ℕ) → ℕ
sorts_after before None = before
sorts_after before (Some name) = suc before

-- What all lines declare

abbrev pub added : {A : Type 0} → Option A → List A → List A
added None xs = xs
added (Some x) xs = x ∷ xs

abbrev pub sort_names : List RawLine → List (List ℕ)
sort_names [] = []
sort_names (l ∷ lines) = added (sort_in l) (sort_names lines)

abbrev pub symbol_names : List RawLine → List (List ℕ)
symbol_names [] = []
symbol_names (l ∷ lines) = added (symbol_in l) (symbol_names lines)

-- the symbols, where so many sort lines stand before these lines
abbrev pub symbols_from : List (List ℕ) → ℕ → List RawLine → List Sym
symbols_from sorts before [] = []
symbols_from sorts before (l ∷ lines) = added (declared_in sorts before l) (symbols_from sorts (sorts_after before (sort_in l)) lines)

-- the numbers of variables of the sorts, and their widths: in the first version one number for all, stated in a line of
-- its own
abbrev pub vars_in : List RawLine → ℕ
vars_in [] = 0
vars_in (line.Vars n ∷ lines) = n
vars_in (other ∷ lines) = vars_in lines

abbrev pub width_in : List RawLine → ℕ
width_in [] = 0
width_in (line.Width n ∷ lines) = n
width_in (other ∷ lines) = width_in lines

abbrev pub vars_of : ℕ → RawLine → List ℕ
vars_of common (line.SortLine name) = common ∷ []
vars_of common (line.SortLine2 name vars width) = vars ∷ []
vars_of common other = []

abbrev pub width_of : ℕ → RawLine → List ℕ
width_of common (line.SortLine name) = common ∷ []
width_of common (line.SortLine2 name vars width) = width ∷ []
width_of common other = []

-- what each line gives, one after another
abbrev pub gathered : {A : Type 0} → (RawLine → List A) → List RawLine → List A
gathered f [] = []
gathered f (l ∷ lines) = f l ++ gathered f lines

abbrev pub whole : List RawLine → Whole
whole lines = record {
  sorts = sort_names lines;
  names = symbol_names lines;
  symbols = symbols_from (sort_names lines) 0 lines;
  vars = gathered (vars_of (vars_in lines)) lines;
  widths = gathered (width_of (width_in lines)) lines;
}

-- Heights of values

-- whether a sort has a value of at most this height, where a name that isn't a sort counts as of height 1
unfoldable pub is_low : Whole → ℕ → SortId → Bool
is_low text zero sort = false
is_low text (suc n) sort = not (nat_lt sort.0 (length text.sorts)) || list_any (makes_from (is_low text n) sort) text.symbols

-- whether a sort has a value at all: if it has one, then one that is no higher than one more than the number of sorts,
-- since the least heights of the sorts below a sort's own are less than its own, and each of them is the least height of
-- some sort, or that of a name that isn't a sort
abbrev pub has_value : Whole → SortId → Bool
has_value text sort = is_low text (length text.sorts + 1) sort
