-- The first fault of a written term: it is gone through from the root, and at each node the faults are looked for in
-- order, those of the arguments last, from left to right.
use Rattle.std.specs.Prelude.{ℕ, List, [], ◌∷◌, length, map, Bool, true, false, not, ◌&&◌, ◌==◌, nat_lt, Option, Some, None, slice_get}
use Rattle.std.specs.Option.{option_or}
use Rattle.law_sig.specs.Trees.{same_sort}
use Rattle.law_sig.specs.Signature.{args_of, result_of}
use Rattle.law_sig.specs.WellFormed.{is_function}
use Rattle.law_sig.specs.declared.tree.SortId.{SortId}
use Rattle.law_sig.specs.declared.parts.Sym.{Sym}
use Rattle.law_lines.specs.declared.raw.RawHead.{RawHead}
use Rattle.law_lines.specs.declared.raw.RawHead.TheVariants as head
use Rattle.law_lines.specs.declared.raw.RawTerm.{RawTerm}
use Rattle.law_lines.specs.declared.raw.RawTerm.TheOpen.{RawTerm-F}
use Rattle.law_lines.specs.declared.raw.RawTerm.TheFolds.{fold-RawTerm}
use Rattle.law_lines.specs.declared.raw.RawTerm.TheViews.{out-RawTerm}
use Rattle.law_typing.specs.Names.{number_of}
use Rattle.law_typing.specs.declared.errors.TypeKind.{TypeKind}
use Rattle.law_typing.specs.declared.errors.TypeKind.TheVariants as kind
use Rattle.law_typing.specs.declared.scope.Scope.{Scope}
use Rattle.law_typing.specs.declared.scope.Standing.{Standing}
use Rattle.law_typing.specs.declared.scope.Standing.TheVariants as standing
use Rattle.law_typing.specs.declared.whole.Whole.{Whole}

-- Faults in order

-- the kind of fault where the test holds
abbrev pub fault_if : Bool → TypeKind → Option TypeKind
fault_if true fault = Some fault
fault_if false fault = None

-- the first of these faults
abbrev pub first_of : List (Option TypeKind) → Option TypeKind
first_of [] = None
first_of (fault ∷ []) = fault
first_of (fault ∷ other ∷ faults) = option_or fault (first_of (other ∷ faults))

-- where another sort is wanted than the one that is found
abbrev pub mismatch : Option SortId → SortId → Option TypeKind
mismatch None found = None
mismatch (Some wanted) found = fault_if (not (same_sort wanted found)) (kind.SortMismatch wanted found)

-- At a node

abbrev pub is_value : Standing → Bool
is_value standing.Value = true
is_value standing.Side = false
is_value standing.Body = false

abbrev pub is_side : Standing → Bool
is_side standing.Value = false
is_side standing.Side = true
is_side standing.Body = false

abbrev pub is_body : Standing → Bool
is_body standing.Value = false
is_body standing.Side = false
is_body standing.Body = true

-- whether the item at this place is true, and false where there is no place or no item
abbrev pub is_true_at : Option Bool → Bool
is_true_at None = false
is_true_at (Some b) = b

abbrev pub falls_at : Option ℕ → List Bool → Bool
falls_at None fields = false
falls_at (Some place) fields = is_true_at (slice_get fields place)

-- a symbol with this number over so many arguments: a function is unknown in a value, and in a body later ones may not be
-- called; the function at work may be where its argument at the match place is directly a field
abbrev pub symbol_faults : Scope → ℕ → List Bool → Option SortId → Option Sym → Option TypeKind
symbol_faults scope number fields wanted None = Some kind.UnknownName
symbol_faults scope number fields wanted (Some symbol) = first_of (
    fault_if (is_value scope.standing && is_function (Some symbol)) kind.UnknownName
    ∷ fault_if (is_body scope.standing && is_function (Some symbol) && nat_lt scope.owner number) kind.LaterCall
    ∷ fault_if (not (length fields == length (args_of symbol))) kind.Arity
    ∷ mismatch wanted (result_of symbol)
    ∷ fault_if (is_body scope.standing && (number == scope.owner) && not (falls_at scope.place fields)) kind.NotSmaller
    ∷ [])

abbrev pub name_faults : Whole → Scope → List Bool → Option SortId → Option ℕ → Option TypeKind
name_faults text scope fields wanted None = Some kind.UnknownName
name_faults text scope fields wanted (Some number) = symbol_faults scope number fields wanted (slice_get text.symbols number)

-- a variable of the sort with this number
abbrev pub is_in_range : ℕ → Option ℕ → Bool
is_in_range index None = false
is_in_range index (Some vars) = nat_lt index vars

abbrev pub variable_faults : Whole → Scope → ℕ → ℕ → Option SortId → Option ℕ → Option TypeKind
variable_faults text scope index count wanted None = first_of (
    fault_if (not (is_side scope.standing)) kind.UnknownName
    ∷ fault_if (not (count == 0)) kind.Arity
    ∷ Some kind.UnknownSort
    ∷ [])
variable_faults text scope index count wanted (Some sort) = first_of (
    fault_if (not (is_side scope.standing)) kind.UnknownName
    ∷ fault_if (not (count == 0)) kind.Arity
    ∷ fault_if (not (is_in_range index (slice_get text.vars sort))) kind.SettingRange
    ∷ mismatch wanted (record { 0 = sort })
    ∷ [])

-- a parameter or a field, of this sort, where there is one of its number
abbrev pub atom_faults : ℕ → Option SortId → Option SortId → Option TypeKind
atom_faults count wanted None = Some kind.Arity
atom_faults count wanted (Some sort) = first_of (fault_if (not (count == 0)) kind.Arity ∷ mismatch wanted sort ∷ [])

-- the faults of a node by its head, over arguments each of which is directly a field or isn't
abbrev pub node_faults : Whole → Scope → List Bool → Option SortId → RawHead → Option TypeKind
node_faults text scope fields wanted (head.Name name) = name_faults text scope fields wanted (number_of text.names name)
node_faults text scope fields wanted (head.Var sort index) = variable_faults text scope index (length fields) wanted (number_of text.sorts sort)
node_faults text scope fields wanted (head.Param number) = atom_faults (length fields) wanted (slice_get scope.params number)
node_faults text scope fields wanted (head.Field number) = atom_faults (length fields) wanted (slice_get scope.fields number)

-- The whole term

-- the sorts that a head wants of its arguments
abbrev pub wanted_of : Option Sym → List SortId
wanted_of None = []
wanted_of (Some symbol) = args_of symbol

abbrev pub symbol_of : Whole → Option ℕ → Option Sym
symbol_of text None = None
symbol_of text (Some number) = slice_get text.symbols number

abbrev pub head_symbol : Whole → RawHead → Option Sym
head_symbol text (head.Name name) = symbol_of text (number_of text.names name)
head_symbol text (head.Var sort index) = None
head_symbol text (head.Param number) = None
head_symbol text (head.Field number) = None

abbrev pub is_field : RawHead → Bool
is_field (head.Name name) = false
is_field (head.Var sort index) = false
is_field (head.Param number) = false
is_field (head.Field number) = true

-- whether a term is directly a field
abbrev pub is_field_term : RawTerm → Bool
is_field_term term = is_field (out-RawTerm term).head

-- the faults of a term's root
abbrev pub root_faults : Whole → Scope → Option SortId → RawTerm → Option TypeKind
root_faults text scope wanted term = node_faults text scope (map is_field_term (out-RawTerm term).args) wanted (out-RawTerm term).head

-- a part of a term: whether it is directly a field, and its first fault where a sort, or none, is wanted of it
pub record Part : Type 0 where
  pub field : Bool
  pub fault : Option SortId → Option TypeKind

abbrev pub argument_faults : List SortId → List Part → Option TypeKind
argument_faults [] parts = None
argument_faults (sort ∷ sorts) [] = None
argument_faults (sort ∷ sorts) (part ∷ parts) = option_or (part.fault (Some sort)) (argument_faults sorts parts)

abbrev pub part_step : Whole → Scope → RawTerm-F Part → Part
part_step text scope term = record {
  field = is_field term.head;
  fault = λ wanted. option_or (node_faults text scope (map (λ (part : Part). part.field) term.args) wanted term.head)
      (argument_faults (wanted_of (head_symbol text term.head)) term.args);
}

-- the first fault of a term of which a sort, or none, is wanted
abbrev pub term_fault : Whole → Scope → Option SortId → RawTerm → Option TypeKind
term_fault text scope wanted term = (fold-RawTerm Part (part_step text scope) term).fault wanted
