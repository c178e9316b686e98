-- What is kept of a signature, and when it is this signature's.
use Rattle.std.specs.Prelude.{◌≡◌, ℕ, suc, ◌<◌, ◌≤◌, List, [], ◌∷◌, length, Bool, false, Some, IsTrue, option_map, slice_index_or}
use Rattle.std.specs.List.{list_any}
use Rattle.law_sig.specs.Trees.{same_symbol}
use Rattle.law_sig.specs.Signature.{symbol_at, args_of, result_of, weight_at}
use Rattle.law_sig.specs.Tests.{is_explored}
use Rattle.law_sig.specs.WellFormed.{IsWellFormed}
use Rattle.law_sig.specs.declared.tree.SortId.{SortId}
use Rattle.law_sig.specs.declared.tree.SymId.{SymId}
use Rattle.law_sig.specs.declared.parts.SigParts.{SigParts}
use Rattle.law_schema.specs.declared.rules.Rule.{Rule}
use Rattle.law_schema.specs.declared.rules.Rules.{Rules}

-- an explored symbol, as the signature declares it
pub record IsRule (parts : SigParts) (rule : Rule) : Type 0 where
  pub declared : rule.symbol.0 < length parts.symbols
  pub explored : IsTrue (is_explored parts rule.symbol)
  pub weight : rule.weight ≡ weight_at parts rule.symbol
  pub args : option_map args_of (symbol_at parts rule.symbol) ≡ Some rule.args
  pub result : option_map result_of (symbol_at parts rule.symbol) ≡ Some rule.result

-- no symbol with a number in this range, its end left out, is explored
abbrev pub NoneBetween : SigParts → ℕ → ℕ → Type 0
NoneBetween parts from upto = (f : SymId) → from ≤ f.0 → f.0 < upto → is_explored parts f ≡ false

-- the rules of exactly the explored symbols with numbers in this range, in order of number
abbrev pub AreBetween : SigParts → ℕ → ℕ → List Rule → Type 0
AreBetween parts from upto [] = NoneBetween parts from upto
AreBetween parts from upto (rule ∷ rules) =
    IsRule parts rule × (from ≤ rule.symbol.0) × (rule.symbol.0 < upto) × NoneBetween parts from rule.symbol.0 × AreBetween parts (suc rule.symbol.0) upto rules

-- what is kept is that of this signature
pub record AreRules (parts : SigParts) (rules : Rules) : Type 0 where
  pub formed : IsWellFormed parts
  pub sorts : rules.sorts ≡ length parts.sort_names
  pub vars : rules.vars ≡ parts.settings.vars
  pub size : rules.size ≡ parts.settings.size
  pub symbols : AreBetween parts 0 (length parts.symbols) rules.symbols

-- Private words

-- the mark at a symbol's number says whether it is one of these; and whether it is explored
abbrev pub AreMarksOf : List SymId → List Bool → Type 0
AreMarksOf symbols marks = (f : SymId) → slice_index_or marks f.0 false ≡ list_any (same_symbol f) symbols

abbrev pub AreMarks : SigParts → List Bool → Type 0
AreMarks parts marks = AreMarksOf parts.settings.explored marks

-- the sort with a number has no variable; the first one from a number on that has one
abbrev pub HasNone : Rules → ℕ → Type 0
HasNone rules n = slice_index_or rules.vars n 0 ≡ 0

pub record IsFirstSort (rules : Rules) (from : ℕ) (sort : SortId) : Type 0 where
  pub later : from ≤ sort.0
  pub declared : sort.0 < rules.sorts
  pub some : 1 ≤ slice_index_or rules.vars sort.0 0
  pub first : (n : ℕ) → from ≤ n → n < sort.0 → HasNone rules n
