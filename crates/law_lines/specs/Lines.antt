-- Which lines the grammar spells.
use Rattle.std.specs.Prelude.{ℕ, ◌<◌, ◌^◌, List, [], ◌∷◌, length, IsTrue}
use Rattle.std.specs.List.{list_all}
use Rattle.law_lines.specs.declared.raw.RawTerm.{RawTerm}
use Rattle.law_lines.specs.declared.raw.RawLine.{RawLine}
use Rattle.law_lines.specs.declared.raw.RawLine.TheVariants as r
use Rattle.law_lines.specs.declared.want.Bounds.{Bounds}
use Rattle.law_lines.specs.declared.want.Place.TheVariants.{Equation, Body, Value}
use Rattle.law_lines.specs.Terms.{IsTerm, is_name_in, within}

abbrev pub IsNumber : ℕ → Type 0
IsNumber n = n < 2 ^ 63

abbrev pub IsName : Bounds → List ℕ → Type 0
IsName bounds name = IsTrue (is_name_in bounds name)

-- names of argument sorts, as many as a symbol may have arguments
pub record AreSorts (bounds : Bounds) (sorts : List (List ℕ)) : Type 0 where
  pub names : IsTrue (list_all (is_name_in bounds) sorts)
  pub few : IsTrue (within bounds 8 (length sorts))

-- each is a value by itself, with bounds of its own
abbrev pub AreValues : Bounds → List RawTerm → Type 0
AreValues bounds [] = Unit {0}
AreValues bounds (term ∷ terms) = IsTerm bounds Value term × AreValues bounds terms

-- The grammar spells the line: its numbers are below 2^63, its names are names, a symbol has few
-- arguments, and its terms are spelled where they stand.
abbrev pub IsLine : Bounds → RawLine → Type 0
IsLine bounds (r.Vars n) = IsNumber n
IsLine bounds (r.Size n) = IsNumber n
IsLine bounds (r.Width n) = IsNumber n
IsLine bounds (r.Budget n) = IsNumber n
IsLine bounds (r.Pairs n) = IsNumber n
IsLine bounds (r.PoolsSeed seed height count) = IsNumber seed × IsNumber height × IsNumber count
IsLine bounds (r.SortLine name) = IsName bounds name
IsLine bounds (r.SortLine2 name vars width) = IsName bounds name × IsNumber vars × IsNumber width
IsLine bounds (r.ConLine name args) = IsName bounds name × AreSorts bounds args
IsLine bounds (r.ConLine3 weight name args) = IsNumber weight × IsName bounds name × AreSorts bounds args
IsLine bounds (r.FunLine name args result) = IsName bounds name × AreSorts bounds args × IsName bounds result
IsLine bounds (r.FunLine3 weight name args result) =
    IsNumber weight × IsName bounds name × AreSorts bounds args × IsName bounds result
IsLine bounds (r.MatchLine n) = IsNumber n
IsLine bounds (r.BodyLine term) = IsTerm bounds Body term
IsLine bounds (r.CaseLine con term) = IsName bounds con × IsTerm bounds Body term
IsLine bounds (r.Explore names) = IsTrue (list_all (is_name_in bounds) names)
IsLine bounds (r.Background left right) = IsTerm bounds Equation left × IsTerm bounds Equation right
IsLine bounds (r.Values sort values) = IsName bounds sort × (0 < length values) × AreValues bounds values
IsLine bounds line = Unit {0}

-- a line that declares a sort or a symbol, or lists explored names
abbrev pub IsDeclaration : RawLine → Type 0
IsDeclaration (r.SortLine name) = Unit {0}
IsDeclaration (r.SortLine2 name vars width) = Unit {0}
IsDeclaration (r.ConLine name args) = Unit {0}
IsDeclaration (r.ConLine3 weight name args) = Unit {0}
IsDeclaration (r.FunLine name args result) = Unit {0}
IsDeclaration (r.FunLine3 weight name args result) = Unit {0}
IsDeclaration (r.Explore names) = Unit {0}
IsDeclaration line = ⊥
