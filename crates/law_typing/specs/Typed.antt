-- When the lines of a text state a signature.
use Rattle.std.specs.Prelude.{◌≡◌, ℕ, suc, ◌≤◌, List, [], ◌∷◌, ◌++◌, length, map, Option, Some, None, slice_get, option_map, unwrap_or}
use Rattle.law_sig.specs.Lists.{In, Each}
use Rattle.law_sig.specs.Trees.{joined}
use Rattle.law_sig.specs.Signature.{symbol_at, args_of, constructors, vars_at, width_at, weight_at}
use Rattle.law_sig.specs.Tests.{first_of}
use Rattle.law_sig.specs.WellFormed.{IsWellFormed}
use Rattle.law_sig.specs.declared.tree.SortId.{SortId}
use Rattle.law_sig.specs.declared.tree.SymId.{SymId}
use Rattle.law_sig.specs.declared.tree.Tree.{Tree}
use Rattle.law_sig.specs.declared.tree.Body.{Body}
use Rattle.law_sig.specs.declared.parts.Fun.{Fun}
use Rattle.law_sig.specs.declared.parts.Sym.{Sym}
use Rattle.law_sig.specs.declared.parts.Sym.TheVariants as sym
use Rattle.law_sig.specs.declared.parts.Equation.{Equation}
use Rattle.law_sig.specs.declared.parts.PoolRule.{PoolRule}
use Rattle.law_sig.specs.declared.parts.PoolRule.TheVariants as rule
use Rattle.law_sig.specs.declared.parts.SigParts.{SigParts}
use Rattle.law_lines.specs.declared.raw.RawLine.{RawLine}
use Rattle.law_lines.specs.declared.raw.RawLine.TheVariants as line
use Rattle.law_typing.specs.Naming.{sort_name, symbol_name, named_term, named_body}
use Rattle.law_typing.specs.declared.errors.TypeErr.{TypeErr}
use Rattle.law_typing.specs.declared.errors.TypeErr.TheVariants as err

-- Versions

-- The first version has one number of variables and one width for all sorts, and no weights; the second has no weights.
pub data Version : Type 0 where
  first : ℕ → ℕ → Version
  second : Version
  third : Version

-- the signature has only what a text of the version can say
abbrev pub FitsVersion : Version → SigParts → Type 0
FitsVersion (first vars width) parts =
    Each (λ n. n ≡ vars) parts.settings.vars × Each (λ n. n ≡ width) parts.settings.width × Each (λ n. n ≡ 1) parts.settings.weights
FitsVersion second parts = Each (λ n. n ≡ 1) parts.settings.weights
FitsVersion third parts = Unit {0}

-- Settings

abbrev pub pools_line : PoolRule → RawLine
pools_line (rule.Given pools) = line.PoolsGiven
pools_line (rule.Seeded seed height count) = line.PoolsSeed seed height count

abbrev pub settings_lines : Version → SigParts → List RawLine
settings_lines (first vars width) parts =
    line.Head ∷ line.Vars vars ∷ line.Size parts.settings.size ∷ line.Width width ∷ line.Budget parts.settings.budget
    ∷ line.Pairs parts.settings.pairs ∷ pools_line parts.settings.pools ∷ []
settings_lines second parts =
    line.Head2 ∷ line.Size parts.settings.size ∷ line.Budget parts.settings.budget ∷ line.Pairs parts.settings.pairs
    ∷ pools_line parts.settings.pools ∷ []
settings_lines third parts =
    line.Head3 ∷ line.Size parts.settings.size ∷ line.Budget parts.settings.budget ∷ line.Pairs parts.settings.pairs
    ∷ pools_line parts.settings.pools ∷ []

-- Sorts and constructors

-- the names of the sorts of a symbol's arguments
abbrev pub arg_names : SigParts → SymId → List (List ℕ)
arg_names parts f = map (sort_name parts) (unwrap_or (option_map args_of (symbol_at parts f)) [])

abbrev pub sort_line : Version → SigParts → SortId → RawLine
sort_line (first vars width) parts sort = line.SortLine (sort_name parts sort)
sort_line second parts sort = line.SortLine2 (sort_name parts sort) (vars_at parts sort) (width_at parts sort)
sort_line third parts sort = line.SortLine2 (sort_name parts sort) (vars_at parts sort) (width_at parts sort)

abbrev pub con_line : Version → SigParts → SymId → RawLine
con_line (first vars width) parts f = line.ConLine (symbol_name parts f) (arg_names parts f)
con_line second parts f = line.ConLine (symbol_name parts f) (arg_names parts f)
con_line third parts f = line.ConLine3 (weight_at parts f) (symbol_name parts f) (arg_names parts f)

-- a sort, and then its constructors
abbrev pub sort_block : Version → SigParts → SortId → List RawLine
sort_block version parts sort = sort_line version parts sort ∷ map (con_line version parts) (constructors parts sort)

abbrev pub sort_ids : SigParts → List SortId
sort_ids parts = first_of (length parts.sort_names) (λ n. record { 0 = n })

-- Functions

abbrev pub fun_line : Version → SigParts → SymId → Fun → RawLine
fun_line (first vars width) parts f fun = line.FunLine (symbol_name parts f) (arg_names parts f) (sort_name parts fun.result)
fun_line second parts f fun = line.FunLine (symbol_name parts f) (arg_names parts f) (sort_name parts fun.result)
fun_line third parts f fun = line.FunLine3 (weight_at parts f) (symbol_name parts f) (arg_names parts f) (sort_name parts fun.result)

-- a case line for each of these constructors with its body, in any order, and no other line
pub record AreCaseLines (parts : SigParts) (cons : List SymId) (bodies : List Body) (lines : List RawLine) : Type 0 where
  pub one_each : length lines ≡ length cons
  pub each : (at : ℕ) (con : SymId) (body : Body) → slice_get cons at ≡ Some con → slice_get bodies at ≡ Some body
      → In (line.CaseLine (symbol_name parts con) (named_body parts body)) lines

-- one body; or the match place, and the cases by the constructors of the sort at that place
abbrev pub AreRules : SigParts → Fun → Option ℕ → List RawLine → Type 0
AreRules parts fun None lines = (body : Body) × (fun.cases ≡ body ∷ []) × (lines ≡ line.BodyLine (named_body parts body) ∷ [])
AreRules parts fun (Some place) lines = (sort : SortId) × (cases : List RawLine) × (slice_get fun.args place ≡ Some sort)
    × (lines ≡ line.MatchLine place ∷ cases) × AreCaseLines parts (constructors parts sort) fun.cases cases

-- the lines of the functions among these symbols, the first of which has this number, in order
abbrev pub AreFunLines : Version → SigParts → ℕ → List Sym → List RawLine → Type 0
AreFunLines version parts number [] lines = lines ≡ []
AreFunLines version parts number (sym.Con con ∷ symbols) lines = AreFunLines version parts (suc number) symbols lines
AreFunLines version parts number (sym.Fun fun ∷ symbols) lines =
    (rules : List RawLine) × (others : List RawLine)
    × (lines ≡ fun_line version parts (record { 0 = number }) fun ∷ (rules ++ others))
    × AreRules parts fun fun.place rules × AreFunLines version parts (suc number) symbols others

-- the functions among these symbols, by number
abbrev pub functions_from : ℕ → List Sym → List SymId
functions_from number [] = []
functions_from number (sym.Con con ∷ symbols) = functions_from (suc number) symbols
functions_from number (sym.Fun fun ∷ symbols) = record { 0 = number } ∷ functions_from (suc number) symbols

-- symbols are numbered in the order of their lines: the constructors sort by sort, and then the functions
abbrev pub AreNumbered : SigParts → Type 0
AreNumbered parts =
    joined (map (constructors parts) (sort_ids parts)) ++ functions_from 0 parts.symbols ≡ first_of (length parts.symbols) (λ n. record { 0 = n })

-- Background and pools

abbrev pub background_line : SigParts → Equation → RawLine
background_line parts e = line.Background (named_term parts e.left) (named_term parts e.right)

-- the values of the sorts from this number on
abbrev pub values_lines : SigParts → ℕ → List (List Tree) → List RawLine
values_lines parts sort [] = []
values_lines parts sort (values ∷ others) =
    line.Values (sort_name parts (record { 0 = sort })) (map (named_term parts) values) ∷ values_lines parts (suc sort) others

-- a pool with values for at most 64 sorts, as every pool of a signature has
abbrev pub HasFewSorts : List (List Tree) → Type 0
HasFewSorts pool = length pool ≤ 64

abbrev pub pools_lines : SigParts → List (List (List Tree)) → List RawLine
pools_lines parts [] = []
pools_lines parts (pool ∷ pools) = line.Pool ∷ (values_lines parts 0 pool ++ pools_lines parts pools)

-- given pools stand in the text, seeded ones don't
abbrev pub given_lines : SigParts → PoolRule → List RawLine
given_lines parts (rule.Given pools) = pools_lines parts pools
given_lines parts (rule.Seeded seed height count) = []

-- The whole text

-- the signature is well-formed, and has exactly what the lines state, with each name replaced by the number of its line's
-- sort or symbol
pub record IsTypedAs (lines : List RawLine) (parts : SigParts) : Type 0 where
  pub version : Version
  pub well_formed : IsWellFormed parts
  pub fits : FitsVersion version parts
  pub numbered : AreNumbered parts
  pub functions : List RawLine
  pub function_lines : AreFunLines version parts 0 parts.symbols functions
  pub lines_are : lines ≡ settings_lines version parts ++ (joined (map (sort_block version parts) (sort_ids parts)) ++ (functions
      ++ (line.Explore (map (symbol_name parts) parts.settings.explored) ∷ (map (background_line parts) parts.settings.background
      ++ (given_lines parts parts.settings.pools ++ line.End ∷ [])))))

-- what an error says: with a fault, that the lines state no signature
abbrev pub StatesNothing : List RawLine → TypeErr → Type 0
StatesNothing lines (err.At number kind) = (parts : SigParts) → IsTypedAs lines parts → ⊥
StatesNothing lines err.NoMemory = Unit {0}
