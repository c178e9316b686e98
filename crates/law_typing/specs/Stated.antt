-- The signature that a text without faults states, made line by line. These words give something for every text; what they
-- give is meant where no line shows a fault.
use Rattle.std.specs.Prelude.{ℕ, min, List, [], ◌∷◌, map, Bool, true, false, Option, Some, None, unwrap_or, slice_get}
use Rattle.law_sig.specs.Signature.{constructors_from}
use Rattle.law_sig.specs.WellFormed.{is_function}
use Rattle.law_sig.specs.declared.tree.SortId.{SortId}
use Rattle.law_sig.specs.declared.tree.SymId.{SymId}
use Rattle.law_sig.specs.declared.tree.Tree.{Tree}
use Rattle.law_sig.specs.declared.tree.Tree.TheVariants.{Var, App}
use Rattle.law_sig.specs.declared.tree.Body.{Body}
use Rattle.law_sig.specs.declared.tree.Body.TheVariants as body
use Rattle.law_sig.specs.declared.parts.Sym.{Sym}
use Rattle.law_sig.specs.declared.parts.Sym.TheVariants as sym
use Rattle.law_sig.specs.declared.parts.Equation.{Equation}
use Rattle.law_sig.specs.declared.parts.PoolRule.{PoolRule}
use Rattle.law_sig.specs.declared.parts.PoolRule.TheVariants as rule
use Rattle.law_sig.specs.declared.parts.SigParts.{SigParts}
use Rattle.law_lines.specs.declared.raw.RawHead.{RawHead}
use Rattle.law_lines.specs.declared.raw.RawHead.TheVariants as head
use Rattle.law_lines.specs.declared.raw.RawTerm.{RawTerm}
use Rattle.law_lines.specs.declared.raw.RawTerm.TheOpen.{RawTerm-F}
use Rattle.law_lines.specs.declared.raw.RawTerm.TheFolds.{fold-RawTerm}
use Rattle.law_lines.specs.declared.raw.RawLine.{RawLine}
use Rattle.law_lines.specs.declared.raw.RawLine.TheVariants as line
use Rattle.law_typing.specs.Names.{number_of}
use Rattle.law_typing.specs.Declarations.{sort_id, sort_in, declared_in, sorts_after, added, gathered}
use Rattle.law_typing.specs.TermFaults.{symbol_of}
use Rattle.law_typing.specs.LineFaults.{case_names}
use Rattle.law_typing.specs.declared.whole.Whole.{Whole}

-- a number that fits 32 bits, as all numbers in range do
abbrev pub short : ℕ → ℕ
short n = min n 4294967295

-- Terms and bodies

abbrev pub symbol_id : Whole → List ℕ → SymId
symbol_id text name = record { 0 = unwrap_or (number_of text.names name) 0 }

abbrev pub tree_over : Whole → RawHead → List Tree → Tree
tree_over text (head.Name name) args = App (symbol_id text name) args
tree_over text (head.Var sort index) args = Var (sort_id text.sorts sort) index
tree_over text (head.Param number) args = Var (record { 0 = 0 }) number
tree_over text (head.Field number) args = Var (record { 0 = 0 }) number

abbrev pub stated_step : Whole → RawTerm-F Tree → Tree
stated_step text term = tree_over text term.head term.args

-- a side, or a value
abbrev pub stated_tree : Whole → RawTerm → Tree
stated_tree text = fold-RawTerm Tree (stated_step text)

abbrev pub symbol_body : Bool → SymId → List Body → Body
symbol_body true f args = body.Call f args
symbol_body false f args = body.Make f args

abbrev pub body_over : Whole → RawHead → List Body → Body
body_over text (head.Name name) args = symbol_body (is_function (symbol_of text (number_of text.names name))) (symbol_id text name) args
body_over text (head.Var sort index) args = body.Param index
body_over text (head.Param number) args = body.Param number
body_over text (head.Field number) args = body.Field number

abbrev pub body_step : Whole → RawTerm-F Body → Body
body_step text term = body_over text term.head term.args

abbrev pub stated_body : Whole → RawTerm → Body
stated_body text = fold-RawTerm Body (body_step text)

-- Functions

-- the body of a case line
abbrev pub case_body : Whole → Option RawLine → Body
case_body text (Some (line.CaseLine con term)) = stated_body text term
case_body text other = body.Param 0

-- the line of a constructor's case among the lines of cases that come first
abbrev pub case_line : List RawLine → Option ℕ → Option RawLine
case_line lines None = None
case_line lines (Some at) = slice_get lines at

abbrev pub case_number : List (List ℕ) → Option (List ℕ) → Option ℕ
case_number cases None = None
case_number cases (Some name) = number_of cases name

abbrev pub stated_case : Whole → List RawLine → SymId → Body
stated_case text lines con = case_body text (case_line lines (case_number (case_names lines) (slice_get text.names con.0)))

-- the cases of a match on a value of this sort, by constructor
abbrev pub stated_cases : Whole → List RawLine → Option SortId → List Body
stated_cases text lines None = []
stated_cases text lines (Some sort) = map (stated_case text lines) (constructors_from 0 text.symbols sort)

-- the bodies of a function with arguments of these sorts, before the lines of its rules
abbrev pub stated_bodies : Whole → List SortId → List RawLine → List Body
stated_bodies text args (line.BodyLine term ∷ lines) = stated_body text term ∷ []
stated_bodies text args (line.MatchLine place ∷ lines) = stated_cases text lines (slice_get args place)
stated_bodies text args lines = []

abbrev pub stated_place : List RawLine → Option ℕ
stated_place (line.MatchLine place ∷ lines) = Some (short place)
stated_place lines = None

-- a symbol that a line declares, with its bodies where it is a function
abbrev pub filled : Whole → List RawLine → Option Sym → Option Sym
filled text lines None = None
filled text lines (Some (sym.Con con)) = Some (sym.Con con)
filled text lines (Some (sym.Fun fun)) = Some (sym.Fun (record {
  args = fun.args;
  result = fun.result;
  place = stated_place lines;
  cases = stated_bodies text fun.args lines;
}))

-- the symbols of these lines, before which so many sort lines stand
abbrev pub stated_symbols : Whole → ℕ → List RawLine → List Sym
stated_symbols text before [] = []
stated_symbols text before (l ∷ lines) =
    added (filled text lines (declared_in text.sorts before l)) (stated_symbols text (sorts_after before (sort_in l)) lines)

-- Settings

abbrev pub size_in : List RawLine → ℕ
size_in [] = 0
size_in (line.Size n ∷ lines) = n
size_in (other ∷ lines) = size_in lines

abbrev pub budget_in : List RawLine → ℕ
budget_in [] = 0
budget_in (line.Budget n ∷ lines) = n
budget_in (other ∷ lines) = budget_in lines

abbrev pub pairs_in : List RawLine → ℕ
pairs_in [] = 0
pairs_in (line.Pairs n ∷ lines) = n
pairs_in (other ∷ lines) = pairs_in lines

-- the weight of the symbol that a line declares: 1 where none is stated
abbrev pub weight_of : RawLine → List ℕ
weight_of (line.ConLine name args) = 1 ∷ []
weight_of (line.ConLine3 weight name args) = short weight ∷ []
weight_of (line.FunLine name args result) = 1 ∷ []
weight_of (line.FunLine3 weight name args result) = short weight ∷ []
weight_of other = []

abbrev pub explored_of : Whole → RawLine → List SymId
explored_of text (line.Explore names) = map (symbol_id text) names
explored_of text other = []

abbrev pub equation_of : Whole → RawLine → List Equation
equation_of text (line.Background left right) = record { left = stated_tree text left; right = stated_tree text right } ∷ []
equation_of text other = []

-- the values of the lines of values that come first
abbrev pub stated_values : Whole → List RawLine → List (List Tree)
stated_values text (line.Values sort values ∷ lines) = map (stated_tree text) values ∷ stated_values text lines
stated_values text lines = []

abbrev pub stated_pools : Whole → List RawLine → List (List (List Tree))
stated_pools text [] = []
stated_pools text (line.Pool ∷ lines) = stated_values text lines ∷ stated_pools text lines
stated_pools text (other ∷ lines) = stated_pools text lines

abbrev pub stated_rule : Whole → List RawLine → PoolRule
stated_rule text [] = rule.Given []
stated_rule text (line.PoolsSeed seed height count ∷ lines) = rule.Seeded seed (short height) (short count)
stated_rule text (line.PoolsGiven ∷ lines) = rule.Given (stated_pools text lines)
stated_rule text (other ∷ lines) = stated_rule text lines

-- The whole signature

abbrev pub stated : Whole → List RawLine → SigParts
stated text lines = record {
  sort_names = text.sorts;
  symbol_names = text.names;
  symbols = stated_symbols text 0 lines;
  settings = record {
    vars = map short text.vars;
    size = short (size_in lines);
    width = map short text.widths;
    budget = budget_in lines;
    pairs = short (pairs_in lines);
    weights = gathered weight_of lines;
    explored = gathered (explored_of text) lines;
    background = gathered (equation_of text) lines;
    pools = stated_rule text lines;
  };
}
