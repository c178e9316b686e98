-- The order of the lines of a signature.
use Rattle.std.specs.Prelude.{List, [], ◌∷◌}
use Rattle.law_lines.specs.Grammar.{Grammar, some}
use Rattle.law_lines.specs.Grammar.Grammar.{one, series, either, many}
use Rattle.law_lines.specs.declared.shape.Shape.{Shape}
use Rattle.law_lines.specs.declared.shape.Shape.TheVariants.{Head, Head2, Head3, Vars, Size, Width, Budget, Pairs, PoolsGiven, PoolsSeed, SortLine, SortLine2, ConLine, ConLine3, FunLine, FunLine3, MatchLine, BodyLine, CaseLine, Explore, Background, Pool, Values, End}
use Rattle.law_lines.specs.declared.raw.RawLine.{RawLine}
use Rattle.law_lines.specs.declared.raw.RawLine.TheVariants as r

-- these lines, once each, and then the rest
abbrev pub lines_then : List Shape → Grammar Shape → Grammar Shape
lines_then [] rest = rest
lines_then (shape ∷ shapes) rest = series (one shape) (lines_then shapes rest)

-- sorts, each with at least one constructor
abbrev pub sorts : Shape → Shape → Grammar Shape
sorts sort con = some (series (one sort) (some (one con)))

-- functions, each with one body, or a match and at least one case
abbrev pub functions : Shape → Grammar Shape
functions fun = many (series (one fun) (either (one BodyLine) (series (one MatchLine) (some (one CaseLine)))))

abbrev pub declarations : Shape → Shape → Shape → Grammar Shape → Grammar Shape
declarations sort con fun rest = series (sorts sort con) (series (functions fun) (series (one Explore) (series (many (one Background)) rest)))

-- Given pools stand in the text, seeded ones don't.
abbrev pub given_pools : Grammar Shape
given_pools = series (some (series (one Pool) (some (one Values)))) (one End)

abbrev pub version : List Shape → Shape → Shape → Shape → Grammar Shape
version settings sort con fun = lines_then settings (either
    (series (one PoolsGiven) (declarations sort con fun given_pools))
    (series (one PoolsSeed) (declarations sort con fun (one End))))

-- The three versions: the second moves variables and width into the sort lines, the third puts a
-- weight into the lines of constructors and functions.
abbrev pub order : Grammar Shape
order = either
    (version (Head ∷ Vars ∷ Size ∷ Width ∷ Budget ∷ Pairs ∷ []) SortLine ConLine FunLine)
    (either
    (version (Head2 ∷ Size ∷ Budget ∷ Pairs ∷ []) SortLine2 ConLine FunLine)
    (version (Head3 ∷ Size ∷ Budget ∷ Pairs ∷ []) SortLine2 ConLine3 FunLine3))

abbrev pub shape_of : RawLine → Shape
shape_of r.Head = Head
shape_of r.Head2 = Head2
shape_of r.Head3 = Head3
shape_of (r.Vars n) = Vars
shape_of (r.Size n) = Size
shape_of (r.Width n) = Width
shape_of (r.Budget n) = Budget
shape_of (r.Pairs n) = Pairs
shape_of r.PoolsGiven = PoolsGiven
shape_of (r.PoolsSeed seed height count) = PoolsSeed
shape_of (r.SortLine name) = SortLine
shape_of (r.SortLine2 name vars width) = SortLine2
shape_of (r.ConLine name args) = ConLine
shape_of (r.ConLine3 weight name args) = ConLine3
shape_of (r.FunLine name args result) = FunLine
shape_of (r.FunLine3 weight name args result) = FunLine3
shape_of (r.MatchLine n) = MatchLine
shape_of (r.BodyLine body) = BodyLine
shape_of (r.CaseLine con body) = CaseLine
shape_of (r.Explore names) = Explore
shape_of (r.Background left right) = Background
shape_of r.Pool = Pool
shape_of (r.Values sort values) = Values
shape_of r.End = End
