-- Which line may come next, by what came before: a walk through the order of lines, which readings are
-- proved by.
use Rattle.std.specs.Prelude.{◌≡◌, ℕ, Bool, true, false, ◌||◌, ◌==◌, not, List, [], ◌∷◌, Option, Some, None, codes}
use Rattle.law_lines.specs.declared.raw.RawLine.{RawLine}
use Rattle.law_lines.specs.declared.shape.Shape.{Shape}
use Rattle.law_lines.specs.declared.shape.Shape.TheVariants as s
use Rattle.law_lines.specs.declared.stage.Version.{Version}
use Rattle.law_lines.specs.declared.stage.Version.TheVariants.{First, Second, Third}
use Rattle.law_lines.specs.declared.stage.Key.{Key}
use Rattle.law_lines.specs.declared.stage.Key.TheVariants.{Signature, Vars, Size, Width, Budget, Pairs, Pools, Sort, Con, Fun, Match, Body, Case, Explore, Background, Pool, Values, End}
use Rattle.law_lines.specs.declared.stage.Stage.{Stage}
use Rattle.law_lines.specs.Order.{shape_of}

abbrev pub key_number : Key → ℕ
key_number Signature = 0
key_number Vars = 1
key_number Size = 2
key_number Width = 3
key_number Budget = 4
key_number Pairs = 5
key_number Pools = 6
key_number Sort = 7
key_number Con = 8
key_number Fun = 9
key_number Match = 10
key_number Body = 11
key_number Case = 12
key_number Explore = 13
key_number Background = 14
key_number Pool = 15
key_number Values = 16
key_number End = 17

abbrev pub same_key : Key → Key → Bool
same_key k l = key_number k == key_number l

abbrev pub key_text : Key → List ℕ
key_text Signature = codes "signature"
key_text Vars = codes "vars"
key_text Size = codes "size"
key_text Width = codes "width"
key_text Budget = codes "budget"
key_text Pairs = codes "pairs"
key_text Pools = codes "pools"
key_text Sort = codes "sort"
key_text Con = codes "con"
key_text Fun = codes "fun"
key_text Match = codes "match"
key_text Body = codes "body"
key_text Case = codes "case"
key_text Explore = codes "explore"
key_text Background = codes "background"
key_text Pool = codes "pool"
key_text Values = codes "values"
key_text End = codes "end"

abbrev pub allows_first : Version → Key → Bool
allows_first First key = same_key key Vars
allows_first Second key = same_key key Size
allows_first Third key = same_key key Size

abbrev pub allows_width : Version → Key → Bool
allows_width First key = same_key key Width
allows_width Second key = same_key key Budget
allows_width Third key = same_key key Budget

abbrev pub allows_last : Bool → Key → Bool
allows_last true key = same_key key Background || same_key key Pool
allows_last false key = same_key key Background || same_key key End

abbrev pub allows_after : Version → Bool → Key → Key → Bool
allows_after version given Signature key = allows_first version key
allows_after version given Vars key = same_key key Size
allows_after version given Size key = allows_width version key
allows_after version given Width key = same_key key Budget
allows_after version given Budget key = same_key key Pairs
allows_after version given Pairs key = same_key key Pools
allows_after version given Pools key = same_key key Sort
allows_after version given Sort key = same_key key Con
allows_after version given Con key = same_key key Con || (same_key key Sort || (same_key key Fun || same_key key Explore))
allows_after version given Fun key = same_key key Body || same_key key Match
allows_after version given Match key = same_key key Case
allows_after version given Body key = same_key key Fun || same_key key Explore
allows_after version given Case key = same_key key Case || (same_key key Fun || same_key key Explore)
allows_after version given Explore key = allows_last given key
allows_after version given Background key = allows_last given key
allows_after version given Pool key = same_key key Values
allows_after version given Values key = same_key key Values || (same_key key Pool || same_key key End)
allows_after version given End key = false

abbrev pub allows_last_key : Version → Bool → Option Key → Key → Bool
allows_last_key version given None key = same_key key Signature
allows_last_key version given (Some last) key = allows_after version given last key

abbrev pub allows : Stage → Key → Bool
allows stage key = allows_last_key stage.version stage.given stage.last key

-- the key that a line of a shape begins with
abbrev pub shape_key : Shape → Key
shape_key s.Head = Signature
shape_key s.Head2 = Signature
shape_key s.Head3 = Signature
shape_key s.Vars = Vars
shape_key s.Size = Size
shape_key s.Width = Width
shape_key s.Budget = Budget
shape_key s.Pairs = Pairs
shape_key s.PoolsGiven = Pools
shape_key s.PoolsSeed = Pools
shape_key s.SortLine = Sort
shape_key s.SortLine2 = Sort
shape_key s.ConLine = Con
shape_key s.ConLine3 = Con
shape_key s.FunLine = Fun
shape_key s.FunLine3 = Fun
shape_key s.MatchLine = Match
shape_key s.BodyLine = Body
shape_key s.CaseLine = Case
shape_key s.Explore = Explore
shape_key s.Background = Background
shape_key s.Pool = Pool
shape_key s.Values = Values
shape_key s.End = End

abbrev pub line_key : RawLine → Key
line_key line = shape_key (shape_of line)

abbrev pub version_after : Version → Shape → Version
version_after version s.Head = First
version_after version s.Head2 = Second
version_after version s.Head3 = Third
version_after version shape = version

abbrev pub given_after : Bool → Shape → Bool
given_after given s.PoolsGiven = true
given_after given s.PoolsSeed = false
given_after given shape = given

abbrev pub stage_by : Stage → Shape → Stage
stage_by stage shape = record { version = version_after stage.version shape; given = given_after stage.given shape; last = Some (shape_key shape) }

abbrev pub stage_after : Stage → RawLine → Stage
stage_after stage line = stage_by stage (shape_of line)

abbrev pub is_first : Version → Bool
is_first First = true
is_first Second = false
is_first Third = false

abbrev pub is_third : Version → Bool
is_third First = false
is_third Second = false
is_third Third = true

-- Sort lines have their numbers from the second version on, and lines of symbols their weight from the
-- third on.
abbrev pub of_version : Version → Shape → Bool
of_version version s.SortLine = is_first version
of_version version s.SortLine2 = not (is_first version)
of_version version s.ConLine = not (is_third version)
of_version version s.ConLine3 = is_third version
of_version version s.FunLine = not (is_third version)
of_version version s.FunLine3 = is_third version
of_version version shape = true

abbrev pub IsOfVersion : Version → RawLine → Type 0
IsOfVersion version line = of_version version (shape_of line) ≡ true

-- before the first line
abbrev pub start : Stage
start = record { version = First; given = false; last = None }

-- Each line may come behind those before it, in the form of the text's version.
abbrev pub InOrder : Stage → List RawLine → Type 0
InOrder stage [] = Unit {0}
InOrder stage (line ∷ lines) = (allows stage (line_key line) ≡ true) × IsOfVersion stage.version line × InOrder (stage_after stage line) lines

-- how far lines lead
abbrev pub stage_behind : Stage → List RawLine → Stage
stage_behind stage [] = stage
stage_behind stage (line ∷ lines) = stage_behind (stage_after stage line) lines
