-- Lines in order have a reading: some lines behind them make them a signature.
use Rattle.std.proofs.Common.{◌≡◌, ℕ, ◌<◌, ◌^◌, Bool, true, false, ◌&&◌, List, [], ◌∷◌, ◌++◌, Option, Some, None, refl, ap, ◌∙◌, arith, map, codes, nat_le, sum, ◌+◌}
use Rattle.std.specs.List.{AllByRecursion, list_all}
use Rattle.law_lines.specs.declared.raw.RawHead.TheVariants.{Name}
use Rattle.law_lines.specs.declared.raw.RawTerm.{RawTerm}
use Rattle.law_lines.specs.declared.raw.RawTerm.TheOpen.{RawTerm-F}
use Rattle.law_lines.specs.declared.raw.RawTerm.TheFolds.{fold-roll-RawTerm}
use Rattle.law_lines.specs.declared.raw.RawTerm.TheViews.{roll-RawTerm}
use Rattle.law_lines.specs.declared.raw.RawLine.{RawLine}
use Rattle.law_lines.specs.declared.raw.RawLine.TheVariants as l
use Rattle.law_lines.specs.declared.stage.Version.{Version}
use Rattle.law_lines.specs.declared.stage.Version.TheVariants.{First, Second, Third}
use Rattle.law_lines.specs.declared.stage.Key.{Key}
use Rattle.law_lines.specs.declared.stage.Key.TheVariants as key
use Rattle.law_lines.specs.declared.stage.Stage.{Stage}
use Rattle.law_lines.specs.declared.want.Bounds.TheVariants.{Kept}
use Rattle.law_lines.specs.declared.want.Place.{Place}
use Rattle.law_lines.specs.declared.want.Place.TheVariants as p
use Rattle.law_lines.specs.Spelling.{line_spelling}
use Rattle.law_lines.specs.Terms.{IsTerm, largest, node_fits}
use Rattle.law_lines.specs.Lines.{IsLine}
use Rattle.law_lines.specs.Stages.{InOrder, allows, line_key, of_version, stage_after, stage_behind, start}
use Rattle.law_lines.specs.Order.{shape_of}
use Rattle.law_lines.specs.Walk.{all_keys}
use Rattle.law_lines.specs.Faults.{is_closed_by}
use Rattle.law_lines.specs.Texts.{HasReading}
use Rattle.law_lines.proofs.RowSteps.{both}
use Rattle.law_lines.proofs.Orders.{in_order_spelled, is_end, last_holds}

-- a term of one name, and lines that hold nothing else
abbrev pub sample : RawTerm
sample = let layer : RawTerm-F RawTerm = record { head = Name (codes "A"); args = [] } in roll-RawTerm layer

sample_is : (place : Place) → IsTerm Kept place sample
sample_is place = let layer : RawTerm-F RawTerm = record { head = Name (codes "A"); args = [] } in record {
  nodes = fold-roll-RawTerm Bool (node_fits Kept place) layer;
  size = ap (λ n. nat_le n 4096) (fold-roll-RawTerm ℕ (λ term. 1 + sum term.args) layer);
  deep = ap (λ n. nat_le n 256) (fold-roll-RawTerm ℕ (λ term. 1 + largest term.args) layer);
}

abbrev sort_line : Version → RawLine
sort_line First = l.SortLine (codes "A")
sort_line Second = l.SortLine2 (codes "A") 0 0
sort_line Third = l.SortLine2 (codes "A") 0 0

abbrev con_line : Version → RawLine
con_line First = l.ConLine (codes "A") []
con_line Second = l.ConLine (codes "A") []
con_line Third = l.ConLine3 0 (codes "A") []

-- what may stand behind a line, up to `end`
abbrev to_end : Bool → List RawLine
to_end true = l.Pool ∷ l.Values (codes "A") (sample ∷ []) ∷ l.End ∷ []
to_end false = l.End ∷ []

abbrev explored : Bool → List RawLine
explored given = l.Explore [] ∷ to_end given

abbrev declared : Version → Bool → List RawLine
declared version given = sort_line version ∷ con_line version ∷ explored given

abbrev pooled : Version → List RawLine
pooled version = l.PoolsSeed 0 0 0 ∷ declared version false

abbrev budgeted : Version → List RawLine
budgeted version = l.Budget 0 ∷ l.Pairs 0 ∷ pooled version

abbrev sized : Version → List RawLine
sized First = l.Width 0 ∷ budgeted First
sized Second = budgeted Second
sized Third = budgeted Third

abbrev headed : Version → List RawLine
headed First = l.Vars 0 ∷ l.Size 0 ∷ sized First
headed Second = l.Size 0 ∷ sized Second
headed Third = l.Size 0 ∷ sized Third

abbrev lines_behind : Version → Bool → Option Key → List RawLine
lines_behind version given None = l.Head ∷ headed First
lines_behind version given (Some key.Signature) = headed version
lines_behind version given (Some key.Vars) = l.Size 0 ∷ sized version
lines_behind version given (Some key.Size) = sized version
lines_behind version given (Some key.Width) = budgeted version
lines_behind version given (Some key.Budget) = l.Pairs 0 ∷ pooled version
lines_behind version given (Some key.Pairs) = pooled version
lines_behind version given (Some key.Pools) = declared version given
lines_behind version given (Some key.Sort) = con_line version ∷ explored given
lines_behind version given (Some key.Con) = explored given
lines_behind version given (Some key.Fun) = l.BodyLine sample ∷ explored given
lines_behind version given (Some key.Match) = l.CaseLine (codes "A") sample ∷ explored given
lines_behind version given (Some key.Body) = explored given
lines_behind version given (Some key.Case) = explored given
lines_behind version given (Some key.Explore) = to_end given
lines_behind version given (Some key.Background) = to_end given
lines_behind version given (Some key.Pool) = l.Values (codes "A") (sample ∷ []) ∷ l.End ∷ []
lines_behind version given (Some key.Values) = l.End ∷ []
lines_behind version given (Some key.End) = []

-- They are in order: a table.
abbrev go_on : Stage → List RawLine → Bool
go_on stage [] = is_closed_by stage.last
go_on stage (line ∷ lines) = allows stage (line_key line) && (of_version stage.version (shape_of line) && go_on (stage_after stage line) lines)

abbrev goes_on : Version → Bool → Option Key → Bool
goes_on version given last = go_on (record { version = version; given = given; last = last }) (lines_behind version given last)

table : (version : Version) (given : Bool) → (goes_on version given None && list_all (λ k. goes_on version given (Some k)) all_keys) ≡ true
table First true = refl
table First false = refl
table Second true = refl
table Second false = refl
table Third true = refl
table Third false = refl

in_order : (stage : Stage) (lines : List RawLine) → go_on stage lines ≡ true → InOrder stage lines × ((stage_behind stage lines).last ≡ Some key.End)
in_order stage [] h = (tt, is_end stage.last h)
in_order stage (line ∷ lines) h =
    let a = both (allows stage (line_key line)) _ h in
    let f = both (of_version stage.version (shape_of line)) _ a.1 in
    let m = in_order (stage_after stage line) lines f.1 in ((a.0, f.0, m.0), m.1)

-- The grammar spells each.
abbrev AreLines : List RawLine → Type 0
AreLines lines = AllByRecursion (IsLine Kept) lines

zero_is : 0 < 2 ^ 63
zero_is = omega arith

pub values_is : IsLine Kept (l.Values (codes "A") (sample ∷ []))
values_is = (refl, omega arith, (sample_is p.Value, tt))

to_end_are : (given : Bool) → AreLines (to_end given)
to_end_are true = (tt, (values_is, (tt, tt)))
to_end_are false = (tt, tt)

explored_are : (given : Bool) → AreLines (explored given)
explored_are given = (refl, to_end_are given)

sort_is : (version : Version) → IsLine Kept (sort_line version)
sort_is First = refl
sort_is Second = (refl, zero_is, zero_is)
sort_is Third = (refl, zero_is, zero_is)

con_is : (version : Version) → IsLine Kept (con_line version)
con_is First = (refl, record { names = refl; few = refl })
con_is Second = (refl, record { names = refl; few = refl })
con_is Third = (zero_is, refl, record { names = refl; few = refl })

declared_are : (version : Version) (given : Bool) → AreLines (declared version given)
declared_are version given = (sort_is version, (con_is version, explored_are given))

pooled_are : (version : Version) → AreLines (pooled version)
pooled_are version = ((zero_is, zero_is, zero_is), declared_are version false)

budgeted_are : (version : Version) → AreLines (budgeted version)
budgeted_are version = (zero_is, (zero_is, pooled_are version))

sized_are : (version : Version) → AreLines (sized version)
sized_are First = (zero_is, budgeted_are First)
sized_are Second = budgeted_are Second
sized_are Third = budgeted_are Third

headed_are : (version : Version) → AreLines (headed version)
headed_are First = (zero_is, (zero_is, sized_are First))
headed_are Second = (zero_is, sized_are Second)
headed_are Third = (zero_is, sized_are Third)

are_lines : (version : Version) (given : Bool) (last : Option Key) → AreLines (lines_behind version given last)
are_lines version given None = (tt, headed_are First)
are_lines version given (Some key.Signature) = headed_are version
are_lines version given (Some key.Vars) = (zero_is, sized_are version)
are_lines version given (Some key.Size) = sized_are version
are_lines version given (Some key.Width) = budgeted_are version
are_lines version given (Some key.Budget) = (zero_is, pooled_are version)
are_lines version given (Some key.Pairs) = pooled_are version
are_lines version given (Some key.Pools) = declared_are version given
are_lines version given (Some key.Sort) = (con_is version, explored_are given)
are_lines version given (Some key.Con) = explored_are given
are_lines version given (Some key.Fun) = (sample_is p.Body, explored_are given)
are_lines version given (Some key.Match) = ((refl, sample_is p.Body), explored_are given)
are_lines version given (Some key.Body) = explored_are given
are_lines version given (Some key.Case) = explored_are given
are_lines version given (Some key.Explore) = to_end_are given
are_lines version given (Some key.Background) = to_end_are given
are_lines version given (Some key.Pool) = (values_is, (tt, tt))
are_lines version given (Some key.Values) = (tt, tt)
are_lines version given (Some key.End) = tt

-- lines behind lines
pub order_append : (stage : Stage) (xs ys : List RawLine) → InOrder stage xs → InOrder (stage_behind stage xs) ys → InOrder stage (xs ++ ys)
order_append stage [] ys h g = g
order_append stage (x ∷ xs) ys h g = (h.0, h.1, order_append (stage_after stage x) xs ys h.2 g)

pub behind_append : (stage : Stage) (xs ys : List RawLine) → stage_behind stage (xs ++ ys) ≡ stage_behind (stage_behind stage xs) ys
behind_append stage [] ys = refl
behind_append stage (x ∷ xs) ys = behind_append (stage_after stage x) xs ys

pub lines_append : (xs ys : List RawLine) → AreLines xs → AreLines ys → AreLines (xs ++ ys)
lines_append [] ys h g = g
lines_append (x ∷ xs) ys h g = (h.0, lines_append xs ys h.1 g)

map_append : (xs ys : List RawLine) → map line_spelling (xs ++ ys) ≡ map line_spelling xs ++ map line_spelling ys
map_append [] ys = refl
map_append (x ∷ xs) ys = ap (λ l. line_spelling x ∷ l) (map_append xs ys)

-- lines that may stand behind those so far, up to `end`
pub record ToTheEnd (stage : Stage) : Type 0 where
  pub lines : List RawLine
  pub order : InOrder stage lines
  pub closed : (stage_behind stage lines).last ≡ Some key.End
  pub each : AreLines lines

pub to_the_end : (stage : Stage) → ToTheEnd stage
to_the_end stage =
    let more = lines_behind stage.version stage.given stage.last in
    let m = in_order stage more (last_holds goes_on table stage.version stage.given stage.last) in
    record { lines = more; order = m.0; closed = m.1; each = are_lines stage.version stage.given stage.last }

pub reads : (lines : List RawLine) → InOrder start lines → AreLines lines → HasReading (map line_spelling lines)
reads lines order each =
    let m = to_the_end (stage_behind start lines) in
    record {
      sig = lines ++ m.lines;
      signature = record {
        order = in_order_spelled (lines ++ m.lines) (order_append start lines m.lines order m.order) (ap (λ s. s.last) (behind_append start lines m.lines) ∙ m.closed);
        each = lines_append lines m.lines each m.each;
      };
      more = map line_spelling m.lines;
      begins = map_append lines m.lines;
    }
