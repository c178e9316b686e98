-- The walk through the lines leads along the grammar of their order.
use Rattle.std.proofs.Common.{◌≡◌, ℕ, zero, suc, Bool, true, false, ◌&&◌, ◌||◌, not, ◌==◌, List, [], ◌∷◌, map, Option, Some, None, refl, ap, sym, subst, ◌∙◌, inl, inr}
use Rattle.std.specs.List.{list_all, list_any, AllByRecursion}
use Rattle.std.proofs.lemmas.Bool.{eqb-true}
use Rattle.law_lines.specs.declared.shape.Shape.{Shape}
use Rattle.law_lines.specs.declared.shape.Shape.TheVariants as s
use Rattle.law_lines.specs.declared.raw.RawLine.{RawLine}
use Rattle.law_lines.specs.declared.stage.Version.{Version}
use Rattle.law_lines.specs.declared.stage.Version.TheVariants.{First, Second, Third}
use Rattle.law_lines.specs.declared.stage.Key.{Key}
use Rattle.law_lines.specs.declared.stage.Key.TheVariants as key
use Rattle.law_lines.specs.declared.stage.Stage.{Stage}
use Rattle.law_lines.specs.Grammar.{Grammar, Spells, some}
use Rattle.law_lines.specs.Grammar.Grammar.{never, empty, one, series, either, many}
use Rattle.law_lines.specs.Order.{order, shape_of, declarations, functions, given_pools}
use Rattle.law_lines.specs.Stages.{InOrder, allows, allows_last_key, key_number, of_version, shape_key, stage_behind, stage_by, start}
use Rattle.law_lines.specs.Walk.{all_keys}
use Rattle.law_lines.specs.Faults.{is_closed_by}
use Rattle.law_lines.proofs.RowSteps.{both}
use Rattle.law_lines.proofs.OrderRows.{Row, Same, same, and_same, either_same, last_same, series_same, choice_same, many_same, some_same, end_same, first, first_is, first_not}

-- the shapes of a version
abbrev pub sort_of : Version → Shape
sort_of First = s.SortLine
sort_of Second = s.SortLine2
sort_of Third = s.SortLine2

abbrev pub con_of : Version → Shape
con_of First = s.ConLine
con_of Second = s.ConLine
con_of Third = s.ConLine3

abbrev pub fun_of : Version → Shape
fun_of First = s.FunLine
fun_of Second = s.FunLine
fun_of Third = s.FunLine3

-- what a text may have behind the lines so far
abbrev group : Shape → Shape → Grammar Shape
group head part = series (one head) (some (one part))

abbrev closing : Bool → Grammar Shape
closing true = given_pools
closing false = one s.End

abbrev explored : Bool → Grammar Shape
explored given = series (many (one s.Background)) (closing given)

abbrev bodies : Grammar Shape
bodies = either (one s.BodyLine) (series (one s.MatchLine) (some (one s.CaseLine)))

abbrev applied : Version → Bool → Grammar Shape
applied version given = series (functions (fun_of version)) (series (one s.Explore) (explored given))

abbrev sorted : Version → Bool → Grammar Shape
sorted version given = series (many (group (sort_of version) (con_of version))) (applied version given)

abbrev pools : Grammar Shape
pools = series (many (group s.Pool s.Values)) (one s.End)

abbrev declared : Version → Bool → Grammar Shape
declared version given = declarations (sort_of version) (con_of version) (fun_of version) (closing given)

abbrev chosen : Version → Grammar Shape
chosen version = either (series (one s.PoolsGiven) (declared version true)) (series (one s.PoolsSeed) (declared version false))

abbrev budgeted : Version → Grammar Shape
budgeted version = series (one s.Budget) (series (one s.Pairs) (chosen version))

abbrev sized : Version → Grammar Shape
sized First = series (one s.Width) (budgeted First)
sized Second = budgeted Second
sized Third = budgeted Third

abbrev headed : Version → Grammar Shape
headed First = series (one s.Vars) (series (one s.Size) (sized First))
headed Second = series (one s.Size) (sized Second)
headed Third = series (one s.Size) (sized Third)

abbrev behind : Version → Bool → Key → Grammar Shape
behind version given key.Signature = headed version
behind version given key.Vars = series (one s.Size) (sized version)
behind version given key.Size = sized version
behind version given key.Width = budgeted version
behind version given key.Budget = series (one s.Pairs) (chosen version)
behind version given key.Pairs = chosen version
behind version given key.Pools = declared version given
behind version given key.Sort = series (some (one (con_of version))) (sorted version given)
behind version given key.Con = series (many (one (con_of version))) (sorted version given)
behind version given key.Fun = series bodies (applied version given)
behind version given key.Match = series (some (one s.CaseLine)) (applied version given)
behind version given key.Body = applied version given
behind version given key.Case = series (many (one s.CaseLine)) (applied version given)
behind version given key.Explore = explored given
behind version given key.Background = explored given
behind version given key.Pool = series (some (one s.Values)) pools
behind version given key.Values = series (many (one s.Values)) pools
behind version given key.End = empty

abbrev rest_by : Version → Bool → Option Key → Grammar Shape
rest_by version given None = order
rest_by version given (Some key) = behind version given key

abbrev rest_of : Stage → Grammar Shape
rest_of stage = rest_by stage.version stage.given stage.last

-- The shapes that may come next, and where each leads.
abbrev Choice : Type 0
Choice = Shape × Stage

abbrev to : Version → Bool → Shape → Key → Choice
to version given shape key = (shape, record { version = version; given = given; last = Some key })

abbrev next_closing : Version → Bool → List Choice
next_closing version true = to version true s.Background key.Background ∷ to version true s.Pool key.Pool ∷ []
next_closing version false = to version false s.Background key.Background ∷ to version false s.End key.End ∷ []

abbrev next_applied : Version → Bool → List Choice
next_applied version given = to version given (fun_of version) key.Fun ∷ to version given s.Explore key.Explore ∷ []

abbrev next_sized : Version → Bool → List Choice
next_sized First given = to First given s.Width key.Width ∷ []
next_sized Second given = to Second given s.Budget key.Budget ∷ []
next_sized Third given = to Third given s.Budget key.Budget ∷ []

abbrev next_headed : Version → Bool → List Choice
next_headed First given = to First given s.Vars key.Vars ∷ []
next_headed Second given = to Second given s.Size key.Size ∷ []
next_headed Third given = to Third given s.Size key.Size ∷ []

abbrev next : Version → Bool → Option Key → List Choice
next version given None = to First given s.Head key.Signature ∷ to Second given s.Head2 key.Signature ∷ to Third given s.Head3 key.Signature ∷ []
next version given (Some key.Signature) = next_headed version given
next version given (Some key.Vars) = to version given s.Size key.Size ∷ []
next version given (Some key.Size) = next_sized version given
next version given (Some key.Width) = to version given s.Budget key.Budget ∷ []
next version given (Some key.Budget) = to version given s.Pairs key.Pairs ∷ []
next version given (Some key.Pairs) = to version true s.PoolsGiven key.Pools ∷ to version false s.PoolsSeed key.Pools ∷ []
next version given (Some key.Pools) = to version given (sort_of version) key.Sort ∷ []
next version given (Some key.Sort) = to version given (con_of version) key.Con ∷ []
next version given (Some key.Con) = to version given (con_of version) key.Con ∷ to version given (sort_of version) key.Sort ∷ next_applied version given
next version given (Some key.Fun) = to version given s.BodyLine key.Body ∷ to version given s.MatchLine key.Match ∷ []
next version given (Some key.Match) = to version given s.CaseLine key.Case ∷ []
next version given (Some key.Body) = next_applied version given
next version given (Some key.Case) = to version given s.CaseLine key.Case ∷ next_applied version given
next version given (Some key.Explore) = next_closing version given
next version given (Some key.Background) = next_closing version given
next version given (Some key.Pool) = to version given s.Values key.Values ∷ []
next version given (Some key.Values) = to version given s.Values key.Values ∷ to version given s.Pool key.Pool ∷ to version given s.End key.End ∷ []
next version given (Some key.End) = []

-- Each of these, with what it leaves; where nothing may come next, the text is over.
abbrev choices : Bool → List Choice → Grammar Shape
choices true [] = empty
choices false [] = never
choices over (c ∷ cs) = either (series (one c.0) (rest_of c.1)) (choices over cs)

abbrev Opens : Version → Bool → Option Key → Type 0
Opens version given last = Same (rest_by version given last) (choices (is_closed_by last) (next version given last))

one_opens : (shape : Shape) (h : Grammar Shape) → Same (series (one shape) h) (either (series (one shape) h) never)
one_opens shape h = last_same (series (one shape) h)

some_opens : (shape : Shape) (h : Grammar Shape) → Same (series (some (one shape)) h) (either (series (one shape) (series (many (one shape)) h)) never)
some_opens shape h = and_same _ _ _ (some_same (one shape) h) (one_opens shape (series (many (one shape)) h))

many_opens : (shape : Shape) (h i : Grammar Shape) → Same h i → Same (series (many (one shape)) h) (either (series (one shape) (series (many (one shape)) h)) i)
many_opens shape h i d = and_same _ _ _ (many_same (one shape) h) (either_same _ _ _ _ (same (series (one shape) (series (many (one shape)) h))) d)

groups_open : (head part : Shape) (h i : Grammar Shape) → Same h i
    → Same (series (many (group head part)) h) (either (series (one head) (series (some (one part)) (series (many (group head part)) h))) i)
groups_open head part h i d =
    and_same _ _ _ (many_same (group head part) h) (either_same _ _ _ _ (series_same (one head) (some (one part)) (series (many (group head part)) h)) d)

applied_opens : (version : Version) (given : Bool) → Opens version given (Some key.Body)
applied_opens version given =
    and_same _ _ _ (many_same (series (one (fun_of version)) bodies) (series (one s.Explore) (explored given)))
    (either_same _ _ _ _ (series_same (one (fun_of version)) bodies (applied version given)) (one_opens s.Explore (explored given)))

pool_opens : (h : Grammar Shape) → Same h (series (one s.End) empty)
    → Same (series (some (group s.Pool s.Values)) h) (series (one s.Pool) (series (some (one s.Values)) (series (many (group s.Pool s.Values)) h)))
pool_opens h d = and_same _ _ _ (some_same (group s.Pool s.Values) h) (series_same (one s.Pool) (some (one s.Values)) (series (many (group s.Pool s.Values)) h))

closing_opens : (version : Version) (given : Bool) → Opens version given (Some key.Explore)
closing_opens version true =
    many_opens s.Background given_pools _ (and_same _ _ _ (pool_opens (one s.End) (end_same s.End)) (one_opens s.Pool (series (some (one s.Values)) pools)))
closing_opens version false = many_opens s.Background (one s.End) _ (and_same _ _ _ (end_same s.End) (one_opens s.End empty))

sort_opens : (version : Version) (given : Bool) → Opens version given (Some key.Pools)
sort_opens version given =
    and_same _ _ _ (some_same (group (sort_of version) (con_of version)) (applied version given))
    (and_same _ _ _ (series_same (one (sort_of version)) (some (one (con_of version))) (sorted version given))
    (one_opens (sort_of version) (series (some (one (con_of version))) (sorted version given))))

opens : (version : Version) (given : Bool) (last : Option Key) → Opens version given last
opens version given None = either_same _ _ _ _ (same (series (one s.Head) (headed First))) (either_same _ _ _ _ (same (series (one s.Head2) (headed Second))) (one_opens s.Head3 (headed Third)))
opens First given (Some key.Signature) = one_opens s.Vars (series (one s.Size) (sized First))
opens Second given (Some key.Signature) = one_opens s.Size (sized Second)
opens Third given (Some key.Signature) = one_opens s.Size (sized Third)
opens version given (Some key.Vars) = one_opens s.Size (sized version)
opens First given (Some key.Size) = one_opens s.Width (budgeted First)
opens Second given (Some key.Size) = one_opens s.Budget (series (one s.Pairs) (chosen Second))
opens Third given (Some key.Size) = one_opens s.Budget (series (one s.Pairs) (chosen Third))
opens version given (Some key.Width) = one_opens s.Budget (series (one s.Pairs) (chosen version))
opens version given (Some key.Budget) = one_opens s.Pairs (chosen version)
opens version given (Some key.Pairs) = either_same _ _ _ _ (same (series (one s.PoolsGiven) (declared version true))) (one_opens s.PoolsSeed (declared version false))
opens version given (Some key.Pools) = sort_opens version given
opens version given (Some key.Sort) = some_opens (con_of version) (sorted version given)
opens version given (Some key.Con) =
    many_opens (con_of version) (sorted version given) _ (groups_open (sort_of version) (con_of version) (applied version given) _ (applied_opens version given))
opens version given (Some key.Fun) =
    and_same _ _ _ (choice_same (one s.BodyLine) (series (one s.MatchLine) (some (one s.CaseLine))) (applied version given))
    (either_same _ _ _ _ (same (series (one s.BodyLine) (applied version given)))
    (and_same _ _ _ (series_same (one s.MatchLine) (some (one s.CaseLine)) (applied version given)) (one_opens s.MatchLine (series (some (one s.CaseLine)) (applied version given)))))
opens version given (Some key.Match) = some_opens s.CaseLine (applied version given)
opens version given (Some key.Body) = applied_opens version given
opens version given (Some key.Case) = many_opens s.CaseLine (applied version given) _ (applied_opens version given)
opens version given (Some key.Explore) = closing_opens version given
opens version given (Some key.Background) = closing_opens version given
opens version given (Some key.Pool) = some_opens s.Values pools
opens version given (Some key.Values) =
    many_opens s.Values pools _ (groups_open s.Pool s.Values (one s.End) _ (and_same _ _ _ (end_same s.End) (one_opens s.End empty)))
opens version given (Some key.End) = same empty

-- Each choice may come next, and leads where the walk leads.
record IsNext (stage : Stage) (c : Choice) : Type 0 where
  allowed : allows stage (shape_key c.0) ≡ true
  form : of_version stage.version c.0 ≡ true
  leads : stage_by stage c.0 ≡ c.1

abbrev AreNext : Version → Bool → Option Key → Type 0
AreNext version given last = AllByRecursion (IsNext (record { version = version; given = given; last = last })) (next version given last)

is : (stage : Stage) (c : Choice) → allows stage (shape_key c.0) ≡ true → of_version stage.version c.0 ≡ true → stage_by stage c.0 ≡ c.1 → IsNext stage c
is stage c a f e = record { allowed = a; form = f; leads = e }

are_next : (version : Version) (given : Bool) (last : Option Key) → AreNext version given last
are_next version given None = (is _ _ refl refl refl, (is _ _ refl refl refl, (is _ _ refl refl refl, tt)))
are_next First given (Some key.Signature) = (is _ _ refl refl refl, tt)
are_next Second given (Some key.Signature) = (is _ _ refl refl refl, tt)
are_next Third given (Some key.Signature) = (is _ _ refl refl refl, tt)
are_next version given (Some key.Vars) = (is _ _ refl refl refl, tt)
are_next First given (Some key.Size) = (is _ _ refl refl refl, tt)
are_next Second given (Some key.Size) = (is _ _ refl refl refl, tt)
are_next Third given (Some key.Size) = (is _ _ refl refl refl, tt)
are_next version given (Some key.Width) = (is _ _ refl refl refl, tt)
are_next version given (Some key.Budget) = (is _ _ refl refl refl, tt)
are_next version given (Some key.Pairs) = (is _ _ refl refl refl, (is _ _ refl refl refl, tt))
are_next First given (Some key.Pools) = (is _ _ refl refl refl, tt)
are_next Second given (Some key.Pools) = (is _ _ refl refl refl, tt)
are_next Third given (Some key.Pools) = (is _ _ refl refl refl, tt)
are_next First given (Some key.Sort) = (is _ _ refl refl refl, tt)
are_next Second given (Some key.Sort) = (is _ _ refl refl refl, tt)
are_next Third given (Some key.Sort) = (is _ _ refl refl refl, tt)
are_next First given (Some key.Con) = (is _ _ refl refl refl, (is _ _ refl refl refl, (is _ _ refl refl refl, (is _ _ refl refl refl, tt))))
are_next Second given (Some key.Con) = (is _ _ refl refl refl, (is _ _ refl refl refl, (is _ _ refl refl refl, (is _ _ refl refl refl, tt))))
are_next Third given (Some key.Con) = (is _ _ refl refl refl, (is _ _ refl refl refl, (is _ _ refl refl refl, (is _ _ refl refl refl, tt))))
are_next version given (Some key.Fun) = (is _ _ refl refl refl, (is _ _ refl refl refl, tt))
are_next version given (Some key.Match) = (is _ _ refl refl refl, tt)
are_next First given (Some key.Body) = (is _ _ refl refl refl, (is _ _ refl refl refl, tt))
are_next Second given (Some key.Body) = (is _ _ refl refl refl, (is _ _ refl refl refl, tt))
are_next Third given (Some key.Body) = (is _ _ refl refl refl, (is _ _ refl refl refl, tt))
are_next First given (Some key.Case) = (is _ _ refl refl refl, (is _ _ refl refl refl, (is _ _ refl refl refl, tt)))
are_next Second given (Some key.Case) = (is _ _ refl refl refl, (is _ _ refl refl refl, (is _ _ refl refl refl, tt)))
are_next Third given (Some key.Case) = (is _ _ refl refl refl, (is _ _ refl refl refl, (is _ _ refl refl refl, tt)))
are_next version true (Some key.Explore) = (is _ _ refl refl refl, (is _ _ refl refl refl, tt))
are_next version false (Some key.Explore) = (is _ _ refl refl refl, (is _ _ refl refl refl, tt))
are_next version true (Some key.Background) = (is _ _ refl refl refl, (is _ _ refl refl refl, tt))
are_next version false (Some key.Background) = (is _ _ refl refl refl, (is _ _ refl refl refl, tt))
are_next version given (Some key.Pool) = (is _ _ refl refl refl, tt)
are_next version given (Some key.Values) = (is _ _ refl refl refl, (is _ _ refl refl refl, (is _ _ refl refl refl, tt)))
are_next version given (Some key.End) = tt

-- Nothing else may come next: a table over all stages and shapes.
abbrev shape_number : Shape → ℕ
shape_number s.Head = 0
shape_number s.Head2 = 1
shape_number s.Head3 = 2
shape_number s.Vars = 3
shape_number s.Size = 4
shape_number s.Width = 5
shape_number s.Budget = 6
shape_number s.Pairs = 7
shape_number s.PoolsGiven = 8
shape_number s.PoolsSeed = 9
shape_number s.SortLine = 10
shape_number s.SortLine2 = 11
shape_number s.ConLine = 12
shape_number s.ConLine3 = 13
shape_number s.FunLine = 14
shape_number s.FunLine3 = 15
shape_number s.MatchLine = 16
shape_number s.BodyLine = 17
shape_number s.CaseLine = 18
shape_number s.Explore = 19
shape_number s.Background = 20
shape_number s.Pool = 21
shape_number s.Values = 22
shape_number s.End = 23

abbrev same_shape : Shape → Shape → Bool
same_shape a b = shape_number a == shape_number b

abbrev all_shapes : Row
all_shapes = s.Head ∷ s.Head2 ∷ s.Head3 ∷ s.Vars ∷ s.Size ∷ s.Width ∷ s.Budget ∷ s.Pairs ∷ s.PoolsGiven ∷ s.PoolsSeed ∷ s.SortLine ∷ s.SortLine2 ∷ s.ConLine ∷ s.ConLine3 ∷ s.FunLine ∷ s.FunLine3 ∷ s.MatchLine ∷ s.BodyLine ∷ s.CaseLine ∷ s.Explore ∷ s.Background ∷ s.Pool ∷ s.Values ∷ s.End ∷ []

abbrev nth : {A : Type 0} → List A → ℕ → Option A
nth [] n = None
nth (x ∷ xs) zero = Some x
nth (x ∷ xs) (suc n) = nth xs n

shape_at : (shape : Shape) → nth all_shapes (shape_number shape) ≡ Some shape
shape_at s.Head = refl
shape_at s.Head2 = refl
shape_at s.Head3 = refl
shape_at s.Vars = refl
shape_at s.Size = refl
shape_at s.Width = refl
shape_at s.Budget = refl
shape_at s.Pairs = refl
shape_at s.PoolsGiven = refl
shape_at s.PoolsSeed = refl
shape_at s.SortLine = refl
shape_at s.SortLine2 = refl
shape_at s.ConLine = refl
shape_at s.ConLine3 = refl
shape_at s.FunLine = refl
shape_at s.FunLine3 = refl
shape_at s.MatchLine = refl
shape_at s.BodyLine = refl
shape_at s.CaseLine = refl
shape_at s.Explore = refl
shape_at s.Background = refl
shape_at s.Pool = refl
shape_at s.Values = refl
shape_at s.End = refl

key_at : (k : Key) → nth all_keys (key_number k) ≡ Some k
key_at key.Signature = refl
key_at key.Vars = refl
key_at key.Size = refl
key_at key.Width = refl
key_at key.Budget = refl
key_at key.Pairs = refl
key_at key.Pools = refl
key_at key.Sort = refl
key_at key.Con = refl
key_at key.Fun = refl
key_at key.Match = refl
key_at key.Body = refl
key_at key.Case = refl
key_at key.Explore = refl
key_at key.Background = refl
key_at key.Pool = refl
key_at key.Values = refl
key_at key.End = refl

at : {A : Type 0} (P : A → Bool) (xs : List A) (n : ℕ) (x : A) → list_all P xs ≡ true → nth xs n ≡ Some x → P x ≡ true
at P [] n x h e = absurd cc
at P (y ∷ ys) zero x h e = let same : y ≡ x = cc in ap P (sym same) ∙ (both (P y) (list_all P ys) h).0
at P (y ∷ ys) (suc n) x h e = at P ys n x (both (P y) (list_all P ys) h).1 e

abbrev has : List Choice → Shape → Bool
has choices shape = list_any (λ c. same_shape shape c.0) choices

-- a shape that may come is among the choices
abbrev fits : Version → Bool → Option Key → Shape → Bool
fits version given last shape = not (allows_last_key version given last (shape_key shape) && of_version version shape) || has (next version given last) shape

abbrev all_fit : Version → Bool → Option Key → Bool
all_fit version given last = list_all (fits version given last) all_shapes

-- what is true of all keys of a table is true of each
pub last_holds : (test : Version → Bool → Option Key → Bool) → ((version : Version) (given : Bool) → (test version given None && list_all (λ k. test version given (Some k)) all_keys) ≡ true)
    → (version : Version) (given : Bool) (last : Option Key) → test version given last ≡ true
last_holds test h version given None = (both (test version given None) _ (h version given)).0
last_holds test h version given (Some k) = at (λ k. test version given (Some k)) all_keys (key_number k) k (both (test version given None) _ (h version given)).1 (key_at k)

table : (version : Version) (given : Bool) → (all_fit version given None && list_all (λ k. all_fit version given (Some k)) all_keys) ≡ true
table First true = refl
table First false = refl
table Second true = refl
table Second false = refl
table Third true = refl
table Third false = refl

implied : (a b c : Bool) → (not (a && b) || c) ≡ true → a ≡ true → b ≡ true → c ≡ true
implied true true c h a b = h
implied true false c h a b = absurd cc
implied false y c h a b = absurd cc

is_among : (stage : Stage) (shape : Shape) → allows stage (shape_key shape) ≡ true → of_version stage.version shape ≡ true
    → has (next stage.version stage.given stage.last) shape ≡ true
is_among stage shape a f =
    implied (allows stage (shape_key shape)) (of_version stage.version shape) (has (next stage.version stage.given stage.last) shape)
    (at (fits stage.version stage.given stage.last) all_shapes (shape_number shape) shape (last_holds all_fit table stage.version stage.given stage.last) (shape_at shape)) a f

is_shape : (a b : Shape) → same_shape a b ≡ true → a ≡ b
is_shape a b h = let e = sym (shape_at a) ∙ ap (nth all_shapes) (eqb-true (shape_number a) (shape_number b) h) ∙ shape_at b in cc

-- A choice is taken.
chosen_by : (t over : Bool) (stage : Stage) (c : Choice) (cs : List Choice) (shape : Shape) (row : Row) → same_shape shape c.0 ≡ t → (t || has cs shape) ≡ true
    → IsNext stage c → Spells (rest_of (stage_by stage shape)) row → (has cs shape ≡ true → Spells (choices over cs) (shape ∷ row)) → Spells (choices over (c ∷ cs)) (shape ∷ row)
chosen_by true over stage c cs shape row e h n d further =
    let i = is_shape shape c.0 e in
    inl (subst (λ x. Spells (series (one c.0) (rest_of c.1)) (x ∷ row)) (sym i) (first c.0 (rest_of c.1) row (subst (λ st. Spells (rest_of st) row) (ap (stage_by stage) i ∙ n.leads) d)))
chosen_by false over stage c cs shape row e h n d further = inr (further h)

chosen_in : (over : Bool) (stage : Stage) (cs : List Choice) (shape : Shape) (row : Row) → has cs shape ≡ true → AllByRecursion (IsNext stage) cs
    → Spells (rest_of (stage_by stage shape)) row → Spells (choices over cs) (shape ∷ row)
chosen_in over stage [] shape row h n d = absurd cc
chosen_in over stage (c ∷ cs) shape row h n d =
    chosen_by (same_shape shape c.0) over stage c cs shape row refl h n.0 d (λ k. chosen_in over stage cs shape row k n.1 d)

-- lines in order are spelled
pub spelled : (stage : Stage) (lines : List RawLine) → InOrder stage lines → (stage_behind stage lines).last ≡ Some key.End → Spells (rest_of stage) (map shape_of lines)
spelled stage [] h e = subst (λ o. Spells (rest_by stage.version stage.given o) []) (sym e) refl
spelled stage (line ∷ lines) h e =
    (opens stage.version stage.given stage.last).back (map shape_of (line ∷ lines))
    (chosen_in (is_closed_by stage.last) stage (next stage.version stage.given stage.last) (shape_of line) (map shape_of lines)
    (is_among stage (shape_of line) h.0 h.1) (are_next stage.version stage.given stage.last) (spelled (stage_by stage (shape_of line)) lines h.2 e))

pub in_order_spelled : (lines : List RawLine) → InOrder start lines → (stage_behind start lines).last ≡ Some key.End → Spells order (map shape_of lines)
in_order_spelled lines h e = spelled start lines h e

-- The other way.
record Taken (stage : Stage) (shape : Shape) (row : Row) : Type 0 where
  allowed : allows stage (shape_key shape) ≡ true
  form : of_version stage.version shape ≡ true
  left : Spells (rest_of (stage_by stage shape)) row

taken_at : (stage : Stage) (c : Choice) (shape : Shape) (row : Row) → IsNext stage c → (shape ≡ c.0) × Spells (rest_of c.1) row → Taken stage shape row
taken_at stage c shape row n d = record {
  allowed = ap (λ x. allows stage (shape_key x)) d.0 ∙ n.allowed;
  form = ap (of_version stage.version) d.0 ∙ n.form;
  left = subst (λ st. Spells (rest_of st) row) (sym (ap (stage_by stage) d.0 ∙ n.leads)) d.1;
}

no_more : (over : Bool) (shape : Shape) (row : Row) → Spells (choices over []) (shape ∷ row) → ⊥
no_more true shape row d = cc
no_more false shape row d = d

taken_in : (over : Bool) (stage : Stage) (cs : List Choice) (shape : Shape) (row : Row) → AllByRecursion (IsNext stage) cs → Spells (choices over cs) (shape ∷ row) → Taken stage shape row
taken_in over stage [] shape row n d = absurd (no_more over shape row d)
taken_in over stage (c ∷ cs) shape row n (inl d) = taken_at stage c shape row n.0 (first_is c.0 shape (rest_of c.1) row d)
taken_in over stage (c ∷ cs) shape row n (inr d) = taken_in over stage cs shape row n.1 d

ended : (over : Bool) (cs : List Choice) → Spells (choices over cs) [] → over ≡ true
ended true [] d = refl
ended false [] d = absurd d
ended over (c ∷ cs) (inl d) = absurd (first_not c.0 (rest_of c.1) d)
ended over (c ∷ cs) (inr d) = ended over cs d

pub is_end : (last : Option Key) → is_closed_by last ≡ true → last ≡ Some key.End
is_end None h = absurd cc
is_end (Some k) h = let e = sym (key_at k) ∙ ap (nth all_keys) (eqb-true (key_number k) (key_number key.End) h) ∙ key_at key.End in e

-- lines that are spelled are in order, up to `end`
pub walked : (stage : Stage) (lines : List RawLine) → Spells (rest_of stage) (map shape_of lines) → InOrder stage lines × ((stage_behind stage lines).last ≡ Some key.End)
walked stage [] d =
    (tt, is_end stage.last (ended (is_closed_by stage.last) (next stage.version stage.given stage.last) ((opens stage.version stage.given stage.last).there [] d)))
walked stage (line ∷ lines) d =
    let t = taken_in (is_closed_by stage.last) stage (next stage.version stage.given stage.last) (shape_of line) (map shape_of lines)
    (are_next stage.version stage.given stage.last) ((opens stage.version stage.given stage.last).there (map shape_of (line ∷ lines)) d) in
    let m = walked (stage_by stage (shape_of line)) lines t.left in ((t.allowed, t.form, m.0), m.1)

pub spelled_in_order : (lines : List RawLine) → Spells order (map shape_of lines) → InOrder start lines × ((stage_behind start lines).last ≡ Some key.End)
spelled_in_order lines d = walked start lines d
