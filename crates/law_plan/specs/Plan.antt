-- The plan: what becomes of each considered schema and of each instance of a spread one, in the order of exploring. It
-- speaks of tests and terms alone, and not of how it is found.
use Rattle.std.specs.Prelude.{◌≡◌, ◌≢◌, ◌⊎◌, ◌↔◌, List, [], map}
use Rattle.law_sig.specs.Lists.{In, Each, Rising}
use Rattle.law_sig.specs.Trees.{schema_of}
use Rattle.law_sig.specs.Tests.{InU, Pools}
use Rattle.law_sig.specs.Order.{IsBefore}
use Rattle.law_sig.specs.declared.tree.SortId.{SortId}
use Rattle.law_sig.specs.declared.tree.Tree.{Tree}
use Rattle.law_sig.specs.declared.tree.Tree.TheViews.{out-Tree}
use Rattle.law_sig.specs.declared.parts.SigParts.{SigParts}
use Rattle.law_sig.specs.Schemas.{IsConsidered, arguments_of}
use Rattle.law_sig.specs.Least.{HasLeast, IsOwnLeast}
use Rattle.law_valid.specs.Order.{Decision}
use Rattle.law_valid.specs.Order as order
use Rattle.law_valid.specs.Stated.{stated}
use Rattle.law_plan.specs.Kills.{Kills, IsSpared}

-- Items, and their order

-- what is looked at: a schema, or an instance of one
pub data Item : Type 0 where
  schema : Tree → Item
  term : Tree → Item

abbrev pub schema_in : Item → Tree
schema_in (schema c) = c
schema_in (term t) = schema_of t

-- of one schema: the schema first, then its instances in the order of exploring
abbrev pub StandsWithin : SigParts → Item → Item → Type 0
StandsWithin parts (schema c) (schema d) = ⊥
StandsWithin parts (schema c) (term t) = Unit {0}
StandsWithin parts (term s) (schema d) = ⊥
StandsWithin parts (term s) (term t) = IsBefore parts s t

-- the schemas in the order of exploring, each with its instances behind it
abbrev pub Precedes : SigParts → Item → Item → Type 0
Precedes parts x y = IsBefore parts (schema_in x) (schema_in y) ⊎ ((schema_in x ≡ schema_in y) × StandsWithin parts x y)

-- Entries, without steps

pub data Entry : Type 0 where
  spread : Tree → Entry
  killed : Tree → Tree → Entry
  live : Tree → Entry
  moved : Tree → Tree → Entry

-- what an entry decides of its schema or term; a killed schema shows its most general instance
abbrev pub decision_of : Entry → Decision
decision_of (spread c) = order.spread c
decision_of (killed g u) = order.killed (schema_of g)
decision_of (live t) = order.live t
decision_of (moved t u) = order.moved t

abbrev pub decisions_of : List Entry → List Decision
decisions_of xs = map decision_of xs

-- what a decision, and an entry, is about
abbrev pub item_in : Decision → Item
item_in (order.spread c) = schema c
item_in (order.killed c) = schema c
item_in (order.live t) = term t
item_in (order.moved t) = term t

abbrev pub item_of : Entry → Item
item_of e = item_in (decision_of e)

-- the spread schemas, all schemas, and the live terms that an entry states
abbrev pub spread_at : Entry → List Tree
spread_at e = order.spread_in (decision_of e)

abbrev pub schema_at : Entry → List Tree
schema_at e = order.schema_in (decision_of e)

abbrev pub live_at : Entry → List Tree
live_at e = order.live_in (decision_of e)

-- The plan

-- a term of the universe of a spread schema, whose arguments are each their own least
pub record IsPlannedTerm (parts : SigParts) (pools : Pools) (spreads : List Tree) (t : Tree) : Type 0 where
  pub sort : SortId
  pub bounded : InU parts sort t
  pub owned : In (schema_of t) spreads
  pub args : Each (IsOwnLeast parts pools) (arguments_of (out-Tree t))

-- the items of the plan, given its spread schemas
abbrev pub IsPlanned : SigParts → Pools → List Tree → Item → Type 0
IsPlanned parts pools spreads (schema c) = IsConsidered parts spreads c
IsPlanned parts pools spreads (term t) = IsPlannedTerm parts pools spreads t

-- what the plan says of an item: a schema is killed with the least of its most general instance as the target, or spared;
-- a term is live where it is its own least, and else moved to its least
abbrev pub IsRight : SigParts → Pools → Entry → Type 0
IsRight parts pools (spread c) = IsSpared parts pools c
IsRight parts pools (killed g u) = Kills parts pools (schema_of g) g u
IsRight parts pools (live t) = IsOwnLeast parts pools t
IsRight parts pools (moved t u) = HasLeast parts pools t u × (t ≢ u)

-- an entry of the plan, given its spread schemas
pub record IsEntry (parts : SigParts) (pools : Pools) (spreads : List Tree) (e : Entry) : Type 0 where
  pub planned : IsPlanned parts pools spreads (item_of e)
  pub right : IsRight parts pools e

-- one entry stands before another
abbrev pub StandsBefore : SigParts → Entry → Entry → Type 0
StandsBefore parts d e = Precedes parts (item_of d) (item_of e)

-- the plan has exactly these entries, in order
pub record IsPlan (parts : SigParts) (pools : Pools) (xs : List Entry) : Type 0 where
  pub rising : Rising (StandsBefore parts) xs
  pub members : (e : Entry) → In e xs ↔ IsEntry parts pools (stated spread_at xs) e
