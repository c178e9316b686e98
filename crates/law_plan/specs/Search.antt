-- The search, as a relation between the entries so far and the next entry. Of agreement it asks one thing: the live term so
-- far that is like a term, if there is one.
use Rattle.std.specs.Prelude.{List, [], ◌∷◌, ◌++◌, map}
use Rattle.law_sig.specs.Lists.{In}
use Rattle.law_sig.specs.Trees.{schema_of}
use Rattle.law_sig.specs.Tests.{Pools}
use Rattle.law_sig.specs.declared.tree.Tree.{Tree}
use Rattle.law_sig.specs.declared.parts.SigParts.{SigParts}
use Rattle.law_sig.specs.Schemas.{IsConsidered, IsInstance}
use Rattle.law_sig.specs.Expected.{IsFirstAbove, IsSpent}
use Rattle.law_sig.specs.Least.{AreAlike}
use Rattle.law_plan.specs.Kills.{IsGeneral}
use Rattle.law_valid.specs.Stated.{stated}
use Rattle.law_plan.specs.Plan.{Item, schema, term, Precedes, Entry, spread, killed, live, moved, item_of, spread_at, live_at}

-- an instance of a spread schema over live terms
pub record IsDueTerm (parts : SigParts) (spreads lives : List Tree) (t : Tree) : Type 0 where
  pub owned : In (schema_of t) spreads
  pub instance_of : IsInstance parts lives (schema_of t) t

-- the items that the spread schemas and live terms so far give
abbrev pub IsDue : SigParts → List Entry → Item → Type 0
IsDue parts xs (schema c) = IsConsidered parts (stated spread_at xs) c
IsDue parts xs (term t) = IsDueTerm parts (stated spread_at xs) (stated live_at xs) t

-- u is a live term so far that is like t
pub record IsFound (parts : SigParts) (pools : Pools) (lives : List Tree) (t u : Tree) : Type 0 where
  pub held : In u lives
  pub alike : AreAlike parts pools t u

-- there is none
abbrev pub NoneFound : SigParts → Pools → List Tree → Tree → Type 0
NoneFound parts pools lives t = (u : Tree) → IsFound parts pools lives t u → ⊥

-- what is decided of an item by the live terms so far
abbrev pub IsDecided : SigParts → Pools → List Tree → Entry → Type 0
IsDecided parts pools lives (spread c) = (g : Tree) → IsGeneral parts c g → NoneFound parts pools lives g
IsDecided parts pools lives (killed g u) = IsGeneral parts (schema_of g) g × IsFound parts pools lives g u
IsDecided parts pools lives (live t) = NoneFound parts pools lives t
IsDecided parts pools lives (moved t u) = IsFound parts pools lives t u

-- the next entry: it is about the first item that is due after all entries so far, and decided by them
pub record IsNext (parts : SigParts) (pools : Pools) (xs : List Entry) (e : Entry) : Type 0 where
  pub first : IsFirstAbove (Precedes parts) (IsDue parts xs) (map item_of xs) (item_of e)
  pub decided : IsDecided parts pools (stated live_at xs) e

-- entries that were found one by one
pub data AreFollowed (parts : SigParts) (pools : Pools) : List Entry → Type 0 where
  start : AreFollowed parts pools []
  next : (xs : List Entry) (e : Entry) → AreFollowed parts pools xs → IsNext parts pools xs e → AreFollowed parts pools (xs ++ e ∷ [])

-- nothing is due after them
abbrev pub AreAll : SigParts → List Entry → Type 0
AreAll parts xs = IsSpent (Precedes parts) (IsDue parts xs) (map item_of xs)
