-- What an agenda knows.
use Rattle.std.specs.Prelude.{◌≡◌, ◌⊎◌, ◌++◌, ◌∷◌, [], ℕ, suc, List, length, Bool, true, if◌then◌else◌, Option, Some, None}
use Rattle.std.specs.Option.{MatchOption}
use Rattle.law_sig.specs.Lists.{In, Each, Rising}
use Rattle.law_sig.specs.Trees.{schema_of}
use Rattle.law_sig.specs.Tests.{is_bounded}
use Rattle.law_sig.specs.Order.{IsBefore}
use Rattle.law_sig.specs.declared.tree.Tree.{Tree}
use Rattle.law_sig.specs.declared.parts.SigParts.{SigParts}
use Rattle.law_sig.specs.Expected.{IsAbove}
use Rattle.law_agenda.specs.declared.agenda.Agenda.{Agenda}
use Rattle.law_agenda.specs.declared.agenda.Going.{Going}
use Rattle.law_agenda.specs.declared.candidates.Candidate.{Candidate}
use Rattle.law_agenda.specs.declared.shelves.Spread.{Spread}
use Rattle.law_agenda.specs.declared.stores.Store.{Store}
use Rattle.law_agenda.specs.Candidates.{IsCandidate}
use Rattle.law_agenda.specs.Instances.{IsRange, IsInstanceOf, IsHeld}
use Rattle.law_valid.specs.Order.{Progress, after_spread, after_term, IsSchemaNext, AreSpent, IsTermNext, IsTermSpent}
use Rattle.law_agenda.specs.Stores.{IsStore, IsItem, IsFitting, IsClosed, Closes}

-- each spread schema in the store has the range of its live terms
abbrev pub AreRanged : SigParts → List Tree → Store → Type 0
AreRanged parts lives store = (e : Spread) → IsItem store e → IsRange parts lives e.schema (record { from = e.from; to = e.to })

-- the live terms are terms of the universe, of spread schemas
pub record AreKept (parts : SigParts) (spreads lives : List Tree) : Type 0 where
  pub bounded : Each (λ t. is_bounded parts t ≡ true) lives
  pub owned : (t : Tree) → In t lives → In (schema_of t) spreads

-- no instance is expected, and the schema at hand is
pub record IsReady (a : Agenda) (p : Progress) : Type 0 where
  pub spent : IsTermSpent p
  pub store_is : IsStore p.parts p.spreads a.store
  pub ranged : AreRanged p.parts p.lives a.store
  pub kept : AreKept p.parts p.spreads p.lives
  pub long : length p.lives ≡ a.lives
  pub done : (c : Tree) → In c p.spreads → In c p.schemas
  pub next : MatchOption a.schema (AreSpent p) (λ k. (c : Tree) × IsCandidate p.parts a.store.shelf a.store.weight k c × IsSchemaNext p c)

-- instances of the schema at hand are expected; it isn't in the store yet
pub record IsGoing (a : Agenda) (g : Going) (p : Progress) : Type 0 where
  pub earlier : List Tree
  pub before : List Tree
  pub terms : List Tree
  pub spreads_are : p.spreads ≡ earlier ++ g.spread.schema ∷ []
  pub schemas_are : p.schemas ≡ before ++ g.spread.schema ∷ []
  pub block_is : p.block ≡ Some (record { schema = g.spread.schema; terms = terms })
  pub above : IsAbove (IsBefore p.parts) before g.spread.schema
  pub done : (c : Tree) → In c earlier → In c before
  pub store_is : IsStore p.parts earlier a.store
  pub ranged : AreRanged p.parts p.lives a.store
  pub closed : IsClosed p.parts earlier g.spread.schema
  pub long : length p.lives ≡ a.lives
  pub kept : AreKept p.parts p.spreads p.lives
  pub candidate : Candidate
  pub schema_is : a.schema ≡ Some candidate
  pub candidate_is : IsCandidate p.parts a.store.shelf a.store.weight candidate g.spread.schema
  pub fitting : IsFitting a.store candidate
  pub old : List Tree
  pub new : List Tree
  pub lives_are : p.lives ≡ old ++ new
  pub from_is : length old ≡ g.spread.from
  pub old_owned : (t : Tree) → In t old → In (schema_of t) earlier
  pub new_owned : Each (λ t. schema_of t ≡ g.spread.schema) new
  pub rising : Rising (IsBefore p.parts) new
  pub term : Tree
  pub term_is : IsInstanceOf p.lives g.instance term
  pub held : IsHeld p.parts p.lives g.instance g.spread.schema
  pub next : IsTermNext p term
  pub later : Each (λ t. IsBefore p.parts t term) new

-- the agenda is that of this progress
abbrev pub IsStage : Option Going → Agenda → Progress → Type 0
IsStage None a p = IsReady a p
IsStage (Some g) a p = IsGoing a g p

abbrev pub IsAt : Agenda → Progress → Type 0
IsAt a p = IsStage a.going a p

-- Steps, whatever agenda it was

-- its schema at hand is put into the store, and the next one is at hand
pub record IsFinished (parts : SigParts) (store : Store) (last : Candidate) (spread : Spread) (lives : ℕ) (a : Agenda) : Type 0 where
  pub items : (e : Spread) → IsItem a.store e → IsItem store e ⊎ (e ≡ spread)
  pub closes : Closes parts store last spread.schema a.store a.schema
  pub rests : a.going ≡ None
  pub long : a.lives ≡ lives

-- after its schema at hand, with so many live terms, was spread
abbrev pub Begins : SigParts → Store → Candidate → Tree → ℕ → Agenda → Type 0
Begins parts store last c lives a = (old : Agenda) (p : Progress) → IsReady old p → old.store ≡ store → old.schema ≡ Some last → old.lives ≡ lives → parts ≡ p.parts
    → IsSchemaNext p c → IsAt a (after_spread p c)

-- after the next instance was live or moved, after which there are so many live terms
abbrev pub Continues : SigParts → Store → Candidate → Going → ℕ → Agenda → Type 0
Continues parts store last g lives a = (old : Agenda) (p : Progress) (t : Tree) (live : Bool) → IsGoing old g p → old.store ≡ store → old.schema ≡ Some last → parts ≡ p.parts
    → IsTermNext p t → lives ≡ (if live then suc old.lives else old.lives) → IsAt a (after_term p t live)
