-- The order in which entries have to stand, apart from what each of them owes: which schema and which instance is expected
-- next, by what has been stated so far.
use Rattle.std.specs.Prelude.{◌≡◌, Bool, true, false, if◌then◌else◌, List, [], ◌∷◌, ◌++◌, Option, Some, None}
use Rattle.law_sig.specs.Order.{IsBefore}
use Rattle.law_sig.specs.Schemas.{AreExactly, IsConsidered, IsInstance}
use Rattle.law_sig.specs.Expected.{IsFirstAbove, IsSpent}
use Rattle.law_sig.specs.declared.tree.Tree.{Tree}
use Rattle.law_sig.specs.declared.parts.SigParts.{SigParts}
use Rattle.law_valid.specs.Stated.{stated}

-- How far the entries have come

-- a spread schema whose instances are expected, and its terms so far
pub record Block : Type 0 where
  pub schema : Tree
  pub terms : List Tree

-- what the entries so far stated: the spread schemas, all schemas, the live terms, and the spread schema whose instances
-- are expected
pub record Progress : Type 0 where
  pub parts : SigParts
  pub spreads : List Tree
  pub schemas : List Tree
  pub lives : List Tree
  pub block : Option Block

-- before the first entry
abbrev pub at_start : SigParts → Progress
at_start parts = record { parts = parts; spreads = []; schemas = []; lives = []; block = None }

abbrev pub with_term : Option Block → Tree → Option Block
with_term None t = None
with_term (Some block) t = Some (record { schema = block.schema; terms = block.terms ++ t ∷ [] })

-- after a spread schema, a killed one, and a term, which is live or moved
abbrev pub after_spread : Progress → Tree → Progress
after_spread p c = record { parts = p.parts; spreads = p.spreads ++ c ∷ []; schemas = p.schemas ++ c ∷ []; lives = p.lives; block = Some (record { schema = c; terms = [] }) }

abbrev pub after_killed : Progress → Tree → Progress
after_killed p c = record { parts = p.parts; spreads = p.spreads; schemas = p.schemas ++ c ∷ []; lives = p.lives; block = None }

abbrev pub after_term : Progress → Tree → Bool → Progress
after_term p t live = record { parts = p.parts; spreads = p.spreads; schemas = p.schemas; lives = if live then p.lives ++ t ∷ [] else p.lives; block = with_term p.block t }

-- What is expected

-- given the live terms so far: no instance is expected, and this one is
abbrev pub IsBlockSpent : SigParts → List Tree → Option Block → Type 0
IsBlockSpent parts lives None = Unit {0}
IsBlockSpent parts lives (Some block) = IsSpent (IsBefore parts) (IsInstance parts lives block.schema) block.terms

abbrev pub IsNextTerm : SigParts → List Tree → Option Block → Tree → Type 0
IsNextTerm parts lives None t = ⊥
IsNextTerm parts lives (Some block) t = IsFirstAbove (IsBefore parts) (IsInstance parts lives block.schema) block.terms t

abbrev pub IsTermSpent : Progress → Type 0
IsTermSpent p = IsBlockSpent p.parts p.lives p.block

abbrev pub IsTermNext : Progress → Tree → Type 0
IsTermNext p t = IsNextTerm p.parts p.lives p.block t

-- no schema is expected, and this one is
abbrev pub AreSpent : Progress → Type 0
AreSpent p = IsSpent (IsBefore p.parts) (IsConsidered p.parts p.spreads) p.schemas

abbrev pub IsSchemaNext : Progress → Tree → Type 0
IsSchemaNext p c = IsFirstAbove (IsBefore p.parts) (IsConsidered p.parts p.spreads) p.schemas c

-- Turns, where it is known at which progress something is

-- this schema's turn: at some progress over this signature it is expected, and no instance is
pub record IsSchemaTurn (At : Progress → Type 0) (parts : SigParts) (c : Tree) : Type 0 where
  pub progress : Progress
  pub at : At progress
  pub parts_are : parts ≡ progress.parts
  pub spent : IsTermSpent progress
  pub next : IsSchemaNext progress c

-- this instance's turn
pub record IsTermTurn (At : Progress → Type 0) (parts : SigParts) (t : Tree) : Type 0 where
  pub progress : Progress
  pub at : At progress
  pub parts_are : parts ≡ progress.parts
  pub next : IsTermNext progress t

-- Going in order

-- what becomes of a schema, which is spread or killed, and of a term, which is live or moved
pub data Decision : Type 0 where
  spread : Tree → Decision
  killed : Tree → Decision
  live : Tree → Decision
  moved : Tree → Decision

abbrev pub after : Progress → Decision → Progress
after p (spread c) = after_spread p c
after p (killed c) = after_killed p c
after p (live t) = after_term p t true
after p (moved t) = after_term p t false

-- a schema is expected where no instance is, and is the next one; a term is the next instance
abbrev pub IsExpected : Progress → Decision → Type 0
IsExpected p (spread c) = IsTermSpent p × IsSchemaNext p c
IsExpected p (killed c) = IsTermSpent p × IsSchemaNext p c
IsExpected p (live t) = IsTermNext p t
IsExpected p (moved t) = IsTermNext p t

-- each is expected when its turn comes
abbrev pub AreExpected : Progress → List Decision → Type 0
AreExpected p [] = Unit {0}
AreExpected p (x ∷ ds) = IsExpected p x × AreExpected (after p x) ds

abbrev pub after_all : Progress → List Decision → Progress
after_all p [] = p
after_all p (x ∷ ds) = after_all (after p x) ds

-- neither an instance nor a schema is expected
abbrev pub IsNoneExpected : Progress → Type 0
IsNoneExpected p = IsTermSpent p × AreSpent p

-- from here on each is expected when its turn comes, and nothing is where they end
pub record GoInOrder (p : Progress) (ds : List Decision) : Type 0 where
  pub each : AreExpected p ds
  pub ends : IsNoneExpected (after_all p ds)

-- What stands there then

abbrev pub spread_in : Decision → List Tree
spread_in (spread c) = c ∷ []
spread_in (killed c) = []
spread_in (live t) = []
spread_in (moved t) = []

abbrev pub schema_in : Decision → List Tree
schema_in (spread c) = c ∷ []
schema_in (killed c) = c ∷ []
schema_in (live t) = []
schema_in (moved t) = []

abbrev pub live_in : Decision → List Tree
live_in (spread c) = []
live_in (killed c) = []
live_in (live t) = t ∷ []
live_in (moved t) = []

-- the terms up to the next schema
abbrev pub terms_first : List Decision → List Tree
terms_first [] = []
terms_first (spread c ∷ ds) = []
terms_first (killed c ∷ ds) = []
terms_first (live t ∷ ds) = t ∷ terms_first ds
terms_first (moved t ∷ ds) = t ∷ terms_first ds

-- given all live terms: after each spread schema stand exactly its instances, and after a killed one no term
abbrev pub HaveInstances : SigParts → List Tree → List Decision → Type 0
HaveInstances parts lives [] = Unit {0}
HaveInstances parts lives (spread c ∷ ds) = AreExactly parts (IsInstance parts lives c) (terms_first ds) × HaveInstances parts lives ds
HaveInstances parts lives (killed c ∷ ds) = (terms_first ds ≡ []) × HaveInstances parts lives ds
HaveInstances parts lives (live t ∷ ds) = HaveInstances parts lives ds
HaveInstances parts lives (moved t ∷ ds) = HaveInstances parts lives ds

-- exactly the schemas that are considered over the spread ones, no term before the first of them, and after each exactly its
-- instances over the live terms
pub record AreWhole (parts : SigParts) (ds : List Decision) : Type 0 where
  pub schemas : AreExactly parts (IsConsidered parts (stated spread_in ds)) (stated schema_in ds)
  pub first : terms_first ds ≡ []
  pub instances : HaveInstances parts (stated live_in ds) ds
