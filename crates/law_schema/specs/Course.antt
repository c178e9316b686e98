-- How far a search has come through schemas and instances, as callers see it; and what each call gives and does.
use Rattle.std.specs.Prelude.{◌≡◌, List, [], ◌∷◌, ◌++◌, Bool, true, false, Option, Some, None}
use denote.Bor.{Bor}
use Rattle.law_sig.specs.Order.{IsBefore}
use Rattle.law_sig.specs.Expected.{IsFirstAbove, IsSpent}
use Rattle.law_sig.specs.Schemas.{IsConsidered, IsInstance}
use Rattle.law_sig.specs.declared.tree.Tree.{Tree}
use Rattle.law_sig.specs.declared.parts.SigParts.{SigParts}
use Rattle.law_bank.specs.declared.node.Node.{Node}
use Rattle.law_bank.specs.Terms.{tree_of, trees_of}
use Rattle.law_schema.specs.declared.rules.Rules.{Rules}
use Rattle.law_schema.specs.declared.schemas.Turn.{Turn}
use Rattle.law_schema.specs.declared.schemas.Turn.TheVariants.{Settled, Given, Spread}

-- what is kept of the signature; the spread schemas and the live terms, in order; the schema that was given last, and what became of it;
-- the instance of it that was given last, and whether that is live
pub record Course : Type 0 where
  pub rules : Rules
  pub spreads : List (Bor Node)
  pub lives : List (Bor Node)
  pub schema : Option (Bor Node)
  pub turn : Turn
  pub term : Option (Bor Node)
  pub live : Bool

-- before the first schema
pub record IsNew (v : Course) : Type 0 where
  pub spreads : v.spreads ≡ []
  pub lives : v.lives ≡ []
  pub schema : v.schema ≡ None
  pub turn : v.turn ≡ Settled
  pub term : v.term ≡ None
  pub live : v.live ≡ false

-- What is given

abbrev pub tree_in : Option (Bor Node) → Option Tree
tree_in None = None
tree_in (Some b) = Some (tree_of b.now)

-- what was given last, as a list. Things are given in order, so what stands after it stands after all that was given
abbrev pub given : Option Tree → List Tree
given None = []
given (Some t) = t ∷ []

-- the first thing with a property after the one that was given last, or that there is none
abbrev pub Gives : SigParts → (Tree → Type 0) → Option Tree → Option (Bor Node) → Type 0
Gives parts P o None = IsSpent (IsBefore parts) P (given o)
Gives parts P o (Some b) = IsFirstAbove (IsBefore parts) P (given o) (tree_of b.now)

-- the next considered schema, over the spread ones
abbrev pub GivesSchema : SigParts → Course → Option (Bor Node) → Type 0
GivesSchema parts v r = Gives parts (IsConsidered parts (trees_of v.spreads)) (tree_in v.schema) r

-- the next instance of the schema that was given last, over the live terms
abbrev pub GivesOf : SigParts → Course → Option Tree → Option (Bor Node) → Type 0
GivesOf parts v None r = ⊥
GivesOf parts v (Some c) r = Gives parts (IsInstance parts (trees_of v.lives) c) (tree_in v.term) r

abbrev pub GivesInstance : SigParts → Course → Option (Bor Node) → Type 0
GivesInstance parts v r = GivesOf parts v (tree_in v.schema) r

-- this term is the instance that was given last
abbrev pub IsAtHand : Option (Bor Node) → Node → Type 0
IsAtHand None n = ⊥
IsAtHand (Some b) n = tree_of b.now ≡ tree_of n

-- What a call does

abbrev pub after_next : Course → Option (Bor Node) → Course
after_next v None = v
after_next v (Some b) = record { rules = v.rules; spreads = v.spreads; lives = v.lives; schema = Some b; turn = Given; term = None; live = false }

abbrev pub with_spread : Course → Option (Bor Node) → Course
with_spread v None = v
with_spread v (Some b) = record { rules = v.rules; spreads = v.spreads ++ b ∷ []; lives = v.lives; schema = v.schema; turn = Spread; term = v.term; live = v.live }

abbrev pub after_spread : Course → Course
after_spread v = with_spread v v.schema

abbrev pub after_kill : Course → Course
after_kill v = record { rules = v.rules; spreads = v.spreads; lives = v.lives; schema = v.schema; turn = Settled; term = v.term; live = v.live }

abbrev pub after_instance : Course → Option (Bor Node) → Course
after_instance v None = v
after_instance v (Some b) = record { rules = v.rules; spreads = v.spreads; lives = v.lives; schema = v.schema; turn = v.turn; term = Some b; live = false }

abbrev pub after_admit : Course → Bor Node → Course
after_admit v b = record { rules = v.rules; spreads = v.spreads; lives = v.lives ++ b ∷ []; schema = v.schema; turn = v.turn; term = v.term; live = true }
