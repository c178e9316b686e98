-- What the fields of a search's schemas mean, and what is known of them.
use Rattle.std.specs.Prelude.{◌≡◌, ℕ, ◌+◌, ◌<◌, ◌⊎◌, List, [], ◌∷◌, ◌++◌, length, Bool, false, Option, Some, None, slice_get, slice_index_or}
use denote.Bor.{Bor}
use Rattle.law_sig.specs.Lists.{Each, Rising}
use Rattle.law_sig.specs.Order.{IsBefore}
use Rattle.law_sig.specs.Schemas.{IsConsidered}
use Rattle.law_sig.specs.declared.tree.SortId.{SortId}
use Rattle.law_sig.specs.declared.tree.Tree.{Tree}
use Rattle.law_sig.specs.declared.parts.SigParts.{SigParts}
use Rattle.law_bank.specs.declared.node.Node.{Node}
use Rattle.law_bank.specs.Terms.{tree_of, trees_of}
use Rattle.law_schema.specs.declared.rules.Rule.{Rule}
use Rattle.law_schema.specs.declared.rules.Rules.{Rules}
use Rattle.law_schema.specs.declared.stock.Spread.{Spread}
use Rattle.law_schema.specs.declared.places.Place.{Place}
use Rattle.law_schema.specs.declared.places.Place.TheVariants as place
use Rattle.law_schema.specs.declared.block.Block.{Block}
use Rattle.law_schema.specs.declared.schemas.Turn.{Turn}
use Rattle.law_schema.specs.declared.schemas.Turn.TheVariants as turn
use Rattle.law_schema.specs.declared.schemas.Schemas.TheInside.{Inside}
use Rattle.law_schema.specs.Rules.{AreRules}
use Rattle.law_schema.specs.Columns.{Columns, columns_of}
use Rattle.law_schema.specs.Spreads.{schema_terms, schema_trees, live_terms}
use Rattle.law_schema.specs.Places.{IsStanding, IsStocked}
use Rattle.law_schema.specs.Blocks.{AreLinked, IsHouse, IsBlock}
use Rattle.law_schema.specs.Course.{Course, tree_in}

abbrev pub course_in : Inside → Course
course_in s = record { rules = s.rules; spreads = schema_terms s.spreads.items; lives = live_terms s.spreads.items; schema = s.schema; turn = s.turn; term = s.term; live = s.live }

-- each sort has a place for each weight
pub record AreShaped (rules : Rules) (columns : Columns) : Type 0 where
  pub long : length columns ≡ rules.sorts
  pub places : (s : SortId) → s.0 < rules.sorts → length (slice_index_or columns s.0 []) ≡ rules.size + 1

-- the schema that was given last is considered, and none of the spread ones stands after it; nor is it one of them before it is settled
pub record IsReachedAt (parts : SigParts) (schemas : List Tree) (t : Turn) (c : Tree) : Type 0 where
  pub considered : IsConsidered parts schemas c
  pub upto : Each (λ d. (d ≡ c) ⊎ IsBefore parts d c) schemas
  pub fresh : t ≡ turn.Given → Each (λ d. IsBefore parts d c) schemas

abbrev pub IsReached : SigParts → List Tree → Turn → Option Tree → Type 0
IsReached parts schemas t None = schemas ≡ []
IsReached parts schemas t (Some c) = IsReachedAt parts schemas t c

-- all that depends on the signature
pub record IsRight (parts : SigParts) (spreads : List Spread) (columns : Columns) (t : Turn) (o : Option Tree) : Type 0 where
  pub stocked : IsStocked parts (schema_trees spreads) columns
  pub rising : Rising (IsBefore parts) (schema_trees spreads)
  pub houses : Each (IsHouse parts) spreads
  pub reached : IsReached parts (schema_trees spreads) t o

-- the live terms of the schema that was spread last stand before the instance that was given last, or it is the last one of them
abbrev pub AreUpto : SigParts → List Tree → Option Tree → Bool → Type 0
AreUpto parts lives None live = lives ≡ []
AreUpto parts lives (Some t) live = Each (λ s. (s ≡ t) ⊎ IsBefore parts s t) lives × (live ≡ false → Each (λ s. IsBefore parts s t) lives)

-- the schema that was given last is spread, and its instances are given
pub record IsOpen (rules : Rules) (spreads : List Spread) (schema term : Option (Bor Node)) (live : Bool) (block : Block) : Type 0 where
  pub earlier : List Spread
  pub last : Spread
  pub spreads_are : spreads ≡ earlier ++ last ∷ []
  pub schema_is : schema ≡ Some last.schema
  pub block_is : IsBlock rules spreads (tree_of last.schema.now) (tree_in term) block
  pub upto : (parts : SigParts) → AreRules parts rules → AreUpto parts (trees_of last.lives) (tree_in term) live

abbrev pub IsTurn : Turn → Rules → List Spread → Option (Bor Node) → Option (Bor Node) → Bool → Block → Type 0
IsTurn turn.Settled rules spreads schema term live block = term ≡ None
IsTurn turn.Given rules spreads schema term live block = (term ≡ None) × (b : Bor Node) × (schema ≡ Some b)
IsTurn turn.Spread rules spreads schema term live block = IsOpen rules spreads schema term live block

pub record IsSound (s : Inside) : Type 0 where
  pub signature : SigParts
  pub rules_are : AreRules signature s.rules
  pub standing : IsStanding s.rules (columns_of s.columns.items) s.place (tree_in s.schema)
  pub linked : AreLinked s.spreads.items (columns_of s.columns.items)
  pub shaped : AreShaped s.rules (columns_of s.columns.items)
  pub right : (parts : SigParts) → AreRules parts s.rules → IsRight parts s.spreads.items (columns_of s.columns.items) s.turn (tree_in s.schema)
  pub turn_is : IsTurn s.turn s.rules s.spreads.items s.schema s.term s.live s.block

-- Private words

-- the rule at a place is there
abbrev pub IsPlaced : Rules → Place → Type 0
IsPlaced rules place.Start = ⊥
IsPlaced rules (place.Var sort) = Unit {0}
IsPlaced rules (place.App a) = (rule : Rule) × (slice_get rules.symbols a.rule ≡ Some rule)

-- the sort and the weight of the schema at a place
abbrev pub IsHome : Rules → Place → SortId → ℕ → Type 0
IsHome rules place.Start sort weight = ⊥
IsHome rules (place.Var s) sort weight = (sort ≡ s) × (weight ≡ 1)
IsHome rules (place.App a) sort weight = (rule : Rule) × (slice_get rules.symbols a.rule ≡ Some rule) × (sort ≡ rule.result) × (weight ≡ a.weight)

-- one live term more of the last one
abbrev pub with_live : List Spread → Bor Node → List Spread
with_live [] b = []
with_live (s ∷ []) b = record { schema = s.schema; lives = s.lives ++ b ∷ [] } ∷ []
with_live (s ∷ t ∷ spreads) b = s ∷ with_live (t ∷ spreads) b
