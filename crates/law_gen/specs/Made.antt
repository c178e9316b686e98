-- What generation promises of one value and of lists of values.
use Rattle.std.specs.Prelude.{◌≡◌, ℕ, ◌+◌, ◌≤◌, List}
use Rattle.rand_pcg.specs.Lcg.{Lcg}
use Rattle.law_sig.specs.Trees.{node_count}
use Rattle.law_sig.specs.WellFormed.{IsWellFormed}
use Rattle.law_sig.specs.declared.tree.SortId.{SortId}
use Rattle.law_sig.specs.declared.tree.SymId.{SymId}
use Rattle.law_sig.specs.declared.tree.Tree.{Tree}
use Rattle.law_sig.specs.declared.parts.SigParts.{SigParts}
use Rattle.law_ids.specs.declared.ids.ValueId.{ValueId}
use Rattle.law_ids.specs.Values.{IsOf, tree_of}
use Rattle.law_draws.specs.Draws.{Drawn}
use Rattle.law_draws.specs.Choices.{table_of}
use Rattle.law_gen.specs.declared.error.Stop.{Stop}
use Rattle.law_gen.specs.declared.error.Stop.TheVariants as stop
use Rattle.law_gen.specs.declared.error.GenErr.{GenErr}
use Rattle.law_gen.specs.declared.error.GenErr.TheVariants as err

-- what holds where a value is too large
abbrev pub WhereLarge : Type 0 → Stop → Type 0
WhereLarge P stop.TooLarge = P
WhereLarge P stop.NoMemory = Unit {0}

-- what holds of the pool and the sort where a value is too large
abbrev pub WhereTooLarge : (ℕ → SortId → Type 0) → GenErr → Type 0
WhereTooLarge P (err.ValueTooLarge pool sort) = P pool sort
WhereTooLarge P err.NoMemory = Unit {0}

-- the table has the constructors of every height up to this one
pub record IsReady (parts : SigParts) (height : ℕ) (table : List (List (List SymId))) : Type 0 where
  pub well_formed : IsWellFormed parts
  pub top : ℕ
  pub within : height ≤ top
  pub right : table ≡ table_of parts top

-- one value, whose nodes are taken from the room
pub record IsMade (drawn : Drawn Tree) (bank : List Tree) (v : ValueId) (rng : Lcg) (before room : ℕ) : Type 0 where
  pub held : IsOf bank v
  pub tree : tree_of bank v ≡ drawn.made
  pub after : rng ≡ drawn.after
  pub taken : before ≡ node_count drawn.made + room

-- more than one, each held and each with a meaning
pub record AreMade {X Y : Type 0} (drawn : Drawn Y) (IsHeld : X → Type 0) (meaning : X → Y) (x : X) (rng : Lcg) : Type 0 where
  pub held : IsHeld x
  pub made : meaning x ≡ drawn.made
  pub after : rng ≡ drawn.after
