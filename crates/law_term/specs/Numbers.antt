-- The most general instance of a schema: the variables of each sort numbered from 0, from left to right.
use Rattle.std.specs.Prelude.{◌≡◌, ℕ, ◌+◌, ◌<◌, ◌≤◌, List, length, slice_index_or}
use Rattle.law_sig.specs.Trees.{schema_of}
use Rattle.law_sig.specs.Tests.{first_of}
use Rattle.law_sig.specs.General.{IsNumbered}
use Rattle.law_sig.specs.Trees.{holes}
use Rattle.law_sig.specs.declared.tree.SortId.{SortId}
use Rattle.law_sig.specs.declared.tree.Tree.{Tree}
use Rattle.law_term.specs.Variables.{holes_in}

-- the number of a sort, and none where it isn't given
abbrev pub number_at : List ℕ → SortId → ℕ
number_at numbers s = slice_index_or numbers s.0 0

-- the most general instance of a term's schema; no sort has more holes than its number
pub record IsGeneralOf (vars : List ℕ) (t g : Tree) : Type 0 where
  pub schema : schema_of g ≡ schema_of t
  pub numbered : IsNumbered g
  pub few : (s : SortId) → length (holes s t) ≤ number_at vars s

-- a sort has more holes than its number
pub record HasTooMany (vars : List ℕ) (t : Tree) : Type 0 where
  pub sort : SortId
  pub many : number_at vars sort < length (holes sort t)

-- Under way: so many variables of each sort are used

-- a number and those behind it, so many
abbrev pub numbers_from : ℕ → ℕ → List ℕ
numbers_from n count = first_of count (λ i. n + i)

pub record AreUsed (vars used : List ℕ) : Type 0 where
  pub sorts : length used ≡ length vars
  pub few : (s : SortId) → number_at used s ≤ number_at vars s

-- the holes of some terms were given the next numbers
pub record AreNext (old new : List ℕ) (ts gs : List Tree) : Type 0 where
  pub holes : (s : SortId) → holes_in s gs ≡ numbers_from (number_at old s) (length (holes_in s ts))
  pub used : (s : SortId) → number_at new s ≡ number_at old s + length (holes_in s ts)

-- there are more holes of a sort than numbers that are left
pub record AreTooMany (vars used : List ℕ) (ts : List Tree) : Type 0 where
  pub sort : SortId
  pub many : number_at vars sort < number_at used sort + length (holes_in sort ts)
