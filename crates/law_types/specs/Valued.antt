-- Which sorts have a value, found one after another: a constructor whose arguments all have one gives its own sort one.
use Rattle.std.specs.Prelude.{◌≡◌, ℕ, ◌<◌, List, [], ◌∷◌, ◌++◌, length, Bool, true, false, ◌&&◌, not, nat_lt, Some, slice_get, slice_set, slice_index_or, Vec, vec_items, if◌then◌else◌, ◌⊎◌}
use Rattle.std.specs.List.{list_all}
use Rattle.law_sig.specs.Lists.{In}
use Rattle.law_sig.specs.declared.tree.SortId.{SortId}
use Rattle.law_sig.specs.declared.parts.Sym.{Sym}
use Rattle.law_sig.specs.declared.parts.Sym.TheVariants as sym
use Rattle.law_typing.specs.Declarations.{has_value}
use Rattle.law_typing.specs.declared.whole.Whole.{Whole}

-- whether a sort is known to have a value; a name that isn't a sort counts as one that has
abbrev pub is_known : List Bool → SortId → Bool
is_known has sort = if nat_lt sort.0 (length has) then slice_index_or has sort.0 false else true

-- whether the symbol is a constructor that gives its sort the first value that is known
abbrev pub gives : List Bool → Sym → Bool
gives has (sym.Con con) = list_all (is_known has) con.args && not (is_known has con.sort)
gives has (sym.Fun fun) = false

-- the symbol is a constructor that takes a value of the sort
abbrev pub Takes : ℕ → Sym → Type 0
Takes sort (sym.Con con) = (arg : SortId) × In arg con.args × (arg.0 ≡ sort)
Takes sort (sym.Fun fun) = ⊥

-- the table for each sort of the constructors among the first symbols that take a value of it
pub record AreTakers {A : Type 0} (text : Whole) (count : ℕ) (table : List (Vec ℕ A)) : Type 0 where
  pub one_each : length table ≡ length text.sorts
  pub all : (number sort : ℕ) (symbol : Sym) (row : Vec ℕ A) → number < count → slice_get text.symbols number ≡ Some symbol → Takes sort symbol
      → slice_get table sort ≡ Some row → In number (vec_items row)

-- one more number in the row of a sort, where there is one
pub record IsNoted {A : Type 0} (sort number : ℕ) (old new : List (Vec ℕ A)) : Type 0 where
  pub one_each : length new ≡ length old
  pub kept : (place : ℕ) (row : Vec ℕ A) → slice_get new place ≡ Some row → (was : Vec ℕ A) × (slice_get old place ≡ Some was)
      × ((n : ℕ) → In n (vec_items was) → In n (vec_items row)) × (place ≡ sort → In number (vec_items row))

-- the number in the row of each of these sorts
pub record AreNoted {A : Type 0} (sorts : List SortId) (number : ℕ) (old new : List (Vec ℕ A)) : Type 0 where
  pub one_each : length new ≡ length old
  pub kept : (place : ℕ) (row : Vec ℕ A) → slice_get new place ≡ Some row → (was : Vec ℕ A) × (slice_get old place ≡ Some was)
      × ((n : ℕ) → In n (vec_items was) → In n (vec_items row)) × ((sort : SortId) → In sort sorts → sort.0 ≡ place → In number (vec_items row))

-- What is known holds, and the sorts in the queue are declared.
pub record IsFound (text : Whole) (has : List Bool) (queue : List ℕ) : Type 0 where
  pub one_each : length has ≡ length text.sorts
  pub valued : (sort : SortId) → sort.0 < length text.sorts → slice_index_or has sort.0 false ≡ true → has_value text sort ≡ true
  pub within : (sort : ℕ) → In sort queue → sort < length text.sorts

-- a symbol that takes a value of one of these sorts
abbrev pub Waits : List ℕ → Sym → Type 0
Waits queue symbol = (sort : ℕ) × In sort queue × Takes sort symbol

-- Each constructor that gives its sort a first value is still to be looked at, with one of these sorts or otherwise.
abbrev pub AreLeft : Whole → List Bool → (ℕ → Type 0) → List ℕ → Type 0
AreLeft text has Otherwise queue = (number : ℕ) (symbol : Sym) → slice_get text.symbols number ≡ Some symbol → gives has symbol ≡ true → Otherwise number ⊎ Waits queue symbol

-- what was found behind a look at a symbol
abbrev pub Looked : Bool → ℕ → List Bool → List Bool → List ℕ → List ℕ → Type 0
Looked false sort old new queue more = (new ≡ old) × (more ≡ queue)
Looked true sort old new queue more = (new ≡ slice_set old sort true) × (more ≡ queue ++ sort ∷ [])
