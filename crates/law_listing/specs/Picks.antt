-- Rows of picks: one from the choices at each place, of a weight in all. So a row is told by numbers alone, whatever is picked.
use Rattle.std.specs.Prelude.{◌≡◌, ℕ, ◌+◌, ◌-◌, ◌<◌, ◌≤◌, ◌⊎◌, List, [], ◌∷◌, slice_index_or, length, Bool, true, false}
use Rattle.law_listing.specs.declared.pick.Pick.{Pick}

-- picks stand in order by what they weigh, and then by which one it is
abbrev pub IsLower : Pick → Pick → Type 0
IsLower p q = (p.weight < q.weight) ⊎ ((p.weight ≡ q.weight) × (p.at < q.at))

-- given how many choices there are at each place of each weight: a pick at each place, of this weight in all
abbrev pub IsRow : List (List ℕ) → ℕ → List Pick → Type 0
IsRow [] weight [] = weight ≡ 0
IsRow [] weight (p ∷ ps) = ⊥
IsRow (counts ∷ more) weight [] = ⊥
IsRow (counts ∷ more) weight (p ∷ ps) = (p.weight ≤ weight) × (p.at < slice_index_or counts p.weight 0) × IsRow more (weight - p.weight) ps

-- the first pick, if there is one, weighs at least so much
abbrev pub StartsFrom : ℕ → List Pick → Type 0
StartsFrom from [] = Unit {0}
StartsFrom from (p ∷ ps) = from ≤ p.weight

abbrev pub IsRowFrom : List (List ℕ) → ℕ → ℕ → List Pick → Type 0
IsRowFrom choices weight from row = IsRow choices weight row × StartsFrom from row

-- The weights that rows may have

-- where it is said that rows have a weight not, they don't
abbrev pub IsFits : List (List ℕ) → List Bool → Type 0
IsFits choices fits = (weight : ℕ) → slice_index_or fits weight true ≡ false → (row : List Pick) → IsRow choices weight row → ⊥

-- the same of the rows behind each place, by how many places they have
abbrev pub AreFits : List (List ℕ) → List (List Bool) → Type 0
AreFits [] fits = Unit {0}
AreFits (counts ∷ more) fits = IsFits more (slice_index_or fits (length more) []) × AreFits more fits

-- the same of all rows too
pub record AreAllFits (choices : List (List ℕ)) (fits : List (List Bool)) : Type 0 where
  pub behind : AreFits choices fits
  pub all : IsFits choices (slice_index_or fits (length choices) [])
  pub long : length fits ≡ length choices + 1

-- no choice and no row behind it have this weight together
abbrev pub NoSum : List ℕ → List Bool → ℕ → Type 0
NoSum counts fits weight = (own : ℕ) → own ≤ weight → (slice_index_or counts own 0 ≡ 0) ⊎ (slice_index_or fits (weight - own) true ≡ false)
