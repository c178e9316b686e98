-- A row of a weight in all, with what is known of such rows.
use Rattle.std.specs.Prelude.{◌≡◌, ℕ, List}
use Rattle.law_agenda.specs.declared.walks.Walk.{Walk}
use Rattle.law_listing.specs.Picks.{IsRow, AreFits}

pub record IsWalk (walk : Walk) (choices : List (List ℕ)) (weight : ℕ) : Type 0 where
  pub choices_are : walk.choices ≡ choices
  pub weight_is : walk.weight ≡ weight
  pub fits : AreFits choices walk.fits
  pub row : IsRow choices weight walk.row
