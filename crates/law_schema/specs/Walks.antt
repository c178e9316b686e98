-- A walk over rows of picks: where it stands, and what is known of it.
use Rattle.std.specs.Prelude.{◌≡◌, ℕ, List, [], ◌∷◌, length}
use Rattle.law_sig.specs.Expected.{IsFirstAbove, IsSpent}
use Rattle.law_listing.specs.declared.pick.Pick.{Pick}
use Rattle.law_listing.specs.Rows.{Lex}
use Rattle.law_listing.specs.Picks.{IsLower, IsRow, AreFits}
use Rattle.law_schema.specs.declared.walk.Stand.{Stand}
use Rattle.law_schema.specs.declared.walk.Stand.TheVariants.{Nowhere, Before, At}
use Rattle.law_schema.specs.declared.walk.Walk.{Walk}

-- the row that was given last, if there was one
abbrev pub done_at : Stand → List Pick → List (List Pick)
done_at Nowhere row = []
done_at Before row = []
done_at At row = row ∷ []

abbrev pub rows_done : Walk → List (List Pick)
rows_done walk = done_at walk.stand walk.row.items

-- there is no row; the first one is next; one was given
abbrev pub IsReady : Stand → List (List ℕ) → ℕ → List Pick → List Pick → Type 0
IsReady Nowhere choices weight row next = IsSpent (Lex IsLower) (IsRow choices weight) []
IsReady Before choices weight row next = IsFirstAbove (Lex IsLower) (IsRow choices weight) [] next
IsReady At choices weight row next = IsRow choices weight row

pub record IsWalk (walk : Walk) : Type 0 where
  pub fits : AreFits walk.choices walk.fits
  pub row_long : length walk.row.items ≡ length walk.choices
  pub next_long : length walk.next.items ≡ length walk.choices
  pub ready : IsReady walk.stand walk.choices walk.weight walk.row.items walk.next.items
