-- A search's schemas while a certificate is played.
use Rattle.std.specs.Prelude.{◌≡◌, ◌≢◌, Bool, IsTrue}
use Rattle.law_bank.specs.Bank.{Terms, AllOf}
use Rattle.law_schema.specs.declared.schemas.Turn.TheVariants.{Given, Spread}
use Rattle.law_schema.specs.Course.{Course}

-- its terms are of the bank, and the schema that was given last is settled
pub record IsReady (bank : Terms) (v : Course) : Type 0 where
  pub spreads : AllOf bank v.spreads
  pub lives : AllOf bank v.lives
  pub settled : v.turn ≢ Given

-- instances are expected of a schema that was spread
abbrev pub MayGo : Bool → Course → Type 0
MayGo open' v = IsTrue open' → v.turn ≡ Spread
