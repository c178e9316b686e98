-- A part of a certificate that is judged by itself, and the rest behind it.
use Rattle.std.specs.Prelude.{◌≡◌}
use Rattle.law_valid.specs.declared.rule.Answer.{Answer}
use Rattle.law_valid.specs.declared.rule.Answer.TheVariants.{Yes}

-- nothing is found wrong
abbrev pub IsYes : Answer → Type 0
IsYes a = a ≡ Yes

-- what the part `short` says of an answer, the whole `long` says of it where it is a fault; else what the rest says
abbrev pub Goes : (rest short long : Answer → Type 0) → Answer → Type 0
Goes rest short long a = short a → ((a ≡ Yes → ⊥) → long a) × (a ≡ Yes → (b : Answer) → rest b → long b)
