-- What reading the whole input gives.
use Rattle.std.specs.Prelude.{◌≡◌, ℕ, suc, ◌≤◌, List, length, Option}
use Rattle.std.specs.Io.KnownBytes.{Consumes, IsAtEnd}
use Rattle.law_cert_text.specs.Readers.{HasHeard}
use Rattle.law_cli.specs.Commands.{most_bytes}
use Rattle.law_cli.specs.declared.command.Command.{Command}
use Rattle.law_cli.specs.declared.command.Command.TheVariants as command
use Rattle.law_cli.specs.declared.pieces.Pieces.{Pieces}
use Rattle.law_cli.specs.declared.pieces.Pieces.TheVariants as pieces

-- the input was read to its end, and these are its bytes, where the source tells them
pub record WasRead (before now : Option (List ℕ)) (bytes : List ℕ) (most : ℕ) : Type 0 where
  pub consumed : Consumes before now bytes
  pub at_end : IsAtEnd now
  pub short : length bytes ≤ most

-- the source gave one byte more than so many, and no more
pub record GaveTooMany (before now : Option (List ℕ)) (most : ℕ) : Type 0 where
  pub bytes : List ℕ
  pub consumed : Consumes before now bytes
  pub count : length bytes ≡ suc most

-- the source gave at most so many bytes
pub record GaveAtMost (before now : Option (List ℕ)) (most : ℕ) : Type 0 where
  pub bytes : List ℕ
  pub consumed : Consumes before now bytes
  pub count : length bytes ≤ most

-- what stands for the text that was read: `plain` keeps it, and `check` what a reader of certificates has
abbrev pub StandsFor : Command → Pieces → List ℕ → Type 0
StandsFor command.Plain (pieces.Signature kept) text = kept ≡ text
StandsFor command.Check (pieces.Certificate heard) text = HasHeard heard text
StandsFor asked kept text = ⊥

-- so far these bytes were read, and no call failed
pub record IsReading (asked : Command) (before now : Option (List ℕ)) (kept : Pieces) (count faults_before faults_now : ℕ) : Type 0 where
  pub bytes : List ℕ
  pub consumed : Consumes before now bytes
  pub counted : count ≡ length bytes
  pub short : count ≤ most_bytes asked
  pub stands : StandsFor asked kept bytes
  pub steady : faults_now ≡ faults_before

-- the input was read to its end, and this stands for its bytes
pub record IsRead (asked : Command) (before now : Option (List ℕ)) (kept : Pieces) : Type 0 where
  pub bytes : List ℕ
  pub read : WasRead before now bytes (most_bytes asked)
  pub stands : StandsFor asked kept bytes
