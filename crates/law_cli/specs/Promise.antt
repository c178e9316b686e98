-- What the top call promises.
use Rattle.std.specs.Prelude.{◌≡◌, ℕ, ◌+◌, ◌≤◌, ◌⊎◌, List, length, Option, Some}
use Rattle.law_io.specs.Takings.{Taken, Grows, GrewByPrefix}
use Rattle.law_io.specs.Counts.{Rose}
use Rattle.law_cli.specs.Commands.{AreWordsOf, AreOtherWords, AreWords, most_bytes}
use Rattle.law_cli.specs.Reading.{WasRead, GaveTooMany, GaveAtMost}
use Rattle.law_cli.specs.Printed.{status_text}
use Rattle.law_cli.specs.Laws.{IsAnswer, IsGood}
use Rattle.law_cli.specs.declared.command.Command.{Command}
use Rattle.law_cli.specs.declared.status.Which.TheVariants as which
use Rattle.law_cli.specs.declared.status.Status.{Status}
use Rattle.law_cli.specs.declared.status.Status.TheVariants as status

-- the words are those of a command, the input was read to its end, and the sink took what is printed with this status for
-- its bytes
pub record IsAnswered (words : List (List ℕ)) (left_before left_now : Option (List ℕ)) (taken_before taken_now : Taken) (s : Status) : Type 0 where
  pub asked : Command
  pub words_are : AreWordsOf words asked
  pub bytes : List ℕ
  pub read : WasRead left_before left_now bytes (most_bytes asked)
  pub text : List ℕ
  pub answer : IsAnswer asked bytes s text
  pub took : Grows taken_before taken_now text

-- the words are those of no command, and the sink took the usage line
pub record IsUsage (words : List (List ℕ)) (taken_before taken_now : Taken) : Type 0 where
  pub other : AreOtherWords words
  pub took : Grows taken_before taken_now (status_text status.Usage)

-- the words are those of a command, the input gave one byte too many, and the sink took the line that says so
pub record IsTooLong (words : List (List ℕ)) (left_before left_now : Option (List ℕ)) (taken_before taken_now : Taken) : Type 0 where
  pub asked : Command
  pub words_are : AreWordsOf words asked
  pub long : GaveTooMany left_before left_now (most_bytes asked)
  pub took : Grows taken_before taken_now (status_text (status.Limit which.Bytes))

-- the words are those of a command, and the source failed before it gave a byte past the limit
pub record IsSourceFault (words : List (List ℕ)) (left_before left_now : Option (List ℕ)) : Type 0 where
  pub asked : Command
  pub words_are : AreWordsOf words asked
  pub within : GaveAtMost left_before left_now (most_bytes asked)

-- the text that is printed for these words and this input
abbrev pub IsPlanned : List (List ℕ) → Option (List ℕ) → Option (List ℕ) → List ℕ → Type 0
IsPlanned words left_before left_now text =
    (AreOtherWords words × (text ≡ status_text status.Usage))
    ⊎ ((asked : Command) × AreWordsOf words asked
    × ((GaveTooMany left_before left_now (most_bytes asked) × (text ≡ status_text (status.Limit which.Bytes)))
    ⊎ ((bytes : List ℕ) × WasRead left_before left_now bytes (most_bytes asked) × (s : Status) × IsAnswer asked bytes s text)))

-- the sink failed in this call, and took the first bytes of the text that would have been printed
pub record IsCutOff (words : List (List ℕ)) (left_before left_now : Option (List ℕ)) (taken_before taken_now : Taken) (before now : ℕ) : Type 0 where
  pub rose : Rose before now
  pub text : List ℕ
  pub planned : IsPlanned words left_before left_now text
  pub part : GrewByPrefix taken_before taken_now text

-- the input tells a good text for the command of the words, and no call of the source or the sink fails
pub record CanSucceed (words : List (List ℕ)) (left : Option (List ℕ)) (reads_before reads_now writes_before writes_now : ℕ) : Type 0 where
  pub asked : Command
  pub words_are : AreWordsOf words asked
  pub bytes : List ℕ
  pub told : left ≡ Some bytes
  pub short : length bytes ≤ most_bytes asked
  pub good : IsGood asked bytes
  pub reads : Rose reads_before reads_now → ⊥
  pub writes : Rose writes_before writes_now → ⊥

-- of the input of a command at most one byte past its limit was given
abbrev pub AsksAtMost : List (List ℕ) → Option (List ℕ) → Option (List ℕ) → Type 0
AsksAtMost words left_before left_now = (asked : Command) → AreWordsOf words asked → GaveAtMost left_before left_now (most_bytes asked + 1)

-- what a status means, where one is printed or nothing had to be
abbrev pub Means : List (List ℕ) → Option (List ℕ) → Option (List ℕ) → Taken → Taken → Status → Type 0
Means words left_before left_now taken_before taken_now status.Usage = IsUsage words taken_before taken_now
Means words left_before left_now taken_before taken_now (status.Limit which.Bytes) = IsTooLong words left_before left_now taken_before taken_now
Means words left_before left_now taken_before taken_now status.ReadFault = IsSourceFault words left_before left_now
Means words left_before left_now taken_before taken_now status.WriteFault = Unit {0}
Means words left_before left_now taken_before taken_now status.NoMemory = AreWords words
Means words left_before left_now taken_before taken_now other = IsAnswered words left_before left_now taken_before taken_now other
