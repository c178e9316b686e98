-- What the program is asked to do, by its words.
use Rattle.std.specs.Prelude.{◌≡◌, ℕ, ◌-◌, ◌^◌, List, [], ◌∷◌, codes}
use Rattle.law_cli.specs.declared.command.Command.{Command}
use Rattle.law_cli.specs.declared.command.Command.TheVariants as command

-- the word of a command
abbrev pub word_of : Command → List ℕ
word_of command.Plain = codes "plain"
word_of command.Check = codes "check"

-- the word is that of no command
abbrev pub IsOtherWord : List ℕ → Type 0
IsOtherWord word = (asked : Command) → word ≡ word_of asked → ⊥

-- the words are the one word of this command
abbrev pub AreWordsOf : List (List ℕ) → Command → Type 0
AreWordsOf words asked = words ≡ word_of asked ∷ []

-- the words are those of no command
abbrev pub AreOtherWords : List (List ℕ) → Type 0
AreOtherWords words = (asked : Command) → AreWordsOf words asked → ⊥

-- the words are those of a command
abbrev pub AreWords : List (List ℕ) → Type 0
AreWords words = (asked : Command) × AreWordsOf words asked

-- the most bytes of its input: a signature text's, and a certificate's
abbrev pub most_bytes : Command → ℕ
most_bytes command.Plain = 1048576
most_bytes command.Check = 2 ^ 63 - 1
