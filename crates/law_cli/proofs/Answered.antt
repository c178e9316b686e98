-- What was printed whole is the answer to what was read.
use Rattle.std.proofs.Common.{◌≡◌, ◌≢◌, ◌⊎◌, inl, inr, Option, Some, None, MatchOption, Result, Ok, Err, IfOk, ℕ, ◌+◌, List, [], ◌∷◌, get_or, if◌then◌else◌, ◌==◌, refl, sym, ap, ◌∙◌, subst}
use Rattle.law_sig.specs.declared.seq.NoMemory.{NoMemory}
use Rattle.law_io.specs.Takings.{Taken, Grows}
use Rattle.law_cert_text.specs.Readers.{HasHeard, Heard}
use Rattle.law_cli.specs.Commands.{AreOtherWords, AreWordsOf, IsOtherWord, most_bytes, word_of}
use Rattle.law_cli.specs.Answers.{IsAnswerTo}
use Rattle.law_cli.specs.Checks.{IsCheckAnswer}
use Rattle.law_cli.specs.Laws.{IsAnswer, IsAnswerFrom}
use Rattle.law_cli.specs.Printed.{IsPrinted}
use Rattle.law_cli.specs.Promise.{AsksAtMost, IsAnswered, Means}
use Rattle.law_cli.specs.Reading.{GaveAtMost, IsRead, StandsFor, WasRead}
use Rattle.law_cli.specs.declared.command.Command.{Command}
use Rattle.law_cli.specs.declared.command.Command.TheVariants as command
use Rattle.law_cli.specs.declared.pieces.Pieces.{Pieces}
use Rattle.law_cli.specs.declared.pieces.Pieces.TheVariants as pieces
use Rattle.law_cli.specs.declared.plain.Answer.{Answer}
use Rattle.law_cli.specs.declared.status.Which.TheVariants as which
use Rattle.law_cli.specs.declared.status.Status.{Status}
use Rattle.law_cli.specs.declared.status.Status.TheVariants as status
use Rattle.law_cli.proofs.TopFacts.{same_head}

-- words name one command

command_at : ℕ → Command
command_at byte = if byte == 112 then command.Plain else command.Check

command_in : List ℕ → Command
command_in word = command_at (get_or word 0 0)

found_in : (asked : Command) → command_in (word_of asked) ≡ asked
unfolding command_in command_at
found_in command.Plain = refl
found_in command.Check = refl

pub one_command : (words : List (List ℕ)) (asked other : Command) → AreWordsOf words asked → AreWordsOf words other → asked ≡ other
one_command words asked other h k = sym (found_in asked) ∙ ap command_in (same_head (word_of asked) (word_of other) (sym h ∙ k)) ∙ found_in other

pub asks : (words : List (List ℕ)) (before now : Option (List ℕ)) (asked : Command) → AreWordsOf words asked → GaveAtMost before now (most_bytes asked + 1) → AsksAtMost words before now
asks words before now asked words_are gave = λ other is. subst (λ c. GaveAtMost before now (most_bytes c + 1)) (one_command words asked other words_are is) gave

pub asks_nothing : (words : List (List ℕ)) (before now : Option (List ℕ)) → AreOtherWords words → AsksAtMost words before now
asks_nothing words before now other = λ asked is. absurd (other asked is)

pub named_words : (r : Option Command) (words : List (List ℕ)) (word : List ℕ) → words ≡ word ∷ [] → MatchOption r (IsOtherWord word) (λ asked. word ≡ word_of asked)
    → MatchOption r (AreOtherWords words) (AreWordsOf words)
named_words None words word e h = λ asked is. h asked (same_head word (word_of asked) (sym e ∙ is))
named_words (Some asked) words word e h = e ∙ ap (λ w. w ∷ []) h

-- what was kept stands for one text
pub of_signature : (r : Result Answer NoMemory) (slice kept : List ℕ) → slice ≡ kept → IfOk r (λ (a : Answer). IsAnswerTo slice a.status a.text)
    → IfOk r (λ (a : Answer). (asked : Command) (bytes : List ℕ) → StandsFor asked (pieces.Signature kept) bytes → IsAnswer asked bytes a.status a.text)
of_signature (Err e) slice kept same h = tt
of_signature (Ok a) slice kept same h = by
  where
    by : (asked : Command) (bytes : List ℕ) → StandsFor asked (pieces.Signature kept) bytes → IsAnswer asked bytes a.status a.text
    by command.Plain bytes stands = subst (λ b. IsAnswerTo b a.status a.text) (same ∙ stands) h
    by command.Check bytes stands = absurd stands

pub of_reader : (r : Result Answer NoMemory) (heard : Heard) → IfOk r (λ (a : Answer). (bytes : List ℕ) → HasHeard heard bytes → IsCheckAnswer bytes a.status a.text)
    → IfOk r (λ (a : Answer). (asked : Command) (bytes : List ℕ) → StandsFor asked (pieces.Certificate heard) bytes → IsAnswer asked bytes a.status a.text)
of_reader (Err e) heard h = tt
of_reader (Ok a) heard h = by
  where
    by : (asked : Command) (bytes : List ℕ) → StandsFor asked (pieces.Certificate heard) bytes → IsAnswer asked bytes a.status a.text
    by command.Plain bytes stands = absurd stands
    by command.Check bytes stands = h bytes stands

pub from_read : (asked : Command) (before now : Option (List ℕ)) (kept : Pieces) (a : Answer) → IsRead asked before now kept
    → ((other : Command) (bytes : List ℕ) → StandsFor other kept bytes → IsAnswer other bytes a.status a.text) → IsAnswerFrom asked before now a.status a.text
from_read asked before now kept a read h = record { bytes = read.bytes; read = read.read; answer = h asked read.bytes read.stands }

-- no bytes are a reason for these
no_usage : (asked : Command) (bytes text : List ℕ) → IsAnswer asked bytes status.Usage text → ⊥
no_usage command.Plain bytes text h = h.0
no_usage command.Check bytes text h = h.0

no_limit : (asked : Command) (bytes text : List ℕ) → IsAnswer asked bytes (status.Limit which.Bytes) text → ⊥
no_limit command.Plain bytes text h = h.0
no_limit command.Check bytes text h = h.0

no_read_fault : (asked : Command) (bytes text : List ℕ) → IsAnswer asked bytes status.ReadFault text → ⊥
no_read_fault command.Plain bytes text h = h.0
no_read_fault command.Check bytes text h = h.0

no_write_fault : (asked : Command) (bytes text : List ℕ) → IsAnswer asked bytes status.WriteFault text → ⊥
no_write_fault command.Plain bytes text h = h.0
no_write_fault command.Check bytes text h = h.0

no_memory : (asked : Command) (bytes text : List ℕ) → IsAnswer asked bytes status.NoMemory text → ⊥
no_memory command.Plain bytes text h = h.0
no_memory command.Check bytes text h = h.0

pub is_printed : (asked : Command) (bytes text : List ℕ) (s : Status) → IsAnswer asked bytes s text → IsPrinted s
is_printed asked bytes text status.Done h = tt
is_printed asked bytes text (status.Rejected rule entry) h = tt
is_printed asked bytes text status.Usage h = tt
is_printed asked bytes text (status.Form line kind) h = tt
is_printed asked bytes text (status.Limit which) h = tt
is_printed asked bytes text (status.Over entry test term) h = tt
is_printed asked bytes text (status.BackgroundFails law test) h = tt
is_printed asked bytes text status.ReadFault h = absurd (no_read_fault asked bytes text h)
is_printed asked bytes text status.WriteFault h = absurd (no_write_fault asked bytes text h)
is_printed asked bytes text status.NoMemory h = absurd (no_memory asked bytes text h)

-- what was printed whole is the answer to what was read
pub answered : (words : List (List ℕ)) (before now : Option (List ℕ)) (taken_before taken_now : Taken) (asked : Command) (planned s : Status) (bytes text : List ℕ)
    → AreWordsOf words asked → WasRead before now bytes (most_bytes asked) → IsAnswer asked bytes planned text
    → (s ≡ planned) ⊎ (s ≡ status.WriteFault) → (s ≢ status.WriteFault → Grows taken_before taken_now text) → Means words before now taken_before taken_now s
answered words before now taken_before taken_now asked planned s bytes text words_are read is (inr e) took = subst (Means words before now taken_before taken_now) (sym e) tt
answered words before now taken_before taken_now asked planned s bytes text words_are read is (inl e) took = by s (subst (λ p. IsAnswer asked bytes p text) (sym e) is) took
  where
    whole : (u : Status) → IsAnswer asked bytes u text → (u ≢ status.WriteFault → Grows taken_before taken_now text) → u ≢ status.WriteFault → IsAnswered words before now taken_before taken_now u
    whole u is took other = record { asked = asked; words_are = words_are; bytes = bytes; read = read; text = text; answer = is; took = took other }

    by : (u : Status) → IsAnswer asked bytes u text → (u ≢ status.WriteFault → Grows taken_before taken_now text) → Means words before now taken_before taken_now u
    by status.Done is took = whole status.Done is took (λ d. cc)
    by (status.Rejected rule entry) is took = whole (status.Rejected rule entry) is took (λ d. cc)
    by status.Usage is took = absurd (no_usage asked bytes text is)
    by (status.Form line kind) is took = whole (status.Form line kind) is took (λ d. cc)
    by (status.Limit which.Bytes) is took = absurd (no_limit asked bytes text is)
    by (status.Limit which.Assignments) is took = whole (status.Limit which.Assignments) is took (λ d. cc)
    by (status.Limit which.Terms) is took = whole (status.Limit which.Terms) is took (λ d. cc)
    by (status.Limit which.Value) is took = whole (status.Limit which.Value) is took (λ d. cc)
    by (status.Over entry test term) is took = whole (status.Over entry test term) is took (λ d. cc)
    by (status.BackgroundFails law test) is took = whole (status.BackgroundFails law test) is took (λ d. cc)
    by status.ReadFault is took = absurd (no_read_fault asked bytes text is)
    by status.WriteFault is took = tt
    by status.NoMemory is took = absurd (no_memory asked bytes text is)
