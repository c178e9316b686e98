-- What the checker has seen of a certificate.
use Rattle.std.specs.Prelude.{ℕ, List, Option}
use Rattle.law_sig.specs.declared.parts.SigParts.{SigParts}
use Rattle.law_cert_text.specs.declared.cert.Entry.{Entry as Written}
use Rattle.law_valid.specs.declared.certificate.Entry.{Entry}
use Rattle.law_valid.specs.declared.rule.Answer.{Answer}
use Rattle.law_valid.specs.Order.{Block}
use Rattle.law_checking.specs.Steps as step
use Rattle.law_agenda.specs.Agendas.{IsAt}
use Rattle.law_check.specs.declared.entries.Seen.{Seen}

-- what is seen, at the progress of the agenda
abbrev pub sight : Seen → step.Sight
sight seen = record { known = seen.known; spreads = seen.spreads; lives = seen.lives; At = IsAt seen.agenda }

abbrev pub HasSeen : SigParts → List Entry → Option Block → Seen → Type 0
HasSeen parts before block seen = step.HasSeen parts before block (sight seen)

abbrev pub HasPlace : SigParts → Seen → Type 0
HasPlace parts seen = step.HasPlace parts (sight seen)

abbrev pub IsPassed : SigParts → Seen → Entry → Type 0
IsPassed parts seen x = step.IsPassed parts (sight seen) x

abbrev pub IsAnswerTo : SigParts → Seen → ℕ → Entry → Answer → Type 0
IsAnswerTo parts seen number x a = step.IsAnswerTo parts (sight seen) number x a

abbrev pub IsAnswerAtEnd : SigParts → Seen → ℕ → Answer → Type 0
IsAnswerAtEnd parts seen number a = step.IsAnswerAtEnd parts (sight seen) number a

abbrev pub SeesMore : SigParts → Seen → Entry → Seen → Type 0
SeesMore parts old x new = step.SeesMore parts (sight old) x (sight new)

abbrev pub HasWalked : SigParts → List Written → ℕ → Seen → Type 0
HasWalked parts raws at seen = step.HasWalked parts raws at (sight seen)
