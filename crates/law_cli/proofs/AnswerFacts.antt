-- Facts for the answer to a text: what a line of a status says of the bytes.
use Rattle.std.proofs.Common.{◌≡◌, ℕ, List, ◌++◌, Result, Ok, Err, IfOk, OnOk, sym, ap, ◌∙◌, subst, refl}
use Rattle.std.specs.Bool.{⊤}
use Rattle.std.proofs.lemmas.List.{append_assoc}
use Rattle.law_sig.specs.declared.seq.NoMemory.{NoMemory}
use Rattle.law_cert_text.specs.declared.cert.Cert.{Cert}
use Rattle.law_cert_text.specs.Readers.{HasHeard, Heard, IsReadAs, IsWhole}
use Rattle.law_cert_text.proofs.Joined.{whole_text}
use Rattle.law_cli.specs.Printed.{status_text}
use Rattle.law_cli.specs.Answers.{Cause, IsAnswerTo, IsLawListText, IsOneOf}
use Rattle.law_cli.specs.Checks.{CheckCause, IsCheckAnswer, IsYesText}
use Rattle.law_cli.specs.declared.status.Status.{Status}
use Rattle.law_cli.specs.declared.status.Status.TheVariants as status
use Rattle.law_cli.specs.declared.plain.Answer.{Answer}

-- a text in two parts
pub two_parts : (r : Result ⊤ NoMemory) (old a b middle new : List ℕ) → middle ≡ old ++ a → OnOk r (new ≡ middle ++ b) → OnOk r (new ≡ old ++ (a ++ b))
two_parts (Err e) old a b middle new is then = tt
two_parts (Ok x) old a b middle new is then = then ∙ ap (λ l. l ++ b) is ∙ append_assoc old a b

-- a status with a cause is answered by its line
pub by_its_line : (Asked : List ℕ → Type 0) (Caused : Status → Type 0) (s : Status) → (Caused status.Done → ⊥) → Caused s → IsOneOf Asked Caused s (status_text s)
by_its_line Asked Caused status.Done never cause = absurd (never cause)
by_its_line Asked Caused (status.Rejected rule entry) never cause = (cause, refl)
by_its_line Asked Caused status.Usage never cause = (cause, refl)
by_its_line Asked Caused (status.Form line kind) never cause = (cause, refl)
by_its_line Asked Caused (status.Limit which) never cause = (cause, refl)
by_its_line Asked Caused (status.Over entry test term) never cause = (cause, refl)
by_its_line Asked Caused (status.BackgroundFails law test) never cause = (cause, refl)
by_its_line Asked Caused status.ReadFault never cause = (cause, refl)
by_its_line Asked Caused status.WriteFault never cause = (cause, refl)
by_its_line Asked Caused status.NoMemory never cause = (cause, refl)

-- the answer that was made with the line of a status
by_line : (Asked : List ℕ → Type 0) (Caused : Status → Type 0) (s : Status) (a : Answer) → (Caused status.Done → ⊥) → Caused s → (a.status ≡ s) × (a.text ≡ status_text s) → IsOneOf Asked Caused a.status a.text
by_line Asked Caused s a never cause is = subst (λ t. IsOneOf Asked Caused a.status t) (sym is.1) (subst (λ u. IsOneOf Asked Caused u (status_text s)) (sym is.0) (by_its_line Asked Caused s never cause))

pub refused : (bytes : List ℕ) (s : Status) (made : Result Answer NoMemory) → Cause bytes s
    → IfOk made (λ (a : Answer). (a.status ≡ s) × (a.text ≡ status_text s)) → IfOk made (λ (a : Answer). IsAnswerTo bytes a.status a.text)
refused bytes s (Err e) cause is = tt
refused bytes s (Ok a) cause is = by_line (IsLawListText bytes) (Cause bytes) s a (λ h. h) cause is

-- the same of `check`, for every text of the certificate
pub check_refused : (Read : List ℕ → Type 0) (s : Status) (made : Result Answer NoMemory) → ((bytes : List ℕ) → Read bytes → CheckCause bytes s)
    → IfOk made (λ (a : Answer). (a.status ≡ s) × (a.text ≡ status_text s)) → IfOk made (λ (a : Answer). (bytes : List ℕ) → Read bytes → IsCheckAnswer bytes a.status a.text)
check_refused Read s (Err e) cause is = tt
check_refused Read s (Ok a) cause is = λ bytes read. by_line (IsYesText bytes) (CheckCause bytes) s a (λ h. h) (cause bytes read) is

-- the answer to a certificate is that to the text that a reader was given
pub whole_answer : (r : Result Answer NoMemory) (heard : Heard) (cert : Cert) → IsWhole heard cert → IfOk r (λ (a : Answer). (bytes : List ℕ) → IsReadAs bytes cert → IsCheckAnswer bytes a.status a.text)
    → IfOk r (λ (a : Answer). (bytes : List ℕ) → HasHeard heard bytes → IsCheckAnswer bytes a.status a.text)
whole_answer (Err e) heard cert w h = tt
whole_answer (Ok a) heard cert w h = λ bytes has. h bytes (whole_text heard cert bytes w has)
