-- A text that is refused is the spelling of no certificate.
use Rattle.std.proofs.Common.{◌≡◌, ℕ, true, false, List, [], ◌∷◌, ◌++◌, inl, inr, sym, ap, subst, ◌∙◌, refl}
use Rattle.std.proofs.lemmas.List.{append_assoc, append-nil}
use Rattle.std.specs.List.{AllByRecursion}
use Rattle.law_lines.specs.Spelling.{text_of}
use Rattle.law_lines.specs.Texts.{IsUnbroken, has_feed}
use Rattle.law_lines.proofs.Whole.{feed_in, nothing_else, same_line}
use Rattle.law_cert_text.specs.declared.cert.Cert.{Cert}
use Rattle.law_cert_text.specs.Certificates.{IsCertText}
use Rattle.law_cert_text.specs.Laws.{RefusedIsNone}
use Rattle.law_cert_text.specs.Readings.{FaultAt, FaultyLine, Unfinished}
use Rattle.law_cert_text.specs.Spelling.{cert_spelling}
use Rattle.law_cert_text.proofs.OneCert.{all_of, all_unbroken, lines_are, text_first}

record Rest (ls xs : List (List ℕ)) (left : List ℕ) : Type 0 where
  rest : List (List ℕ)
  parts : ls ≡ xs ++ rest
  text : text_of rest ≡ left

first_of : (x : List ℕ) (xs : List (List ℕ)) (left : List ℕ) → text_of (x ∷ xs) ++ left ≡ x ++ 10 ∷ (text_of xs ++ left)
first_of x xs left = ap (λ t. t ++ left) (text_first x xs) ∙ append_assoc x (10 ∷ text_of xs) left

rest_of : (ls xs : List (List ℕ)) (left : List ℕ) → AllByRecursion IsUnbroken ls → AllByRecursion IsUnbroken xs → text_of ls ≡ text_of xs ++ left → Rest ls xs left
rest_of ls [] left h g same = record { rest = ls; parts = refl; text = same }
rest_of [] (x ∷ xs) left h g same = absurd (nothing_else x (text_of xs ++ left) (same ∙ first_of x xs left))
rest_of (l ∷ ls) (x ∷ xs) left h g same =
    let q = same_line l x (text_of ls) (text_of xs ++ left) h.0 g.0 (sym (text_first l ls) ∙ same ∙ first_of x xs left) in
    let r = rest_of ls xs left h.1 g.1 q.1 in
    record { rest = r.rest; parts = ap (λ z. z ∷ ls) q.0 ∙ ap (λ zs. x ∷ zs) r.parts; text = r.text }

all_back : (xs ys : List (List ℕ)) → AllByRecursion IsUnbroken (xs ++ ys) → AllByRecursion IsUnbroken ys
all_back [] ys h = h
all_back (x ∷ xs) ys h = all_back xs ys h.1

faulty_none : (lines : List (List ℕ)) (left : List ℕ) → FaultyLine lines left → (cert : Cert) → IsCertText cert → (rest : List (List ℕ)) → all_of cert ≡ lines ++ rest → text_of rest ≡ left → ⊥
faulty_none lines left f cert h [] e t = nothing_else f.line f.behind (t ∙ f.first.parts)
faulty_none lines left f cert h (r ∷ rs) e t =
    let whole = all_back lines (r ∷ rs) (subst (AllByRecursion IsUnbroken) e (all_unbroken cert h)) in
    let q = same_line r f.line (text_of rs) f.behind whole.0 f.first.whole (sym (text_first r rs) ∙ t ∙ f.first.parts) in
    f.stuck (record { cert = cert; spelled = h; more = rs; begins = lines_are cert ∙ e ∙ ap (λ z. lines ++ z ∷ rs) q.0 ∙ sym (append_assoc lines (f.line ∷ []) rs) })

unfinished_none : (lines : List (List ℕ)) (left : List ℕ) → Unfinished lines left → (cert : Cert) → IsCertText cert → (rest : List (List ℕ)) → all_of cert ≡ lines ++ rest → text_of rest ≡ left → ⊥
unfinished_none lines left f cert h [] e t = f.absent (sym t) (record { cert = cert; spelled = h; same = lines_are cert ∙ e ∙ append-nil lines })
unfinished_none lines left f cert h (r ∷ rs) e t = let q : true ≡ false = sym (feed_in r (text_of rs)) ∙ ap has_feed (sym (text_first r rs) ∙ t) ∙ f.open_line in absurd cc

rest_in : (text : List ℕ) (number : ℕ) (Why : List (List ℕ) → List ℕ → Type 0) (f : FaultAt text number Why) (cert : Cert) → IsCertText cert → cert_spelling cert ≡ text → Rest (all_of cert) f.lines f.left
rest_in text number Why f cert h same = rest_of (all_of cert) f.lines f.left (all_unbroken cert h) f.whole (ap text_of (sym (lines_are cert)) ∙ same ∙ f.parts)

pub refused_is_none : RefusedIsNone
refused_is_none text number (inl f) cert h same = let r = rest_in text number FaultyLine f cert h same in faulty_none f.lines f.left f.why cert h r.rest r.parts r.text
refused_is_none text number (inr f) cert h same = let r = rest_in text number Unfinished f cert h same in unfinished_none f.lines f.left f.why cert h r.rest r.parts r.text
