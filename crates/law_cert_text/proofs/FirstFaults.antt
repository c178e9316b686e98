-- The first line of a text without a reading in a certificate: there is one at most.
use Rattle.std.proofs.Common.{◌≡◌, ℕ, List, [], ◌∷◌, ◌++◌, ◌⊎◌, inl, inr, refl, ap, sym, subst, ◌∙◌}
use Rattle.std.proofs.lemmas.List.{append_assoc, append-nil}
use Rattle.std.specs.List.{AllByRecursion}
use Rattle.law_lines.specs.Spelling.{text_of}
use Rattle.law_lines.specs.Texts.{IsUnbroken, has_feed, next_number}
use Rattle.law_lines.proofs.Whole.{feed_in, same_line}
use Rattle.law_cert_text.specs.Readings.{FaultAt, FaultyLine, FirstFault, HasReading, Unfinished}

abbrev pub AreUnbroken : List (List ℕ) → Type 0
AreUnbroken lines = AllByRecursion IsUnbroken lines

-- what is wrong behind the lines that have a reading
abbrev pub IsWrong : List (List ℕ) → List ℕ → Type 0
IsWrong lines left = FaultyLine lines left ⊎ Unfinished lines left

wrong_at : (text : List ℕ) (number : ℕ) → FirstFault text number → FaultAt text number IsWrong
wrong_at text number (inl f) = record { lines = f.lines; left = f.left; parts = f.parts; whole = f.whole; reads = f.reads; next = f.next; why = inl f.why }
wrong_at text number (inr f) = record { lines = f.lines; left = f.left; parts = f.parts; whole = f.whole; reads = f.reads; next = f.next; why = inr f.why }

pub unbroken_behind : (xs ys : List (List ℕ)) → AreUnbroken (xs ++ ys) → AreUnbroken ys
unbroken_behind [] ys h = h
unbroken_behind (x ∷ xs) ys h = unbroken_behind xs ys h.1

pub line_first : (line : List ℕ) (lines : List (List ℕ)) (rest : List ℕ) → text_of (line ∷ lines) ++ rest ≡ line ++ 10 ∷ (text_of lines ++ rest)
line_first line lines rest = ap (λ l. l ++ rest) (append_assoc line (10 ∷ []) (text_of lines)) ∙ append_assoc line (10 ∷ text_of lines) rest

one_more : (lines : List (List ℕ)) (line : List ℕ) (more : List (List ℕ)) → lines ++ line ∷ more ≡ (lines ++ line ∷ []) ++ more
one_more lines line more = sym (append_assoc lines (line ∷ []) more)

-- a reading of more lines is one of fewer
shorter : (lines : List (List ℕ)) (line : List ℕ) (more : List (List ℕ)) → HasReading (lines ++ line ∷ more) → HasReading (lines ++ line ∷ [])
shorter lines line more h = record {
  cert = h.cert;
  spelled = h.spelled;
  more = more ++ h.more;
  begins = h.begins ∙ ap (λ l. l ++ h.more) (one_more lines line more) ∙ append_assoc (lines ++ line ∷ []) more h.more;
}

-- nothing is wrong before lines that have a reading
pub no_earlier : (lines : List (List ℕ)) (left line : List ℕ) (more : List (List ℕ)) (rest : List ℕ) → IsUnbroken line → left ≡ line ++ 10 ∷ rest
    → HasReading (lines ++ line ∷ more) → IsWrong lines left → ⊥
no_earlier lines left line more rest h e r (inl f) =
    let q = same_line line f.line rest f.behind h f.first.whole (sym e ∙ f.first.parts) in f.stuck (subst (λ l. HasReading (lines ++ l ∷ [])) q.0 (shorter lines line more r))
no_earlier lines left line more rest h e r (inr u) = let t = feed_in line rest in let g = ap has_feed e in let o = u.open_line in absurd (cc)

-- lines that begin other lines, and what is left behind both
pub record Ahead (xs ys : List (List ℕ)) (left right : List ℕ) : Type 0 where
  pub more : List (List ℕ)
  pub is : ys ≡ xs ++ more
  pub text : left ≡ text_of more ++ right

longer : (x y : List ℕ) (xs ys : List (List ℕ)) (left right : List ℕ) → x ≡ y → Ahead xs ys left right → Ahead (x ∷ xs) (y ∷ ys) left right
longer x y xs ys left right e a = record { more = a.more; is = ap (λ l. l ∷ ys) (sym e) ∙ ap (λ l. x ∷ l) a.is; text = a.text }

pub aligned : (xs ys : List (List ℕ)) (left right : List ℕ) → AreUnbroken xs → AreUnbroken ys → text_of xs ++ left ≡ text_of ys ++ right → Ahead xs ys left right ⊎ Ahead ys xs right left
aligned [] ys left right h g e = inl (record { more = ys; is = refl; text = e })
aligned (x ∷ xs) [] left right h g e = inr (record { more = x ∷ xs; is = refl; text = sym e })
aligned (x ∷ xs) (y ∷ ys) left right h g e =
    let q = same_line x y (text_of xs ++ left) (text_of ys ++ right) h.0 g.0 (sym (line_first x xs left) ∙ e ∙ line_first y ys right) in
    either q.0 (aligned xs ys left right h.1 g.1 q.1)
  where
    either : x ≡ y → Ahead xs ys left right ⊎ Ahead ys xs right left → Ahead (x ∷ xs) (y ∷ ys) left right ⊎ Ahead (y ∷ ys) (x ∷ xs) right left
    either same (inl a) = inl (longer x y xs ys left right same a)
    either same (inr a) = inr (longer y x ys xs right left (sym same) a)

-- where one stands as far as the other, or before it
one_ahead : (text : List ℕ) (number other : ℕ) (f : FaultAt text number IsWrong) (g : FaultAt text other IsWrong) (more : List (List ℕ)) → g.lines ≡ f.lines ++ more
    → f.left ≡ text_of more ++ g.left → number ≡ other
one_ahead text number other f g [] is e = f.next ∙ ap (λ l. next_number l) (sym (is ∙ append-nil f.lines)) ∙ sym g.next
one_ahead text number other f g (line ∷ more) is e =
    absurd (no_earlier f.lines f.left line more (text_of more ++ g.left) (unbroken_behind f.lines (line ∷ more) (subst AreUnbroken is g.whole)).0 (e ∙ line_first line more g.left)
    (subst HasReading is g.reads) f.why)

pub one_first_fault : (text : List ℕ) (number other : ℕ) → FirstFault text number → FirstFault text other → number ≡ other
one_first_fault text number other h k = by (wrong_at text number h) (wrong_at text other k)
  where
    by : FaultAt text number IsWrong → FaultAt text other IsWrong → number ≡ other
    by f g = either (aligned f.lines g.lines f.left g.left f.whole g.whole (sym f.parts ∙ g.parts))
      where
        either : Ahead f.lines g.lines f.left g.left ⊎ Ahead g.lines f.lines g.left f.left → number ≡ other
        either (inl a) = one_ahead text number other f g a.more a.is a.text
        either (inr a) = sym (one_ahead text other number g f a.more a.is a.text)
