-- Words behind spaces.
use Rattle.std.proofs.Common.{◌≡◌, ℕ, List, [], ◌∷◌, ◌++◌, refl, ap, sym, ◌∙◌, append_assoc, Result, Ok, Err, OnOk, codes}
use Rattle.law_lines.specs.Spelling.{spaced}

pub spaced_append : (xs ys : List (List ℕ)) → spaced (xs ++ ys) ≡ spaced xs ++ spaced ys
spaced_append [] ys = refl
spaced_append (x ∷ xs) ys = ap (λ l. (32 ∷ x) ++ l) (spaced_append xs ys) ∙ sym (append_assoc (32 ∷ x) (spaced xs) (spaced ys))

-- a line of two terms with `=` between them
pub equation_put : {E : Type 0} (r : Result (Unit {0}) E) (old key zero one two new : List ℕ) (a b : List (List ℕ)) → zero ≡ old ++ key → one ≡ zero ++ spaced a
    → two ≡ one ++ 32 ∷ codes "=" → OnOk r (new ≡ two ++ spaced b) → OnOk r (new ≡ old ++ (key ++ spaced (a ++ codes "=" ∷ b)))
equation_put (Ok x) old key zero one two new a b d e f g =
    g ∙ ap (λ l. l ++ spaced b) (f ∙ ap (λ l. l ++ 32 ∷ codes "=") (e ∙ ap (λ l. l ++ spaced a) d))
    ∙ simp append_assoc (ap (λ l. old ++ (key ++ l)) (sym (spaced_append a (codes "=" ∷ b))))
equation_put (Err x) old key zero one two new a b d e f g = tt
