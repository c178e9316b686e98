-- The first dot of a word, and the atoms that aren't names.
use Rattle.std.proofs.Common.{◌≡◌, ℕ, ◌<◌, ◌^◌, ◌==◌, Bool, true, false, ◌&&◌, ◌||◌, List, [], ◌∷◌, ◌++◌, Option, Some, None, refl, ap, sym, subst, ◌∙◌, arith, nat_lt, decimal}
use Rattle.std.proofs.lemmas.Bool.Decides.{nat_tests}
use Rattle.law_lines.specs.declared.raw.RawHead.TheVariants.{Var}
use Rattle.std.specs.List.{list_all}
use Rattle.law_lines.specs.Words.{is_name_byte, is_letter, is_digit, is_word_of_letters}
use Rattle.law_lines.specs.declared.want.Bounds.{Bounds}
use Rattle.law_lines.specs.declared.want.Place.{Place}
use Rattle.law_lines.specs.declared.want.Bounds.TheVariants.{Kept}
use Rattle.law_lines.specs.declared.want.Place.TheVariants as p
use Rattle.law_lines.specs.Terms.{is_name_in}
use Rattle.law_lines.specs.Walk.{is_variable, is_special, is_atom}
use Rattle.law_lines.specs.Numbers.{cut, cut_by, is_index}
use Rattle.law_lines.specs.Rows.{AtomRead}

-- parts behind more bytes
abbrev pub with_front : List ℕ → Option (List ℕ × List ℕ) → Option (List ℕ × List ℕ)
with_front front None = None
with_front front (Some parts) = Some (front ++ parts.0, parts.1)

abbrev parts_of : Option (List ℕ × List ℕ) → List ℕ × List ℕ
parts_of None = ([], [])
parts_of (Some parts) = parts

abbrev some_pair : List ℕ → List ℕ → Option (List ℕ × List ℕ)
some_pair x y = Some (x, y)

pair_is : (x y a b : List ℕ) → some_pair x y ≡ some_pair a b → (x ≡ a) × (y ≡ b)
pair_is x y a b e = let f = ap parts_of e in (ap (λ q. q.0) f, ap (λ q. q.1) f)

cut_joins : (w a b : List ℕ) → cut w ≡ Some (a, b) → w ≡ a ++ 46 ∷ b
cut_joins [] a b e = absurd cc
cut_joins (c ∷ w) a b e = by (c == 46) refl (cut w) (cut_joins w) e
  where
    by : (t : Bool) → (c == 46) ≡ t → (o : Option (List ℕ × List ℕ)) → ((x y : List ℕ) → o ≡ Some (x, y) → w ≡ x ++ 46 ∷ y) → cut_by t c w o ≡ Some (a, b) → (c ∷ w) ≡ a ++ 46 ∷ b
    by true h o i e = let f = pair_is [] w a b e in let d : c ≡ 46 = grind (arith, nat_tests) in cc
    by false h None i e = absurd cc
    by false h (Some parts) i e = let f = pair_is (c ∷ parts.0) parts.1 a b e in let g = i parts.0 parts.1 refl in ap (λ l. c ∷ l) g ∙ ap (λ l. l ++ 46 ∷ parts.1) f.0 ∙ ap (λ l. a ++ 46 ∷ l) f.1

pub variable_read : (bounds : Bounds) (bytes sort behind text : List ℕ) (n : ℕ) → Some (sort, behind) ≡ cut bytes → is_variable bounds (cut bytes) ≡ true → text ≡ sort
    → n < 2 ^ 32 → behind ≡ decimal n → AtomRead bounds p.Equation bytes (Var text n)
variable_read bounds bytes sort behind text n e h is small number = record {
  text = ap (λ l. l ++ 46 ∷ decimal n) is ∙ ap (λ l. sort ++ 46 ∷ l) (sym number) ∙ sym (cut_joins bytes sort behind (sym e));
  fits =
      let v : (is_name_in bounds sort && is_index behind) ≡ true = subst (λ o. is_variable bounds o ≡ true) (sym e) h in
      let s : nat_lt n (2 ^ 32) ≡ true = grind (arith, nat_tests) in
      ap (λ l. is_name_in bounds l && nat_lt n (2 ^ 32)) is ∙ ap (λ b. b && nat_lt n (2 ^ 32)) (front (is_name_in bounds sort) (is_index behind) v) ∙ s;
}
  where
    front : (a b : Bool) → (a && b) ≡ true → a ≡ true
    front true b h = refl
    front false b h = absurd cc

not_dot : (b : ℕ) → is_name_byte b ≡ true → (b == 46) ≡ false
not_dot b h = grind (arith, nat_tests)

and_parts : (a b : Bool) → (a && b) ≡ true → (a ≡ true) × (b ≡ true)
and_parts true true h = (refl, refl)
and_parts true false h = absurd cc
and_parts false b h = absurd cc

-- a name has no dot, and no sign in front
pub no_cut : (bytes : List ℕ) → list_all is_name_byte bytes ≡ true → cut bytes ≡ None
no_cut [] h = refl
no_cut (b ∷ bytes) h =
    let p = and_parts (is_name_byte b) (list_all is_name_byte bytes) h in
    ap (λ t. cut_by t b bytes (cut bytes)) (not_dot b p.0) ∙ ap (λ o. cut_by false b bytes o) (no_cut bytes p.1)

letter_byte : (b : ℕ) → is_letter b ≡ true → is_name_byte b ≡ true
letter_byte b h = ap (λ t. t || is_digit b || b == 95) h

no_sign : (b : ℕ) (t : Bool) → is_letter b ≡ true → ((b == 35 || b == 64) && t) ≡ false
no_sign b t h = grind (arith, nat_tests)

pub name_not_special : (bounds : Bounds) (place : Place) (bytes : List ℕ) → is_word_of_letters bytes ≡ true → is_special bounds place bytes ≡ false
name_not_special bounds p.Equation [] h = absurd cc
name_not_special bounds p.Equation (b ∷ bytes) h =
    let q = and_parts (is_letter b) (list_all is_name_byte bytes) h in
    ap (λ o. is_variable bounds o) (no_cut (b ∷ bytes) (ap (λ t. t && list_all is_name_byte bytes) (letter_byte b q.0) ∙ q.1))
name_not_special bounds p.Body [] h = absurd cc
name_not_special bounds p.Body (b ∷ bytes) h = no_sign b (is_index bytes) (and_parts (is_letter b) (list_all is_name_byte bytes) h).0
name_not_special bounds p.Value bytes h = refl

or_first : (a b : Bool) → (a || b) ≡ true → b ≡ false → a ≡ true
or_first true b h e = refl
or_first false b h e = absurd cc

pub name_taken : (place : Place) (bytes : List ℕ) → is_atom Kept place bytes ≡ true → is_word_of_letters bytes ≡ true → is_name_in Kept bytes ≡ true
name_taken place bytes h letters = or_first (is_name_in Kept bytes) (is_special Kept place bytes) h (name_not_special Kept place bytes letters)
