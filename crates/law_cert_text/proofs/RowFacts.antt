-- Rows of parts, to the end of a line.
use Rattle.std.proofs.Common.{◌≡◌, ℕ, ◌<◌, ◌^◌, Bool, true, false, ◌&&◌, ◌==◌, not, List, [], ◌∷◌, ◌++◌, refl, ap, sym, subst, ◌∙◌, arith, map, decimal, length}
use Rattle.std.proofs.lemmas.Bool.Decides.{nat_tests}
use Rattle.std.proofs.lemmas.Fmt.{decimal_injective}
use Rattle.std.proofs.lemmas.List.{append_assoc, append-nil}
use Rattle.std.specs.List.{list_all, AllByRecursion}
use Rattle.law_lines.specs.Lines.{IsNumber}
use Rattle.law_lines.specs.Spelling.{spaced}
use Rattle.law_lines.specs.Words.{is_digit}
use Rattle.law_lines.proofs.Numbers.{decimal_numeral}
use Rattle.law_lines.proofs.Again.{numeral_digits}
use Rattle.law_lines.proofs.RowSteps.{both}
use Rattle.law_lines.proofs.Spaced.{spaced_append}
use Rattle.law_cert_text.specs.Spelling.{dotted}
use Rattle.law_cert_text.specs.Certificates.{IsIndex}
use Rattle.law_cert_text.specs.Words.{Follows, IsBehind, IsDotted, IsFirst, NoFirst, One, PathSoFar, SoFar, is_undotted, row_text}
use Rattle.law_cert_text.proofs.PartFacts.{cut_once, number_unspaced}

pub behind_row : (words : List (List ℕ)) → IsBehind (spaced words)
behind_row [] = tt
behind_row (word ∷ words) = refl

one_behind : (xs ys : List ℕ) → 32 ∷ xs ≡ 32 ∷ ys → xs ≡ ys
one_behind xs ys e = cc

pub all_more : (A : Type 0) (P : A → Type 0) (xs : List A) (x : A) → AllByRecursion P xs → P x → AllByRecursion P (xs ++ x ∷ [])
all_more A P [] x h g = (g, tt)
all_more A P (y ∷ xs) x h g = (h.0, all_more A P xs x h.1 g)

map_append : (A : Type 0) (text : A → List ℕ) (xs ys : List A) → map text (xs ++ ys) ≡ map text xs ++ map text ys
map_append A text [] ys = refl
map_append A text (x ∷ xs) ys = ap (λ l. text x ∷ l) (map_append A text xs ys)

row_more : (A : Type 0) (text : A → List ℕ) (xs : List A) (x : A) → row_text A text (xs ++ x ∷ []) ≡ row_text A text xs ++ 32 ∷ text x
row_more A text xs x =
    ap spaced (map_append A text xs (x ∷ [])) ∙ spaced_append (map text xs) (text x ∷ []) ∙ ap (λ l. row_text A text xs ++ 32 ∷ l) (append-nil (text x))

pub row_start : (A : Type 0) (P : A → Type 0) (text : A → List ℕ) (bytes : List ℕ) → SoFar A P text bytes bytes []
row_start A P text bytes = record { spelled = refl; each = tt; leads = λ xs h e. (xs, h, e) }

leads_next : (A : Type 0) (P : A → Type 0) (text : A → List ℕ) → One A P text → (rest behind : List ℕ) (x : A) → IsFirst A P text rest x behind
    → (more : List A) → AllByRecursion P more → row_text A text more ≡ rest → (ms : List A) × AllByRecursion P ms × (row_text A text ms ≡ behind)
leads_next A P text one rest behind x f [] h e = let g = f.spelled in absurd (cc)
leads_next A P text one rest behind x f (m ∷ ms) h e =
    (ms, h.1, (one m x (row_text A text ms) behind h.0 f.is (behind_row (map text ms)) f.rest (one_behind (text m ++ row_text A text ms) (text x ++ behind) (e ∙ sym f.spelled))).1)

pub row_next : (A : Type 0) (P : A → Type 0) (text : A → List ℕ) → One A P text → (bytes rest behind : List ℕ) (found pushed : List A) (x : A) → SoFar A P text bytes rest found
    → IsFirst A P text rest x behind → pushed ≡ found ++ x ∷ [] → SoFar A P text bytes behind pushed
row_next A P text one bytes rest behind found pushed x so f e = subst (SoFar A P text bytes behind) (sym e) (record {
  spelled = ap (λ l. l ++ behind) (row_more A text found x) ∙ append_assoc (row_text A text found) (32 ∷ text x) behind ∙ ap (λ l. row_text A text found ++ l) f.spelled ∙ so.spelled;
  each = all_more A P found x so.each f.is;
  leads = λ xs h g. let m = so.leads xs h g in leads_next A P text one rest behind x f m.0 m.1 m.2;
})

pub row_end : (A : Type 0) (P : A → Type 0) (text : A → List ℕ) (bytes rest : List ℕ) (found : List A) → SoFar A P text bytes rest found → rest ≡ []
    → AllByRecursion P found × (row_text A text found ≡ bytes)
row_end A P text bytes rest found so e = (so.each, sym (append-nil (row_text A text found)) ∙ ap (λ l. row_text A text found ++ l) (sym e) ∙ so.spelled)

pub row_none : (A : Type 0) (P : A → Type 0) (text : A → List ℕ) (bytes rest : List ℕ) (found : List A) → SoFar A P text bytes rest found → (rest ≡ [] → ⊥) → NoFirst A P text rest
    → (xs : List A) → AllByRecursion P xs → row_text A text xs ≡ bytes → ⊥
row_none A P text bytes rest found so some none xs h e = let m = so.leads xs h e in by m.0 m.1 m.2
  where
    by : (ms : List A) → AllByRecursion P ms → row_text A text ms ≡ rest → ⊥
    by [] h e = some (sym e)
    by (m ∷ ms) h e = none m (row_text A text ms) h.0 (behind_row (map text ms)) e

pub some_bytes : (rest : List ℕ) (t : Bool) → t ≡ (length rest == 0) → t ≡ false → rest ≡ [] → ⊥
some_bytes rest t e h f = let g = ap (λ l. length l == 0) f in cc

-- numbers
pub one_number : One ℕ IsNumber decimal
one_number n m b c h g hb hc e =
    let q = cut_once 32 (decimal n) (decimal m) b c (number_unspaced n h) (number_unspaced m g) hb hc e in (decimal_injective n m (omega arith) (omega arith) q.0, q.1)

-- argument numbers with dots between them
digit_free : (b : ℕ) → is_digit b ≡ true → not (b == 46) ≡ true
digit_free b h = grind (arith, nat_tests)

digits_free : (bytes : List ℕ) → list_all is_digit bytes ≡ true → is_undotted bytes ≡ true
digits_free [] h = refl
digits_free (b ∷ bytes) h =
    let q = both (is_digit b) (list_all is_digit bytes) h in ap (λ t. t && is_undotted bytes) (digit_free b q.0) ∙ digits_free bytes q.1

pub index_undotted : (n : ℕ) → IsIndex n → is_undotted (decimal n) ≡ true
index_undotted n h = digits_free (decimal n) (numeral_digits (decimal n) (decimal_numeral n (omega arith)).0)

pub follows_dots : (numbers : List ℕ) → Follows 46 (dotted numbers)
follows_dots [] = tt
follows_dots (n ∷ numbers) = refl

behind_dot : (xs ys : List ℕ) → 46 ∷ xs ≡ 46 ∷ ys → xs ≡ ys
behind_dot xs ys e = cc

dotted_more : (xs : List ℕ) (n : ℕ) → dotted (xs ++ n ∷ []) ≡ dotted xs ++ 46 ∷ decimal n
dotted_more [] n = ap (λ l. 46 ∷ l) (append-nil (decimal n))
dotted_more (x ∷ xs) n = ap (λ l. 46 ∷ (decimal x ++ l)) (dotted_more xs n) ∙ ap (λ l. 46 ∷ l) (sym (append_assoc (decimal x) (dotted xs) (46 ∷ decimal n)))

pub path_start : (bytes : List ℕ) → PathSoFar bytes bytes []
path_start bytes = record { spelled = refl; each = tt; leads = λ xs h e. (xs, h, e) }

path_cut : (rest digits behind : List ℕ) → IsDotted rest digits behind → (m : ℕ) (ms : List ℕ) → IsIndex m → dotted (m ∷ ms) ≡ 46 ∷ rest → (decimal m ≡ digits) × (dotted ms ≡ 46 ∷ behind)
path_cut rest digits behind d m ms h e =
    cut_once 46 (decimal m) digits (dotted ms) (46 ∷ behind) (index_undotted m h) d.solid (follows_dots ms) refl (behind_dot (decimal m ++ dotted ms) rest e ∙ d.text)

pub path_next : (bytes rest digits behind found pushed : List ℕ) (n : ℕ) → PathSoFar bytes rest found → IsDotted rest digits behind → IsIndex n → digits ≡ decimal n → pushed ≡ found ++ n ∷ []
    → PathSoFar bytes behind pushed
path_next bytes rest digits behind found pushed n so d is same e = subst (PathSoFar bytes behind) (sym e) (record {
  spelled =
      ap (λ l. l ++ 46 ∷ behind) (dotted_more found n) ∙ append_assoc (dotted found) (46 ∷ decimal n) (46 ∷ behind)
      ∙ ap (λ l. dotted found ++ 46 ∷ (l ++ 46 ∷ behind)) (sym same) ∙ ap (λ l. dotted found ++ 46 ∷ l) (sym d.text) ∙ so.spelled;
  each = all_more ℕ IsIndex found n so.each is;
  leads = λ xs h g. let m = so.leads xs h g in by m.0 m.1 m.2;
})
  where
    by : (ms : List ℕ) → AllByRecursion IsIndex ms → dotted ms ≡ 46 ∷ rest → (more : List ℕ) × AllByRecursion IsIndex more × (dotted more ≡ 46 ∷ behind)
    by [] h e = absurd cc
    by (m ∷ ms) h e = (ms, h.1, (path_cut rest digits behind d m ms h.0 e).1)

pub path_stops : (bytes rest digits behind found : List ℕ) → PathSoFar bytes rest found → IsDotted rest digits behind → ((n : ℕ) → n < 2 ^ 32 → digits ≡ decimal n → ⊥)
    → (xs : List ℕ) → AllByRecursion IsIndex xs → dotted xs ≡ 46 ∷ bytes → ⊥
path_stops bytes rest digits behind found so d none xs h e = let m = so.leads xs h e in by m.0 m.1 m.2
  where
    by : (ms : List ℕ) → AllByRecursion IsIndex ms → dotted ms ≡ 46 ∷ rest → ⊥
    by [] h e = cc
    by (m ∷ ms) h e = none m h.0 (sym (path_cut rest digits behind d m ms h.0 e).0)

last_cut : (rest : List ℕ) → is_undotted rest ≡ true → (m : ℕ) (ms : List ℕ) → IsIndex m → dotted (m ∷ ms) ≡ 46 ∷ rest → decimal m ≡ rest
last_cut rest free m ms h e =
    (cut_once 46 (decimal m) rest (dotted ms) [] (index_undotted m h) free (follows_dots ms) tt (behind_dot (decimal m ++ dotted ms) rest e ∙ sym (append-nil rest))).0

pub path_ends : (bytes rest found pushed : List ℕ) (n : ℕ) → PathSoFar bytes rest found → IsIndex n → rest ≡ decimal n → pushed ≡ found ++ n ∷ []
    → AllByRecursion IsIndex pushed × (dotted pushed ≡ 46 ∷ bytes)
path_ends bytes rest found pushed n so is same e = subst (λ l. AllByRecursion IsIndex l × (dotted l ≡ 46 ∷ bytes)) (sym e)
    (all_more ℕ IsIndex found n so.each is, dotted_more found n ∙ ap (λ l. dotted found ++ 46 ∷ l) (sym same) ∙ so.spelled)

pub path_last : (bytes rest found : List ℕ) → PathSoFar bytes rest found → is_undotted rest ≡ true → ((n : ℕ) → n < 2 ^ 32 → rest ≡ decimal n → ⊥)
    → (xs : List ℕ) → AllByRecursion IsIndex xs → dotted xs ≡ 46 ∷ bytes → ⊥
path_last bytes rest found so free none xs h e = let m = so.leads xs h e in by m.0 m.1 m.2
  where
    by : (ms : List ℕ) → AllByRecursion IsIndex ms → dotted ms ≡ 46 ∷ rest → ⊥
    by [] h e = cc
    by (m ∷ ms) h e = none m h.0 (sym (last_cut rest free m ms h.0 e))
