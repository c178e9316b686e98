-- Parts of a line: where they are cut, and that each is told by its bytes.
use Rattle.std.proofs.Common.{◌≡◌, ℕ, ◌<◌, ◌^◌, Bool, true, false, ◌&&◌, ◌==◌, not, List, [], ◌∷◌, ◌++◌, refl, ap, sym, ◌∙◌, arith, decimal}
use Rattle.std.proofs.lemmas.Bool.Decides.{nat_tests}
use Rattle.std.specs.List.{list_all, AllByRecursion}
use Rattle.law_lines.specs.Pieces.{is_plain}
use Rattle.law_lines.specs.Words.{is_name}
use Rattle.law_lines.specs.declared.want.Bounds.TheVariants.{Kept}
use Rattle.law_lines.specs.Lines.{IsName, IsNumber}
use Rattle.law_lines.proofs.Again.{name_solid, number_solid}
use Rattle.law_lines.proofs.OneTerm.{solid_plain}
use Rattle.law_lines.proofs.RowSteps.{both}
use Rattle.law_cert_text.specs.declared.cert.Mark.{Mark}
use Rattle.law_cert_text.specs.declared.cert.Mark.TheVariants.{Saturated, Spent, Aside, Plain}
use Rattle.law_sig.specs.declared.chain.Dir.{Dir}
use Rattle.law_sig.specs.declared.chain.Dir.TheVariants.{LeftToRight, RightToLeft}
use Rattle.law_cert_text.specs.Spelling.{dir_text, dotted, mark_text, pos_text}
use Rattle.law_cert_text.specs.Certificates.{IsEarned, IsIndex}
use Rattle.law_cert_text.specs.Words.{Follows, IsNextWord, NoFirst, is_free, is_unspaced}

-- the first of some bytes isn't the mark
not_mark : (mark b : ℕ) (t : Bool) → (b == mark) ≡ t → not t ≡ true → b ≡ mark → ⊥
not_mark mark b true e h f = absurd cc
not_mark mark b false e h f = grind (arith, nat_tests)

pub cut_once : (mark : ℕ) (u v b c : List ℕ) → is_free mark u ≡ true → is_free mark v ≡ true → Follows mark b → Follows mark c → u ++ b ≡ v ++ c → (u ≡ v) × (b ≡ c)
cut_once mark [] [] b c hu hv hb hc e = (refl, e)
cut_once mark [] (y ∷ v) [] c hu hv hb hc e = absurd cc
cut_once mark [] (y ∷ v) (x ∷ b) c hu hv hb hc e =
    let q = both (not (y == mark)) (is_free mark v) hv in let f : x ≡ y = cc in absurd (not_mark mark y (y == mark) refl q.0 (sym f ∙ hb))
cut_once mark (x ∷ u) [] b [] hu hv hb hc e = absurd cc
cut_once mark (x ∷ u) [] b (y ∷ c) hu hv hb hc e =
    let q = both (not (x == mark)) (is_free mark u) hu in let f : x ≡ y = cc in absurd (not_mark mark x (x == mark) refl q.0 (f ∙ hc))
cut_once mark (x ∷ u) (y ∷ v) b c hu hv hb hc e =
    let p = both (not (x == mark)) (is_free mark u) hu in let q = both (not (y == mark)) (is_free mark v) hv in
    let f : x ≡ y = cc in let k : u ++ b ≡ v ++ c = cc in
    let r = cut_once mark u v b c p.1 q.1 hb hc k in
    (ap (λ l. l ∷ u) f ∙ ap (λ l. y ∷ l) r.0, r.1)

behind_space : (xs ys : List ℕ) → 32 ∷ xs ≡ 32 ∷ ys → xs ≡ ys
behind_space xs ys e = cc

pub no_first : (A : Type 0) (P : A → Type 0) (text : A → List ℕ) (bytes first behind : List ℕ) → IsNextWord bytes first behind
    → ((x : A) → P x → is_unspaced (text x) ≡ true) → ((x : A) → P x → text x ≡ first → ⊥) → NoFirst A P text bytes
no_first A P text bytes first behind n solid none x b p hb e =
    none x p (cut_once 32 (text x) first b behind (solid x p) n.solid hb n.rest (behind_space (text x ++ b) (first ++ behind) (e ∙ sym n.text))).0

-- parts without spaces
pub free_append : (mark : ℕ) (xs ys : List ℕ) → is_free mark xs ≡ true → is_free mark ys ≡ true → is_free mark (xs ++ ys) ≡ true
free_append mark [] ys h g = g
free_append mark (x ∷ xs) ys h g =
    let q = both (not (x == mark)) (is_free mark xs) h in ap (λ t. t && is_free mark (xs ++ ys)) q.0 ∙ free_append mark xs ys q.1 g

plain_byte : (b : ℕ) → is_plain b ≡ true → not (b == 32) ≡ true
plain_byte b h = grind (arith, nat_tests)

plain_unspaced : (bytes : List ℕ) → list_all is_plain bytes ≡ true → is_unspaced bytes ≡ true
plain_unspaced [] h = refl
plain_unspaced (b ∷ bytes) h =
    let q = both (is_plain b) (list_all is_plain bytes) h in ap (λ t. t && is_unspaced bytes) (plain_byte b q.0) ∙ plain_unspaced bytes q.1

pub number_unspaced : (n : ℕ) → IsNumber n → is_unspaced (decimal n) ≡ true
number_unspaced n h = plain_unspaced (decimal n) (solid_plain (decimal n) (number_solid n h))

pub name_unspaced : (name : List ℕ) → IsName Kept name → is_unspaced name ≡ true
name_unspaced name h = plain_unspaced name (solid_plain name (name_solid name h))

pub index_unspaced : (n : ℕ) → IsIndex n → is_unspaced (decimal n) ≡ true
index_unspaced n h = number_unspaced n (omega arith)

pub mark_unspaced : (mark : Mark) → IsEarned mark → is_unspaced (mark_text mark) ≡ true
mark_unspaced Saturated h = refl
mark_unspaced Spent h = refl
mark_unspaced Aside h = refl
mark_unspaced Plain h = refl

pub dir_unspaced : (dir : Dir) → Unit {0} → is_unspaced (dir_text dir) ≡ true
dir_unspaced LeftToRight h = refl
dir_unspaced RightToLeft h = refl

dotted_unspaced : (numbers : List ℕ) → AllByRecursion IsIndex numbers → is_unspaced (dotted numbers) ≡ true
dotted_unspaced [] h = refl
dotted_unspaced (n ∷ numbers) h = free_append 32 (decimal n) (dotted numbers) (index_unspaced n h.0) (dotted_unspaced numbers h.1)

pub pos_unspaced : (numbers : List ℕ) → AllByRecursion IsIndex numbers → is_unspaced (pos_text numbers) ≡ true
pos_unspaced [] h = refl
pos_unspaced (n ∷ numbers) h = free_append 32 (decimal n) (dotted numbers) (index_unspaced n h.0) (dotted_unspaced numbers h.1)

-- parts that are none of a kind
pub no_number : (bytes first behind : List ℕ) → IsNextWord bytes first behind → ((n : ℕ) → n < 2 ^ 63 → first ≡ decimal n → ⊥) → NoFirst ℕ IsNumber decimal bytes
no_number bytes first behind w none = no_first ℕ IsNumber decimal bytes first behind w number_unspaced (λ n h e. none n h (sym e))

pub no_name : (bytes first behind : List ℕ) → IsNextWord bytes first behind → ((name : List ℕ) → IsName Kept name → name ≡ first → ⊥) → NoFirst (List ℕ) (IsName Kept) (λ name. name) bytes
no_name bytes first behind w none = no_first (List ℕ) (IsName Kept) (λ name. name) bytes first behind w name_unspaced none

pub no_mark : (bytes first behind : List ℕ) → IsNextWord bytes first behind → ((mark : Mark) → IsEarned mark → mark_text mark ≡ first → ⊥) → NoFirst Mark IsEarned mark_text bytes
no_mark bytes first behind w none = no_first Mark IsEarned mark_text bytes first behind w mark_unspaced none

pub no_dir : (bytes first behind : List ℕ) → IsNextWord bytes first behind → ((dir : Dir) → Unit {0} → dir_text dir ≡ first → ⊥) → NoFirst Dir (λ dir. Unit {0}) dir_text bytes
no_dir bytes first behind w none = no_first Dir (λ dir. Unit {0}) dir_text bytes first behind w dir_unspaced none

pub no_pos : (bytes first behind : List ℕ) → IsNextWord bytes first behind → ((pos : List ℕ) → AllByRecursion IsIndex pos → pos_text pos ≡ first → ⊥) → NoFirst (List ℕ) (AllByRecursion IsIndex) pos_text bytes
no_pos bytes first behind w none = no_first (List ℕ) (AllByRecursion IsIndex) pos_text bytes first behind w pos_unspaced none

-- a word that isn't a name is no name
pub not_name : (word : List ℕ) (t : Bool) → t ≡ is_name word → t ≡ false → (name : List ℕ) → IsName Kept name → name ≡ word → ⊥
not_name word t e h name is same = let f = ap is_name same in cc
