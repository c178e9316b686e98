-- The argument of a step's binding, and the binding.
use Rattle.std.proofs.Common.{◌≡◌, ℕ, zero, suc, ◌+◌, ◌<◌, ◌≤◌, ◌^◌, Bool, true, false, ◌&&◌, ◌==◌, not, List, [], ◌∷◌, ◌++◌, Option, Some, None, Result, Ok, Err, IfOk, refl, ap, sym, ◌∙◌, arith, map, decimal, length, take, drop, get_or}
use Rattle.std.proofs.lemmas.Bool.Decides.{nat_tests}
use Rattle.std.proofs.lemmas.Grind.{common_steps}
use Rattle.std.proofs.lemmas.List.{append_assoc, append-nil}
use Rattle.std.specs.List.{list_all}
use Rattle.std.proofs.lemmas.Fmt.{decimal_injective}
use Rattle.std.proofs.Math.Seq.{drop-cons}
use Rattle.law_lines.specs.Pieces.{is_plain}
use Rattle.law_lines.specs.Words.{is_name, is_name_byte, is_word_of_letters}
use Rattle.law_lines.specs.declared.raw.RawTerm.{RawTerm}
use Rattle.law_lines.specs.declared.raw.RawTerm.TheFolds.{fold_out-RawTerm}
use Rattle.law_lines.specs.declared.raw.RawTerm.TheViews.{out-RawTerm}
use Rattle.law_lines.specs.declared.want.Bounds.TheVariants.{Kept}
use Rattle.law_lines.specs.declared.want.Place.TheVariants as p
use Rattle.law_lines.specs.FirstArg.{above, word_at, word_by}
use Rattle.law_lines.specs.Lines.{IsName}
use Rattle.law_lines.specs.Spelling.{arg_spelling, arg_step, bracketed, head_spelling, spaced, term_spelling}
use Rattle.law_lines.proofs.Again.{all_named}
use Rattle.law_lines.proofs.RowSteps.{both}
use Rattle.law_lines.proofs.OneTerm.{after, head_plain, one_arg, one_term_law, term_fits, whole_arg}
use Rattle.law_sig.specs.declared.seq.NoMemory.{NoMemory}
use Rattle.law_cert_text.specs.declared.cert.RawBind.{RawBind}
use Rattle.law_cert_text.specs.Spelling.{bind_text, var_text}
use Rattle.law_cert_text.specs.Certificates.{IsBind, IsIndex, IsWritten}
use Rattle.law_cert_text.specs.Words.{Exact, IsArgWord, IsBehind, IsDotted, IsNextWord, NoFirst, One, has_args, is_behind, is_some_arg, is_undotted, is_unspaced, level_by, next_level}
use Rattle.law_cert_text.proofs.PartFacts.{cut_once, free_append, name_unspaced, not_name, number_unspaced}

abbrev IsApplied : RawTerm → Type 0
IsApplied term = IsWritten term × (has_args term ≡ true)

abbrev IsAtom : RawTerm → Type 0
IsAtom term = IsWritten term × (has_args term ≡ false)

pub not_applied : (bytes : List ℕ) (found : RawTerm) (t : Bool) → IsWritten found → term_spelling found ≡ bytes → t ≡ has_args found → t ≡ false
    → (x : RawTerm) → IsApplied x → term_spelling x ≡ bytes → ⊥
not_applied bytes found t w f e h x a g = let s = ap has_args (one_term_law p.Equation x found a.0 w (g ∙ sym f)) in let b = a.1 in cc

pub not_atom : (bytes : List ℕ) (found : RawTerm) (t : Bool) → IsWritten found → term_spelling found ≡ bytes → t ≡ has_args found → t ≡ true
    → (x : RawTerm) → IsAtom x → term_spelling x ≡ bytes → ⊥
not_atom bytes found t w f e h x a g = let s = ap has_args (one_term_law p.Equation x found a.0 w (g ∙ sym f)) in let b = a.1 in cc

-- how an argument stands
abbrev wrapped : Bool → List ℕ → List ℕ
wrapped true text = 40 ∷ (text ++ 41 ∷ [])
wrapped false text = text

wrapped_by : (head : List ℕ) (args : List RawTerm) → bracketed head (map arg_spelling args) ≡ wrapped (is_some_arg args) (head ++ spaced (map arg_spelling args))
wrapped_by head [] = sym (append-nil head)
wrapped_by head (x ∷ args) = ap (λ l. 40 ∷ l) (sym (append_assoc head (spaced (map arg_spelling (x ∷ args))) (41 ∷ [])))

pub arg_text : (term : RawTerm) → arg_spelling term ≡ wrapped (has_args term) (term_spelling term)
arg_text term = fold_out-RawTerm (List ℕ) arg_step term ∙ wrapped_by (head_spelling (out-RawTerm term).head) (out-RawTerm term).args

drop_end : (xs ys : List ℕ) (b : ℕ) → xs ++ b ∷ [] ≡ ys ++ b ∷ [] → xs ≡ ys
drop_end [] [] b e = refl
drop_end [] (y ∷ []) b e = absurd cc
drop_end [] (y ∷ z ∷ ys) b e = absurd cc
drop_end (x ∷ []) [] b e = absurd cc
drop_end (x ∷ z ∷ xs) [] b e = absurd cc
drop_end (x ∷ xs) (y ∷ ys) b e =
    let f : x ≡ y = cc in let k : xs ++ b ∷ [] ≡ ys ++ b ∷ [] = cc in ap (λ l. l ∷ xs) f ∙ ap (λ l. y ∷ l) (drop_end xs ys b k)

not_open : (bytes more : List ℕ) → list_all is_plain bytes ≡ true → bytes ≡ 40 ∷ more → ⊥
not_open bytes more h e = let f = ap (list_all is_plain) e in cc

-- a term with no arguments is its head
atom_text : (term : RawTerm) (t : Bool) → has_args term ≡ t → t ≡ false → term_spelling term ≡ head_spelling (out-RawTerm term).head
atom_text term t e h = by (out-RawTerm term).args (e ∙ h)
  where
    by : (args : List RawTerm) → is_some_arg args ≡ false → head_spelling (out-RawTerm term).head ++ spaced (map arg_spelling args) ≡ head_spelling (out-RawTerm term).head
    by [] e = append-nil (head_spelling (out-RawTerm term).head)
    by (x ∷ args) e = absurd cc

-- A word in brackets is the argument of a term that has arguments itself.
in_brackets : (word inner : List ℕ) → 40 ∷ (inner ++ 41 ∷ []) ≡ word → (x : RawTerm) (t : Bool) → has_args x ≡ t → IsWritten x → arg_spelling x ≡ word → IsApplied x × (term_spelling x ≡ inner)
in_brackets word inner e x true h w g =
    let k : 40 ∷ (term_spelling x ++ 41 ∷ []) ≡ 40 ∷ (inner ++ 41 ∷ []) = ap (λ b. wrapped b (term_spelling x)) (sym h) ∙ sym (arg_text x) ∙ g ∙ sym e in
    ((w, h), drop_end (term_spelling x) inner 41 (behind k))
  where
    behind : {a b : List ℕ} → 40 ∷ a ≡ 40 ∷ b → a ≡ b
    behind k = cc
in_brackets word inner e x false h w g =
    let f = term_fits p.Equation x w.nodes in
    absurd (not_open (head_spelling (out-RawTerm x).head) (inner ++ 41 ∷ []) (head_plain p.Equation (out-RawTerm x).head _ f.head)
    (sym (atom_text x false h refl) ∙ ap (λ b. wrapped b (term_spelling x)) (sym h) ∙ sym (arg_text x) ∙ g ∙ sym e))

pub applied_arg : (word inner : List ℕ) (found : Option RawTerm) → 40 ∷ (inner ++ 41 ∷ []) ≡ word → Exact RawTerm IsApplied term_spelling inner found → Exact RawTerm IsWritten arg_spelling word found
applied_arg word inner None e h = λ x w g. let q = in_brackets word inner e x (has_args x) refl w g in h x q.0 q.1
applied_arg word inner (Some found) e h =
    (h.0.0, arg_text found ∙ ap (λ b. wrapped b (term_spelling found)) h.0.1 ∙ ap (λ l. 40 ∷ (l ++ 41 ∷ [])) h.1 ∙ e)

pub applied_ok : (r : Result (Option RawTerm) NoMemory) (word inner : List ℕ) → 40 ∷ (inner ++ 41 ∷ []) ≡ word → IfOk r (Exact RawTerm IsApplied term_spelling inner) → IfOk r (Exact RawTerm IsWritten arg_spelling word)
applied_ok (Ok found) word inner e h = applied_arg word inner found e h
applied_ok (Err error) word inner e h = tt

atom_arg : (word : List ℕ) (found : Option RawTerm) → ((inner : List ℕ) → 40 ∷ (inner ++ 41 ∷ []) ≡ word → ⊥) → Exact RawTerm IsAtom term_spelling word found → Exact RawTerm IsWritten arg_spelling word found
atom_arg word None n h = λ x w g. by x (has_args x) refl w g
  where
    by : (x : RawTerm) (t : Bool) → has_args x ≡ t → IsWritten x → arg_spelling x ≡ word → ⊥
    by x true e w g = n (term_spelling x) (ap (λ b. wrapped b (term_spelling x)) (sym e) ∙ sym (arg_text x) ∙ g)
    by x false e w g = h x (w, e) (ap (λ b. wrapped b (term_spelling x)) (sym e) ∙ sym (arg_text x) ∙ g)
atom_arg word (Some found) n h = (h.0.0, arg_text found ∙ ap (λ b. wrapped b (term_spelling found)) h.0.1 ∙ h.1)

pub atom_ok : (r : Result (Option RawTerm) NoMemory) (word : List ℕ) → ((inner : List ℕ) → 40 ∷ (inner ++ 41 ∷ []) ≡ word → ⊥) → IfOk r (Exact RawTerm IsAtom term_spelling word)
    → IfOk r (Exact RawTerm IsWritten arg_spelling word)
atom_ok (Ok found) word n h = atom_arg word found n h
atom_ok (Err error) word n h = tt

-- Where the first argument ends.
some_level : (a b : ℕ) → Some a ≡ Some b → a ≡ b
some_level a b e = cc

deeper : (level next : ℕ) → level + 1 ≡ next → suc level ≡ next
deeper level next e = omega arith

word_ends : (level b : ℕ) (bs : List ℕ) → next_level level b ≡ None → word_at level (b ∷ bs) ≡ []
unfolding word_at
word_ends level b bs h = by (b == 40) (b == 41) (b == 32) level _ _ _ h
  where
    by : (x y z : Bool) (level : ℕ) (deep high same : List ℕ) → level_by x y z level ≡ None → word_by x y z level b deep high same ≡ []
    by true y z level deep high same h = absurd cc
    by false true z zero deep high same h = refl
    by false true z (suc level) deep high same h = absurd cc
    by false false true zero deep high same h = refl
    by false false true (suc level) deep high same h = absurd cc
    by false false false level deep high same h = absurd cc

word_goes : (level next b : ℕ) (bs : List ℕ) → next_level level b ≡ Some next → word_at level (b ∷ bs) ≡ b ∷ word_at next bs
unfolding word_at
word_goes level next b bs h = by (b == 40) (b == 41) (b == 32) level h
  where
    by : (x y z : Bool) (level : ℕ) → level_by x y z level ≡ Some next → word_by x y z level b (word_at (suc level) bs) (word_at (above level) bs) (word_at level bs) ≡ b ∷ word_at next bs
    by true y z level h = ap (λ k. b ∷ word_at k bs) (deeper level next (some_level (level + 1) next h))
    by false true z zero h = absurd cc
    by false true z (suc level) h = ap (λ k. b ∷ word_at k bs) (some_level level next h)
    by false false true zero h = absurd cc
    by false false true (suc level) h = ap (λ k. b ∷ word_at k bs) (some_level (suc level) next h)
    by false false false level h = ap (λ k. b ∷ word_at k bs) (some_level level next h)

level_low : (level next b : ℕ) → next_level level b ≡ Some next → next ≤ level + 1
level_low level next b h = by (b == 40) (b == 41) (b == 32) level h
  where
    at_most : (a b c : ℕ) → a ≡ b → a ≤ c → b ≤ c
    at_most a b c e h = omega arith

    by : (x y z : Bool) (level : ℕ) → level_by x y z level ≡ Some next → next ≤ level + 1
    by true y z level h = at_most (level + 1) next (level + 1) (some_level (level + 1) next h) (omega arith)
    by false true z zero h = absurd cc
    by false true z (suc level) h = at_most level next (suc level + 1) (some_level level next h) (omega arith)
    by false false true zero h = absurd cc
    by false false true (suc level) h = at_most (suc level) next (suc level + 1) (some_level (suc level) next h) (omega arith)
    by false false false level h = at_most level next (level + 1) (some_level level next h) (omega arith)

pub arg_ends : (bytes : List ℕ) (at level : ℕ) → at < length bytes → take at bytes ++ word_at level (drop at bytes) ≡ word_at 0 bytes → next_level level (get_or bytes at 0) ≡ None → take at bytes ≡ word_at 0 bytes
arg_ends bytes at level low so h =
    sym (append-nil (take at bytes)) ∙ ap (λ l. take at bytes ++ l) (sym (ap (word_at level) (drop-cons bytes at 0 low) ∙ word_ends level (get_or bytes at 0) (drop (suc at) bytes) h)) ∙ so

take_more : (bytes : List ℕ) (at : ℕ) → at < length bytes → take (at + 1) bytes ≡ take at bytes ++ get_or bytes at 0 ∷ []
take_more bytes at low = grind (arith, common_steps)

pub arg_goes : (bytes : List ℕ) (at level next : ℕ) → at < length bytes → level ≤ at → take at bytes ++ word_at level (drop at bytes) ≡ word_at 0 bytes
    → next_level level (get_or bytes at 0) ≡ Some next → (next ≤ at + 1) × (take (at + 1) bytes ++ word_at next (drop (at + 1) bytes) ≡ word_at 0 bytes)
arg_goes bytes at level next low deep so h =
    let b = get_or bytes at 0 in
    let l = level_low level next b h in (
      omega arith,
      ap (λ l. l ++ word_at next (drop (at + 1) bytes)) (take_more bytes at low) ∙ append_assoc (take at bytes) (b ∷ []) (word_at next (drop (at + 1) bytes))
          ∙ ap (λ k. take at bytes ++ b ∷ word_at next (drop k bytes)) (plus_one at)
          ∙ ap (λ l. take at bytes ++ l) (sym (ap (word_at level) (drop-cons bytes at 0 low) ∙ word_goes level next b (drop (suc at) bytes) h)) ∙ so,
    )
  where
    plus_one : (n : ℕ) → n + 1 ≡ suc n
    plus_one n = omega arith

word_none : (level : ℕ) → word_at level [] ≡ []
unfolding word_at
word_none level = refl

pub arg_all : (bytes : List ℕ) (at level : ℕ) → length bytes ≤ at → take at bytes ++ word_at level (drop at bytes) ≡ word_at 0 bytes → take (length bytes) bytes ≡ word_at 0 bytes
arg_all bytes at level high so =
    let t : take (length bytes) bytes ≡ take at bytes = grind (arith, common_steps) in
    let d : drop at bytes ≡ [] = grind (arith, common_steps) in
    t ∙ sym (append-nil (take at bytes)) ∙ ap (λ l. take at bytes ++ l) (sym (ap (word_at level) d ∙ word_none level)) ∙ so

word_behind : (b : List ℕ) → IsBehind b → word_at 0 b ≡ []
unfolding word_at
word_behind [] h = refl
word_behind (x ∷ b) h = ap (λ y. word_at 0 (y ∷ b)) h

-- An argument and what stands behind it are told by the bytes.
pub arg_once : (first behind : List ℕ) (x : RawTerm) (b : List ℕ) → first ≡ word_at 0 (first ++ behind) → IsWritten x → IsBehind b → arg_spelling x ++ b ≡ first ++ behind
    → (arg_spelling x ≡ first) × (b ≡ behind)
arg_once first behind x b is w hb e =
    let same : arg_spelling x ≡ first = sym (append-nil (arg_spelling x)) ∙ ap (λ l. arg_spelling x ++ l) (sym (word_behind b hb)) ∙ sym (whole_arg x p.Equation w.nodes 0 b) ∙ ap (word_at 0) e ∙ sym is in
    (same, after first b behind (ap (λ l. l ++ b) (sym same) ∙ e))

one_behind : (xs ys : List ℕ) → 32 ∷ xs ≡ 32 ∷ ys → xs ≡ ys
one_behind xs ys e = cc

behind_is : (b : List ℕ) → IsBehind b → is_behind b ≡ true
behind_is [] h = refl
behind_is (x ∷ b) h = ap (λ y. y == 32) h

pub not_behind : (bytes first behind : List ℕ) (t : Bool) → IsArgWord bytes first behind → t ≡ is_behind behind → t ≡ false → NoFirst RawTerm IsWritten arg_spelling bytes
not_behind bytes first behind t w e h x b is hb g =
    let q = arg_once first behind x b w.is is hb (one_behind (arg_spelling x ++ b) (first ++ behind) (g ∙ sym w.text)) in let f = behind_is b hb in let k = ap is_behind q.1 in cc

pub no_arg : (bytes first behind : List ℕ) → IsArgWord bytes first behind → ((x : RawTerm) → IsWritten x → arg_spelling x ≡ first → ⊥) → NoFirst RawTerm IsWritten arg_spelling bytes
no_arg bytes first behind w none x b is hb g =
    none x is (arg_once first behind x b w.is is hb (one_behind (arg_spelling x ++ b) (first ++ behind) (g ∙ sym w.text))).0

-- variables
abbrev NoVariable : List ℕ → Type 0
NoVariable bytes = (sort : List ℕ) (index : ℕ) → IsName Kept sort → IsIndex index → var_text sort index ≡ bytes → ⊥

name_byte_free : (b : ℕ) → is_name_byte b ≡ true → not (b == 46) ≡ true
name_byte_free b h = grind (arith, nat_tests)

named_free : (bytes : List ℕ) → list_all is_name_byte bytes ≡ true → is_undotted bytes ≡ true
named_free [] h = refl
named_free (b ∷ bytes) h =
    let q = both (is_name_byte b) (list_all is_name_byte bytes) h in ap (λ t. t && is_undotted bytes) (name_byte_free b q.0) ∙ named_free bytes q.1

name_undotted : (name : List ℕ) → IsName Kept name → is_undotted name ≡ true
name_undotted name h = named_free name (all_named name (both (is_word_of_letters name) _ h).0)

var_once : (bytes sort digits : List ℕ) → IsDotted bytes sort digits → (s : List ℕ) (i : ℕ) → IsName Kept s → var_text s i ≡ bytes → (s ≡ sort) × (decimal i ≡ digits)
var_once bytes sort digits d s i h e =
    let q = cut_once 46 s sort (46 ∷ decimal i) (46 ∷ digits) (name_undotted s h) d.solid refl refl (e ∙ d.text) in (q.0, cc)

pub not_variable : (bytes sort digits : List ℕ) (t : Bool) → IsDotted bytes sort digits → t ≡ is_name sort → t ≡ false → NoVariable bytes
not_variable bytes sort digits t d e f s i h g v = not_name sort t e f s h (var_once bytes sort digits d s i h v).0

pub no_index : (bytes sort digits : List ℕ) → IsDotted bytes sort digits → ((i : ℕ) → i < 2 ^ 32 → digits ≡ decimal i → ⊥) → NoVariable bytes
no_index bytes sort digits d none s i h g v = none i g (sym (var_once bytes sort digits d s i h v).1)

-- bindings
var_unspaced : (sort : List ℕ) (index : ℕ) → IsName Kept sort → IsIndex index → is_unspaced (var_text sort index) ≡ true
var_unspaced sort index h g = free_append 32 sort (46 ∷ decimal index) (name_unspaced sort h) (number_unspaced index (omega arith))

bind_cut : (bytes first behind : List ℕ) → IsNextWord bytes first behind → (x : RawBind) (b : List ℕ) → IsBind x → 32 ∷ (bind_text x ++ b) ≡ bytes
    → (var_text x.sort x.index ≡ first) × (32 ∷ (arg_spelling x.term ++ b) ≡ behind)
bind_cut bytes first behind w x b is e =
    cut_once 32 (var_text x.sort x.index) first (32 ∷ (arg_spelling x.term ++ b)) behind (var_unspaced x.sort x.index is.sort is.index) w.solid refl w.rest
    (sym (append_assoc (var_text x.sort x.index) (32 ∷ arg_spelling x.term) b) ∙ one_behind (bind_text x ++ b) (first ++ behind) (e ∙ sym w.text))

pub no_bind_variable : (bytes first behind : List ℕ) → IsNextWord bytes first behind → NoVariable first → NoFirst RawBind IsBind bind_text bytes
no_bind_variable bytes first behind w none x b is hb e = none x.sort x.index is.sort is.index (bind_cut bytes first behind w x b is e).0

pub no_bind_term : (bytes first behind : List ℕ) → IsNextWord bytes first behind → NoFirst RawTerm IsWritten arg_spelling behind → NoFirst RawBind IsBind bind_text bytes
no_bind_term bytes first behind w none x b is hb e = none x.term b is.term hb (bind_cut bytes first behind w x b is e).1

one_var : (sort other : List ℕ) (index also : ℕ) → IsName Kept sort → IsIndex index → IsName Kept other → IsIndex also → var_text sort index ≡ var_text other also → (sort ≡ other) × (index ≡ also)
one_var sort other index also h g k m e =
    let q = cut_once 46 sort other (46 ∷ decimal index) (46 ∷ decimal also) (name_undotted sort h) (name_undotted other k) refl refl e in
    let d : decimal index ≡ decimal also = cc in
    (q.0, decimal_injective index also (omega arith) (omega arith) d)

abbrev bind_of : List ℕ → ℕ → RawTerm → RawBind
bind_of s i t = record { sort = s; index = i; term = t }

pub one_bind : One RawBind IsBind bind_text
one_bind x y b c h g hb hc e =
    let w : IsNextWord (32 ∷ (bind_text y ++ c)) (var_text y.sort y.index) (32 ∷ (arg_spelling y.term ++ c)) =
    record { text = ap (λ l. 32 ∷ l) (sym (append_assoc (var_text y.sort y.index) (32 ∷ arg_spelling y.term) c)); solid = var_unspaced y.sort y.index g.sort g.index; rest = refl } in
    let q = bind_cut (32 ∷ (bind_text y ++ c)) (var_text y.sort y.index) (32 ∷ (arg_spelling y.term ++ c)) w x b h (ap (λ l. 32 ∷ l) e) in
    let v = one_var x.sort y.sort x.index y.index h.sort h.index g.sort g.index q.0 in
    let word : arg_spelling y.term ≡ word_at 0 (arg_spelling y.term ++ c) =
    sym (whole_arg y.term p.Equation g.term.nodes 0 c ∙ ap (λ l. arg_spelling y.term ++ l) (word_behind c hc) ∙ append-nil (arg_spelling y.term)) in
    let a = arg_once (arg_spelling y.term) c x.term b word h.term hb (one_behind (arg_spelling x.term ++ b) (arg_spelling y.term ++ c) q.1) in
    let t = one_arg x.term p.Equation y.term h.term.nodes g.term.nodes a.0 in
    (same x y v.0 v.1 t, a.1)
  where
    same : (x y : RawBind) → x.sort ≡ y.sort → x.index ≡ y.index → x.term ≡ y.term → x ≡ y
    same x y e f g = ap (λ s. bind_of s x.index x.term) e ∙ ap (λ i. bind_of y.sort i x.term) f ∙ ap (λ t. bind_of y.sort y.index t) g
