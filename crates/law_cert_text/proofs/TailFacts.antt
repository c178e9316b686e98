-- Lines that are none: what stands behind a key, part by part.
use Rattle.std.proofs.Common.{◌≡◌, ℕ, ◌<◌, ◌≤◌, ◌^◌, Bool, true, false, ◌==◌, List, [], ◌∷◌, ◌++◌, Option, Some, None, Result, Ok, Err, IfOk, refl, ap, sym, ◌∙◌, arith, map, decimal, length, codes}
use Rattle.std.proofs.lemmas.Fmt.{decimal_injective}
use Rattle.std.proofs.lemmas.List.{append-nil}
use Rattle.std.proofs.lemmas.Slice.Eq.{bytes_eq-Decides}
use Rattle.std.specs.Str.{bytes_eq}
use Rattle.std.specs.List.{AllByRecursion}
use Rattle.law_lines.specs.declared.raw.RawTerm.{RawTerm}
use Rattle.law_lines.specs.Lines.{IsNumber}
use Rattle.law_lines.specs.Segments.{IsValuesLine}
use Rattle.law_lines.specs.Spelling.{spaced}
use Rattle.law_lines.proofs.OneTerm.{after}
use Rattle.law_sig.specs.declared.seq.NoMemory.{NoMemory}
use Rattle.law_cert_text.specs.declared.cert.Mark.{Mark}
use Rattle.law_sig.specs.declared.chain.Dir.{Dir}
use Rattle.law_cert_text.specs.declared.cert.RawBind.{RawBind}
use Rattle.law_cert_text.specs.declared.cert.Entry.TheVariants as e
use Rattle.law_cert_text.specs.declared.cert.TreeLine.TheVariants as n
use Rattle.law_cert_text.specs.declared.line.CertLine.{CertLine}
use Rattle.law_cert_text.specs.declared.line.CertLine.TheVariants as c
use Rattle.law_cert_text.specs.declared.line.Key.{Key}
use Rattle.law_cert_text.specs.declared.line.Key.TheVariants as k
use Rattle.law_cert_text.specs.Spelling.{bind_text, dir_text, equation_words, mark_text, pos_text}
use Rattle.law_cert_text.specs.Certificates.{IsBind, IsEarned, IsIndex}
use Rattle.law_cert_text.specs.Words.{AreSides, IsBehind, IsCut, IsFirst, IsMove, NoFirst, is_unspaced, move_text, row_text, sides_text}
use Rattle.law_cert_text.specs.CertLines.{IsCertLine, LineRead, TailRead, all_keys, chosen_key, key_in, key_of, key_text, line_key, line_text, tail_text}
use Rattle.law_cert_text.proofs.PartFacts.{cut_once, dir_unspaced, mark_unspaced, number_unspaced, pos_unspaced}
use Rattle.law_cert_text.proofs.RowFacts.{behind_row}

one_behind : (xs ys : List ℕ) → 32 ∷ xs ≡ 32 ∷ ys → xs ≡ ys
one_behind xs ys e = cc

-- Behind a part that was read, what is left is told.
pub rest_is : (A : Type 0) (P : A → Type 0) (text : A → List ℕ) → ((x : A) → P x → is_unspaced (text x) ≡ true) → (bytes behind : List ℕ) (x : A) → IsFirst A P text bytes x behind
    → (y : A) (b : List ℕ) → P y → IsBehind b → 32 ∷ (text y ++ b) ≡ bytes → b ≡ behind
rest_is A P text free bytes behind x f y b h hb e =
    (cut_once 32 (text y) (text x) b behind (free y h) (free x f.is) hb f.rest (one_behind (text y ++ b) (text x ++ behind) (e ∙ sym f.spelled))).1

-- the last part of a line
pub no_last : (A : Type 0) (P : A → Type 0) (text : A → List ℕ) (bytes : List ℕ) → NoFirst A P text bytes → (x : A) → P x → 32 ∷ text x ≡ bytes → ⊥
no_last A P text bytes none x h e = none x [] h tt (ap (λ l. 32 ∷ l) (append-nil (text x)) ∙ e)

pub not_last : (A : Type 0) (P : A → Type 0) (text : A → List ℕ) → ((x : A) → P x → is_unspaced (text x) ≡ true) → (bytes behind : List ℕ) (x : A) (t : Bool) → IsFirst A P text bytes x behind
    → t ≡ (length behind == 0) → t ≡ false → (y : A) → P y → 32 ∷ text y ≡ bytes → ⊥
not_last A P text free bytes behind x t f e g y h same =
    let q = rest_is A P text free bytes behind x f y [] h tt (ap (λ l. 32 ∷ l) (append-nil (text y)) ∙ same) in let r = ap (λ l. length l == 0) q in cc

abbrev NoTail : Key → List ℕ → Type 0
NoTail key bytes = (line : CertLine) → IsCertLine line → line_key line ≡ key → tail_text line ≡ bytes → ⊥

pub no_law_mark : (bytes behind : List ℕ) (x : ℕ) → IsFirst ℕ IsNumber decimal bytes x behind → NoFirst Mark IsEarned mark_text behind → NoTail k.Law bytes
no_law_mark bytes behind x f none (c.Entry (e.Law number mark left right)) h key same =
    none mark (spaced (equation_words left right)) h.0.1 (behind_row (equation_words left right))
    (rest_is ℕ IsNumber decimal number_unspaced bytes behind x f number (spaced (mark_text mark ∷ equation_words left right)) h.0.0 refl same)
no_law_mark bytes behind x f none (c.Node (n.Leaf number)) h key same = absurd cc
no_law_mark bytes behind x f none line h key same = absurd cc

pub no_law_sides : (bytes behind rest : List ℕ) (x : ℕ) (m : Mark) → IsFirst ℕ IsNumber decimal bytes x behind → IsFirst Mark IsEarned mark_text behind m rest
    → ((sides : RawTerm × RawTerm) → AreSides sides → sides_text sides ≡ rest → ⊥) → NoTail k.Law bytes
no_law_sides bytes behind rest x m f g none (c.Entry (e.Law number mark left right)) h key same =
    let q = rest_is ℕ IsNumber decimal number_unspaced bytes behind x f number (spaced (mark_text mark ∷ equation_words left right)) h.0.0 refl same in
    none (left, right) (h.0.2, h.0.3) (rest_is Mark IsEarned mark_text mark_unspaced behind rest m g mark (spaced (equation_words left right)) h.0.1 (behind_row (equation_words left right)) q)
no_law_sides bytes behind rest x m f g none (c.Node (n.Leaf number)) h key same = absurd cc
no_law_sides bytes behind rest x m f g none line h key same = absurd cc

pub no_lemma_sides : (bytes behind : List ℕ) (x : ℕ) → IsFirst ℕ IsNumber decimal bytes x behind → ((sides : RawTerm × RawTerm) → AreSides sides → sides_text sides ≡ behind → ⊥) → NoTail k.Lemma bytes
no_lemma_sides bytes behind x f none (c.Entry (e.Lemma number left right steps)) h key same =
    none (left, right) (h.0.1, h.0.2) (rest_is ℕ IsNumber decimal number_unspaced bytes behind x f number (spaced (equation_words left right)) h.0.0 (behind_row (equation_words left right)) same)
no_lemma_sides bytes behind x f none (c.Node (n.Leaf number)) h key same = absurd cc
no_lemma_sides bytes behind x f none line h key same = absurd cc

pub no_killed : (bytes : List ℕ) → ((sides : RawTerm × RawTerm) → AreSides sides → sides_text sides ≡ bytes → ⊥) → NoTail k.Killed bytes
no_killed bytes none (c.Entry (e.Killed general target steps)) h key same = none (general, target) (h.0.0, h.0.1) same
no_killed bytes none (c.Node (n.Leaf number)) h key same = absurd cc
no_killed bytes none line h key same = absurd cc

pub no_moved : (bytes : List ℕ) → ((sides : RawTerm × RawTerm) → AreSides sides → sides_text sides ≡ bytes → ⊥) → NoTail k.Moved bytes
no_moved bytes none (c.Entry (e.Moved term target steps)) h key same = none (term, target) (h.0.0, h.0.1) same
no_moved bytes none (c.Node (n.Leaf number)) h key same = absurd cc
no_moved bytes none line h key same = absurd cc

pub no_split_count : (bytes behind : List ℕ) (x : ℕ) → IsFirst ℕ IsNumber decimal bytes x behind → ((m : ℕ) → m < 2 ^ 63 → 32 ∷ decimal m ≡ behind → ⊥) → NoTail k.Split bytes
no_split_count bytes behind x f none (c.Node (n.Split test count)) h key same =
    none count h.1 (ap (λ l. 32 ∷ l) (sym (append-nil (decimal count))) ∙ rest_is ℕ IsNumber decimal number_unspaced bytes behind x f test (spaced (decimal count ∷ [])) h.0 refl same)
no_split_count bytes behind x f none (c.Entry (e.Spread term)) h key same = absurd cc
no_split_count bytes behind x f none line h key same = absurd cc

pub too_few : (bytes behind : List ℕ) (x m : ℕ) → IsFirst ℕ IsNumber decimal bytes x behind → m < 2 ^ 63 → 32 ∷ decimal m ≡ behind → m < 2 → NoTail k.Split bytes
too_few bytes behind x m f low is few (c.Node (n.Split test count)) h key same =
    let q = rest_is ℕ IsNumber decimal number_unspaced bytes behind x f test (spaced (decimal count ∷ [])) h.0 refl same in
    let d : decimal count ≡ decimal m = sym (append-nil (decimal count)) ∙ one_behind (decimal count ++ []) (decimal m) (q ∙ sym is) in
    let i = decimal_injective count m (small count h.1) (small m low) d in let two = h.2 in omega arith
  where
    small : (n : ℕ) → n < 2 ^ 63 → n < 2 ^ 64
    small n h = omega arith
too_few bytes behind x m f low is few (c.Entry (e.Spread term)) h key same = absurd cc
too_few bytes behind x m f low is few line h key same = absurd cc

row_length : (A : Type 0) (text : A → List ℕ) (xs ys : List A) → 0 < length xs → length ys ≤ 0 → row_text A text xs ≡ row_text A text ys → ⊥
row_length A text [] ys h g e = omega arith
row_length A text (x ∷ xs) [] h g e = cc
row_length A text (x ∷ xs) (y ∷ ys) h g e = omega arith

pub no_class : (bytes found : List ℕ) → row_text ℕ decimal found ≡ bytes → length found ≤ 0 → NoTail k.Class bytes
no_class bytes found is few (c.Node (n.Class numbers)) h key same = row_length ℕ decimal numbers found h.1 few (same ∙ sym is)
no_class bytes found is few (c.Entry (e.Spread term)) h key same = absurd cc
no_class bytes found is few line h key same = absurd cc

pub no_move_dir : (bytes behind : List ℕ) (x : ℕ) → IsFirst ℕ IsNumber decimal bytes x behind → NoFirst Dir (λ dir. Unit {0}) dir_text behind
    → (found : ℕ × Dir × List RawBind) → IsMove found → move_text found ≡ bytes → ⊥
no_move_dir bytes behind x f none found h same =
    none found.1 (row_text RawBind bind_text found.2) tt (behind_row (map bind_text found.2))
    (rest_is ℕ IsNumber decimal number_unspaced bytes behind x f found.0 (32 ∷ (dir_text found.1 ++ row_text RawBind bind_text found.2)) h.0 refl same)

pub no_move_binds : (bytes behind rest : List ℕ) (x : ℕ) (d : Dir) → IsFirst ℕ IsNumber decimal bytes x behind → IsFirst Dir (λ dir. Unit {0}) dir_text behind d rest
    → ((xs : List RawBind) → AllByRecursion IsBind xs → row_text RawBind bind_text xs ≡ rest → ⊥) → (found : ℕ × Dir × List RawBind) → IsMove found → move_text found ≡ bytes → ⊥
no_move_binds bytes behind rest x d f g none found h same =
    let q = rest_is ℕ IsNumber decimal number_unspaced bytes behind x f found.0 (32 ∷ (dir_text found.1 ++ row_text RawBind bind_text found.2)) h.0 refl same in
    none found.2 h.1 (rest_is Dir (λ dir. Unit {0}) dir_text dir_unspaced behind rest d g found.1 (row_text RawBind bind_text found.2) tt (behind_row (map bind_text found.2)) q)

pub no_step_move : (bytes behind pos : List ℕ) → IsFirst (List ℕ) (AllByRecursion IsIndex) pos_text bytes pos behind
    → ((found : ℕ × Dir × List RawBind) → IsMove found → move_text found ≡ behind → ⊥) → NoTail k.Step bytes
no_step_move bytes behind pos f none (c.Step step) h key same =
    none (step.eq, step.dir, step.binds) (h.eq, h.binds)
    (rest_is (List ℕ) (AllByRecursion IsIndex) pos_text pos_unspaced bytes behind pos f step.pos (move_text (step.eq, step.dir, step.binds)) h.pos refl same)
no_step_move bytes behind pos f none (c.Entry (e.Spread term)) h key same = absurd cc
no_step_move bytes behind pos f none (c.Node (n.Leaf number)) h key same = absurd cc
no_step_move bytes behind pos f none line h key same = absurd cc

pub no_values : (bytes behind : List ℕ) → bytes ≡ key_text k.Values ++ behind → ((sort : List ℕ) (values : List RawTerm) → IsValuesLine bytes sort values → ⊥) → NoTail k.Values behind
no_values bytes behind is none (c.Values values) h key same =
    none values.sort values.values (record { line = h; text = ap (λ l. codes "values" ++ l) same ∙ sym is })
no_values bytes behind is none (c.Entry (e.Spread term)) h key same = absurd cc
no_values bytes behind is none (c.Node (n.Leaf number)) h key same = absurd cc
no_values bytes behind is none line h key same = absurd cc

values_tail : (bytes behind sort : List ℕ) (values : List RawTerm) → bytes ≡ key_text k.Values ++ behind → IsValuesLine bytes sort values
    → tail_text (c.Values (record { sort = sort; values = values })) ≡ behind
values_tail bytes behind sort values is f = after (codes "values") _ behind (f.text ∙ is)

pub values_found : (bytes behind sort : List ℕ) (values : List RawTerm) → bytes ≡ key_text k.Values ++ behind → IsValuesLine bytes sort values
    → TailRead k.Values behind (Some (c.Values (record { sort = sort; values = values })))
values_found bytes behind sort values is f = (f.line, refl, values_tail bytes behind sort values is f)

-- the key that a word is
same_bytes : (xs ys : List ℕ) → bytes_eq xs ys ≡ true → xs ≡ ys
same_bytes xs ys h = (bytes_eq-Decides xs ys).0 h

key_is_in : (keys : List Key) (bytes : List ℕ) (key : Key) → key_in keys bytes ≡ Some key → bytes ≡ key_text key
key_is_in [] bytes key h = absurd cc
key_is_in (first ∷ keys) bytes key h = by (bytes_eq bytes (key_text first)) refl h (key_is_in keys bytes key)
  where
    some_key : (a b : Key) → Some a ≡ Some b → a ≡ b
    some_key a b e = cc

    by : (t : Bool) → bytes_eq bytes (key_text first) ≡ t → chosen_key t first (key_in keys bytes) ≡ Some key → (key_in keys bytes ≡ Some key → bytes ≡ key_text key) → bytes ≡ key_text key
    by true e h next = same_bytes bytes (key_text first) e ∙ ap key_text (some_key first key h)
    by false e h next = next h

pub key_is : (bytes : List ℕ) (key : Key) → key_of bytes ≡ Some key → bytes ≡ key_text key
key_is bytes key h = key_is_in all_keys bytes key h

pub key_again : (key : Key) → key_of (key_text key) ≡ Some key
key_again k.Pool = refl
key_again k.Values = refl
key_again k.Law = refl
key_again k.Lemma = refl
key_again k.Spread = refl
key_again k.Killed = refl
key_again k.Live = refl
key_again k.Moved = refl
key_again k.Step = refl
key_again k.Tree = refl
key_again k.Split = refl
key_again k.Class = refl
key_again k.Leaf = refl
key_again k.End = refl

pub key_unspaced : (key : Key) → is_unspaced (key_text key) ≡ true
key_unspaced k.Pool = refl
key_unspaced k.Values = refl
key_unspaced k.Law = refl
key_unspaced k.Lemma = refl
key_unspaced k.Spread = refl
key_unspaced k.Killed = refl
key_unspaced k.Live = refl
key_unspaced k.Moved = refl
key_unspaced k.Step = refl
key_unspaced k.Tree = refl
key_unspaced k.Split = refl
key_unspaced k.Class = refl
key_unspaced k.Leaf = refl
key_unspaced k.End = refl

pub line_parts : (line : CertLine) → line_text line ≡ key_text (line_key line) ++ tail_text line
line_parts c.Pool = refl
line_parts (c.Values values) = refl
line_parts (c.Entry (e.Law number mark left right)) = refl
line_parts (c.Entry (e.Lemma number left right steps)) = refl
line_parts (c.Entry (e.Spread term)) = refl
line_parts (c.Entry (e.Killed general target steps)) = refl
line_parts (c.Entry (e.Live term)) = refl
line_parts (c.Entry (e.Moved term target steps)) = refl
line_parts (c.Step step) = refl
line_parts (c.Tree sort) = refl
line_parts (c.Node (n.Split test count)) = refl
line_parts (c.Node (n.Class numbers)) = refl
line_parts (c.Node (n.Leaf number)) = refl
line_parts c.End = refl

pub tail_behind : (line : CertLine) → IsBehind (tail_text line)
tail_behind c.Pool = tt
tail_behind (c.Values values) = refl
tail_behind (c.Entry (e.Law number mark left right)) = refl
tail_behind (c.Entry (e.Lemma number left right steps)) = refl
tail_behind (c.Entry (e.Spread term)) = refl
tail_behind (c.Entry (e.Killed general target steps)) = refl
tail_behind (c.Entry (e.Live term)) = refl
tail_behind (c.Entry (e.Moved term target steps)) = refl
tail_behind (c.Step step) = refl
tail_behind (c.Tree sort) = refl
tail_behind (c.Node (n.Split test count)) = refl
tail_behind (c.Node (n.Class numbers)) = behind_row (map decimal numbers)
tail_behind (c.Node (n.Leaf number)) = refl
tail_behind c.End = tt

pub line_cut : (bytes first behind : List ℕ) → IsCut bytes first behind → (line : CertLine) → line_text line ≡ bytes → (key_text (line_key line) ≡ first) × (tail_text line ≡ behind)
line_cut bytes first behind f line e =
    cut_once 32 (key_text (line_key line)) first (tail_text line) behind (key_unspaced (line_key line)) f.solid (tail_behind line) f.rest (sym (line_parts line) ∙ e ∙ f.text)

pub no_key : (bytes first behind : List ℕ) → IsCut bytes first behind → key_of first ≡ None → (line : CertLine) → IsCertLine line → line_text line ≡ bytes → ⊥
no_key bytes first behind f none line h e = let q = sym (ap key_of (line_cut bytes first behind f line e).0) ∙ key_again (line_key line) in cc

one_key : (first : List ℕ) (key other : Key) → key_of first ≡ Some key → key_text other ≡ first → other ≡ key
one_key first key other f e = some_key other key (sym (key_again other) ∙ ap key_of e ∙ f)
  where
    some_key : (a b : Key) → Some a ≡ Some b → a ≡ b
    some_key a b e = cc

pub whole_line : (bytes first behind : List ℕ) (key : Key) (found : Option CertLine) → IsCut bytes first behind → key_of first ≡ Some key → TailRead key behind found → LineRead bytes found
whole_line bytes first behind key None f is h = λ line spelled e.
    let q = line_cut bytes first behind f line e in h line spelled (one_key first key (line_key line) is q.0) q.1
whole_line bytes first behind key (Some line) f is h =
    (h.0, line_parts line ∙ ap (λ l. l ++ tail_text line) (ap key_text h.1 ∙ sym (key_is first key is)) ∙ ap (λ l. first ++ l) h.2 ∙ sym f.text)

pub whole_ok : (r : Result (Option CertLine) NoMemory) (bytes first behind : List ℕ) (key : Key) → IsCut bytes first behind → key_of first ≡ Some key → IfOk r (TailRead key behind) → IfOk r (LineRead bytes)
whole_ok (Ok found) bytes first behind key f is h = whole_line bytes first behind key found f is h
whole_ok (Err error) bytes first behind key f is h = tt
