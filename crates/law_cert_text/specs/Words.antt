-- Parts of a line, one behind the other, each behind a space.
use Rattle.std.specs.Prelude.{◌≡◌, ℕ, zero, suc, ◌+◌, Bool, true, false, ◌==◌, not, List, [], ◌∷◌, ◌++◌, map, Option, Some, None, decimal}
use Rattle.std.specs.List.{AllByRecursion, list_all}
use Rattle.law_lines.specs.declared.raw.RawTerm.{RawTerm}
use Rattle.law_lines.specs.declared.raw.RawTerm.TheViews.{out-RawTerm}
use Rattle.law_lines.specs.FirstArg.{word_at}
use Rattle.law_lines.specs.Spelling.{spaced, term_words}
use Rattle.law_lines.specs.Lines.{IsNumber}
use Rattle.law_cert_text.specs.declared.cert.RawBind.{RawBind}
use Rattle.law_sig.specs.declared.chain.Dir.{Dir}
use Rattle.law_cert_text.specs.Spelling.{bind_text, dir_text, dotted, equation_words}
use Rattle.law_cert_text.specs.Certificates.{IsBind, IsIndex, IsWritten}

-- a byte stands nowhere in these
abbrev pub is_free : ℕ → List ℕ → Bool
is_free mark bytes = list_all (λ b. not (b == mark)) bytes

abbrev pub is_unspaced : List ℕ → Bool
is_unspaced bytes = is_free 32 bytes

-- nothing, or this byte first
abbrev pub Follows : ℕ → List ℕ → Type 0
Follows mark [] = Unit {0}
Follows mark (b ∷ bs) = b ≡ mark

-- what stands behind a part: nothing, or a space
abbrev pub IsBehind : List ℕ → Type 0
IsBehind bytes = Follows 32 bytes

-- the bytes before the first space, and those from there on
pub record IsCut (bytes first behind : List ℕ) : Type 0 where
  pub text : bytes ≡ first ++ behind
  pub solid : is_unspaced first ≡ true
  pub rest : IsBehind behind

abbrev pub is_behind : List ℕ → Bool
is_behind [] = true
is_behind (b ∷ bs) = b == 32

abbrev pub is_undotted : List ℕ → Bool
is_undotted bytes = is_free 46 bytes

-- the bytes before and behind the first dot
pub record IsDotted (bytes front behind : List ℕ) : Type 0 where
  pub text : bytes ≡ front ++ 46 ∷ behind
  pub solid : is_undotted front ≡ true

abbrev pub NoSpace : List ℕ → Type 0
NoSpace bytes = (more : List ℕ) → 32 ∷ more ≡ bytes → ⊥

pub record IsNextWord (bytes first behind : List ℕ) : Type 0 where
  pub text : 32 ∷ (first ++ behind) ≡ bytes
  pub solid : is_unspaced first ≡ true
  pub rest : IsBehind behind

-- A part of a kind stands first, behind a space; or none does.
pub record IsFirst (A : Type 0) (P : A → Type 0) (text : A → List ℕ) (bytes : List ℕ) (x : A) (behind : List ℕ) : Type 0 where
  pub is : P x
  pub spelled : 32 ∷ (text x ++ behind) ≡ bytes
  pub rest : IsBehind behind

abbrev pub NoFirst : (A : Type 0) (P : A → Type 0) (text : A → List ℕ) → List ℕ → Type 0
NoFirst A P text bytes = (x : A) (behind : List ℕ) → P x → IsBehind behind → 32 ∷ (text x ++ behind) ≡ bytes → ⊥

-- A word or a whole row of bytes is of a kind, or is none.
abbrev pub Exact : (A : Type 0) (P : A → Type 0) (text : A → List ℕ) → List ℕ → Option A → Type 0
Exact A P text bytes None = (x : A) → P x → text x ≡ bytes → ⊥
Exact A P text bytes (Some x) = P x × (text x ≡ bytes)

-- Parts of a kind to the end of the line.
abbrev pub row_text : (A : Type 0) (text : A → List ℕ) → List A → List ℕ
row_text A text xs = spaced (map text xs)

-- However parts spell the whole, some of them spell the rest.
abbrev pub Leads : (A : Type 0) (P : A → Type 0) (text : A → List ℕ) → List ℕ → List ℕ → Type 0
Leads A P text bytes rest = (xs : List A) → AllByRecursion P xs → row_text A text xs ≡ bytes → (more : List A) × AllByRecursion P more × (row_text A text more ≡ rest)

-- the first argument, behind its space
pub record IsArgWord (bytes first behind : List ℕ) : Type 0 where
  pub text : 32 ∷ (first ++ behind) ≡ bytes
  pub is : first ≡ word_at 0 (first ++ behind)

abbrev pub level_above : ℕ → Option ℕ
level_above zero = None
level_above (suc level) = Some level

abbrev pub inner_level : ℕ → Option ℕ
inner_level zero = None
inner_level (suc level) = Some (suc level)

abbrev pub level_by : Bool → Bool → Bool → ℕ → Option ℕ
level_by true closes space level = Some (level + 1)
level_by false true space level = level_above level
level_by false false true level = inner_level level
level_by false false false level = Some level

-- how deep in brackets one is behind a byte; none where it ends an argument
abbrev pub next_level : ℕ → ℕ → Option ℕ
next_level level b = level_by (b == 40) (b == 41) (b == 32) level

abbrev pub is_some_arg : List RawTerm → Bool
is_some_arg [] = false
is_some_arg (term ∷ terms) = true

-- The parts of a row that were read so far, and what is left.
pub record SoFar (A : Type 0) (P : A → Type 0) (text : A → List ℕ) (bytes rest : List ℕ) (found : List A) : Type 0 where
  pub spelled : row_text A text found ++ rest ≡ bytes
  pub each : AllByRecursion P found
  pub leads : Leads A P text bytes rest

-- the same of argument numbers with dots between them
pub record PathSoFar (bytes rest found : List ℕ) : Type 0 where
  pub spelled : dotted found ++ 46 ∷ rest ≡ 46 ∷ bytes
  pub each : AllByRecursion IsIndex found
  pub leads : (xs : List ℕ) → AllByRecursion IsIndex xs → dotted xs ≡ 46 ∷ bytes → (more : List ℕ) × AllByRecursion IsIndex more × (dotted more ≡ 46 ∷ rest)

-- A part and what stands behind it are told by the bytes.
abbrev pub One : (A : Type 0) (P : A → Type 0) (text : A → List ℕ) → Type 0
One A P text = (x y : A) (b c : List ℕ) → P x → P y → IsBehind b → IsBehind c → text x ++ b ≡ text y ++ c → (x ≡ y) × (b ≡ c)

-- whether a term has arguments
abbrev pub has_args : RawTerm → Bool
has_args term = is_some_arg (out-RawTerm term).args

-- both sides of an equation
abbrev pub AreSides : RawTerm × RawTerm → Type 0
AreSides sides = IsWritten sides.0 × IsWritten sides.1

abbrev pub sides_text : RawTerm × RawTerm → List ℕ
sides_text sides = spaced (equation_words sides.0 sides.1)

abbrev pub alone_text : RawTerm → List ℕ
alone_text term = spaced (term_words term)

-- a step behind its position: the equation, the direction, and the bindings
abbrev pub IsMove : ℕ × Dir × List RawBind → Type 0
IsMove found = IsNumber found.0 × AllByRecursion IsBind found.2

abbrev pub move_text : ℕ × Dir × List RawBind → List ℕ
move_text found = spaced (decimal found.0 ∷ dir_text found.1 ∷ map bind_text found.2)
