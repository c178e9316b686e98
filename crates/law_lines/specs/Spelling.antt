-- The one spelling of a written term, of a line and of a signature, as bytes.
use Rattle.std.specs.Prelude.{ℕ, List, [], ◌∷◌, ◌++◌, map, decimal, codes}
use Rattle.std.specs.List.{flat_map}
use Rattle.law_lines.specs.declared.raw.RawHead.{RawHead}
use Rattle.law_lines.specs.declared.raw.RawHead.TheVariants.{Name, Var, Param, Field}
use Rattle.law_lines.specs.declared.raw.RawTerm.{RawTerm}
use Rattle.law_lines.specs.declared.raw.RawTerm.TheOpen.{RawTerm-F}
use Rattle.law_lines.specs.declared.raw.RawTerm.TheFolds.{fold-RawTerm}
use Rattle.law_lines.specs.declared.raw.RawTerm.TheViews.{out-RawTerm}
use Rattle.law_lines.specs.declared.raw.RawLine.{RawLine}
use Rattle.law_lines.specs.declared.raw.RawLine.TheVariants as r

-- A name stands as it is, a variable is `SORT.INDEX`, a parameter `#NUMBER`, a field `@NUMBER`.
abbrev pub head_spelling : RawHead → List ℕ
head_spelling (Name name) = name
head_spelling (Var sort index) = sort ++ 46 ∷ decimal index
head_spelling (Param number) = 35 ∷ decimal number
head_spelling (Field number) = 64 ∷ decimal number

-- each word behind a space
abbrev pub spaced : List (List ℕ) → List ℕ
spaced words = flat_map (λ word. 32 ∷ word) words

-- An argument with arguments of its own stands in brackets: `(HEAD ARG ARG)`.
abbrev pub bracketed : List ℕ → List (List ℕ) → List ℕ
bracketed head [] = head
bracketed head (arg ∷ args) = 40 ∷ (head ++ (spaced (arg ∷ args) ++ 41 ∷ []))

abbrev pub arg_step : RawTerm-F (List ℕ) → List ℕ
arg_step term = bracketed (head_spelling term.head) term.args

abbrev pub arg_spelling : RawTerm → List ℕ
arg_spelling = fold-RawTerm (List ℕ) arg_step

-- A term by itself has no brackets around it: its head, and each argument behind a space.
abbrev pub term_words : RawTerm → List (List ℕ)
term_words term = head_spelling (out-RawTerm term).head ∷ map arg_spelling (out-RawTerm term).args

-- words with one space between two of them
abbrev pub joined : List (List ℕ) → List ℕ
joined [] = []
joined (word ∷ words) = word ++ spaced words

abbrev pub term_spelling : RawTerm → List ℕ
term_spelling term = joined (term_words term)

-- The words of a line. A number is in decimal; arguments and values are words here, brackets and all.
abbrev pub line_words : RawLine → List (List ℕ)
line_words r.Head = codes "signature" ∷ codes "1" ∷ []
line_words r.Head2 = codes "signature" ∷ codes "2" ∷ []
line_words r.Head3 = codes "signature" ∷ codes "3" ∷ []
line_words (r.Vars n) = codes "vars" ∷ decimal n ∷ []
line_words (r.Size n) = codes "size" ∷ decimal n ∷ []
line_words (r.Width n) = codes "width" ∷ decimal n ∷ []
line_words (r.Budget n) = codes "budget" ∷ decimal n ∷ []
line_words (r.Pairs n) = codes "pairs" ∷ decimal n ∷ []
line_words r.PoolsGiven = codes "pools" ∷ codes "given" ∷ []
line_words (r.PoolsSeed seed height count) =
    codes "pools" ∷ codes "seed" ∷ decimal seed ∷ codes "height" ∷ decimal height ∷ codes "count" ∷ decimal count ∷ []
line_words (r.SortLine name) = codes "sort" ∷ name ∷ []
line_words (r.SortLine2 name vars width) = codes "sort" ∷ name ∷ decimal vars ∷ decimal width ∷ []
line_words (r.ConLine name args) = codes "con" ∷ name ∷ args
line_words (r.ConLine3 weight name args) = codes "con" ∷ decimal weight ∷ name ∷ args
line_words (r.FunLine name args result) = codes "fun" ∷ name ∷ (args ++ codes "->" ∷ result ∷ [])
line_words (r.FunLine3 weight name args result) =
    codes "fun" ∷ decimal weight ∷ name ∷ (args ++ codes "->" ∷ result ∷ [])
line_words (r.MatchLine n) = codes "match" ∷ decimal n ∷ []
line_words (r.BodyLine body) = codes "body" ∷ codes "=" ∷ term_words body
line_words (r.CaseLine con body) = codes "case" ∷ con ∷ codes "=" ∷ term_words body
line_words (r.Explore names) = codes "explore" ∷ names
line_words (r.Background left right) = codes "background" ∷ (term_words left ++ codes "=" ∷ term_words right)
line_words r.Pool = codes "pool" ∷ []
line_words (r.Values sort values) = codes "values" ∷ sort ∷ map arg_spelling values
line_words r.End = codes "end" ∷ []

abbrev pub line_spelling : RawLine → List ℕ
line_spelling line = joined (line_words line)

-- A text is its lines, each with a line feed behind it.
abbrev pub text_of : List (List ℕ) → List ℕ
text_of lines = flat_map (λ line. line ++ 10 ∷ []) lines

abbrev pub sig_spelling : List RawLine → List ℕ
sig_spelling lines = text_of (map line_spelling lines)
