-- A line and the lines behind it.
use Rattle.std.proofs.Common.{◌≡◌, ℕ, suc, ◌+◌, List, [], ◌∷◌, drop, Some, slice_get, refl, sym, ap, ◌∙◌, arith}
use Rattle.law_lines.specs.declared.raw.RawLine.{RawLine}
use Rattle.law_lines.specs.declared.raw.RawLine.TheVariants as line
use Rattle.law_typing.specs.TermFaults.{first_of}
use Rattle.law_typing.specs.LineFaults.{setting_fault, declared_fault, line_fault, fault_at, seen_after, faults_from}
use Rattle.law_typing.specs.declared.errors.TypeErr.TheVariants as err
use Rattle.law_typing.specs.declared.errors.TypeKind.{TypeKind}
use Rattle.law_typing.specs.declared.seen.Seen.{Seen}
use Rattle.law_typing.specs.declared.whole.Whole.{Whole}
use Rattle.law_typing.proofs.TermFacts.{drop_some}

-- a line of settings, or of a declaration
abbrev pub IsPlain : RawLine → Type 0
IsPlain (line.PoolsSeed seed height count) = ⊥
IsPlain (line.MatchLine place) = ⊥
IsPlain (line.BodyLine body) = ⊥
IsPlain (line.CaseLine con body) = ⊥
IsPlain (line.Explore names) = ⊥
IsPlain (line.Background left right) = ⊥
IsPlain line.Pool = ⊥
IsPlain (line.Values sort values) = ⊥
IsPlain other = Unit {0}

pub plain_line : (text : Whole) (seen : Seen) (rest : List RawLine) (l : RawLine) → IsPlain l
    → line_fault text seen rest l ≡ first_of (setting_fault l ∷ declared_fault text seen l ∷ [])
plain_line text seen rest (line.PoolsSeed seed height count) plain = absurd plain
plain_line text seen rest (line.MatchLine place) plain = absurd plain
plain_line text seen rest (line.BodyLine body) plain = absurd plain
plain_line text seen rest (line.CaseLine con body) plain = absurd plain
plain_line text seen rest (line.Explore names) plain = absurd plain
plain_line text seen rest (line.Background left right) plain = absurd plain
plain_line text seen rest line.Pool plain = absurd plain
plain_line text seen rest (line.Values sort values) plain = absurd plain
plain_line text seen rest other plain = refl

-- a line that shows a fault
pub line_found : (text : Whole) (seen : Seen) (lines : List RawLine) (at : ℕ) (l : RawLine) (rest : List RawLine) (kind : TypeKind)
    → slice_get lines at ≡ Some l → rest ≡ drop (at + 1) lines → line_fault text seen rest l ≡ Some kind
    → faults_from text seen (at + 1) (drop at lines) ≡ Some (err.At (at + 1) kind)
line_found text seen lines at l rest kind item is fault = ap (faults_from text seen (at + 1)) (drop_some lines at l item)
    ∙ ap (λ o. fault_at (at + 1) o (faults_from text (seen_after seen l) ((at + 1) + 1) (drop (suc at) lines)))
    (ap (λ r. line_fault text seen r l) (sym (is ∙ ap (λ n. drop n lines) next)) ∙ fault)
  where
    next : at + 1 ≡ suc at
    next = omega arith
