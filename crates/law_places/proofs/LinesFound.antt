-- A line that the walk takes to its end is spelled by the grammar.
use Rattle.std.proofs.Common.{◌≡◌, ℕ, ◌^◌, ◌<◌, Bool, true, false, List, [], ◌∷◌, ◌++◌, Option, Some, None, refl, ap, sym, subst, ◌∙◌, arith, codes, decimal, is_some, length, map}
use Rattle.std.proofs.lemmas.List.{append-nil}
use Rattle.std.specs.List.{list_all}
use Rattle.std.specs.Str.{bytes_eq}
use Rattle.law_lines.specs.Words.{number_below}
use Rattle.law_lines.specs.Pieces.{pieces}
use Rattle.law_lines.proofs.Numbers.{number_found}
use Rattle.law_lines.specs.declared.raw.RawLine.{RawLine}
use Rattle.law_lines.specs.declared.error.ReadKind.{ReadKind}
use Rattle.law_lines.specs.declared.stage.Key.{Key}
use Rattle.law_lines.specs.declared.stage.Version.{Version}
use Rattle.law_lines.specs.declared.stage.Stage.{Stage}
use Rattle.law_lines.specs.declared.want.Want.{Want}
use Rattle.law_lines.specs.declared.want.Want.TheVariants as w
use Rattle.law_lines.specs.declared.want.Bounds.TheVariants.{Kept}
use Rattle.law_lines.specs.declared.want.Row.{Row}
use Rattle.law_lines.specs.declared.want.Row.TheVariants as r
use Rattle.law_lines.specs.declared.want.Ending.{Ending}
use Rattle.law_lines.specs.declared.want.Ending.TheVariants as e
use Rattle.law_lines.specs.Spelling.{arg_spelling}
use Rattle.law_lines.specs.Terms.{is_name_in}
use Rattle.law_lines.specs.Faults.{is_closed_by, is_printed, is_spaced}
use Rattle.law_lines.specs.Walk.{allows_found, key_of, kind_in_order, line_wants, pools_wants, walk, wants_found}
use Rattle.law_places.specs.Laws.{ReadIsSpelled}
use Rattle.law_places.specs.LineReads.{LineRead, RestRead, rule_text}
use Rattle.law_lines.specs.Rows.{IsRootEnding}
use Rattle.law_places.proofs.Found.{After, NextWord, fixed_found, gap_found, names_found, next_word, root_found, row_found}
use Rattle.law_places.proofs.LineSteps.{line_read, rule_read, some_values, values_fit}
use Rattle.law_lines.proofs.Parts.{name_read, number_read}
use Rattle.law_places.proofs.RowWhole.{few_fit}
use Rattle.law_places.proofs.Said.{Plain, PoolsLine, RowAt, RowSaid, Said, line_plain, line_said, pools_line}
use Rattle.law_places.proofs.SomeFirst.{some_first}
use Rattle.law_lines.proofs.Walks.{past_end}

-- single pieces
pub number_by : (o : Option ℕ) (bytes : List ℕ) → number_below (2 ^ 63) bytes ≡ o → is_some o ≡ true → (n : ℕ) × (n < 2 ^ 63) × (bytes ≡ decimal n)
number_by None bytes e h = absurd cc
number_by (Some n) bytes e h = let f = number_found (2 ^ 63) n bytes (omega arith) e in (n, f.0, f.1)

record NumberAt (old : List ℕ) (rest : List Want) : Type 0 where
  n : ℕ
  small : n < 2 ^ 63
  behind : After w.Number (decimal n) old rest

number_at : (old : List ℕ) (rest : List Want) → walk 0 (w.Number ∷ rest) (pieces old) ≡ None → NumberAt old rest
number_at old rest h =
    let x = next_word 0 w.Number rest old refl h in
    let q = number_by (number_below (2 ^ 63) x.bytes) x.bytes refl x.took.taken in
    record { n = q.0; small = q.1; behind = record { new = x.new; read = number_read old x.new x.bytes q.0 x.took q.2; left = x.left } }

record NameAt (old : List ℕ) (rest : List Want) : Type 0 where
  name : List ℕ
  named : is_name_in Kept name ≡ true
  behind : After w.Name name old rest

name_at : (old : List ℕ) (rest : List Want) → walk 0 (w.Name ∷ rest) (pieces old) ≡ None → NameAt old rest
name_at old rest h =
    let x = next_word 0 w.Name rest old refl h in record { name = x.bytes; named = x.took.taken; behind = record { new = x.new; read = name_read old x.new x.bytes x.bytes x.took refl; left = x.left } }

pub end_at : (old : List ℕ) → walk 0 [] (pieces old) ≡ None → old ≡ []
end_at [] h = refl
end_at (b ∷ bs) h = let f = some_first b bs in let q = past_end 0 (b ∷ bs) f.rest f.piece f.first.first in absurd (cc)

-- What is taken to its end is what is wanted.
record RowTaken (row : Row) (ending : Ending) (old : List ℕ) (rest : List Want) : Type 0 where
  more : List ℕ
  said : RowSaid Kept row ending old more
  left : walk 0 rest (pieces more) ≡ None

row_taken : (row : Row) (level count : ℕ) (ending : Ending) (old : List ℕ) (rest : List Want) → RowAt row level ending → count ≡ 0 → IsRootEnding ending → walk 0 (w.Row row level count ending ∷ rest) (pieces old) ≡ None
    → RowTaken row ending old rest
row_taken r.Sorts level count ending old rest at none root h =
    let b = names_found r.Sorts ending old rest tt root (subst (λ n. walk 0 (w.Row r.Sorts 0 n ending ∷ rest) (pieces old) ≡ None) none (subst (λ n. walk 0 (w.Row r.Sorts n count ending ∷ rest) (pieces old) ≡ None) at h)) in
    record { more = b.new; said = record { words = b.names; is = record { names = b.read.each; few = few_fit (length b.names) b.read.few }; text = b.read.text }; left = b.left }
row_taken r.Names level count ending old rest at none root h =
    let b = names_found r.Names ending old rest tt root (subst (λ n. walk 0 (w.Row r.Names 0 n ending ∷ rest) (pieces old) ≡ None) none (subst (λ n. walk 0 (w.Row r.Names n count ending ∷ rest) (pieces old) ≡ None) at h)) in
    record { more = b.new; said = record { words = b.names; is = b.read.each; text = b.read.text }; left = b.left }
row_taken (r.Args place) level count ending old rest at none root h = absurd at
row_taken r.Values level count e.Bracket old rest at none root h = absurd at
row_taken r.Values level count (e.Mark mark) old rest at none root h = absurd at
row_taken r.Values level count e.Line old rest at none root h =
    let b = row_found 0 r.Values 1 e.Line old rest refl (omega arith) (subst (λ n. walk 0 (w.Row r.Values 1 n e.Line ∷ rest) (pieces old) ≡ None) none (subst (λ n. walk 0 (w.Row r.Values n count e.Line ∷ rest) (pieces old) ≡ None) at h)) in
    record {
      more = b.new;
      said = record {
        words = map arg_spelling b.terms;
        is = record { terms = b.terms; each = values_fit 0 b.terms b.more b.read.fits; some = some_values (length b.terms) b.read.some; same = refl };
        text = b.read.text;
      };
      left = b.left;
    }

PoolsTaken : Type 0
PoolsTaken = (old : List ℕ) → walk 0 (w.Pools ∷ []) (pieces old) ≡ None → PoolsLine Kept old

plain_taken : (b : Bool) → (b ≡ true → PoolsTaken) → (wants : List Want) → Plain b wants → (old : List ℕ) → walk 0 wants (pieces old) ≡ None → Said Kept wants old
unfolding PoolsTaken
plain_taken b by_pools [] is old h = end_at old h
plain_taken b by_pools (w.Key stage ∷ rest) is old h = absurd is
plain_taken b by_pools (w.Head ∷ rest) is old h = absurd is
plain_taken b by_pools (w.Item row level count ending ∷ rest) is old h = absurd is
plain_taken b by_pools (w.Gap ∷ rest) is old h = let g = gap_found old rest h in (g.new, g.read.text, plain_taken b by_pools rest is g.new g.left)
plain_taken b by_pools (w.Version ∷ rest) is old h = let x = next_word 0 w.Version rest old refl h in (x.bytes, x.took.taken, x.new, x.took.text, plain_taken b by_pools rest is x.new x.left)
plain_taken b by_pools (w.Fixed mark ∷ rest) is old h = let x = fixed_found mark old rest h in (x.new, x.read.text, plain_taken b by_pools rest is x.new x.left)
plain_taken b by_pools (w.Number ∷ rest) is old h = let x = number_at old rest h in (x.n, x.small, x.behind.new, x.behind.read.text, plain_taken b by_pools rest is x.behind.new x.behind.left)
plain_taken b by_pools (w.Name ∷ rest) is old h = let x = name_at old rest h in (x.name, x.named, x.behind.new, x.behind.read.text, plain_taken b by_pools rest is x.behind.new x.behind.left)
plain_taken b by_pools (w.Root place ending ∷ rest) is old h =
    let x = root_found place ending old rest is.0 h in (x.term, x.read.is_term, x.new, x.read.text, plain_taken b by_pools rest is.1 x.new x.left)
plain_taken b by_pools (w.Row row level count ending ∷ rest) is old h =
    let x = row_taken row level count ending old rest is.0 is.1 is.2 h in (x.more, x.said, plain_taken b by_pools rest is.3 x.more x.left)
plain_taken true by_pools (w.Pools ∷ rest) is old h = by_pools refl old (subst (λ l. walk 0 (w.Pools ∷ l) (pieces old) ≡ None) is h)
plain_taken false by_pools (w.Pools ∷ rest) is old h = absurd is

pools_taken : PoolsTaken
unfolding PoolsTaken
pools_taken = λ old h.
    let x = next_word 0 w.Pools [] old refl h in
    let given = bytes_eq x.bytes (codes "given") in
    let u = rule_read old x.new x.bytes given x.took refl in
    subst (PoolsLine Kept) (sym u.text)
    (pools_line Kept given (rule_text given) x.new refl (plain_taken false (λ q. absurd cc) (pools_wants given) (rule_plain given) x.new (sym u.walked ∙ h)))
  where
    rule_plain : (given : Bool) → Plain false (pools_wants given)
    rule_plain true = tt
    rule_plain false = tt

rest_found : (version : Version) (k : Key) (old : List ℕ) → walk 0 (line_wants version k) (pieces old) ≡ None → (line : RawLine) × RestRead version k old line
rest_found version k old h =
    let x = line_said Kept version k old (plain_taken true (λ q. pools_taken) (line_wants version k) (line_plain version k) old h) in
    (x.line, record { text = x.text; walked = h; spelled = x.spelled; begun = x.begun; form = x.form })

line_by : (o : Option Key) (stage : Stage) (bytes : List ℕ) (x : NextWord 0 (w.Key stage) [] bytes) → key_of x.bytes ≡ o → allows_found stage o ≡ true → walk 0 (wants_found stage o ++ []) (pieces x.new) ≡ None
    → (line : RawLine) × LineRead stage bytes line
line_by None stage bytes x e h left = absurd cc
line_by (Some k) stage bytes x e h left =
    let f = rest_found stage.version k x.new (ap (λ t. walk 0 t (pieces x.new)) (sym (append-nil (line_wants stage.version k))) ∙ left) in
    (f.0, line_read stage bytes bytes x.new x.bytes k f.0 refl x.took (sym e) f.1)

pub line_found : (stage : Stage) (bytes : List ℕ) → walk 0 (w.Key stage ∷ []) (pieces bytes) ≡ None → (line : RawLine) × LineRead stage bytes line
line_found stage bytes h =
    let x = next_word 0 (w.Key stage) [] bytes refl h in line_by (key_of x.bytes) stage bytes x refl x.took.taken x.left

fault_none : (a b c : Bool) (place : Option ReadKind) → kind_in_order a b c place ≡ None → place ≡ None
fault_none false b c place h = absurd cc
fault_none true false c place h = absurd cc
fault_none true true true place h = absurd cc
fault_none true true false place h = h

pub read_law : ReadIsSpelled
read_law stage bytes h =
    let f = line_found stage bytes (fault_none (list_all is_printed bytes) (is_spaced bytes) (is_closed_by stage.last) (walk 0 (w.Key stage ∷ []) (pieces bytes)) h) in
    record { line = f.0; allowed = f.1.allowed; form = f.1.form; spelled = f.1.spelled; text = f.1.text }
