-- The first line that has no reading: there is one at most, and none in the text of a signature.
use Rattle.std.proofs.Common.{◌≡◌, ℕ, ◌+◌, ◌-◌, ◌^◌, min, List, [], ◌∷◌, ◌++◌, Some, refl, ap, sym, subst, ◌∙◌, map, inl, inr, ◌⊎◌}
use Rattle.std.proofs.lemmas.List.{append_assoc, append-nil, length-map}
use Rattle.std.specs.List.{AllByRecursion}
use Rattle.law_lines.specs.declared.raw.RawLine.{RawLine}
use Rattle.law_lines.specs.declared.error.ReadKind.{ReadKind}
use Rattle.law_lines.specs.declared.stage.Key.TheVariants as key
use Rattle.law_lines.specs.declared.stage.Stage.{Stage}
use Rattle.law_lines.specs.declared.want.Bounds.TheVariants.{Kept}
use Rattle.law_lines.specs.Spelling.{line_spelling, text_of}
use Rattle.law_lines.specs.Lines.{IsLine}
use Rattle.law_lines.specs.Stages.{InOrder, stage_after, stage_behind, start}
use Rattle.law_lines.specs.Signature.{IsRawSig}
use Rattle.law_lines.specs.Walk.{line_fault}
use Rattle.law_lines.specs.Texts.{AreAll, AreRead, FaultyLine, FirstFault, HasReading, IsUnbroken, Unfinished, has_feed, next_number}
use Rattle.law_places.specs.Progress.{IsClosed, StopsAt, StopsByEnd, StopsByFault}
use Rattle.law_places.specs.Laws.{OneFault, RefusedIsNoText}
use Rattle.law_lines.proofs.CleanLines.{line_read_law}
use Rattle.law_lines.proofs.Completes.{behind_append, lines_append, order_append, reads, to_the_end}
use Rattle.law_lines.proofs.Orders.{in_order_spelled}
use Rattle.law_places.proofs.PlacesFound.{line_kind, one_kind}
use Rattle.law_lines.specs.Places.{LineKind}
use Rattle.law_lines.proofs.OneLine.{one_line}
use Rattle.law_lines.proofs.Whole.{IsWholeFrom, feed_in, line_no_feed, nothing_else, same_line, whole_of}

abbrev AreLines : List RawLine → Type 0
AreLines lines = AllByRecursion (IsLine Kept) lines

abbrev AreUnbroken : List (List ℕ) → Type 0
AreUnbroken lines = AllByRecursion IsUnbroken lines

unbroken : (lines : List RawLine) → AreLines lines → AreUnbroken (map line_spelling lines)
unbroken [] h = tt
unbroken (x ∷ lines) h = (line_no_feed x h.0, unbroken lines h.1)

unbroken_behind : (xs ys : List (List ℕ)) → AreUnbroken (xs ++ ys) → AreUnbroken ys
unbroken_behind [] ys h = h
unbroken_behind (x ∷ xs) ys h = unbroken_behind xs ys h.1

line_first : (line : List ℕ) (lines : List (List ℕ)) (rest : List ℕ) → text_of (line ∷ lines) ++ rest ≡ line ++ 10 ∷ (text_of lines ++ rest)
line_first line lines rest = ap (λ l. l ++ rest) (append_assoc line (10 ∷ []) (text_of lines)) ∙ append_assoc line (10 ∷ text_of lines) rest

-- lines that begin a text of lines begin these lines
record Begins (xs ys : List (List ℕ)) (rest : List ℕ) : Type 0 where
  more : List (List ℕ)
  is : xs ≡ ys ++ more
  text : text_of more ≡ rest

begins_in : (xs ys : List (List ℕ)) (rest : List ℕ) → AreUnbroken xs → AreUnbroken ys → text_of xs ≡ text_of ys ++ rest → Begins xs ys rest
begins_in xs [] rest h g e = record { more = xs; is = refl; text = e }
begins_in [] (y ∷ ys) rest h g e = absurd (nothing_else y (text_of ys ++ rest) (e ∙ line_first y ys rest))
begins_in (x ∷ xs) (y ∷ ys) rest h g e =
    let q = same_line x y (text_of xs) (text_of ys ++ rest) h.0 g.0 (sym (append_assoc x (10 ∷ []) (text_of xs)) ∙ e ∙ line_first y ys rest) in
    let m = begins_in xs ys rest h.1 g.1 q.1 in
    record { more = m.more; is = ap (λ l. l ∷ xs) q.0 ∙ ap (λ l. y ∷ l) m.is; text = m.text }

one_more : (lines : List (List ℕ)) (line : List ℕ) (more : List (List ℕ)) → lines ++ line ∷ more ≡ (lines ++ line ∷ []) ++ more
one_more lines line more = sym (append_assoc lines (line ∷ []) more)

-- a reading of more lines is one of fewer
shorter : (lines : List (List ℕ)) (line : List ℕ) (more : List (List ℕ)) → HasReading (lines ++ line ∷ more) → HasReading (lines ++ line ∷ [])
shorter lines line more h = record {
  sig = h.sig;
  signature = h.signature;
  more = more ++ h.more;
  begins = h.begins ∙ ap (λ l. l ++ h.more) (one_more lines line more) ∙ append_assoc (lines ++ line ∷ []) more h.more;
}

-- A first fault leaves no signature.
none_behind : (sig : List RawLine) → IsRawSig sig → (lines : List (List ℕ)) (left : List ℕ) (kind : ReadKind) (more : List (List ℕ)) → map line_spelling sig ≡ lines ++ more → AreUnbroken more
    → text_of more ≡ left → FaultyLine lines left kind ⊎ Unfinished lines left kind → ⊥
none_behind sig s lines left kind [] is h e (inl f) = nothing_else f.line f.behind (e ∙ f.first.parts)
none_behind sig s lines left kind (z ∷ more) is h e (inl f) =
    let q = same_line z f.line (text_of more) f.behind h.0 f.first.whole (sym (append_assoc z (10 ∷ []) (text_of more)) ∙ e ∙ f.first.parts) in
    let t : HasReading (lines ++ z ∷ []) = record { sig = sig; signature = s; more = more; begins = is ∙ one_more lines z more } in
    f.stuck (subst (λ l. HasReading (lines ++ l ∷ [])) q.0 t)
none_behind sig s lines left kind [] is h e (inr u) = u.absent (sym e) (record { sig = sig; signature = s; same = is ∙ append-nil lines })
none_behind sig s lines left kind (z ∷ more) is h e (inr u) =
    let f = feed_in z (text_of more) in let g = ap has_feed (sym (append_assoc z (10 ∷ []) (text_of more)) ∙ e) in let o = u.open_line in absurd (cc)

pub refused_law : RefusedIsNoText
refused_law text number kind f sig s e =
    let m = begins_in (map line_spelling sig) f.lines f.left (unbroken sig s.each) f.whole (e ∙ f.parts) in
    none_behind sig s f.lines f.left kind m.more m.is
    (unbroken_behind f.lines m.more (subst AreUnbroken m.is (unbroken sig s.each))) m.text f.why

-- Lines are read as one list of lines.
one_read : (stage : Stage) (xs ys : List RawLine) → InOrder stage xs → InOrder stage ys → AreLines xs → AreLines ys → map line_spelling xs ≡ map line_spelling ys → xs ≡ ys
one_read stage [] [] h g a b e = refl
one_read stage [] (y ∷ ys) h g a b e = absurd cc
one_read stage (x ∷ xs) [] h g a b e = absurd cc
one_read stage (x ∷ xs) (y ∷ ys) h g a b e =
    let first : line_spelling x ≡ line_spelling y = cc in
    let more : map line_spelling xs ≡ map line_spelling ys = cc in
    let f = one_line stage.version x y h.1 g.1 a.0 b.0 first in
    ap (λ t. t ∷ xs) f ∙ ap (λ ts. y ∷ ts) (one_read (stage_after stage y) xs ys (subst (λ t. InOrder (stage_after stage t) xs) f h.2) g.2 a.1 b.1 more)

order_first : (stage : Stage) (xs ys : List RawLine) → InOrder stage (xs ++ ys) → InOrder stage xs
order_first stage [] ys h = tt
order_first stage (x ∷ xs) ys h = (h.0, h.1, order_first (stage_after stage x) xs ys h.2)

lines_first : (xs ys : List RawLine) → AreLines (xs ++ ys) → AreLines xs
lines_first [] ys h = tt
lines_first (x ∷ xs) ys h = (h.0, lines_first xs ys h.1)

same_read : (lines : List (List ℕ)) (xs ys : List RawLine) → AreRead lines xs → AreRead lines ys → xs ≡ ys
same_read lines xs ys a b =
    one_read start xs ys (order_first start xs a.after (whole_of (xs ++ a.after) a.signature).0) (order_first start ys b.after (whole_of (ys ++ b.after) b.signature).0)
    (lines_first xs a.after a.signature.each) (lines_first ys b.after b.signature.each) (a.same ∙ sym b.same)

-- Two first faults of a text are one.
same_kind : (lines : List (List ℕ)) (left : List ℕ) (kind why : ReadKind) → FaultyLine lines left kind ⊎ Unfinished lines left kind → FaultyLine lines left why ⊎ Unfinished lines left why → kind ≡ why
same_kind lines left kind why (inl f) (inl g) =
    let q = same_line f.line g.line f.behind g.behind f.first.whole g.first.whole (sym f.first.parts ∙ g.first.parts) in
    let r = same_read lines f.raw g.raw f.read g.read in
    one_kind g.raw g.line kind why (subst (λ l. LineKind g.raw l kind) q.0 (subst (λ t. LineKind t f.line kind) r f.kind)) g.kind
same_kind lines left kind why (inl f) (inr u) = let t = feed_in f.line f.behind in let g = ap has_feed f.first.parts in let o = u.open_line in absurd (cc)
same_kind lines left kind why (inr u) (inl f) = let t = feed_in f.line f.behind in let g = ap has_feed f.first.parts in let o = u.open_line in absurd (cc)
same_kind lines left kind why (inr u) (inr v) = u.missing ∙ sym v.missing

-- no fault stands before lines that have a reading
no_earlier : (lines : List (List ℕ)) (left : List ℕ) (kind : ReadKind) (line : List ℕ) (more : List (List ℕ)) (rest : List ℕ) → IsUnbroken line → left ≡ line ++ 10 ∷ rest
    → HasReading (lines ++ line ∷ more) → FaultyLine lines left kind ⊎ Unfinished lines left kind → ⊥
no_earlier lines left kind line more rest h e r (inl f) =
    let q = same_line line f.line rest f.behind h f.first.whole (sym e ∙ f.first.parts) in f.stuck (subst (λ l. HasReading (lines ++ l ∷ [])) q.0 (shorter lines line more r))
no_earlier lines left kind line more rest h e r (inr u) = let t = feed_in line rest in let g = ap has_feed e in let o = u.open_line in absurd (cc)

record Ahead (xs ys : List (List ℕ)) (left right : List ℕ) : Type 0 where
  more : List (List ℕ)
  is : ys ≡ xs ++ more
  text : left ≡ text_of more ++ right

aligned : (xs ys : List (List ℕ)) (left right : List ℕ) → AreUnbroken xs → AreUnbroken ys → text_of xs ++ left ≡ text_of ys ++ right → Ahead xs ys left right ⊎ Ahead ys xs right left
aligned [] ys left right h g e = inl (record { more = ys; is = refl; text = e })
aligned (x ∷ xs) [] left right h g e = inr (record { more = x ∷ xs; is = refl; text = sym e })
aligned (x ∷ xs) (y ∷ ys) left right h g e =
    let q = same_line x y (text_of xs ++ left) (text_of ys ++ right) h.0 g.0 (sym (line_first x xs left) ∙ e ∙ line_first y ys right) in
    longer x y xs ys left right q.0 (aligned xs ys left right h.1 g.1 q.1)
  where
    longer : (x y : List ℕ) (xs ys : List (List ℕ)) (left right : List ℕ) → x ≡ y → Ahead xs ys left right ⊎ Ahead ys xs right left → Ahead (x ∷ xs) (y ∷ ys) left right ⊎ Ahead (y ∷ ys) (x ∷ xs) right left
    longer x y xs ys left right e (inl a) = inl (record { more = a.more; is = ap (λ l. l ∷ ys) (sym e) ∙ ap (λ l. x ∷ l) a.is; text = a.text })
    longer x y xs ys left right e (inr a) = inr (record { more = a.more; is = ap (λ l. l ∷ xs) e ∙ ap (λ l. y ∷ l) a.is; text = a.text })

-- where one stands as far as the other, or before it
one_ahead : (text : List ℕ) (number other : ℕ) (kind why : ReadKind) (f : FirstFault text number kind) (g : FirstFault text other why) (more : List (List ℕ)) → g.lines ≡ f.lines ++ more
    → f.left ≡ text_of more ++ g.left → (number ≡ other) × (kind ≡ why)
one_ahead text number other kind why f g [] is e =
    let same = sym (is ∙ append-nil f.lines) in (
      f.next ∙ ap (λ l. next_number l) same ∙ sym g.next,
      same_kind g.lines g.left kind why (subst (λ l. FaultyLine g.lines l kind ⊎ Unfinished g.lines l kind) e (subst (λ l. FaultyLine l f.left kind ⊎ Unfinished l f.left kind) same f.why)) g.why,
    )
one_ahead text number other kind why f g (line ∷ more) is e =
    absurd (no_earlier f.lines f.left kind line more (text_of more ++ g.left) (unbroken_behind f.lines (line ∷ more) (subst AreUnbroken is g.whole)).0 (e ∙ line_first line more g.left)
    (subst HasReading is g.reads) f.why)

pub one_fault_law : OneFault
one_fault_law text number other kind why f g = by (aligned f.lines g.lines f.left g.left f.whole g.whole (sym f.parts ∙ g.parts))
  where
    by : Ahead f.lines g.lines f.left g.left ⊎ Ahead g.lines f.lines g.left f.left → (number ≡ other) × (kind ≡ why)
    by (inl a) = one_ahead text number other kind why f g a.more a.is a.text
    by (inr a) = let q = one_ahead text other number why kind g f a.more a.is a.text in (sym q.0, sym q.1)

-- The reader stops at the first fault.
stuck_by : (before : List RawLine) (stage : Stage) (bytes : List ℕ) (kind : ReadKind) (sig : List RawLine) (more : List (List ℕ)) → InOrder stage before → AreLines before → IsWholeFrom stage sig
    → map line_spelling sig ≡ map line_spelling before ++ bytes ∷ more → line_fault (stage_behind stage before) bytes ≡ Some kind → ⊥
stuck_by before stage bytes kind [] more order each whole e f = no_lines before e
  where
    no_lines : (before : List RawLine) → [] ≡ map line_spelling before ++ bytes ∷ more → ⊥
    no_lines [] e = cc
    no_lines (y ∷ before) e = cc
stuck_by [] stage bytes kind (x ∷ sig) more order each whole e f =
    let same : line_spelling x ≡ bytes = cc in
    let n = line_read_law stage x whole.0.0 whole.0.1 whole.2.0 in let m = ap (line_fault stage) same in cc
stuck_by (y ∷ before) stage bytes kind (x ∷ sig) more order each whole e f =
    let first : line_spelling x ≡ line_spelling y = cc in
    let rest : map line_spelling sig ≡ map line_spelling before ++ bytes ∷ more = cc in
    let s = ap (stage_after stage) (one_line stage.version x y whole.0.1 order.1 whole.2.0 each.0 first) in
    stuck_by before (stage_after stage y) bytes kind sig more order.2 each.1
    (subst (λ t. InOrder t sig) s whole.0.2, subst (λ t. (stage_behind t sig).last ≡ Some key.End) s whole.1, whole.2.1) rest f

pub stuck : (before : List RawLine) (bytes : List ℕ) (kind : ReadKind) → InOrder start before → AreLines before → line_fault (stage_behind start before) bytes ≡ Some kind
    → HasReading (map line_spelling before ++ bytes ∷ []) → ⊥
stuck before bytes kind order each f h =
    stuck_by before start bytes kind h.sig h.more order each (whole_of h.sig h.signature) (h.begins ∙ append_assoc (map line_spelling before) (bytes ∷ []) h.more) f

closed_by : (raw : List RawLine) → InOrder start raw → AreLines raw → AreAll (map line_spelling raw) → IsClosed raw
closed_by raw order each all =
    let w = whole_of all.sig all.signature in subst IsClosed (one_read start all.sig raw w.0 order w.2 each all.same) w.1

are_read : (raw : List RawLine) → InOrder start raw → AreLines raw → AreRead (map line_spelling raw) raw
are_read raw order each =
    let m = to_the_end (stage_behind start raw) in
    record {
      same = refl;
      after = m.lines;
      signature = record {
        order = in_order_spelled (raw ++ m.lines) (order_append start raw m.lines order m.order) (ap (λ s. s.last) (behind_append start raw m.lines) ∙ m.closed);
        each = lines_append raw m.lines each m.each;
      };
    }

why_of : (raw : List RawLine) (left : List ℕ) (kind : ReadKind) → InOrder start raw → AreLines raw → StopsByFault raw left kind ⊎ StopsByEnd raw left kind
    → FaultyLine (map line_spelling raw) left kind ⊎ Unfinished (map line_spelling raw) left kind
why_of raw left kind order each (inl f) = inl (record {
  line = f.line;
  behind = f.behind;
  first = f.first;
  stuck = stuck raw f.line kind order each f.fault;
  raw = raw;
  read = are_read raw order each;
  kind = line_kind raw f.line kind order each f.fault;
})
why_of raw left kind order each (inr u) = inr (record { open_line = u.open_line; absent = λ n all. u.absent n (closed_by raw order each all); missing = u.missing })

pub first_fault : (text : List ℕ) (number : ℕ) (kind : ReadKind) → StopsAt text number kind → FirstFault text number kind
first_fault text number kind s = record {
  lines = map line_spelling s.lines;
  left = s.left;
  parts = s.parts;
  whole = unbroken s.lines s.each;
  reads = reads s.lines s.order s.each;
  next = s.next ∙ ap (λ n. min (n + 1) (2 ^ 64 - 1)) (sym (length-map s.lines line_spelling));
  why = why_of s.lines s.left kind s.order s.each s.why;
}
