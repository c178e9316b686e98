-- Pieces are one text, however it is cut.
use Rattle.std.proofs.Common.{◌≡◌, ℕ, true, List, [], ◌∷◌, ◌++◌, Some, Ok, Err, ◌⊎◌, inl, inr, refl, ap, sym, subst, ◌∙◌}
use Rattle.std.proofs.lemmas.List.{append-nil}
use Rattle.std.specs.List.{AllByRecursion}
use Rattle.law_lines.specs.Spelling.{text_of}
use Rattle.law_lines.specs.Texts.{IsUnbroken, has_feed}
use Rattle.law_lines.proofs.Whole.{feed_in}
use Rattle.law_cert_text.specs.declared.cert.Cert.{Cert}
use Rattle.law_cert_text.specs.declared.error.CertErr.TheVariants as error
use Rattle.law_cert_text.specs.Laws.{EndsAsOne, FedReads, OneText}
use Rattle.law_cert_text.specs.Readers.{HasHeard, Heard, IsFed, IsReadAs, IsStopped, IsWhole, NotWhole, RefusedBy, Stops, StopsNow, heard_text}
use Rattle.law_cert_text.specs.Readings.{FaultAt, FaultyLine, HasReading, Unfinished}
use Rattle.law_cert_text.proofs.FirstFaults.{Ahead, aligned, line_first, no_earlier, unbroken_behind}
use Rattle.law_cert_text.proofs.Refusals.{fault_more, not_open, reads_unbroken}

same_number : (heard : Heard) (number other : ℕ) → Stops heard (error.Form number) → Stops heard (error.Form other) → number ≡ other
same_number heard number other s t = let e : Some number ≡ Some other = sym s.0 ∙ t.0 in cc

pub stopped : (old new : Heard) (text piece : List ℕ) (number : ℕ) → HasHeard old text → IsStopped old new piece (error.Form number) → HasHeard new (text ++ piece)
stopped old new text piece number h s = inr (record { number = number; stops = s.kept; fault = by s.cause h })
  where
    by : Stops old (error.Form number) ⊎ StopsNow old piece (error.Form number) → HasHeard old text → FaultAt (text ++ piece) number FaultyLine
    by (inl was) (inl h) = absurd (not_open old (error.Form number) was h.0)
    by (inl was) (inr r) = fault_more text piece number (subst (λ n. FaultAt text n FaultyLine) (same_number old r.number number r.stops was) r.fault)
    by (inr now) (inl h) = subst (λ t. FaultAt (t ++ piece) number FaultyLine) h.1 now.fault
    by (inr now) (inr r) = absurd (not_open old (error.Form r.number) r.stops now.before)

fed_on : (old new : Heard) (text piece : List ℕ) → HasHeard old text → IsFed old new piece → HasHeard new (text ++ piece)
fed_on old new text piece (inl h) fed = inl (fed.after, fed.text ∙ ap (λ t. t ++ piece) h.1)
fed_on old new text piece (inr r) fed = absurd (not_open old (error.Form r.number) r.stops fed.before)

pub one_text : OneText
one_text old new text piece h (Ok u) fed = inr (fed_on old new text piece h fed)
one_text old new text piece h (Err (error.Form number)) s = inr (stopped old new text piece number h s)
one_text old new text piece h (Err error.NoMemory) s = inl refl

-- In the end

pub whole_text : (heard : Heard) (cert : Cert) (text : List ℕ) → IsWhole heard cert → HasHeard heard text → IsReadAs text cert
whole_text heard cert text w (inl h) =
    record { is = w.spelled; spelled = ap text_of w.lines ∙ sym (append-nil (text_of heard.lines)) ∙ ap (λ l. text_of heard.lines ++ l) (sym w.none_left) ∙ h.1 }
whole_text heard cert text w (inr r) = absurd (not_open heard (error.Form r.number) r.stops w.open_reader)

pub not_whole : (heard : Heard) (number : ℕ) (text : List ℕ) → NotWhole heard (error.Form number) → HasHeard heard text → RefusedBy text (error.Form number)
not_whole heard number text (inl s) (inl h) = absurd (not_open heard (error.Form number) s h.0)
not_whole heard number text (inl s) (inr r) = inl (subst (λ n. FaultAt text n FaultyLine) (same_number heard r.number number r.stops s) r.fault)
not_whole heard number text (inr f) (inl h) = inr (subst (λ t. FaultAt t number Unfinished) h.1 f.1)
not_whole heard number text (inr f) (inr r) = absurd (not_open heard (error.Form r.number) r.stops f.0)

pub ends_as_one : EndsAsOne
ends_as_one heard text h (Ok cert) w n = whole_text heard cert text w h
ends_as_one heard text h (Err (error.Form number)) w n = not_whole heard number text n h
ends_as_one heard text h (Err error.NoMemory) w n = tt

-- What was read

-- a line without a reading is finished
feed_left : (lines : List (List ℕ)) (left : List ℕ) → FaultyLine lines left → has_feed left ≡ true
feed_left lines left f = ap has_feed f.first.parts ∙ feed_in f.line f.behind

unbroken_left : (more : List (List ℕ)) (unfinished left : List ℕ) → unfinished ≡ text_of more ++ left → has_feed left ≡ true → IsUnbroken unfinished → ⊥
unbroken_left [] unfinished left e f h = let g = ap has_feed e in absurd cc
unbroken_left (line ∷ more) unfinished left e f h = let g = ap has_feed (e ∙ line_first line more left) ∙ feed_in line (text_of more ++ left) in absurd cc

ahead_reads : (old new : Heard) (piece : List ℕ) (number : ℕ) (fed : IsFed old new piece) (f : FaultAt (heard_text old ++ piece) number FaultyLine) (more : List (List ℕ)) → new.lines ≡ f.lines ++ more
    → f.left ≡ text_of more ++ new.unfinished → ⊥
ahead_reads old new piece number fed f [] is e = unbroken_left [] new.unfinished f.left (sym e) (feed_left f.lines f.left f.why) fed.whole
ahead_reads old new piece number fed f (line ∷ more) is e =
    no_earlier f.lines f.left line more (text_of more ++ new.unfinished) (unbroken_behind f.lines (line ∷ more) (subst (AllByRecursion IsUnbroken) is (reads_unbroken new.lines fed.reads))).0
    (e ∙ line_first line more new.unfinished) (subst HasReading is fed.reads) (inl f.why)

pub fed_reads : FedReads
fed_reads old new piece fed number f = by (aligned f.lines new.lines f.left new.unfinished f.whole (reads_unbroken new.lines fed.reads) (sym f.parts ∙ sym fed.text))
  where
    by : Ahead f.lines new.lines f.left new.unfinished ⊎ Ahead new.lines f.lines new.unfinished f.left → ⊥
    by (inl a) = ahead_reads old new piece number fed f a.more a.is a.text
    by (inr a) = unbroken_left a.more new.unfinished f.left a.text (feed_left f.lines f.left f.why) fed.whole
