-- A text is the spelling of one certificate at most.
use Rattle.std.proofs.Common.{◌≡◌, ℕ, ◌<◌, ◌^◌, true, List, [], ◌∷◌, ◌++◌, Option, Some, refl, ap, sym, subst, ◌∙◌, arith, map, decimal, codes}
use Rattle.std.proofs.lemmas.List.{append_assoc}
use Rattle.std.specs.List.{AllByRecursion, flat_map, list_all}
use Rattle.law_lines.specs.declared.raw.RawLine.{RawLine}
use Rattle.law_lines.specs.declared.raw.RawLine.TheVariants as r
use Rattle.law_lines.specs.declared.raw.RawTerm.{RawTerm}
use Rattle.law_lines.specs.declared.stage.Stage.{Stage}
use Rattle.law_lines.specs.declared.stage.Key.{Key}
use Rattle.law_lines.specs.declared.stage.Key.TheVariants as key
use Rattle.law_lines.specs.declared.want.Bounds.TheVariants.{Kept}
use Rattle.law_lines.specs.declared.want.Place.TheVariants as place
use Rattle.law_lines.specs.Faults.{is_printed}
use Rattle.law_lines.specs.Lines.{IsLine}
use Rattle.law_lines.specs.Spelling.{arg_spelling, joined, line_spelling, spaced, term_words, text_of}
use Rattle.law_lines.specs.Stages.{InOrder, allows, line_key, stage_after, stage_behind, start}
use Rattle.law_lines.specs.Texts.{IsUnbroken}
use Rattle.law_lines.proofs.Clean.{IsClean, clean_arg, clean_name, clean_number, clean_term, printed_append}
use Rattle.law_lines.proofs.OneLine.{one_line}
use Rattle.law_lines.proofs.Whole.{IsWholeFrom, line_no_feed, no_feed, nothing_else, same_line, whole_of}
use Rattle.law_cert_text.specs.declared.cert.Cert.{Cert}
use Rattle.law_cert_text.specs.declared.cert.LawList.{LawList}
use Rattle.law_sig.specs.declared.chain.Dir.{Dir}
use Rattle.law_sig.specs.declared.chain.Dir.TheVariants.{LeftToRight, RightToLeft}
use Rattle.law_cert_text.specs.declared.cert.Mark.{Mark}
use Rattle.law_cert_text.specs.declared.cert.Mark.TheVariants.{Saturated, Spent, Aside, Plain}
use Rattle.law_cert_text.specs.declared.cert.Entry.{Entry}
use Rattle.law_cert_text.specs.declared.cert.Entry.TheVariants as e
use Rattle.law_cert_text.specs.declared.cert.RawBind.{RawBind}
use Rattle.law_cert_text.specs.declared.cert.RawStep.{RawStep}
use Rattle.law_cert_text.specs.declared.cert.RawValues.{RawValues}
use Rattle.law_cert_text.specs.declared.cert.SortTree.{SortTree}
use Rattle.law_cert_text.specs.declared.cert.TreeLine.{TreeLine}
use Rattle.law_cert_text.specs.declared.cert.TreeLine.TheVariants as n
use Rattle.law_cert_text.specs.declared.line.CertLine.{CertLine}
use Rattle.law_cert_text.specs.declared.line.CertLine.TheVariants as c
use Rattle.law_cert_text.specs.declared.draft.Draft.TheVariants as d
use Rattle.law_cert_text.specs.Spelling.{bind_text, cert_lines, cert_spelling, dir_text, dotted, equation_words, list_lines, list_spelling, mark_text, pos_text}
use Rattle.law_cert_text.specs.Certificates.{IsBind, IsCertText, IsEntry, IsIndex, IsListText, IsNode, IsPlainLaw, IsPool, IsStep, IsTree, IsValues, IsWritten}
use Rattle.law_cert_text.specs.CertLines.{IsCertLine, line_text}
use Rattle.law_cert_text.specs.Drafts.{entry_read, pool_read, read_of, tree_read}
use Rattle.law_cert_text.specs.Readers.{body_lines, head_text}
use Rattle.law_cert_text.proofs.BodyText.{body_text}
use Rattle.law_cert_text.proofs.OneCertLine.{IsLoose, loose, one_cert_lines, one_loose_lines}
use Rattle.law_cert_text.proofs.RunFacts.{one_body}

-- the bytes of a line are printed ones
abbrev IsPrinted : List ℕ → Type 0
IsPrinted bytes = list_all is_printed bytes ≡ true

pub all_join : (A : Type 0) (P : A → Type 0) (xs ys : List A) → AllByRecursion P xs → AllByRecursion P ys → AllByRecursion P (xs ++ ys)
all_join A P [] ys h g = g
all_join A P (x ∷ xs) ys h g = (h.0, all_join A P xs ys h.1 g)

spaced_printed : (words : List (List ℕ)) → AllByRecursion IsPrinted words → IsPrinted (spaced words)
spaced_printed [] h = refl
spaced_printed (word ∷ words) h = printed_append word (spaced words) h.0 (spaced_printed words h.1)

joined_printed : (word : List ℕ) (words : List (List ℕ)) → IsPrinted word → AllByRecursion IsPrinted words → IsPrinted (joined (word ∷ words))
joined_printed word words h g = printed_append word (spaced words) h (spaced_printed words g)

unbroken : (word : List ℕ) (words : List (List ℕ)) → IsPrinted word → AllByRecursion IsPrinted words → IsUnbroken (joined (word ∷ words))
unbroken word words h g = no_feed (joined (word ∷ words)) (joined_printed word words h g)

words_printed : (words : List (List ℕ)) → AllByRecursion IsClean words → AllByRecursion IsPrinted words
words_printed [] h = tt
words_printed (word ∷ words) h = (h.0.printed, words_printed words h.1)

number_printed : (m : ℕ) → m < 2 ^ 63 → IsPrinted (decimal m)
number_printed m h = (clean_number m h).printed

index_printed : (m : ℕ) → IsIndex m → IsPrinted (decimal m)
index_printed m h = number_printed m (omega arith)

term_printed : (term : RawTerm) → IsWritten term → AllByRecursion IsPrinted (term_words term)
term_printed term h = words_printed (term_words term) (clean_term place.Equation term h)

sides_printed : (left right : RawTerm) → IsWritten left → IsWritten right → AllByRecursion IsPrinted (equation_words left right)
sides_printed left right h g = all_join (List ℕ) IsPrinted (term_words left) (codes "=" ∷ term_words right) (term_printed left h) (refl, term_printed right g)

mark_printed : (mark : Mark) → IsPrinted (mark_text mark)
mark_printed Saturated = refl
mark_printed Spent = refl
mark_printed Aside = refl
mark_printed Plain = refl

dir_printed : (dir : Dir) → IsPrinted (dir_text dir)
dir_printed LeftToRight = refl
dir_printed RightToLeft = refl

dotted_printed : (numbers : List ℕ) → AllByRecursion IsIndex numbers → IsPrinted (dotted numbers)
dotted_printed [] h = refl
dotted_printed (m ∷ numbers) h = printed_append (decimal m) (dotted numbers) (index_printed m h.0) (dotted_printed numbers h.1)

pos_printed : (numbers : List ℕ) → AllByRecursion IsIndex numbers → IsPrinted (pos_text numbers)
pos_printed [] h = refl
pos_printed (m ∷ numbers) h = printed_append (decimal m) (dotted numbers) (index_printed m h.0) (dotted_printed numbers h.1)

binds_printed : (binds : List RawBind) → AllByRecursion IsBind binds → AllByRecursion IsPrinted (map bind_text binds)
binds_printed [] h = tt
binds_printed (bind ∷ binds) h = (
  printed_append (bind.sort ++ 46 ∷ decimal bind.index) (32 ∷ arg_spelling bind.term)
      (printed_append bind.sort (46 ∷ decimal bind.index) (clean_name bind.sort h.0.sort).printed (index_printed bind.index h.0.index)) (clean_arg bind.term place.Equation h.0.term.nodes).printed,
  binds_printed binds h.1,
)

numbers_printed : (numbers : List ℕ) → AllByRecursion (λ m. m < 2 ^ 63) numbers → AllByRecursion IsPrinted (map decimal numbers)
numbers_printed [] h = tt
numbers_printed (m ∷ numbers) h = (number_printed m h.0, numbers_printed numbers h.1)

entry_unbroken : (entry : Entry) → IsEntry entry → IsUnbroken (line_text (c.Entry entry))
entry_unbroken (e.Law number mark left right) h =
    unbroken (codes "law") (decimal number ∷ mark_text mark ∷ equation_words left right) refl (number_printed number h.0, (mark_printed mark, sides_printed left right h.2 h.3))
entry_unbroken (e.Lemma number left right steps) h =
    unbroken (codes "lemma") (decimal number ∷ equation_words left right) refl (number_printed number h.0, sides_printed left right h.1 h.2)
entry_unbroken (e.Spread term) h = unbroken (codes "spread") (term_words term) refl (term_printed term h)
entry_unbroken (e.Killed general target steps) h = unbroken (codes "killed") (equation_words general target) refl (sides_printed general target h.0 h.1)
entry_unbroken (e.Live term) h = unbroken (codes "live") (term_words term) refl (term_printed term h)
entry_unbroken (e.Moved term target steps) h = unbroken (codes "moved") (equation_words term target) refl (sides_printed term target h.0 h.1)

node_unbroken : (node : TreeLine) → IsNode node → IsUnbroken (line_text (c.Node node))
node_unbroken (n.Split test count) h = unbroken (codes "split") (decimal test ∷ decimal count ∷ []) refl (number_printed test h.0, (number_printed count h.1, tt))
node_unbroken (n.Class numbers) h = unbroken (codes "class") (map decimal numbers) refl (numbers_printed numbers h.0)
node_unbroken (n.Leaf number) h = unbroken (codes "leaf") (decimal number ∷ []) refl (number_printed number h, tt)

line_unbroken : (line : CertLine) → IsCertLine line → IsUnbroken (line_text line)
line_unbroken c.Pool h = refl
line_unbroken (c.Values values) h = line_no_feed (r.Values values.sort values.values) h
line_unbroken (c.Entry entry) h = entry_unbroken entry h.0
line_unbroken (c.Step step) h =
    unbroken (codes "step") (pos_text step.pos ∷ decimal step.eq ∷ dir_text step.dir ∷ map bind_text step.binds) refl
    (pos_printed step.pos h.pos, (number_printed step.eq h.eq, (dir_printed step.dir, binds_printed step.binds h.binds)))
line_unbroken (c.Tree sort) h = unbroken (codes "tree") (sort ∷ []) refl ((clean_name sort h).printed, tt)
line_unbroken (c.Node node) h = node_unbroken node h
line_unbroken c.End h = refl

-- The lines of a text are told by it.
pub text_first : (line : List ℕ) (lines : List (List ℕ)) → text_of (line ∷ lines) ≡ line ++ 10 ∷ text_of lines
text_first line lines = append_assoc line (10 ∷ []) (text_of lines)

one_text : (xs ys : List (List ℕ)) → AllByRecursion IsUnbroken xs → AllByRecursion IsUnbroken ys → text_of xs ≡ text_of ys → xs ≡ ys
one_text [] [] h g same = refl
one_text [] (y ∷ ys) h g same = absurd (nothing_else y (text_of ys) (same ∙ text_first y ys))
one_text (x ∷ xs) [] h g same = absurd (nothing_else x (text_of xs) (sym same ∙ text_first x xs))
one_text (x ∷ xs) (y ∷ ys) h g same =
    let q = same_line x y (text_of xs) (text_of ys) h.0 g.0 (sym (text_first x xs) ∙ same ∙ text_first y ys) in
    ap (λ z. z ∷ xs) q.0 ∙ ap (λ zs. y ∷ zs) (one_text xs ys h.1 g.1 q.1)

-- Nothing of a signature stands behind its `end`.
pub over : (stage : Stage) (k : Key) → stage.last ≡ Some key.End → allows stage k ≡ true → ⊥
over stage k last may = by stage.last last may
  where
    by : (l : Option Key) → l ≡ Some key.End → allows (record { version = stage.version; given = stage.given; last = l }) k ≡ true → ⊥
    by l h g = let f = subst (λ o. allows (record { version = stage.version; given = stage.given; last = o }) k ≡ true) h g in absurd (cc)

pub one_front : (stage : Stage) (xs ys : List RawLine) (us vs : List (List ℕ)) → IsWholeFrom stage xs → IsWholeFrom stage ys → map line_spelling xs ++ us ≡ map line_spelling ys ++ vs → (xs ≡ ys) × (us ≡ vs)
one_front stage [] [] us vs h g same = (refl, same)
one_front stage [] (y ∷ ys) us vs h g same = absurd (over stage (line_key y) h.1 g.0.0)
one_front stage (x ∷ xs) [] us vs h g same = absurd (over stage (line_key x) g.1 h.0.0)
one_front stage (x ∷ xs) (y ∷ ys) us vs h g same =
    let first : line_spelling x ≡ line_spelling y = cc in
    let more : map line_spelling xs ++ us ≡ map line_spelling ys ++ vs = cc in
    let f = one_line stage.version x y h.0.1 g.0.1 h.2.0 g.2.0 first in
    let s = ap (stage_after stage) (sym f) in
    let q = one_front (stage_after stage y) xs ys us vs (subst (λ t. InOrder t xs) (sym s) h.0.2, subst (λ t. (stage_behind t xs).last ≡ Some key.End) (sym s) h.1, h.2.1) (g.0.2, g.1, g.2.1) more in
    (ap (λ t. t ∷ xs) f ∙ ap (λ ts. y ∷ ts) q.0, q.1)

-- the lines behind the signature are spelled by the grammar
all_lines : (A : Type 0) (P : A → Type 0) (lines : A → List CertLine) → ((x : A) → P x → AllByRecursion IsCertLine (lines x)) → (xs : List A) → AllByRecursion P xs → AllByRecursion IsCertLine (flat_map lines xs)
all_lines A P lines each [] h = tt
all_lines A P lines each (x ∷ xs) h = all_join CertLine IsCertLine (lines x) (flat_map lines xs) (each x h.0) (all_lines A P lines each xs h.1)

all_map : (A : Type 0) (P : A → Type 0) (line : A → CertLine) → ((x : A) → P x → IsCertLine (line x)) → (xs : List A) → AllByRecursion P xs → AllByRecursion IsCertLine (map line xs)
all_map A P line each [] h = tt
all_map A P line each (x ∷ xs) h = (each x h.0, all_map A P line each xs h.1)

pool_valid : (pool : List RawValues) → IsPool pool → AllByRecursion IsCertLine (pool_read pool)
pool_valid pool h = (tt, all_map RawValues IsValues c.Values (λ x g. g) pool h.each)

steps_valid : (steps : List RawStep) → AllByRecursion IsStep steps → AllByRecursion IsCertLine (map c.Step steps)
steps_valid steps h = all_map RawStep IsStep c.Step (λ x g. g) steps h

entry_valid : (entry : Entry) → IsEntry entry → AllByRecursion IsCertLine (entry_read entry)
entry_valid (e.Law number mark left right) h = ((h, refl), tt)
entry_valid (e.Lemma number left right steps) h = (((h.0, h.1, h.2, tt), refl), steps_valid steps h.3)
entry_valid (e.Spread term) h = ((h, refl), tt)
entry_valid (e.Killed general target steps) h = (((h.0, h.1, tt), refl), steps_valid steps h.2)
entry_valid (e.Live term) h = ((h, refl), tt)
entry_valid (e.Moved term target steps) h = (((h.0, h.1, tt), refl), steps_valid steps h.2)

tree_valid : (tree : SortTree) → IsTree tree → AllByRecursion IsCertLine (tree_read tree)
tree_valid tree h = (h.sort, all_map TreeLine IsNode c.Node (λ x g. g) tree.lines h.each)

pub body_valid : (cert : Cert) → IsCertText cert → AllByRecursion IsCertLine (read_of (d.Over cert.pools cert.entries cert.trees))
body_valid cert h =
    all_join CertLine IsCertLine (flat_map pool_read cert.pools) (flat_map entry_read cert.entries ++ (flat_map tree_read cert.trees ++ c.End ∷ [])) (all_lines (List RawValues) IsPool pool_read pool_valid cert.pools h.pools.each)
    (all_join CertLine IsCertLine (flat_map entry_read cert.entries) (flat_map tree_read cert.trees ++ c.End ∷ []) (all_lines Entry IsEntry entry_read entry_valid cert.entries h.entries)
    (all_join CertLine IsCertLine (flat_map tree_read cert.trees) (c.End ∷ []) (all_lines SortTree IsTree tree_read tree_valid cert.trees h.trees) (tt, tt)))

-- the lines of a certificate
abbrev pub all_of : Cert → List (List ℕ)
all_of cert = head_text ∷ (map line_spelling cert.sig ++ body_lines (d.Over cert.pools cert.entries cert.trees))

pub lines_are : (cert : Cert) → cert_lines cert ≡ all_of cert
lines_are cert = ap (λ l. head_text ∷ (map line_spelling cert.sig ++ l)) (sym (body_text cert.pools cert.entries cert.trees))

sig_unbroken : (sig : List RawLine) → AllByRecursion (IsLine Kept) sig → AllByRecursion IsUnbroken (map line_spelling sig)
sig_unbroken [] h = tt
sig_unbroken (line ∷ sig) h = (line_no_feed line h.0, sig_unbroken sig h.1)

body_unbroken : (lines : List CertLine) → AllByRecursion IsCertLine lines → AllByRecursion IsUnbroken (map line_text lines)
body_unbroken [] h = tt
body_unbroken (line ∷ lines) h = (line_unbroken line h.0, body_unbroken lines h.1)

pub all_unbroken : (cert : Cert) → IsCertText cert → AllByRecursion IsUnbroken (all_of cert)
all_unbroken cert h = (
  refl,
  all_join (List ℕ) IsUnbroken (map line_spelling cert.sig) (body_lines (d.Over cert.pools cert.entries cert.trees)) (sig_unbroken cert.sig h.sig.each)
      (body_unbroken (read_of (d.Over cert.pools cert.entries cert.trees)) (body_valid cert h)),
)

abbrev made : List RawLine → List (List RawValues) → List Entry → List SortTree → Cert
made sig pools entries trees = record { sig = sig; pools = pools; entries = entries; trees = trees }

pub one_cert : (cert other : Cert) → IsCertText cert → IsCertText other → cert_spelling cert ≡ cert_spelling other → cert ≡ other
one_cert cert other h g same =
    let t = one_text (all_of cert) (all_of other) (all_unbroken cert h) (all_unbroken other g) (ap text_of (sym (lines_are cert)) ∙ same ∙ ap text_of (lines_are other)) in
    let q = one_front start cert.sig other.sig (body_lines (d.Over cert.pools cert.entries cert.trees)) (body_lines (d.Over other.pools other.entries other.trees)) (whole_of cert.sig h.sig) (whole_of other.sig g.sig) (behind t) in
    let b = one_body cert.pools other.pools cert.entries other.entries cert.trees other.trees h.pools g.pools h.trees g.trees
    (one_cert_lines (read_of (d.Over cert.pools cert.entries cert.trees)) (read_of (d.Over other.pools other.entries other.trees)) (body_valid cert h) (body_valid other g) q.1) in
    ap (λ z. made z cert.pools cert.entries cert.trees) q.0 ∙ ap (λ z. made other.sig z cert.entries cert.trees) b.0 ∙ ap (λ z. made other.sig other.pools z cert.trees) b.1
    ∙ ap (λ z. made other.sig other.pools other.entries z) b.2
  where
    behind : {x : List ℕ} {xs ys : List (List ℕ)} → x ∷ xs ≡ x ∷ ys → xs ≡ ys
    behind e = cc

-- Law lists.
law_unbroken : (entry : Entry) → IsPlainLaw entry → IsUnbroken (line_text (c.Entry entry))
law_unbroken (e.Law number mark left right) h =
    unbroken (codes "law") (decimal number ∷ mark_text mark ∷ equation_words left right) refl (number_printed number h.0, (mark_printed mark, sides_printed left right h.2 h.3))
law_unbroken (e.Lemma number left right steps) h = absurd h
law_unbroken (e.Spread term) h = absurd h
law_unbroken (e.Killed general target steps) h = absurd h
law_unbroken (e.Live term) h = absurd h
law_unbroken (e.Moved term target steps) h = absurd h

-- what a law list has behind its signature, each line with a reading of its own and no line feed
record IsListLine (line : CertLine) : Type 0 where
  loose : IsLoose line
  whole : IsUnbroken (line_text line)

list_line : (line : CertLine) → IsCertLine line → IsListLine line
list_line line h = record { loose = loose line h; whole = line_unbroken line h }

law_lines : (laws : List Entry) → AllByRecursion IsPlainLaw laws → AllByRecursion IsListLine (flat_map entry_read laws)
law_lines [] h = tt
law_lines (e.Law number mark left right ∷ laws) h =
    (record { loose = ((h.0.0, h.0.2, h.0.3), refl); whole = law_unbroken (e.Law number mark left right) h.0 }, law_lines laws h.1)
law_lines (e.Lemma number left right steps ∷ laws) h = absurd h.0
law_lines (e.Spread term ∷ laws) h = absurd h.0
law_lines (e.Killed general target steps ∷ laws) h = absurd h.0
law_lines (e.Live term ∷ laws) h = absurd h.0
law_lines (e.Moved term target steps ∷ laws) h = absurd h.0

cert_list_lines : (lines : List CertLine) → AllByRecursion IsCertLine lines → AllByRecursion IsListLine lines
cert_list_lines [] h = tt
cert_list_lines (line ∷ lines) h = (list_line line h.0, cert_list_lines lines h.1)

list_body : (list : LawList) → IsListText list → AllByRecursion IsListLine (read_of (d.Over list.pools list.laws []))
list_body list h =
    all_join CertLine IsListLine (flat_map pool_read list.pools) (flat_map entry_read list.laws ++ c.End ∷ [])
    (cert_list_lines (flat_map pool_read list.pools) (all_lines (List RawValues) IsPool pool_read pool_valid list.pools h.pools.each))
    (all_join CertLine IsListLine (flat_map entry_read list.laws) (c.End ∷ []) (law_lines list.laws h.laws) (list_line c.End tt, tt))

all_loose_of : (lines : List CertLine) → AllByRecursion IsListLine lines → AllByRecursion IsLoose lines
all_loose_of [] h = tt
all_loose_of (line ∷ lines) h = (h.0.loose, all_loose_of lines h.1)

all_whole_of : (lines : List CertLine) → AllByRecursion IsListLine lines → AllByRecursion IsUnbroken (map line_text lines)
all_whole_of [] h = tt
all_whole_of (line ∷ lines) h = (h.0.whole, all_whole_of lines h.1)

abbrev list_of : LawList → List (List ℕ)
list_of list = codes "lawlist 1" ∷ (map line_spelling list.sig ++ body_lines (d.Over list.pools list.laws []))

list_are : (list : LawList) → list_lines list ≡ list_of list
list_are list = ap (λ l. codes "lawlist 1" ∷ (map line_spelling list.sig ++ l)) (sym (body_text list.pools list.laws []))

list_unbroken : (list : LawList) → IsListText list → AllByRecursion IsUnbroken (list_of list)
list_unbroken list h = (
  refl,
  all_join (List ℕ) IsUnbroken (map line_spelling list.sig) (body_lines (d.Over list.pools list.laws [])) (sig_unbroken list.sig h.sig.each)
      (all_whole_of (read_of (d.Over list.pools list.laws [])) (list_body list h)),
)

abbrev list_made : List RawLine → List (List RawValues) → List Entry → LawList
list_made sig pools laws = record { sig = sig; pools = pools; laws = laws }

pub one_list : (list other : LawList) → IsListText list → IsListText other → list_spelling list ≡ list_spelling other → list ≡ other
one_list list other h g same =
    let t = one_text (list_of list) (list_of other) (list_unbroken list h) (list_unbroken other g) (ap text_of (sym (list_are list)) ∙ same ∙ ap text_of (list_are other)) in
    let q = one_front start list.sig other.sig (body_lines (d.Over list.pools list.laws [])) (body_lines (d.Over other.pools other.laws [])) (whole_of list.sig h.sig) (whole_of other.sig g.sig) (behind t) in
    let b = one_body list.pools other.pools list.laws other.laws [] [] h.pools g.pools tt tt
    (one_loose_lines (read_of (d.Over list.pools list.laws [])) (read_of (d.Over other.pools other.laws [])) (all_loose_of (read_of (d.Over list.pools list.laws [])) (list_body list h)) (all_loose_of (read_of (d.Over other.pools other.laws [])) (list_body other g)) q.1) in
    ap (λ z. list_made z list.pools list.laws) q.0 ∙ ap (λ z. list_made other.sig z list.laws) b.0 ∙ ap (λ z. list_made other.sig other.pools z) b.1
  where
    behind : {x : List ℕ} {xs ys : List (List ℕ)} → x ∷ xs ≡ x ∷ ys → xs ≡ ys
    behind e = cc
