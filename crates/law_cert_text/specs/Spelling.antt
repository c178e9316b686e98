-- The one spelling of a certificate and of a law list, line by line.
use Rattle.std.specs.Prelude.{ℕ, List, [], ◌∷◌, ◌++◌, map, decimal, codes}
use Rattle.std.specs.List.{flat_map}
use Rattle.law_lines.specs.declared.raw.RawTerm.{RawTerm}
use Rattle.law_lines.specs.declared.raw.RawLine.{RawLine}
use Rattle.law_lines.specs.declared.raw.RawLine.TheVariants as r
use Rattle.law_lines.specs.Spelling.{arg_spelling, joined, line_spelling, term_words, text_of}
use Rattle.law_sig.specs.declared.chain.Dir.{Dir}
use Rattle.law_sig.specs.declared.chain.Dir.TheVariants.{LeftToRight, RightToLeft}
use Rattle.law_cert_text.specs.declared.cert.Mark.{Mark}
use Rattle.law_cert_text.specs.declared.cert.Mark.TheVariants.{Saturated, Spent, Aside, Plain}
use Rattle.law_cert_text.specs.declared.cert.RawBind.{RawBind}
use Rattle.law_cert_text.specs.declared.cert.RawStep.{RawStep}
use Rattle.law_cert_text.specs.declared.cert.Entry.{Entry}
use Rattle.law_cert_text.specs.declared.cert.Entry.TheVariants.{Law, Lemma, Spread, Killed, Live, Moved}
use Rattle.law_cert_text.specs.declared.cert.TreeLine.{TreeLine}
use Rattle.law_cert_text.specs.declared.cert.TreeLine.TheVariants.{Split, Class, Leaf}
use Rattle.law_cert_text.specs.declared.cert.SortTree.{SortTree}
use Rattle.law_cert_text.specs.declared.cert.RawValues.{RawValues}
use Rattle.law_cert_text.specs.declared.cert.Cert.{Cert}
use Rattle.law_cert_text.specs.declared.cert.LawList.{LawList}

abbrev pub mark_text : Mark → List ℕ
mark_text Saturated = codes "saturated"
mark_text Spent = codes "spent"
mark_text Aside = codes "aside"
mark_text Plain = codes "plain"

abbrev pub dir_text : Dir → List ℕ
dir_text LeftToRight = codes "lr"
dir_text RightToLeft = codes "rl"

-- argument numbers behind dots
abbrev pub dotted : List ℕ → List ℕ
dotted numbers = flat_map (λ n. 46 ∷ decimal n) numbers

-- `-` is the root; any other position is the argument numbers that lead there, with dots between them
abbrev pub pos_text : List ℕ → List ℕ
pos_text [] = codes "-"
pos_text (n ∷ numbers) = decimal n ++ dotted numbers

-- A variable, a space, and the term that stands in its place.
abbrev pub var_text : List ℕ → ℕ → List ℕ
var_text sort index = sort ++ 46 ∷ decimal index

abbrev pub bind_text : RawBind → List ℕ
bind_text bind = var_text bind.sort bind.index ++ 32 ∷ arg_spelling bind.term

abbrev pub step_words : RawStep → List (List ℕ)
step_words step = codes "step" ∷ pos_text step.pos ∷ decimal step.eq ∷ dir_text step.dir ∷ map bind_text step.binds

abbrev pub step_spelling : RawStep → List ℕ
step_spelling step = joined (step_words step)

abbrev pub equation_words : RawTerm → RawTerm → List (List ℕ)
equation_words left right = term_words left ++ codes "=" ∷ term_words right

-- the first line of an entry; the steps of its chain have a line each
abbrev pub entry_words : Entry → List (List ℕ)
entry_words (Law number mark left right) = codes "law" ∷ decimal number ∷ mark_text mark ∷ equation_words left right
entry_words (Lemma number left right steps) = codes "lemma" ∷ decimal number ∷ equation_words left right
entry_words (Spread term) = codes "spread" ∷ term_words term
entry_words (Killed general target steps) = codes "killed" ∷ equation_words general target
entry_words (Live term) = codes "live" ∷ term_words term
entry_words (Moved term target steps) = codes "moved" ∷ equation_words term target

abbrev pub steps_of : Entry → List RawStep
steps_of (Lemma number left right steps) = steps
steps_of (Killed general target steps) = steps
steps_of (Moved term target steps) = steps
steps_of entry = []

abbrev pub entry_spelling : Entry → List ℕ
entry_spelling entry = joined (entry_words entry)

abbrev pub entry_lines : Entry → List (List ℕ)
entry_lines entry = entry_spelling entry ∷ map step_spelling (steps_of entry)

abbrev pub node_words : TreeLine → List (List ℕ)
node_words (Split test count) = codes "split" ∷ decimal test ∷ decimal count ∷ []
node_words (Class numbers) = codes "class" ∷ map decimal numbers
node_words (Leaf number) = codes "leaf" ∷ decimal number ∷ []

abbrev pub node_spelling : TreeLine → List ℕ
node_spelling node = joined (node_words node)

abbrev pub tree_lines : SortTree → List (List ℕ)
tree_lines tree = joined (codes "tree" ∷ tree.sort ∷ []) ∷ map node_spelling tree.lines

-- The lines of a pool are those of a signature text.
abbrev pub values_line : RawValues → RawLine
values_line values = r.Values values.sort values.values

abbrev pub values_spelling : RawValues → List ℕ
values_spelling values = line_spelling (values_line values)

abbrev pub pool_lines : List RawValues → List (List ℕ)
pool_lines pool = line_spelling r.Pool ∷ map values_spelling pool

abbrev pub cert_lines : Cert → List (List ℕ)
cert_lines cert = codes "certificate 1" ∷ (map line_spelling cert.sig
    ++ (flat_map pool_lines cert.pools ++ (flat_map entry_lines cert.entries ++ (flat_map tree_lines cert.trees ++ codes "end" ∷ []))))

abbrev pub cert_spelling : Cert → List ℕ
cert_spelling cert = text_of (cert_lines cert)

abbrev pub list_lines : LawList → List (List ℕ)
list_lines list = codes "lawlist 1" ∷ (map line_spelling list.sig
    ++ (flat_map pool_lines list.pools ++ (flat_map entry_lines list.laws ++ codes "end" ∷ [])))

abbrev pub list_spelling : LawList → List ℕ
list_spelling list = text_of (list_lines list)
