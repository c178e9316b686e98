-- The lines of a certificate behind its signature, each by itself.
use Rattle.std.specs.Prelude.{◌≡◌, ℕ, Bool, true, false, List, [], ◌∷◌, map, Option, Some, None, codes, decimal}
use Rattle.std.specs.Str.{bytes_eq}
use Rattle.law_lines.specs.declared.want.Bounds.TheVariants.{Kept}
use Rattle.law_lines.specs.declared.raw.RawLine.TheVariants as r
use Rattle.law_lines.specs.Spelling.{arg_spelling, joined, line_spelling, spaced, term_words}
use Rattle.law_lines.specs.Lines.{IsName}
use Rattle.law_cert_text.specs.declared.cert.Entry.{Entry}
use Rattle.law_cert_text.specs.declared.cert.Entry.TheVariants as e
use Rattle.law_cert_text.specs.declared.cert.TreeLine.TheVariants as n
use Rattle.law_cert_text.specs.declared.line.CertLine.{CertLine}
use Rattle.law_cert_text.specs.declared.line.CertLine.TheVariants as c
use Rattle.law_cert_text.specs.declared.line.Key.{Key}
use Rattle.law_cert_text.specs.declared.line.Key.TheVariants as k
use Rattle.law_cert_text.specs.Spelling.{bind_text, dir_text, entry_spelling, equation_words, mark_text, node_spelling, pos_text, step_spelling, steps_of, values_spelling}
use Rattle.law_cert_text.specs.Certificates.{IsEntry, IsNode, IsStep, IsValues}

abbrev pub line_text : CertLine → List ℕ
line_text c.Pool = line_spelling r.Pool
line_text (c.Values values) = values_spelling values
line_text (c.Entry entry) = entry_spelling entry
line_text (c.Step step) = step_spelling step
line_text (c.Tree sort) = joined (codes "tree" ∷ sort ∷ [])
line_text (c.Node node) = node_spelling node
line_text c.End = codes "end"

-- The grammar spells the line. The steps of an entry have lines of their own.
abbrev pub IsCertLine : CertLine → Type 0
IsCertLine c.Pool = Unit {0}
IsCertLine (c.Values values) = IsValues values
IsCertLine (c.Entry entry) = IsEntry entry × (steps_of entry ≡ [])
IsCertLine (c.Step step) = IsStep step
IsCertLine (c.Tree sort) = IsName Kept sort
IsCertLine (c.Node node) = IsNode node
IsCertLine c.End = Unit {0}

abbrev pub key_text : Key → List ℕ
key_text k.Pool = codes "pool"
key_text k.Values = codes "values"
key_text k.Law = codes "law"
key_text k.Lemma = codes "lemma"
key_text k.Spread = codes "spread"
key_text k.Killed = codes "killed"
key_text k.Live = codes "live"
key_text k.Moved = codes "moved"
key_text k.Step = codes "step"
key_text k.Tree = codes "tree"
key_text k.Split = codes "split"
key_text k.Class = codes "class"
key_text k.Leaf = codes "leaf"
key_text k.End = codes "end"

abbrev pub later_keys : List Key
later_keys = k.Moved ∷ k.Step ∷ k.Tree ∷ k.Split ∷ k.Class ∷ k.Leaf ∷ k.End ∷ []

abbrev pub all_keys : List Key
all_keys = k.Pool ∷ k.Values ∷ k.Law ∷ k.Lemma ∷ k.Spread ∷ k.Killed ∷ k.Live ∷ later_keys

abbrev pub chosen_key : Bool → Key → Option Key → Option Key
chosen_key true key found = Some key
chosen_key false key found = found

abbrev pub key_in : List Key → List ℕ → Option Key
key_in [] bytes = None
key_in (key ∷ keys) bytes = chosen_key (bytes_eq bytes (key_text key)) key (key_in keys bytes)

-- the key that a word is
abbrev pub key_of : List ℕ → Option Key
key_of bytes = key_in all_keys bytes

abbrev pub entry_key : Entry → Key
entry_key (e.Law number mark left right) = k.Law
entry_key (e.Lemma number left right steps) = k.Lemma
entry_key (e.Spread term) = k.Spread
entry_key (e.Killed general target steps) = k.Killed
entry_key (e.Live term) = k.Live
entry_key (e.Moved term target steps) = k.Moved

abbrev pub line_key : CertLine → Key
line_key c.Pool = k.Pool
line_key (c.Values values) = k.Values
line_key (c.Entry entry) = entry_key entry
line_key (c.Step step) = k.Step
line_key (c.Tree sort) = k.Tree
line_key (c.Node (n.Split test count)) = k.Split
line_key (c.Node (n.Class numbers)) = k.Class
line_key (c.Node (n.Leaf number)) = k.Leaf
line_key c.End = k.End

abbrev pub entry_tail : Entry → List (List ℕ)
entry_tail (e.Law number mark left right) = decimal number ∷ mark_text mark ∷ equation_words left right
entry_tail (e.Lemma number left right steps) = decimal number ∷ equation_words left right
entry_tail (e.Spread term) = term_words term
entry_tail (e.Killed general target steps) = equation_words general target
entry_tail (e.Live term) = term_words term
entry_tail (e.Moved term target steps) = equation_words term target

-- what stands behind the key
abbrev pub tail_words : CertLine → List (List ℕ)
tail_words c.Pool = []
tail_words (c.Values values) = values.sort ∷ map arg_spelling values.values
tail_words (c.Entry entry) = entry_tail entry
tail_words (c.Step step) = pos_text step.pos ∷ decimal step.eq ∷ dir_text step.dir ∷ map bind_text step.binds
tail_words (c.Tree sort) = sort ∷ []
tail_words (c.Node (n.Split test count)) = decimal test ∷ decimal count ∷ []
tail_words (c.Node (n.Class numbers)) = map decimal numbers
tail_words (c.Node (n.Leaf number)) = decimal number ∷ []
tail_words c.End = []

abbrev pub tail_text : CertLine → List ℕ
tail_text line = spaced (tail_words line)

-- The bytes are the spelling of this line, or of none.
abbrev pub LineRead : List ℕ → Option CertLine → Type 0
LineRead bytes None = (line : CertLine) → IsCertLine line → line_text line ≡ bytes → ⊥
LineRead bytes (Some line) = IsCertLine line × (line_text line ≡ bytes)

-- the same of what stands behind a key
abbrev pub TailRead : Key → List ℕ → Option CertLine → Type 0
TailRead key bytes None = (line : CertLine) → IsCertLine line → line_key line ≡ key → tail_text line ≡ bytes → ⊥
TailRead key bytes (Some line) = IsCertLine line × (line_key line ≡ key) × (tail_text line ≡ bytes)
