-- A certificate by its names: what its text states over a signature. A term with a name that isn't declared has no sort, so
-- the rule that asks for it fails.
use Rattle.std.specs.Prelude.{◌≡◌, ℕ, suc, List, [], ◌∷◌, ◌⊎◌, length, map, if◌then◌else◌, unwrap_or}
use Rattle.law_sig.specs.Trees.{same_sort, joined}
use Rattle.law_sig.specs.Tests.{Pools}
use Rattle.law_sig.specs.declared.tree.SortId.{SortId}
use Rattle.law_sig.specs.declared.tree.Tree.{Tree}
use Rattle.law_sig.specs.declared.tree.Tree.TheVariants.{Var}
use Rattle.law_sig.specs.declared.parts.SigParts.{SigParts}
use Rattle.law_lines.specs.declared.raw.RawTerm.{RawTerm}
use Rattle.law_cert_text.specs.declared.cert.RawBind.{RawBind}
use Rattle.law_cert_text.specs.declared.cert.RawStep.{RawStep}
use Rattle.law_cert_text.specs.declared.cert.RawValues.{RawValues}
use Rattle.law_cert_text.specs.declared.cert.Entry.{Entry as Written}
use Rattle.law_cert_text.specs.declared.cert.Entry.TheVariants as w
use Rattle.law_cert_text.specs.declared.cert.TreeLine.{TreeLine}
use Rattle.law_cert_text.specs.declared.cert.TreeLine.TheVariants as line
use Rattle.law_cert_text.specs.declared.cert.SortTree.{SortTree as WrittenTree}
use Rattle.law_cert_text.specs.declared.cert.Cert.{Cert}
use Rattle.law_typing.specs.Names.{number_of}
use Rattle.law_typing.specs.Typed.{IsTypedAs}
use Rattle.law_typing.specs.TypedTerm.{tree_of}
use Rattle.law_sig.specs.declared.chain.Bind.{Bind}
use Rattle.law_valid.specs.declared.certificate.Branch.{Branch}
use Rattle.law_valid.specs.declared.certificate.Branch.TheOpen.{Branch-F}
use Rattle.law_valid.specs.declared.certificate.Branch.TheOpen as b
use Rattle.law_valid.specs.declared.certificate.Branch.TheFolds.{fold-Branch}
use Rattle.law_valid.specs.declared.certificate.Class.{Class}
use Rattle.law_valid.specs.declared.certificate.Entry.{Entry}
use Rattle.law_valid.specs.declared.certificate.Entry.TheVariants as e
use Rattle.law_valid.specs.declared.certificate.SortTree.{SortTree}
use Rattle.law_sig.specs.declared.chain.Step.{Step}
use Rattle.law_valid.specs.declared.rule.Rule.TheVariants as r
use Rattle.law_valid.specs.Valid.{IsValid}
use Rattle.law_valid.specs.Judged.{Judged}
use Rattle.law_valid.specs.declared.rule.Answer.{Answer}
use Rattle.law_valid.specs.declared.rule.Answer.TheVariants.{No}

-- Terms

-- the number of a sort, and a number that no sort has where the name isn't declared
abbrev pub sort_named : SigParts → List ℕ → SortId
sort_named parts name = record { 0 = unwrap_or (number_of parts.sort_names name) (length parts.sort_names) }

-- the term that is written so, and a variable of no declared sort where a name in it isn't declared
abbrev pub term_named : SigParts → RawTerm → Tree
term_named parts raw = unwrap_or (tree_of parts raw) (Var (record { 0 = length parts.sort_names }) 0)

-- Pools: a line of values that isn't that of the sort whose turn it is counts as one without values

abbrev pub values_named : SigParts → ℕ → RawValues → List Tree
values_named parts turn raw = if same_sort (sort_named parts raw.sort) (record { 0 = turn }) then map (term_named parts) raw.values else []

abbrev pub pool_named : SigParts → ℕ → List RawValues → List (List Tree)
pool_named parts turn [] = []
pool_named parts turn (raw ∷ raws) = values_named parts turn raw ∷ pool_named parts (suc turn) raws

abbrev pub pools_named : SigParts → List (List RawValues) → Pools
pools_named parts raws = map (pool_named parts 0) raws

-- Entries

abbrev pub bind_named : SigParts → RawBind → Bind
bind_named parts raw = record { sort = sort_named parts raw.sort; index = raw.index; term = term_named parts raw.term }

abbrev pub step_named : SigParts → RawStep → Step
step_named parts raw = record { place = raw.pos; number = raw.eq; dir = raw.dir; binds = map (bind_named parts) raw.binds }

abbrev pub entry_named : SigParts → Written → Entry
entry_named parts (w.Law number mark left right) = e.Law number (record { left = term_named parts left; right = term_named parts right })
entry_named parts (w.Lemma number left right steps) =
    e.Lemma number (record { left = term_named parts left; right = term_named parts right }) (map (step_named parts) steps)
entry_named parts (w.Spread term) = e.Spread (term_named parts term)
entry_named parts (w.Killed general target steps) =
    e.Killed (record { left = term_named parts general; right = term_named parts target }) (map (step_named parts) steps)
entry_named parts (w.Live term) = e.Live (term_named parts term)
entry_named parts (w.Moved term target steps) =
    e.Moved (record { left = term_named parts term; right = term_named parts target }) (map (step_named parts) steps)

abbrev pub entries_named : SigParts → List Written → List Entry
entries_named parts raws = map (entry_named parts) raws

-- Trees

-- the lines of a tree of terms, and of a tree of schemas, in prefix order
abbrev pub term_lines_step : Branch-F ℕ (List TreeLine) → List TreeLine
term_lines_step (b.Leaf number) = line.Leaf number ∷ []
term_lines_step (b.Split test kids) = line.Split test (length kids) ∷ joined kids

abbrev pub term_lines : Branch ℕ → List TreeLine
term_lines = fold-Branch ℕ (List TreeLine) term_lines_step

abbrev pub schema_lines_step : Branch-F Class (List TreeLine) → List TreeLine
schema_lines_step (b.Leaf class) = line.Class class.schemas ∷ term_lines class.terms
schema_lines_step (b.Split test kids) = line.Split test (length kids) ∷ joined kids

abbrev pub schema_lines : Branch Class → List TreeLine
schema_lines = fold-Branch Class (List TreeLine) schema_lines_step

-- a tree with these lines
pub record IsTreeOf (parts : SigParts) (raw : WrittenTree) (tree : SortTree) : Type 0 where
  pub sort : tree.sort ≡ sort_named parts raw.sort
  pub lines : raw.lines ≡ schema_lines tree.tree

abbrev pub AreTreesOf : SigParts → List WrittenTree → List SortTree → Type 0
AreTreesOf parts [] [] = Unit {0}
AreTreesOf parts [] (tree ∷ trees) = ⊥
AreTreesOf parts (raw ∷ raws) [] = ⊥
AreTreesOf parts (raw ∷ raws) (tree ∷ trees) = IsTreeOf parts raw tree × AreTreesOf parts raws trees

-- Certificates

-- what a certificate states: a signature, and trees
pub record Meaning (cert : Cert) : Type 0 where
  pub parts : SigParts
  pub typed : IsTypedAs cert.sig parts
  pub trees : List SortTree
  pub trees_are : AreTreesOf parts cert.trees trees

-- it states something that is valid
pub record IsValidCert (cert : Cert) : Type 0 where
  pub means : Meaning cert
  pub valid : IsValid means.parts (pools_named means.parts cert.pools) (entries_named means.parts cert.entries) means.trees

-- what a checker answers of it: where its lines state no signature, the first rule fails
abbrev pub JudgedCert : Cert → Answer → Type 0
JudgedCert cert a = ((m : Meaning cert) × Judged m.parts (pools_named m.parts cert.pools) (entries_named m.parts cert.entries) m.trees a)
    ⊎ (((parts : SigParts) → IsTypedAs cert.sig parts → ⊥) × (a ≡ No r.V1 0))
