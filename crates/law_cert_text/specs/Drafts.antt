-- What was read of a certificate behind its signature, and one more line.
use Rattle.std.specs.Prelude.{◌≡◌, ℕ, zero, suc, ◌+◌, ◌*◌, ◌^◌, ◌≤◌, List, [], ◌∷◌, ◌++◌, map, length, Option, Some, None}
use Rattle.std.specs.List.{AllByRecursion, flat_map}
use Rattle.law_lines.specs.declared.want.Bounds.TheVariants.{Kept}
use Rattle.law_lines.specs.Lines.{IsName}
use Rattle.law_cert_text.specs.declared.cert.Entry.{Entry}
use Rattle.law_cert_text.specs.declared.cert.Entry.TheVariants as e
use Rattle.law_cert_text.specs.declared.cert.RawStep.{RawStep}
use Rattle.law_cert_text.specs.declared.cert.RawValues.{RawValues}
use Rattle.law_cert_text.specs.declared.cert.SortTree.{SortTree}
use Rattle.law_cert_text.specs.declared.cert.TreeLine.{TreeLine}
use Rattle.law_cert_text.specs.declared.cert.TreeLine.TheVariants.{Split, Class, Leaf}
use Rattle.law_cert_text.specs.declared.line.CertLine.{CertLine}
use Rattle.law_cert_text.specs.declared.line.CertLine.TheVariants as c
use Rattle.law_cert_text.specs.declared.draft.Draft.{Draft}
use Rattle.law_cert_text.specs.declared.draft.Draft.TheVariants as d
use Rattle.law_cert_text.specs.declared.draft.Owed.{Owed}
use Rattle.law_cert_text.specs.Spelling.{steps_of}
use Rattle.law_cert_text.specs.CertLines.{IsCertLine}
use Rattle.law_cert_text.specs.Certificates.{ArePools, AreTrees, IsEntry, IsNode, IsPool, IsTree, IsValues}

-- the lines of each part
abbrev pub bare : Entry → Entry
bare (e.Law number mark left right) = e.Law number mark left right
bare (e.Lemma number left right steps) = e.Lemma number left right []
bare (e.Spread term) = e.Spread term
bare (e.Killed general target steps) = e.Killed general target []
bare (e.Live term) = e.Live term
bare (e.Moved term target steps) = e.Moved term target []

abbrev pub pool_read : List RawValues → List CertLine
pool_read pool = c.Pool ∷ map c.Values pool

abbrev pub entry_read : Entry → List CertLine
entry_read entry = c.Entry (bare entry) ∷ map c.Step (steps_of entry)

abbrev pub tree_read : SortTree → List CertLine
tree_read tree = c.Tree tree.sort ∷ map c.Node tree.lines

abbrev pub read_of : Draft → List CertLine
read_of d.Start = []
read_of (d.Pools pools pool) = flat_map pool_read pools ++ pool_read pool
read_of (d.Entries pools entries entry) = flat_map pool_read pools ++ (flat_map entry_read entries ++ entry_read entry)
read_of (d.Trees pools entries trees tree owed) = flat_map pool_read pools ++ (flat_map entry_read entries ++ (flat_map tree_read trees ++ tree_read tree))
read_of (d.Over pools entries trees) = flat_map pool_read pools ++ (flat_map entry_read entries ++ (flat_map tree_read trees ++ c.End ∷ []))

-- what is owed behind a line of a tree
abbrev pub owes : ℕ → ℕ → Owed
owes sorts terms = record { sorts = sorts; terms = terms }

abbrev pub paid_by : ℕ → ℕ → TreeLine → Option Owed
paid_by sorts (suc terms) (Leaf number) = Some (owes sorts terms)
paid_by sorts (suc terms) (Split test count) = Some (owes sorts (terms + count))
paid_by (suc sorts) zero (Class numbers) = Some (owes sorts 1)
paid_by (suc sorts) zero (Split test count) = Some (owes (sorts + count) zero)
paid_by sorts terms node = None

abbrev pub paid : Owed → TreeLine → Option Owed
paid owed node = paid_by owed.sorts owed.terms node

abbrev pub planted : List ℕ → SortTree
planted sort = record { sort = sort; lines = [] }

-- A further tree, or the end.
abbrev pub behind_trees : List (List RawValues) → List Entry → List SortTree → CertLine → Option Draft
behind_trees pools entries trees (c.Tree sort) = Some (d.Trees pools entries trees (planted sort) (owes 1 0))
behind_trees pools entries trees c.End = Some (d.Over pools entries trees)
behind_trees pools entries trees line = None

abbrev pub behind_pools : List (List RawValues) → CertLine → Option Draft
behind_pools pools c.Pool = Some (d.Pools pools [])
behind_pools pools (c.Entry entry) = Some (d.Entries pools [] entry)
behind_pools pools line = behind_trees pools [] [] line

-- a pool is closed where it has values
abbrev pub closed_pool : List (List RawValues) → List RawValues → CertLine → Option Draft
closed_pool pools [] line = None
closed_pool pools (values ∷ pool) line = behind_pools (pools ++ (values ∷ pool) ∷ []) line

abbrev pub pooled : List (List RawValues) → List RawValues → CertLine → Option Draft
pooled pools pool (c.Values values) = Some (d.Pools pools (pool ++ values ∷ []))
pooled pools pool line = closed_pool pools pool line

abbrev pub with_step : Entry → RawStep → Option Entry
with_step (e.Lemma number left right steps) step = Some (e.Lemma number left right (steps ++ step ∷ []))
with_step (e.Killed general target steps) step = Some (e.Killed general target (steps ++ step ∷ []))
with_step (e.Moved term target steps) step = Some (e.Moved term target (steps ++ step ∷ []))
with_step entry step = None

abbrev pub stepped : List (List RawValues) → List Entry → Option Entry → Option Draft
stepped pools entries None = None
stepped pools entries (Some entry) = Some (d.Entries pools entries entry)

abbrev pub entered : List (List RawValues) → List Entry → Entry → CertLine → Option Draft
entered pools entries entry (c.Step step) = stepped pools entries (with_step entry step)
entered pools entries entry (c.Entry next) = Some (d.Entries pools (entries ++ entry ∷ []) next)
entered pools entries entry line = behind_trees pools (entries ++ entry ∷ []) [] line

abbrev pub noded : List (List RawValues) → List Entry → List SortTree → SortTree → TreeLine → Option Owed → Option Draft
noded pools entries trees tree node None = None
noded pools entries trees tree node (Some owed) = Some (d.Trees pools entries trees (record { sort = tree.sort; lines = tree.lines ++ node ∷ [] }) owed)

-- a tree is closed where nothing is owed
abbrev pub closed_by : ℕ → ℕ → List (List RawValues) → List Entry → List SortTree → SortTree → CertLine → Option Draft
closed_by zero zero pools entries trees tree line = behind_trees pools entries (trees ++ tree ∷ []) line
closed_by sorts terms pools entries trees tree line = None

abbrev pub grown : List (List RawValues) → List Entry → List SortTree → SortTree → Owed → CertLine → Option Draft
grown pools entries trees tree owed (c.Node node) = noded pools entries trees tree node (paid owed node)
grown pools entries trees tree owed line = closed_by owed.sorts owed.terms pools entries trees tree line

abbrev pub started : CertLine → Option Draft
started c.Pool = Some (d.Pools [] [])
started line = None

abbrev pub with_line : Draft → CertLine → Option Draft
with_line d.Start line = started line
with_line (d.Pools pools pool) line = pooled pools pool line
with_line (d.Entries pools entries entry) line = entered pools entries entry line
with_line (d.Trees pools entries trees tree owed) line = grown pools entries trees tree owed line
with_line (d.Over pools entries trees) line = None

-- a line after the other
abbrev pub with_found : Option Draft → CertLine → Option Draft
with_found None line = None
with_found (Some draft) line = with_line draft line

abbrev pub runs : Option Draft → List CertLine → Option Draft
runs found [] = found
runs found (line ∷ lines) = runs (with_found found line) lines

-- A tree that was read so far: whatever pays what is owed makes it one. A line owes less than 2^63 more.
pub record IsGrowing (tree : SortTree) (owed : Owed) : Type 0 where
  pub sort : IsName Kept tree.sort
  pub each : AllByRecursion IsNode tree.lines
  pub one : (rest : List TreeLine) → AreTrees owed.sorts owed.terms rest → AreTrees 1 0 (tree.lines ++ rest)
  pub bound : owed.sorts + owed.terms ≤ 2 ^ 63 * (length tree.lines + 1)

abbrev pub IsDraft : Draft → Type 0
IsDraft d.Start = Unit {0}
IsDraft (d.Pools pools pool) = AllByRecursion IsPool pools × AllByRecursion IsValues pool
IsDraft (d.Entries pools entries entry) = ArePools pools × AllByRecursion IsEntry entries × IsEntry entry
IsDraft (d.Trees pools entries trees tree owed) = ArePools pools × AllByRecursion IsEntry entries × AllByRecursion IsTree trees × IsGrowing tree owed
IsDraft (d.Over pools entries trees) = ArePools pools × AllByRecursion IsEntry entries × AllByRecursion IsTree trees

-- What was read is a draft, and its lines, each spelled by the grammar, lead to it.
pub record IsReached (draft : Draft) : Type 0 where
  pub is : IsDraft draft
  pub each : AllByRecursion IsCertLine (read_of draft)
  pub steps : runs (Some d.Start) (read_of draft) ≡ Some draft

-- the draft with one more line
abbrev pub IsDraftWith : Draft → CertLine → Option Draft → Type 0
IsDraftWith before line None = with_line before line ≡ None
IsDraftWith before line (Some draft) = IsDraft draft × (read_of draft ≡ read_of before ++ line ∷ [])
