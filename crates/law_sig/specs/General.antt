-- The most general instance of a schema, and the renaming that makes it any other term of the schema.
use Rattle.std.specs.Prelude.{◌≡◌, ℕ, length, slice_index_or}
use Rattle.law_sig.specs.Trees.{holes}
use Rattle.law_sig.specs.Tests.{first_of}
use Rattle.law_sig.specs.declared.tree.SortId.{SortId}
use Rattle.law_sig.specs.declared.tree.Tree.{Tree}

-- the variables of each sort are numbered from 0, from left to right: so a term is the most general instance of its schema
abbrev pub IsNumbered : Tree → Type 0
IsNumbered g = (sort : SortId) → holes sort g ≡ first_of (length (holes sort g)) (λ i. i)

-- the renaming that gives each index the variable at this place in the term, and leaves it where there is none
abbrev pub filling : Tree → SortId → ℕ → ℕ
filling t sort index = slice_index_or (holes sort t) index index
