-- What the cells of a bank mean: each is a tree over the trees of earlier cells.
use Rattle.std.specs.Prelude.{◌≡◌, ℕ, ◌<◌, ◌^◌, ◌-◌, Bool, ◌==◌, ◌&&◌, List, [], ◌∷◌, ◌++◌, length, min, Some, slice_get}
use Rattle.std.specs.Cmp.Lexicographic.{pointwise}
use Rattle.law_sig.specs.Lists.{Each}
use Rattle.law_sig.specs.Trees.{node_count}
use Rattle.law_sig.specs.declared.tree.SymId.{SymId}
use Rattle.law_sig.specs.declared.tree.Tree.{Tree}
use Rattle.law_sig.specs.declared.tree.Tree.TheVariants.{App}
use Rattle.law_ids.specs.declared.ids.ValueId.{ValueId}
use Rattle.law_value.specs.declared.bank.Cell.{Cell}
use Rattle.law_ids.specs.Values.{trees_of, IsShared}

-- the tree of a cell, whose fields are ids of these trees
abbrev pub tree_in : List Tree → Cell → Tree
tree_in bank cell = App cell.sym (trees_of bank cell.fields.items)

-- the trees, and after them those of the cells, each over those before it
abbrev pub trees_after : List Tree → List Cell → List Tree
trees_after bank [] = bank
trees_after bank (cell ∷ cells) = trees_after (bank ++ tree_in bank cell ∷ []) cells

abbrev pub trees : List Cell → List Tree
trees cells = trees_after [] cells

-- whether two ids are one, and whether a cell has this symbol and these fields
abbrev pub same_id : ValueId → ValueId → Bool
same_id v w = v.0 == w.0

abbrev pub has_parts : SymId → List ValueId → Cell → Bool
has_parts f ids cell = f.0 == cell.sym.0 && pointwise same_id ids cell.fields.items

-- the cell at a place: its fields are earlier, and its number of nodes is that of its tree
pub record IsCell (bank : List Tree) (at : ℕ) (cell : Cell) : Type 0 where
  pub tree : slice_get bank at ≡ Some (tree_in bank cell)
  pub earlier : Each (λ (v : ValueId). v.0 < at) cell.fields.items
  pub few : length cell.fields.items < 2 ^ 32
  pub nodes : cell.nodes ≡ min (node_count (tree_in bank cell)) (2 ^ 64 - 1)

-- the cells of a bank
pub record AreCells (cells : List Cell) (bank : List Tree) : Type 0 where
  pub one_each : length bank ≡ length cells
  pub each : (at : ℕ) (cell : Cell) → slice_get cells at ≡ Some cell → IsCell bank at cell
  pub shared : IsShared bank
