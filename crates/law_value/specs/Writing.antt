-- What is left to do while a value is written as a tree.
use Rattle.std.specs.Prelude.{◌≡◌, ℕ, ◌+◌, ◌*◌, ◌<◌, List, [], ◌∷◌, length, take, drop, Some}
use Rattle.law_sig.specs.Lists.{Each}
use Rattle.law_sig.specs.Trees.{node_count}
use Rattle.law_sig.specs.declared.tree.SymId.{SymId}
use Rattle.law_sig.specs.declared.tree.Tree.{Tree}
use Rattle.law_sig.specs.declared.tree.Tree.TheVariants.{App}
use Rattle.law_value.specs.declared.bank.Part.{Part}
use Rattle.law_value.specs.declared.bank.Part.TheVariants as part
use Rattle.law_ids.specs.Tops.{tops}
use Rattle.law_ids.specs.Values.{IsOf, tree_of, head_of, fields_of}

-- a tree that is to be written, or a symbol that takes so many of the trees that are
pub data Piece : Type 0 where
  whole : Tree → Piece
  join : SymId → ℕ → Piece

abbrev pub piece_of : List Tree → Part → Piece
piece_of bank (part.Whole v) = whole (tree_of bank v)
piece_of bank (part.Join f count) = join f count

abbrev pub pieces : List Tree → List Part → List Piece
pieces bank parts = tops (piece_of bank) parts

abbrev pub IsPartOf : List Tree → Part → Type 0
IsPartOf bank (part.Whole v) = IsOf bank v
IsPartOf bank (part.Join f count) = Unit {0}

-- the trees that are written in the end; the last one written stands first
abbrev pub completed : List Piece → List Tree → List Tree
completed [] done = done
completed (whole tree ∷ more) done = completed more (tree ∷ done)
completed (join f count ∷ more) done = completed more (App f (take count done) ∷ drop count done)

-- these trees are to be written too, the last of them first
abbrev pub wholes_onto : List Tree → List Piece → List Piece
wholes_onto [] more = more
wholes_onto (tree ∷ trees) more = wholes_onto trees (whole tree ∷ more)

-- how many steps are left at most
abbrev pub steps_of : List Piece → ℕ
steps_of [] = 0
steps_of (whole tree ∷ more) = 2 * node_count tree + steps_of more
steps_of (join f count ∷ more) = 1 + steps_of more

-- a tree gave way to its fields, which are to be joined
pub record IsOpened (tree : Tree) (old new : List Piece) : Type 0 where
  pub head : SymId
  pub named : head_of tree ≡ Some head
  pub is : new ≡ wholes_onto (fields_of tree) (join head (length (fields_of tree)) ∷ old)

-- what is left completes the same trees as before, in fewer steps
pub record IsAdvanced (bank : List Tree) (old : List Piece) (done : List Tree) (parts : List Part) (done' : List Tree) : Type 0 where
  pub held : Each (IsPartOf bank) (tops (λ p. p) parts)
  pub same : completed (pieces bank parts) done' ≡ completed old done
  pub falls : steps_of (pieces bank parts) < steps_of old

-- while a value is written: the parts are of the bank, and complete its tree
pub record IsWriting (bank : List Tree) (tree : Tree) (parts : List Part) (done : List Tree) : Type 0 where
  pub held : Each (IsPartOf bank) (tops (λ p. p) parts)
  pub rest : completed (pieces bank parts) done ≡ tree ∷ []
