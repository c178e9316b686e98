-- What stands at a place of a term, and the term with another one there.
use Rattle.std.specs.Prelude.{◌≡◌, ℕ, List, [], ◌∷◌, ◌++◌, map, Some, slice_get}
use denote.Bor.{Bor}
use Rattle.law_sig.specs.Lists.{Each}
use Rattle.law_sig.specs.Chains.{Rewrites}
use Rattle.law_sig.specs.declared.tree.Tree.{Tree}
use Rattle.law_bank.specs.declared.node.Node.{Node, out-Node}
use Rattle.law_bank.specs.Terms.{tree_of}
use Rattle.law_bank.specs.Bank.{Terms, IsOf, Grows}

-- the second term is the first one with the new one at the place, in place of what stood there
pub record IsReplaced (new : Tree) (place : List ℕ) (s t : Tree) : Type 0 where
  pub from : Tree
  pub rewrites : Rewrites from new place s t

-- the term has no such place
abbrev pub HasNoPlace : List ℕ → Tree → Type 0
HasNoPlace place s = (from to t : Tree) → Rewrites from to place s t → ⊥

-- this stands there: put in its own place it changes nothing
abbrev pub IsAt : Tree → List ℕ → Tree → Type 0
IsAt u place t = Rewrites u u place t t

-- The way down to a place: each term with the number of the argument in which it goes on

abbrev pub Turn : Type 0
Turn = Bor Node × ℕ

abbrev pub number_of : Turn → ℕ
number_of turn = turn.1

abbrev pub Leads : Node → List Turn → Node → Type 0
Leads top [] bottom = top ≡ bottom
Leads top (turn ∷ turns) bottom = (below : Bor Node) × (top ≡ turn.0.now) × (slice_get (out-Node turn.0.now).args.now turn.1 ≡ Some below) × Leads below.now turns bottom

pub record IsWay (top : Node) (turns : List Turn) (place : List ℕ) : Type 0 where
  pub bottom : Node
  pub leads : Leads top turns bottom
  pub numbers : map number_of turns ≡ place

abbrev pub AllTurns : Terms → List Turn → Type 0
AllTurns bank turns = Each (λ (turn : Turn). IsOf bank turn.0.now) turns

-- on the way up again: what stands where the way now ends was changed to this term, by a new one further down
pub record IsRising (start now : Terms) (top : Node) (place : List ℕ) (new : Tree) (turns : List Turn) (here : Node) : Type 0 where
  pub grows : Grows start now
  pub held : IsOf now here
  pub turns_held : AllTurns now turns
  pub bottom : Node
  pub leads : Leads top turns bottom
  pub below : List ℕ
  pub numbers : map number_of turns ++ below ≡ place
  pub is : IsReplaced new below (tree_of bottom) (tree_of here)
