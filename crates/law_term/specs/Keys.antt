-- The key by which a bank finds a node.
use Rattle.std.specs.Prelude.{◌≡◌, ℕ, List, ◌∷◌}
use denote.Bor.{Bor}
use Rattle.law_bank.specs.declared.node.Head.{Head}
use Rattle.law_bank.specs.declared.node.Head.TheVariants.{Var, Sym}
use Rattle.law_bank.specs.declared.node.Node.{Node, out-Node}
use Rattle.law_bank.specs.Terms.{ids_of}
use Rattle.law_term.specs.declared.bank.Told.{Told}

-- a head and the ids of arguments, as numbers
abbrev pub key : Head → List ℕ → List ℕ
key (Var sort index) ids = 0 ∷ sort.0 ∷ index ∷ ids
key (Sym symbol) ids = 1 ∷ symbol.0 ∷ ids

abbrev pub key_of : Node → List ℕ
key_of n = key (out-Node n).head (ids_of (out-Node n).args.now)

-- a node with this head, these arguments, and what it tells
pub record IsNode (head : Head) (args : List (Bor Node)) (told : Told) (n : Node) : Type 0 where
  pub head_is : (out-Node n).head ≡ head
  pub args_are : (out-Node n).args.now ≡ args
  pub id : (out-Node n).id ≡ told.id
  pub size : (out-Node n).size ≡ told.size
  pub weight : (out-Node n).weight ≡ told.weight
  pub sort : (out-Node n).sort ≡ told.sort
