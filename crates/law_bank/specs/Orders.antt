-- Terms of a bank compared: by what stands at their roots, and then by the first arguments that are different terms, which have
-- different ids.
use Rattle.std.specs.Prelude.{◌≡◌, ◌<◌, ◌-◌, ◌^◌, ◌==◌, List, [], ◌∷◌, Option, None, Some, if◌then◌else◌}
use Rattle.std.specs.declared.cmp.Ordering.{Ordering}
use Rattle.std.specs.declared.cmp.Ordering.TheVariants.{Less, Greater}
use Rattle.std.specs.Ordering.{nat_cmp, ordering_then}
use denote.Bor.{Bor}
use Rattle.law_sig.specs.Tests.{weight}
use Rattle.law_sig.specs.declared.parts.SigParts.{SigParts}
use Rattle.law_bank.specs.declared.node.Head.{Head}
use Rattle.law_bank.specs.declared.node.Head.TheVariants.{Var, Sym}
use Rattle.law_bank.specs.declared.node.Node.{Node, out-Node}
use Rattle.law_bank.specs.Terms.{tree_of, id_of}
use Rattle.law_bank.specs.Bank.{Terms, IsOf, IsShared}

-- two terms of a bank in which no tree has two ids, by a signature with its weights; and what each weighs is told exactly
pub record AreComparable (bank : Terms) (parts : SigParts) (a b : Node) : Type 0 where
  pub shared : IsShared bank
  pub weights : parts.settings.weights ≡ bank.weights
  pub left : IsOf bank a
  pub right : IsOf bank b
  pub left_light : weight parts (tree_of a) < 2 ^ 64 - 1
  pub right_light : weight parts (tree_of b) < 2 ^ 64 - 1

-- the first two arguments at one place that have different ids
abbrev pub first_other : List (Bor Node) → List (Bor Node) → Option (Bor Node × Bor Node)
first_other [] ys = None
first_other (x ∷ xs) [] = None
first_other (x ∷ xs) (y ∷ ys) = if id_of x.now == id_of y.now then first_other xs ys else Some (x, y)

-- a variable stands before a symbol, variables by sort and then index, symbols by number
abbrev pub heads_cmp : Head → Head → Ordering
heads_cmp (Var s i) (Var u j) = ordering_then (nat_cmp s.0 u.0) (nat_cmp i j)
heads_cmp (Var s i) (Sym g) = Less
heads_cmp (Sym f) (Var u j) = Greater
heads_cmp (Sym f) (Sym g) = nat_cmp f.0 g.0

-- the weights, and then the heads
abbrev pub roots_cmp : Node → Node → Ordering
roots_cmp a b = ordering_then (nat_cmp (out-Node a).weight (out-Node b).weight) (heads_cmp (out-Node a).head (out-Node b).head)

-- the head of a schema
abbrev pub flat : Head → Head
flat (Var s i) = Var s 0
flat (Sym f) = Sym f

abbrev pub flat_cmp : Node → Node → Ordering
flat_cmp a b = ordering_then (nat_cmp (out-Node a).weight (out-Node b).weight) (heads_cmp (flat (out-Node a).head) (flat (out-Node b).head))

-- in the Knuth-Bendix order symbols alone are compared: what has no symbol isn't greater
abbrev pub symbols_cmp : Head → Head → Ordering
symbols_cmp (Var s i) k = Less
symbols_cmp (Sym f) (Var u j) = Less
symbols_cmp (Sym f) (Sym g) = nat_cmp f.0 g.0

-- greater where the roots say so, not greater where they say less, and else as the arguments are
abbrev pub kbo_cmp : Node → Node → Ordering
kbo_cmp a b = ordering_then (nat_cmp (out-Node a).weight (out-Node b).weight) (symbols_cmp (out-Node a).head (out-Node b).head)
