-- The orders of terms. A term's rank spells out what is compared, from the left: so the order K compares the weight, then
-- the head (a variable below a symbol, variables by sort and then index, symbols by number), then the arguments from left
-- to right by K; and the order of exploring compares the schemas by K, and then the terms.
use Rattle.std.specs.Prelude.{◌≡◌, ℕ, List, [], ◌∷◌, map}
use Rattle.std.specs.declared.cmp.Ordering.{Ordering}
use Rattle.std.specs.declared.cmp.Ordering.TheVariants.{Less, Greater}
use Rattle.std.specs.Ordering.{nat_cmp, ordering_then}
use Rattle.law_sig.specs.Trees.{schema_of}
use Rattle.law_sig.specs.Tests.{weight}
use Rattle.law_sig.specs.declared.tree.Tree.{Tree}
use Rattle.law_sig.specs.declared.tree.Tree.TheOpen.{Tree-F}
use Rattle.law_sig.specs.declared.tree.Tree.TheOpen as o
use Rattle.law_sig.specs.declared.tree.Tree.TheVariants.{App}
use Rattle.law_sig.specs.declared.tree.Tree.TheFolds.{para-Tree}
use Rattle.law_sig.specs.declared.parts.SigParts.{SigParts}

-- what is compared: a number, or one thing and then another
pub data Rank : Type 0 where
  num : ℕ → Rank
  pair : Rank → Rank → Rank

abbrev pub rank_cmp : Rank → Rank → Ordering
rank_cmp (num a) (num b) = nat_cmp a b
rank_cmp (num a) (pair c d) = Less
rank_cmp (pair a b) (num c) = Greater
rank_cmp (pair a b) (pair c d) = ordering_then (rank_cmp a c) (rank_cmp b d)

-- one rank after another
abbrev pub row : List Rank → Rank
row [] = num 0
row (first ∷ others) = pair first (row others)

-- a weight, a kind of head (variables are 0, symbols 1), the number of the sort or symbol, and the rest
abbrev pub ranked : ℕ → ℕ → ℕ → Rank → Rank
ranked total kind number rest = pair (num total) (pair (num kind) (pair (num number) rest))

abbrev pub rank_step : SigParts → Tree-F (Tree × Rank) → Rank
rank_step parts (o.Var sort index) = ranked 1 0 sort.0 (num index)
rank_step parts (o.App head args) = ranked (weight parts (App head (map (λ a. a.0) args))) 1 head.0 (row (map (λ a. a.1) args))

abbrev pub rank : SigParts → Tree → Rank
rank parts = para-Tree Rank (rank_step parts)

-- the order K
abbrev pub compare_k : SigParts → Tree → Tree → Ordering
compare_k parts s t = rank_cmp (rank parts s) (rank parts t)

-- the order of exploring
abbrev pub explore_rank : SigParts → Tree → Rank
explore_rank parts t = pair (rank parts (schema_of t)) (rank parts t)

abbrev pub explore_cmp : SigParts → Tree → Tree → Ordering
explore_cmp parts s t = rank_cmp (explore_rank parts s) (explore_rank parts t)

-- s stands before t
abbrev pub IsBefore : SigParts → Tree → Tree → Type 0
IsBefore parts s t = explore_cmp parts s t ≡ Less
