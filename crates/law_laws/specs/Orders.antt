-- Laws of the orders of terms.
use Rattle.std.specs.Prelude.{◌≡◌, ℕ, suc, ◌<◌, ◌≤◌, List, ◌∷◌, ◌++◌}
use Rattle.std.specs.declared.cmp.Ordering.TheVariants.{Less, Equal, Greater}
use Rattle.std.specs.declared.cmp.Ordering.{Ordering}
use Rattle.std.specs.Ordering.{nat_cmp, ordering_then}
use Rattle.std.specs.Cmp.Lexicographic.{slice_cmp}
use Rattle.std.specs.Cmp.{IsTotalOrder}
use Rattle.law_sig.specs.Signature.{weight_at}
use Rattle.law_sig.specs.Trees.{schema_of}
use Rattle.law_sig.specs.Tests.{weight}
use Rattle.law_sig.specs.Order.{compare_k, explore_cmp, IsBefore}
use Rattle.law_sig.specs.declared.tree.SymId.{SymId}
use Rattle.law_sig.specs.declared.tree.Tree.{Tree}
use Rattle.law_sig.specs.declared.tree.Tree.TheOpen.{Tree-F}
use Rattle.law_sig.specs.declared.tree.Tree.TheOpen as o
use Rattle.law_sig.specs.declared.tree.Tree.TheVariants.{App}
use Rattle.law_sig.specs.declared.tree.Tree.TheViews.{out-Tree}
use Rattle.law_sig.specs.declared.parts.SigParts.{SigParts}

-- two heads: a variable before a symbol, variables by sort and then index, symbols by number and then by their arguments
-- from left to right
abbrev pub compare_heads : SigParts → Tree-F Tree → Tree-F Tree → Ordering
compare_heads parts (o.Var s i) (o.Var u j) = ordering_then (nat_cmp s.0 u.0) (nat_cmp i j)
compare_heads parts (o.Var s i) (o.App g ts) = Less
compare_heads parts (o.App f ss) (o.Var u j) = Greater
compare_heads parts (o.App f ss) (o.App g ts) = ordering_then (nat_cmp f.0 g.0) (slice_cmp (compare_k parts) ss ts)

-- the order K compares the weights, and then the heads; the order of exploring compares the schemas by K, and then the terms
pub record IsSpelled (parts : SigParts) (s t : Tree) : Type 0 where
  pub k : compare_k parts s t ≡ ordering_then (nat_cmp (weight parts s) (weight parts t)) (compare_heads parts (out-Tree s) (out-Tree t))
  pub exploring : explore_cmp parts s t ≡ ordering_then (compare_k parts (schema_of s) (schema_of t)) (compare_k parts s t)

abbrev pub OrdersAreSpelled : Type 0
OrdersAreSpelled = (parts : SigParts) (s t : Tree) → IsSpelled parts s t

-- what weighs less stands before, and what stands before weighs no more
pub record FollowsWeight (parts : SigParts) (s t : Tree) : Type 0 where
  pub lighter : weight parts s < weight parts t → IsBefore parts s t
  pub before : IsBefore parts s t → weight parts s ≤ weight parts t

abbrev pub ExploringFollowsWeight : Type 0
ExploringFollowsWeight = (parts : SigParts) (s t : Tree) → FollowsWeight parts s t

-- both orders are total
pub record AreTotal (parts : SigParts) : Type 0 where
  pub k : IsTotalOrder (compare_k parts)
  pub exploring : IsTotalOrder (explore_cmp parts)

abbrev pub OrdersAreTotal : Type 0
OrdersAreTotal = (parts : SigParts) → AreTotal parts

-- two terms are equal in either order only if they are the same
pub record TellTerms (parts : SigParts) (s t : Tree) : Type 0 where
  pub k : compare_k parts s t ≡ Equal → s ≡ t
  pub exploring : explore_cmp parts s t ≡ Equal → s ≡ t

abbrev pub EqualIsSame : Type 0
EqualIsSame = (parts : SigParts) (s t : Tree) → TellTerms parts s t

-- an argument replaced by one that stands before it makes the term stand before what it was, in either order
pub record Falls (parts : SigParts) (f : SymId) (before after : List Tree) (s t : Tree) : Type 0 where
  pub k : compare_k parts s t ≡ Less → compare_k parts (App f (before ++ s ∷ after)) (App f (before ++ t ∷ after)) ≡ Less
  pub exploring : IsBefore parts s t → IsBefore parts (App f (before ++ s ∷ after)) (App f (before ++ t ∷ after))

abbrev pub FallsWithArgument : Type 0
FallsWithArgument = (parts : SigParts) (f : SymId) (before after : List Tree) (s t : Tree) → Falls parts f before after s t

-- every symbol weighs at least 1
abbrev pub WeighsSomething : SigParts → Type 0
WeighsSomething parts = (f : SymId) → 1 ≤ weight_at parts f

-- no sequence of terms goes on forever, each standing before the last, where every symbol weighs something
abbrev pub DescentsEnd : Type 0
DescentsEnd = (parts : SigParts) → WeighsSomething parts → (terms : ℕ → Tree) → (n : ℕ) × (IsBefore parts (terms (suc n)) (terms n) → ⊥)
