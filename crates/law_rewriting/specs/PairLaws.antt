-- Laws of unifiers, of the Knuth-Bendix order, and of critical pairs.
use Rattle.std.specs.Prelude.{◌≡◌, ℕ, ◌⊎◌, List, ◌++◌, Some}
use Rattle.std.specs.declared.cmp.Ordering.TheVariants.{Less}
use Rattle.law_sig.specs.Lists.{Each}
use Rattle.law_sig.specs.Trees.{Subst, substituted}
use Rattle.law_sig.specs.Signature.{sort_of}
use Rattle.law_sig.specs.Order.{compare_k}
use Rattle.law_sig.specs.declared.tree.SortId.{SortId}
use Rattle.law_sig.specs.declared.tree.Tree.{Tree}
use Rattle.law_sig.specs.declared.parts.Equation.{Equation}
use Rattle.law_sig.specs.declared.parts.SigParts.{SigParts}
use Rattle.law_laws.specs.Derivation.{HasOneSort}
use Rattle.law_laws.specs.Orders.{WeighsSomething}
use Rattle.law_laws.specs.Renaming.{renamed}
use Rattle.law_sig.specs.declared.chain.Bind.{Bind}
use Rattle.law_sig.specs.Kbo.{Kbo}
use Rattle.law_rewriting.specs.Heads.{Sorts}
use Rattle.law_rewriting.specs.Unifiers.{IsMostGeneral, NoUnifier, AreUnifier}
use Rattle.law_rewriting.specs.Pairs.{Pair, NamedPair, IsPair, IsItem, IsEnd}

-- two terms have bindings that are a most general unifier, or no unifier
abbrev pub UnifiersExist : Type 0
UnifiersExist = (r : Sorts) (s t : Tree) → ((binds : List Bind) × AreUnifier r s t binds) ⊎ NoUnifier r s t

-- one substitution is the other renamed, both ways
pub record AreRenamed (σ τ : Subst) : Type 0 where
  pub there : SortId → ℕ → ℕ
  pub back : SortId → ℕ → ℕ
  pub to : (sort : SortId) (index : ℕ) → τ sort index ≡ substituted (renamed there) (σ sort index)
  pub from : (sort : SortId) (index : ℕ) → σ sort index ≡ substituted (renamed back) (τ sort index)

-- two most general unifiers differ by a renaming
abbrev pub UnifiersAreRenamed : Type 0
UnifiersAreRenamed = (r : Sorts) (s t : Tree) (σ τ : Subst) → IsMostGeneral r σ s t → IsMostGeneral r τ s t → AreRenamed σ τ

-- each instance of a greater term in the Knuth-Bendix order is greater in K
abbrev pub KboFalls : Type 0
KboFalls = (parts : SigParts) → WeighsSomething parts → (s t : Tree) → Kbo parts s t → (σ : Subst) → compare_k parts (substituted σ t) (substituted σ s) ≡ Less

-- a name has at most one pair, whichever most general unifier is taken, and however the variables are made others
abbrev pub OnePair : Type 0
OnePair = (parts : SigParts) (equations : List Equation) (x y : NamedPair) → x.name ≡ y.name → IsPair parts equations x → IsPair parts equations y → x ≡ y

-- the three terms of a pair are well-sorted, of one sort
pub record IsSortedPair (parts : SigParts) (p : Pair) : Type 0 where
  pub sort : SortId
  pub peak : sort_of parts p.peak ≡ Some sort
  pub left : sort_of parts p.left ≡ Some sort
  pub right : sort_of parts p.right ≡ Some sort

-- so they are where both sides of each equation are
abbrev pub PairsAreSorted : Type 0
PairsAreSorted = (parts : SigParts) (equations : List Equation) → Each (HasOneSort parts) equations → (x : NamedPair) → IsPair parts equations x → IsSortedPair parts x.pair

-- a number has at most one item, and none where the pairs end
abbrev pub OneItem : Type 0
OneItem = (parts : SigParts) (equations : List Equation) (n : ℕ) (x y : NamedPair) → IsItem parts equations n x → IsItem parts equations n y → x ≡ y

abbrev pub EndHasNoItem : Type 0
EndHasNoItem = (parts : SigParts) (equations : List Equation) (n : ℕ) (x : NamedPair) → IsItem parts equations n x → IsEnd parts equations n → ⊥

-- an item stays the item of its number when equations are added: the pairs of more equations begin with the same ones
abbrev pub ItemsStay : Type 0
ItemsStay = (parts : SigParts) (equations more : List Equation) (n : ℕ) (x : NamedPair) → IsItem parts equations n x → IsItem parts (equations ++ more) n x
