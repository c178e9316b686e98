-- Extended critical pairs: the two results of rewriting a term in two ways that overlap, each pair with its name, in order.
use Rattle.std.specs.Prelude.{◌≡◌, ℕ, ◌+◌, ◌==◌, ◌<◌, ◌⊎◌, ◌↔◌, max, List, [], ◌∷◌, ◌++◌, length, if◌then◌else◌, Some}
use Rattle.law_sig.specs.Lists.{In, Rising}
use Rattle.law_sig.specs.Trees.{holes, Subst, substituted}
use Rattle.law_sig.specs.Tests.{weight}
use Rattle.law_sig.specs.declared.tree.SortId.{SortId}
use Rattle.law_sig.specs.declared.tree.SymId.{SymId}
use Rattle.law_sig.specs.declared.tree.Tree.{Tree}
use Rattle.law_sig.specs.declared.tree.Tree.TheVariants.{Var, App}
use Rattle.law_sig.specs.declared.parts.Equation.{Equation}
use Rattle.law_sig.specs.declared.parts.SigParts.{SigParts}
use Rattle.law_sig.specs.declared.chain.Dir.{Dir}
use Rattle.law_sig.specs.declared.chain.Dir.TheVariants as dir
use Rattle.law_sig.specs.Chains.{start_side, end_side, Rewrites}
use Rattle.law_sig.specs.Kbo.{Kbo}
use Rattle.law_sig.specs.Lists.{numbered}
use Rattle.law_rewriting.specs.Heads.{sorts_in}
use Rattle.law_rewriting.specs.Unifiers.{IsMostGeneral}

-- Renumbering, for each sort from 0 in order of first occurrence

abbrev pub all_but : ℕ → List ℕ → List ℕ
all_but n [] = []
all_but n (m ∷ ms) = if n == m then all_but n ms else m ∷ all_but n ms

-- each number once, in order of first occurrence
abbrev pub firsts : List ℕ → List ℕ
firsts [] = []
firsts (n ∷ ns) = n ∷ all_but n (firsts ns)

-- how many stand before a number
abbrev pub place_of : ℕ → List ℕ → ℕ
place_of n [] = 0
place_of n (m ∷ ms) = if n == m then 0 else 1 + place_of n ms

-- the new index of a variable, where these are the indices of each sort as they stand
abbrev pub renumbering : (SortId → List ℕ) → Subst
renumbering seen sort index = Var sort (place_of index (firsts (seen sort)))

-- Pairs

pub record Pair : Type 0 where
  pub peak : Tree
  pub left : Tree
  pub right : Tree

abbrev pub map_pair : (Tree → Tree) → Pair → Pair
map_pair f p = record { peak = f p.peak; left = f p.left; right = f p.right }

abbrev pub pair_holes : Pair → SortId → List ℕ
pair_holes p sort = holes sort p.peak ++ (holes sort p.left ++ holes sort p.right)

-- the variables of a pair renumbered: first those of the peak, then of the left, then of the right
abbrev pub tidied_pair : Pair → Pair
tidied_pair p = map_pair (substituted (renumbering (pair_holes p))) p

-- the peak, the left or the right has a measure of more than this
abbrev pub Exceeds : (Tree → ℕ) → ℕ → Pair → Type 0
Exceeds measure bound p = (bound < measure p.peak) ⊎ ((bound < measure p.left) ⊎ (bound < measure p.right))

-- a name: two equations by their numbers, a direction of each, and a place in the starting side of the first
pub record PairName : Type 0 where
  pub outer : ℕ
  pub inner : ℕ
  pub outer_dir : Dir
  pub inner_dir : Dir
  pub place : List ℕ

pub record NamedPair : Type 0 where
  pub name : PairName
  pub pair : Pair

-- every index greater by so much
abbrev pub shifted : ℕ → Subst
shifted by sort index = Var sort (index + by)

-- every index of the equation is below this number, so that variables that are shifted by it are others
abbrev pub IsApart : ℕ → Equation → Type 0
IsApart by q = (sort : SortId) (index : ℕ) → In index (holes sort q.left) ⊎ In index (holes sort q.right) → index < by

-- a pair under its name, before it is renumbered. The starting side of the inner equation, its variables made others than
-- those of the outer one, is unified with the subterm of the outer starting side at the place, where no variable stands.
-- The peak is the instance of the outer starting side, the left is the peak with the instance of the inner reached side at
-- the place, the right is the instance of the outer reached side. The pair qualifies where neither of the two steps from the
-- peak falls in the Knuth-Bendix order, and one of great weight whatever that order says
pub record Overlaps (parts : SigParts) (equations : List Equation) (name : PairName) (p : Pair) : Type 0 where
  pub outer : Equation
  pub inner : Equation
  pub outer_is : numbered equations name.outer ≡ Some outer
  pub inner_is : numbered equations name.inner ≡ Some inner
  pub by : ℕ
  pub apart : IsApart by outer
  pub head : SymId
  pub args : List Tree
  pub found : Rewrites (App head args) (App head args) name.place (start_side name.outer_dir outer) (start_side name.outer_dir outer)
  pub σ : Subst
  pub general : IsMostGeneral (sorts_in parts) σ (App head args) (substituted (shifted by) (start_side name.inner_dir inner))
  pub peak : p.peak ≡ substituted σ (start_side name.outer_dir outer)
  pub left : Rewrites (substituted σ (App head args)) (substituted σ (substituted (shifted by) (end_side name.inner_dir inner))) name.place p.peak p.left
  pub right : p.right ≡ substituted σ (end_side name.outer_dir outer)
  pub qualifies : Exceeds (weight parts) 65536 p
      ⊎ ((Kbo parts p.right p.peak → ⊥)
      × (Kbo parts (substituted σ (substituted (shifted by) (end_side name.inner_dir inner))) (substituted σ (substituted (shifted by) (start_side name.inner_dir inner))) → ⊥))

-- a qualifying pair of these equations, with its name
pub record IsPair (parts : SigParts) (equations : List Equation) (x : NamedPair) : Type 0 where
  pub raw : Pair
  pub overlaps : Overlaps parts equations x.name raw
  pub is : x.pair ≡ tidied_pair raw

-- The order of names: by the greater of the two numbers, then by the first, the second, their directions, and the place

abbrev pub dir_number : Dir → ℕ
dir_number dir.LeftToRight = 0
dir_number dir.RightToLeft = 1

-- what is compared, from the left
abbrev pub compared : PairName → List ℕ
compared n = max n.outer n.inner ∷ n.outer ∷ n.inner ∷ dir_number n.outer_dir ∷ dir_number n.inner_dir ∷ n.place

-- the lesser number at the first that differs, or the beginning of the other one
abbrev pub ListBefore : List ℕ → List ℕ → Type 0
ListBefore [] [] = ⊥
ListBefore [] (n ∷ ns) = Unit {0}
ListBefore (m ∷ ms) [] = ⊥
ListBefore (m ∷ ms) (n ∷ ns) = (m < n) ⊎ ((m ≡ n) × ListBefore ms ns)

abbrev pub NameBefore : PairName → PairName → Type 0
NameBefore m n = ListBefore (compared m) (compared n)

abbrev pub PairBefore : NamedPair → NamedPair → Type 0
PairBefore x y = NameBefore x.name y.name

-- The qualifying pairs in this order

-- exactly the wanted ones, in order
pub record AreInOrder (wanted : NamedPair → Type 0) (xs : List NamedPair) : Type 0 where
  pub rising : Rising PairBefore xs
  pub exact : (x : NamedPair) → In x xs ↔ wanted x

-- item n, counted from 0: the pair before which n others stand
pub record IsItem (parts : SigParts) (equations : List Equation) (n : ℕ) (x : NamedPair) : Type 0 where
  pub is : IsPair parts equations x
  pub before : List NamedPair
  pub all_before : AreInOrder (λ y. IsPair parts equations y × PairBefore y x) before
  pub count : length before ≡ n

-- there are n pairs in all, so none is item n
pub record IsEnd (parts : SigParts) (equations : List Equation) (n : ℕ) : Type 0 where
  pub pairs : List NamedPair
  pub all_pairs : AreInOrder (IsPair parts equations) pairs
  pub count : length pairs ≡ n
