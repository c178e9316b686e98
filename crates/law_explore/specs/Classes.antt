-- The classes of terms: those of one sort that have the same value at every test, each known by the place of its vector.
use Rattle.std.specs.Prelude.{◌≡◌, ℕ, List, ◌∷◌, ◌++◌, Some, Vec, slice_get, MatchOption, if◌then◌else◌}
use Rattle.std.specs.declared.alloc.Global.{Global}
use Rattle.law_sig.specs.declared.tree.SymId.{SymId}
use Rattle.law_sig.specs.declared.tree.Tree.{Tree}
use Rattle.law_sig.specs.declared.tree.Tree.TheVariants.{App}
use Rattle.law_sig.specs.declared.parts.SigParts.{SigParts}
use Rattle.law_testing.specs.Values.{Both, IsTestable}
use Rattle.law_test.specs.Words.{same_items, Finds}
use Rattle.law_explore.specs.Values.{HasVector}

-- no vector stands at two places
abbrev pub AreDistinct : List (Vec ℕ Global) → Type 0
AreDistinct vectors = (a b : ℕ) (v w : Vec ℕ Global) → slice_get vectors a ≡ Some v → slice_get vectors b ≡ Some w → v.items ≡ w.items → a ≡ b

-- vectors are added at the end alone
abbrev pub AddsVectors : List (Vec ℕ Global) → List (Vec ℕ Global) → Type 0
AddsVectors old new = (more : List (Vec ℕ Global)) × (new ≡ old ++ more)

-- each term has a class, and no two classes have one vector
pub record AreClasses (parts : SigParts) (bank terms : List Tree) (classes : List ℕ) : Type 0 where
  pub vectors : List (Vec ℕ Global)
  pub distinct : AreDistinct vectors
  pub have : Both (HasVector parts bank vectors) terms classes

-- What is remembered of applications: the class of a symbol over classes

-- the word is a symbol over the classes of some arguments, and this is the class of the symbol over these
pub record IsRemembered (parts : SigParts) (bank : List Tree) (vectors : List (Vec ℕ Global)) (word : List ℕ) (class : ℕ) : Type 0 where
  pub head : SymId
  pub args : List Tree
  pub classes : List ℕ
  pub spelled : word ≡ head.0 ∷ classes
  pub testable : IsTestable parts (App head args)
  pub have : Both (HasVector parts bank vectors) args classes
  pub is : HasVector parts bank vectors (App head args) class

-- whatever is found for a word is that
abbrev pub Remembers : SigParts → List Tree → List (Vec ℕ Global) → Finds → Type 0
Remembers parts bank vectors found = (w : Vec ℕ Global) → MatchOption (found w) (Unit {0}) (λ class. IsRemembered parts bank vectors w.items class)

-- one word more is found
abbrev pub IsLearned : Finds → Finds → Vec ℕ Global → ℕ → Type 0
IsLearned old new word class = (w : Vec ℕ Global) → new w ≡ (if same_items word w then Some class else old w)
