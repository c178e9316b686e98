-- Which schemas are considered, and which terms are instances of a schema.
use Rattle.std.specs.Prelude.{◌≡◌, ◌≤◌, ◌↔◌, List, [], IsTrue, Some}
use Rattle.law_sig.specs.Lists.{In, Each, Rising}
use Rattle.law_sig.specs.Trees.{schema_of}
use Rattle.law_sig.specs.Signature.{is_declared_sort, vars_at, sort_of}
use Rattle.law_sig.specs.Tests.{weight, is_explored, InU}
use Rattle.law_sig.specs.Order.{IsBefore}
use Rattle.law_sig.specs.declared.tree.SortId.{SortId}
use Rattle.law_sig.specs.declared.tree.SymId.{SymId}
use Rattle.law_sig.specs.declared.tree.Tree.{Tree}
use Rattle.law_sig.specs.declared.tree.Tree.TheOpen.{Tree-F}
use Rattle.law_sig.specs.declared.tree.Tree.TheOpen as o
use Rattle.law_sig.specs.declared.tree.Tree.TheVariants.{Var, App}
use Rattle.law_sig.specs.declared.tree.Tree.TheViews.{out-Tree}
use Rattle.law_sig.specs.declared.parts.SigParts.{SigParts}

-- exactly these terms, in the order of exploring
pub record AreExactly (parts : SigParts) (P : Tree → Type 0) (ts : List Tree) : Type 0 where
  pub rising : Rising (IsBefore parts) ts
  pub members : (t : Tree) → In t ts ↔ P t

-- given the spread schemas: variable 0 of each sort that has a variable, and each explored symbol over spread schemas of
-- its argument sorts, of weight at most `size`. So a nullary symbol is considered whatever is spread
pub data IsConsidered (parts : SigParts) (spreads : List Tree) : Tree → Type 0 where
  variable : (sort : SortId) → IsTrue (is_declared_sort parts sort) → 1 ≤ vars_at parts sort → IsConsidered parts spreads (Var sort 0)
  application : (f : SymId) (cs : List Tree) (sort : SortId) → IsTrue (is_explored parts f) → Each (λ c. In c spreads) cs
      → sort_of parts (App f cs) ≡ Some sort → weight parts (App f cs) ≤ parts.settings.size → IsConsidered parts spreads (App f cs)

-- the arguments of a term
abbrev pub arguments_of : Tree-F Tree → List Tree
arguments_of (o.Var sort index) = []
arguments_of (o.App f args) = args

-- given the live terms, an instance of a schema: a term of the universe with that schema whose arguments are all live
pub record IsInstance (parts : SigParts) (lives : List Tree) (c t : Tree) : Type 0 where
  pub sort : SortId
  pub bounded : InU parts sort t
  pub schema : schema_of t ≡ c
  pub args : Each (λ a. In a lives) (arguments_of (out-Tree t))
