-- Matching under way: pairs of a pattern and a term that are left, and bindings made.
use Rattle.std.specs.Prelude.{ℕ, ◌+◌, Bool, List, [], ◌∷◌, ◌++◌}
use Rattle.std.specs.Bool.{MatchBool}
use denote.Bor.{Bor}
use Rattle.law_sig.specs.Lists.{In, Each}
use Rattle.law_sig.specs.Trees.{node_count}
use Rattle.law_sig.specs.declared.tree.SortId.{SortId}
use Rattle.law_sig.specs.declared.tree.Tree.{Tree}
use Rattle.law_sig.specs.declared.tree.Tree.TheVariants.{Var}
use Rattle.law_sig.specs.declared.chain.Bind.{Bind}
use Rattle.law_rewriting.specs.Heads.{Sorts}
use Rattle.law_rewriting.specs.Unifiers.{HasNoMatch}
use Rattle.law_rewriting.specs.UnifyingState.{Problems}
use Rattle.law_rewriting.specs.MatchingState.{IsMatching}
use Rattle.law_bank.specs.declared.node.Node.{Node}
use Rattle.law_bank.specs.Terms.{tree_of}
use Rattle.law_bank.specs.Bank.{Terms, IsOf}
use Rattle.law_bank.specs.Bindings.{Binding, binds_of}

abbrev pub Pair : Type 0
Pair = Bor Node × Bor Node

-- the trees of a stack, its top first
abbrev pub open_of : List Pair → Problems
open_of [] = []
open_of (p ∷ ps) = open_of ps ++ (tree_of p.0.now, tree_of p.1.now) ∷ []

abbrev pub AllOpen : Terms → List Pair → Type 0
AllOpen bank ps = Each (λ (p : Pair). IsOf bank p.0.now × IsOf bank p.1.now) ps

abbrev pub nodes : Problems → ℕ
nodes [] = 0
nodes (p ∷ ps) = (node_count p.0 + node_count p.1) + nodes ps

-- these bindings, in whatever order they were made, are those of a matching under way
pub record IsMatched (r : Sorts) (p t : Tree) (ps : Problems) (binds : List Bind) : Type 0 where
  pub made : List Bind
  pub matching : IsMatching r p t ps made
  pub kept : (b : Bind) → In b made → In b binds
  pub only : (b : Bind) → In b binds → In b made

-- a variable was matched, for whatever pattern and term it was left, or nothing matches them
abbrev pub MatchNext : Sorts → SortId → ℕ → Tree → List Binding → List Binding → Bool → Type 0
MatchNext r s i u old new went = (p t : Tree) (ps : Problems) → IsMatched r p t ((Var s i, u) ∷ ps) (binds_of old) → MatchBool went (IsMatched r p t ps (binds_of new)) (HasNoMatch r p t)
