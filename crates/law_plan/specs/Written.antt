-- A search as a certificate: its laws, lemmas and entries in order, each equation with the next number, and chains that replay by
-- what is kept there.
use Rattle.std.specs.Prelude.{◌≡◌, ◌+◌, List, [], ◌∷◌, ◌++◌, length}
use Rattle.law_sig.specs.Lists.{Each}
use Rattle.law_sig.specs.Chains.{Replays}
use Rattle.law_sig.specs.Laws.{IsBackgroundTrue}
use Rattle.law_sig.specs.Tests.{Pools, IsDefined}
use Rattle.law_sig.specs.declared.chain.Step.{Step}
use Rattle.law_sig.specs.declared.tree.Tree.{Tree}
use Rattle.law_sig.specs.declared.parts.Equation.{Equation}
use Rattle.law_sig.specs.declared.parts.SigParts.{SigParts}
use Rattle.law_draws.specs.Draws.{pools_by}
use Rattle.law_laws.specs.Derivation.{HasOneSort}
use Rattle.law_rewriting.specs.Completion.{Kept, equations_of, Halt}
use Rattle.law_rewriting.specs.Completion as completion
use Rattle.law_valid.specs.declared.certificate.Entry.{Entry as Stating}
use Rattle.law_valid.specs.declared.certificate.Entry.TheVariants as e
use Rattle.law_valid.specs.declared.certificate.SortTree.{SortTree}
use Rattle.law_valid.specs.Stated.{stated}
use Rattle.law_valid.specs.Valid.{IsWithinLimits}
use Rattle.law_plan.specs.Plan as plan
use Rattle.law_plan.specs.Course.{Line, begun, IsSearch}
use Rattle.law_plan.specs.Course as course
use Rattle.law_plan.specs.Goals.{goal_at}
use Rattle.law_plan.specs.Owed.{Owed}
use Rattle.law_plan.specs.Trees.{ArePlaced}

-- the entries that are written for the lines of a search, from what is kept on
pub data AreWritten (parts : SigParts) : List Kept → List Line → List Stating → Type 0 where
  ends : (kept : List Kept) → AreWritten parts kept [] []
  law : (kept : List Kept) (q : Equation) (h : Halt) (lines : List Line) (xs : List Stating) → AreWritten parts (kept ++ completion.stated q ∷ []) lines xs
      → AreWritten parts kept (course.law q h ∷ lines) (e.Law (length kept + 1) q ∷ xs)
  lemma : (kept : List Kept) (q : Equation) (steps : List Step) (lines : List Line) (xs : List Stating) → HasOneSort parts q
      → Replays parts (equations_of kept) steps q.left q.right → AreWritten parts (kept ++ completion.lemma q ∷ []) lines xs
      → AreWritten parts kept (course.lemma q ∷ lines) (e.Lemma (length kept + 1) q steps ∷ xs)
  spread : (kept : List Kept) (c : Tree) (lines : List Line) (xs : List Stating) → AreWritten parts kept lines xs
      → AreWritten parts kept (course.entry (plan.spread c) ∷ lines) (e.Spread c ∷ xs)
  killed : (kept : List Kept) (q : Equation) (steps : List Step) (lines : List Line) (xs : List Stating) → Replays parts (equations_of kept) steps q.left q.right
      → AreWritten parts kept lines xs → AreWritten parts kept (course.entry (plan.killed q.left q.right) ∷ lines) (e.Killed q steps ∷ xs)
  live : (kept : List Kept) (t : Tree) (lines : List Line) (xs : List Stating) → AreWritten parts kept lines xs
      → AreWritten parts kept (course.entry (plan.live t) ∷ lines) (e.Live t ∷ xs)
  moved : (kept : List Kept) (q : Equation) (steps : List Step) (lines : List Line) (xs : List Stating) → Replays parts (equations_of kept) steps q.left q.right
      → AreWritten parts kept lines xs → AreWritten parts kept (course.entry (plan.moved q.left q.right) ∷ lines) (e.Moved q steps ∷ xs)

-- what a search finds of a signature: the limits hold, the pools are those of the signature, the background holds; the search is
-- written as the certificate's entries; each killed or moved term has a value at every test; and trees by the placing rule
pub record IsFoundOf (parts : SigParts) (pools : Pools) (lines : List Line) (entries : List Stating) (trees : List SortTree) : Type 0 where
  pub limits : IsWithinLimits parts
  pub pools_are : pools ≡ pools_by parts
  pub background : IsBackgroundTrue parts pools
  pub search : IsSearch parts pools lines
  pub written : AreWritten parts (begun parts).kept lines entries
  pub defined : Each (λ (q : Equation). IsDefined parts pools q.left) (stated goal_at search.plan)
  pub trees_are : ArePlaced parts pools entries trees

-- that is all that a search owes
abbrev pub FoundIsOwed : Type 0
FoundIsOwed = (parts : SigParts) (pools : Pools) (lines : List Line) (entries : List Stating) (trees : List SortTree)
    → IsFoundOf parts pools lines entries trees → Owed parts pools entries trees
