-- What a search owes: the plan as the entries of a certificate, with laws, lemmas and steps between them, and trees. All that
-- is missing of a valid certificate are numbers, chains that replay, and values at the tests that were asked.
use Rattle.std.specs.Prelude.{◌≡◌, ℕ, List, [], ◌∷◌, ◌++◌}
use Rattle.law_sig.specs.Lists.{In}
use Rattle.law_sig.specs.Tests.{Pools, IsDefined}
use Rattle.law_sig.specs.Laws.{IsBackgroundTrue, IsCovered}
use Rattle.law_sig.specs.Chains.{Replays}
use Rattle.law_sig.specs.declared.chain.Step.{Step}
use Rattle.law_sig.specs.declared.parts.Equation.{Equation}
use Rattle.law_sig.specs.declared.parts.SigParts.{SigParts}
use Rattle.law_draws.specs.Draws.{pools_by}
use Rattle.law_valid.specs.declared.certificate.Entry.{Entry as Stating}
use Rattle.law_valid.specs.declared.certificate.Entry.TheVariants as e
use Rattle.law_valid.specs.declared.certificate.SortTree.{SortTree}
use Rattle.law_valid.specs.Stated.{stated, law_at, known}
use Rattle.law_valid.specs.Trees.{AreTrees}
use Rattle.law_valid.specs.Valid.{IsWithinLimits, IsNextNumber, IsLemma, IsValid}
use Rattle.law_plan.specs.Plan.{Entry, spread, killed, live, moved, IsPlan}
use Rattle.law_plan.specs.Goals.{goal_at}

-- the plan's entry of a certificate's one: laws, lemmas and steps are left out
abbrev pub planned_at : Stating → List Entry
planned_at (e.Law number q) = []
planned_at (e.Lemma number q steps) = []
planned_at (e.Spread c) = spread c ∷ []
planned_at (e.Killed q steps) = killed q.left q.right ∷ []
planned_at (e.Live t) = live t ∷ []
planned_at (e.Moved q steps) = moved q.left q.right ∷ []

abbrev pub planned : List Stating → List Entry
planned entries = stated planned_at entries

-- a goal of the plan has a number of its own as a law, and its left side has a value at every test
pub record IsLawOwed (parts : SigParts) (pools : Pools) (all before : List Stating) (number : ℕ) (q : Equation) : Type 0 where
  pub numbered : IsNextNumber parts before number
  pub goal : In q (stated goal_at (planned all))
  pub defined : IsDefined parts pools q.left

-- a killed schema and a moved term are led to their targets by equations before them, and were asked at every test
pub record IsLed (parts : SigParts) (pools : Pools) (before : List Stating) (q : Equation) (steps : List Step) : Type 0 where
  pub chain : Replays parts (known parts before) steps q.left q.right
  pub defined : IsDefined parts pools q.left

-- what is owed of an entry by those before it, beside its place in the plan
abbrev pub IsOwed : SigParts → Pools → List Stating → List Stating → Stating → Type 0
IsOwed parts pools all before (e.Law number q) = IsLawOwed parts pools all before number q
IsOwed parts pools all before (e.Lemma number q steps) = IsNextNumber parts before number × IsLemma parts before q steps
IsOwed parts pools all before (e.Spread c) = Unit {0}
IsOwed parts pools all before (e.Killed q steps) = IsLed parts pools before q steps
IsOwed parts pools all before (e.Live t) = Unit {0}
IsOwed parts pools all before (e.Moved q steps) = IsLed parts pools before q steps

-- the limits hold, the pools are those of the signature, the background holds at every test, the entries without laws, lemmas and
-- steps are the plan, each entry has what it owes, and the trees tell apart
pub record Owed (parts : SigParts) (pools : Pools) (entries : List Stating) (trees : List SortTree) : Type 0 where
  pub limits : IsWithinLimits parts
  pub pools_are : pools ≡ pools_by parts
  pub background : IsBackgroundTrue parts pools
  pub plan : IsPlan parts pools (planned entries)
  pub each : (before : List Stating) (x : Stating) (after : List Stating) → entries ≡ before ++ x ∷ after → IsOwed parts pools entries before x
  pub trees_are : AreTrees parts pools entries trees

-- that makes a valid certificate
abbrev pub OwedIsValid : Type 0
OwedIsValid = (parts : SigParts) (pools : Pools) (entries : List Stating) (trees : List SortTree)
    → Owed parts pools entries trees → IsValid parts pools entries trees

-- so its laws cover the universe
abbrev pub OwedCovers : Type 0
OwedCovers = (parts : SigParts) (pools : Pools) (entries : List Stating) (trees : List SortTree)
    → Owed parts pools entries trees → IsCovered parts pools (stated law_at entries)
