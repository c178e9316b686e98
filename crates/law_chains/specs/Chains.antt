-- Laws of chains.
use Rattle.std.specs.Prelude.{◌≡◌, ◌↔◌, List, IsTrue}
use Rattle.law_sig.specs.declared.tree.Tree.{Tree}
use Rattle.law_sig.specs.declared.parts.Equation.{Equation}
use Rattle.law_sig.specs.declared.parts.SigParts.{SigParts}
use Rattle.law_sig.specs.declared.chain.Bind.{Bind}
use Rattle.law_sig.specs.declared.chain.Step.{Step}
use Rattle.law_sig.specs.Chains.{AreBinds, IsStep}
use Rattle.law_chains.specs.Binds.{are_binds}

-- a step leads to one term at most
abbrev pub OneStep : Type 0
OneStep = (parts : SigParts) (equations : List Equation) (step : Step) (s t u : Tree) → IsStep parts equations step s t → IsStep parts equations step s u → t ≡ u

-- the terms for an equation's variables are right exactly where their tests are true
abbrev pub BindsAreComputed : Type 0
BindsAreComputed = (parts : SigParts) (q : Equation) (binds : List Bind) → IsTrue (are_binds parts q binds) ↔ AreBinds parts q binds
