-- The equation between two terms.
use Rattle.law_sig.specs.declared.parts.Equation.{Equation}
use Rattle.law_bank.specs.Terms.{tree_of}
use Rattle.law_term.specs.declared.equation.Eqn.{Eqn}

abbrev pub equation_of : Eqn → Equation
equation_of e = record { left = tree_of e.left.now; right = tree_of e.right.now }
