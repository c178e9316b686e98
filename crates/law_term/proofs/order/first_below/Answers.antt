use Rattle.law_term.proofs.Comparing.{var_none, below_fewer}
use Rattle.law_term.proofs.order.first_below.Goals as goal

pub returns-in-Var-clause-first : goal.returns-in-Var-clause-first
returns-in-Var-clause-first c = λ bank h. var_none bank c.args.a.now c.args.b.now c.in-Var.field-0 c.in-Var.field-1 c.in-Var.is h

pub returns-in-Sym-clause-smaller : goal.returns-in-Sym-clause-smaller
returns-in-Sym-clause-smaller c = below_fewer c.args.a.now c.args.b.now c.in-Sym.field-0 c.in-Sym.is c.first_other.result c.first_other.ensures
