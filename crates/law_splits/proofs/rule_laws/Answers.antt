use Rattle.law_splits.proofs.Fixed.{rule_fixes}
use Rattle.law_splits.proofs.Members.{each_one_leaf}
use Rattle.law_splits.proofs.Told.{tells}
use Rattle.law_splits.proofs.rule_laws.Goals as goal

pub returns-clause-fixes : goal.returns-clause-fixes
returns-clause-fixes g c = λ one xs s t p q. rule_fixes g.M.Meaning.allowed g.M.Meaning.means one xs s t p q

pub returns-clause-leaves : goal.returns-clause-leaves
returns-clause-leaves g c = λ one xs tree t. each_one_leaf g.M.Meaning.allowed g.M.Meaning.means one xs tree t

pub returns-clause-tells : goal.returns-clause-tells
returns-clause-tells g c = λ xs tree t. tells g.M.Meaning.allowed g.M.Meaning.means t
