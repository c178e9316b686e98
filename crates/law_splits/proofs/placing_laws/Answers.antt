use Rattle.law_splits.proofs.Growing.{placing_grows, other_placed}
use Rattle.law_splits.proofs.Led.{leaf_exact, new_child_exact}
use Rattle.law_splits.proofs.placing_laws.Goals as goal

pub returns-clause-grows : goal.returns-clause-grows
returns-clause-grows g c = λ xs x tree more t placed. placing_grows g.M.Meaning.allowed g.M.Meaning.means x xs tree more t placed

pub returns-clause-placed : goal.returns-clause-placed
returns-clause-placed g c = λ decide xs x tree t value first. other_placed g.M.Meaning.allowed g.M.Meaning.means x decide value xs tree t first

pub returns-clause-leaf : goal.returns-clause-leaf
returns-clause-leaf g c = λ one xs tree t x y splits way. leaf_exact g.M.Meaning.allowed g.M.Meaning.means one x xs tree t y splits way

pub returns-clause-child : goal.returns-clause-child
returns-clause-child g c = λ one xs tree t x v splits test kids way has nowhere z at. new_child_exact g.M.Meaning.allowed g.M.Meaning.means one x xs tree t v splits test kids way has nowhere z at
