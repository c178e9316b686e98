use Rattle.law_splits.proofs.Renaming.{renamed_tree}
use Rattle.law_splits.proofs.renaming_laws.Goals as goal

pub returns : goal.returns
returns g c = λ f h means keeps xs tree t. renamed_tree g.M.Meaning.allowed g.M.Meaning.means g.N.Meaning.means f h means keeps t
