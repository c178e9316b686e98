-- Each law is proved by a lemma.
use Rattle.law_laws.proofs.Descents.{weighs_something}
use Rattle.law_plan.proofs.Courses.{one_search, lemmas_added}
use Rattle.law_plan.proofs.course_laws.Goals as goal

pub returns : goal.returns
returns c = record { one = λ parts pools well. one_search parts (weighs_something parts well) pools; lemmas = lemmas_added }
