use Rattle.std.proofs.Common.{◌++◌, ◌∷◌, [], decimal, codes}
use Rattle.law_cli.proofs.AnswerFacts.{two_parts}
use Rattle.law_cli.proofs.status.put_background.Goals as goal

pub returns : goal.returns
returns c = two_parts c.put_last_count.result c.args.out.now (codes "background " ++ decimal c.args.law) (codes " fails at " ++ (decimal c.args.test ++ 10 ∷ [])) _ _
    c.in_ok-put_count.ensures c.put_last_count.ensures
