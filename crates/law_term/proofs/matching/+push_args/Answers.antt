use Rattle.law_term.proofs.Bound.{first_rest}
use Rattle.law_term.proofs.Turns.{args_pushed, args_held}
use Rattle.law_term.proofs.matching.+push_args.Goals as goal

pub returns-in-Ok-clause-pairs : goal.returns-in-Ok-clause-pairs
returns-in-Ok-clause-pairs t c =
    args_pushed _ _ _ _ _ _ c.args.left.now.items _ _ (first_rest _ _ c.in-len1-up.len_at_least) (first_rest _ _ c.in-len1-up-terms.len_at_least)
    c.in_ok-push_args-in-len1-up-terms.ensures.pairs c.in-Ok.ensures.items

pub returns-in-Ok-clause-held : goal.returns-in-Ok-clause-held
returns-in-Ok-clause-held t c bank a b h =
    args_held bank _ _ _ _ _ _ _ _ (first_rest _ _ c.in-len1-up.len_at_least) (first_rest _ _ c.in-len1-up-terms.len_at_least) a b
    (λ k l. c.in_ok-push_args-in-len1-up-terms.ensures.held bank k l h) c.in-Ok.ensures.items
