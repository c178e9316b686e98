use Rattle.law_agenda.proofs.TakingTerms.{gone_on, gone_over}
use Rattle.law_agenda.proofs.Storing.{if_ok}
use Rattle.law_agenda.proofs.agenda.go_on.Goals as goal

pub returns-in-Some : goal.returns-in-Some
returns-in-Some c = gone_on c.args.universe.now c.args.store c.args.last c.args.going c.args.lives c.in_ok-next.field-0 c.in-Some.next c.at_instance.result
    c.in-Some.is c.in_ok-next.ensures c.at_instance.ensures

pub returns-in-None : goal.returns-in-None
returns-in-None c = if_ok _ _ c.finish.result
    (λ a done. gone_over c.args.universe.now c.args.store c.args.last c.args.going c.args.lives c.in_ok-next.field-0 a c.in-None.is c.in_ok-next.ensures done) c.finish.ensures
