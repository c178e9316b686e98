use Rattle.law_agenda.proofs.Spreading.{begun_on, begun_over}
use Rattle.law_agenda.proofs.Storing.{if_ok}
use Rattle.law_agenda.proofs.agenda.begin.Goals as goal

pub returns-in-Some : goal.returns-in-Some
returns-in-Some c = begun_on c.args.universe.now c.args.store c.args.last c.args.schema c.args.lives c.in_ok-instance.instance c.in-Some.first c.at_instance.result
    c.in-Some.is c.in_ok-instance.ensures c.at_instance.ensures

pub returns-in-None : goal.returns-in-None
returns-in-None c = if_ok _ _ c.finish.result
    (λ a done. begun_over c.args.universe.now c.args.store c.args.last c.args.schema c.args.lives c.in_ok-instance.instance a c.in-None.is c.in_ok-instance.ensures done) c.finish.ensures
