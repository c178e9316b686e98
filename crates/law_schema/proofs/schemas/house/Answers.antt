use Rattle.law_schema.proofs.Items.{on_ok, on_err}
use Rattle.law_schema.proofs.Making.{housed_is, unhoused_is}
use Rattle.law_schema.proofs.schemas.house.Goals as goal

pub returns-clause-ok : goal.returns-clause-ok
returns-clause-ok c =
    on_ok _ _ c.admit_to-admitted.result
    (λ e. housed_is c.args.spreads.now.items c.pop.new.self.items c.push.new.self.items c.args.live c.in-Some.last c.admit_to-admitted.new.spread c.in-Some.ensures.items c.in-Ok.ensures.items
    c.admit_to-admitted.ensures.schema e)
    c.admit_to-admitted.ensures.ok

pub returns-clause-err : goal.returns-clause-err
returns-clause-err c =
    on_err _ _ c.admit_to-admitted.result
    (λ e. unhoused_is c.args.spreads.now.items c.pop.new.self.items c.push.new.self.items c.in-Some.last c.admit_to-admitted.new.spread c.in-Some.ensures.items c.in-Ok.ensures.items c.admit_to-admitted.ensures.schema e)
    c.admit_to-admitted.ensures.err
