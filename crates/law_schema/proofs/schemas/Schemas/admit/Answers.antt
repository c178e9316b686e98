use Rattle.law_schema.proofs.Calls.{admit_known, admit_course}
use Rattle.law_schema.proofs.schemas.Schemas.admit.Goals as goal

pub invariant_of-self-2 : goal.invariant_of-self-2
invariant_of-self-2 c = admit_known c.self.inside c.self.invariant c.args.self.now c.self.view_is c.args.live c.requires.instance c.requires.once c.house.new.spreads c.in_ok-house.ensures.ok

pub returns-clause-ok : goal.returns-clause-ok
returns-clause-ok c = admit_course c.self.inside c.self.invariant c.args.self.now c.self.view_is c.args.live c.requires.instance c.house.new.spreads c.in_ok-house.ensures.ok
