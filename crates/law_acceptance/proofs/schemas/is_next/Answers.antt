use Rattle.law_acceptance.proofs.PlayingFacts.{stay_ready}
use Rattle.law_acceptance.proofs.schemas.is_next.Goals as goal

pub returns-in_default-clause-ready : goal.returns-in_default-clause-ready
returns-in_default-clause-ready c = stay_ready c.args.bank.now c.schema_of.new.bank c.args.schemas.now c.schema_of.ensures c.requires.ready

pub is_next_schema-requires : goal.is_next_schema-requires
is_next_schema-requires c = stay_ready c.args.bank.now c.schema_of.new.bank c.args.schemas.now c.schema_of.ensures c.requires.ready

pub returns-in_default-2-clause-ready : goal.returns-in_default-2-clause-ready
returns-in_default-2-clause-ready c = stay_ready c.args.bank.now c.schema_of-in-Killed.new.bank c.args.schemas.now c.schema_of-in-Killed.ensures c.requires.ready

pub is_next_schema-requires-in-Killed : goal.is_next_schema-requires-in-Killed
is_next_schema-requires-in-Killed c = stay_ready c.args.bank.now c.schema_of-in-Killed.new.bank c.args.schemas.now c.schema_of-in-Killed.ensures c.requires.ready
