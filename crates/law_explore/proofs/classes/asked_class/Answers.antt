use Rattle.law_explore.proofs.ClassFacts.{put_vector, put_distinct, put_extends}
use Rattle.law_explore.proofs.classes.asked_class.Goals as goal

pub returns-clause-class : goal.returns-clause-class
returns-clause-class c =
    put_vector c.args.tester.now.sig.now c.vector.new.evaluator.bank c.insert_full.new.self.keys c.args.term.now c.in_ok-found.found c.in-Ok.class c.in_ok-found.ensures.vector c.in-Ok.ensures.stored

pub returns-clause-distinct : goal.returns-clause-distinct
returns-clause-distinct c = put_distinct c.args.vectors.now.keys c.insert_full.new.self.keys c.in_ok-found.found c.in-Ok.ensures.keys c.requires.distinct

pub returns-clause-adds : goal.returns-clause-adds
returns-clause-adds c = put_extends c.args.vectors.now.keys c.insert_full.new.self.keys c.in_ok-found.found c.in-Ok.ensures.keys
