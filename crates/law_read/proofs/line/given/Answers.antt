use Rattle.law_places.proofs.LineSteps.{rule_read}
use Rattle.law_read.proofs.line.given.Goals as goal

pub returns : goal.returns
returns c = rule_read c.args.line.now.left c.word.new.line.left c.in_ok-rule.rule.now c.same.result c.in_ok-rule.ensures c.same.ensures
