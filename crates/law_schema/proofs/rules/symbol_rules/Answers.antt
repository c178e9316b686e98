use Rattle.law_schema.proofs.RuleFacts.{unmarked_on, rule_on}
use Rattle.law_schema.proofs.rules.symbol_rules.Goals as goal

pub loop-number-preserved-then-not-is_marked : goal.loop-number-preserved-then-not-is_marked
loop-number-preserved-then-not-is_marked c =
    unmarked_on c.args.sig.now c.loop-number.number c.loop-number.rules c.in_ok-marks.marks.items c.as_slice.result.now c.is_marked.result c.loop-number.invariant c.in_ok-marks.ensures c.as_slice.ensures.value c.is_marked.ensures
    c.if-not-is_marked.true

pub loop-number-preserved : goal.loop-number-preserved
loop-number-preserved c =
    rule_on c.args.sig.now c.loop-number.number c.loop-number.rules c.push.new.self c.in_ok-rule_of.field-0 c.loop-number.invariant c.in_ok-rule_of.ensures.rule c.in_ok-rule_of.ensures.symbol c.in_ok-push.ensures.ok
