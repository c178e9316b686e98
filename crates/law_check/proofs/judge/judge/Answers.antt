use Rattle.std.proofs.Common.{rules, subst}
use Rattle.law_sig.specs.Tests.{assignments}
use Rattle.law_draws.specs.Draws.{pools_by}
use Rattle.law_gen.specs.Made.{WhereTooLarge}
use Rattle.law_draws.specs.Sizes.{IsFirst}
use Rattle.law_checking.proofs.CertFacts.{too_many, few_enough, over_limits, large_value, within_limits}
use Rattle.law_check.proofs.judge.judge.Goals as goal

pub returns-then-is_none : goal.returns-then-is_none
returns-then-is_none c = over_limits c.args.sig.now c.args.cert.now (λ w. too_many (assignments c.args.sig.now) c.assignments-ways.result c.assignments-ways.ensures (search rules) w.few_assignments)

pub pools_of-requires : goal.pools_of-requires
pools_of-requires c = few_enough (assignments c.args.sig.now) c.assignments-ways.result c.assignments-ways.ensures (search rules)

pub returns-in-Ok : goal.returns-in-Ok
returns-in-Ok c = within_limits c.args.sig.now c.args.cert.now c.in_ok-answer-in-Ok.answer c.settings-settings.ensures.well_formed
    (few_enough (assignments c.args.sig.now) c.assignments-ways.result c.assignments-ways.ensures (search rules)) c.in-Ok.ensures.small c.in_ok-answer-in-Ok.ensures

pub returns-in-Err-ValueTooLarge : goal.returns-in-Err-ValueTooLarge
returns-in-Err-ValueTooLarge c = over_limits c.args.sig.now c.args.cert.now (large_value c.args.sig.now c.args.cert.now c.in-Err-ValueTooLarge.field-0-0 c.in-Err-ValueTooLarge.field-0-1
    (subst (WhereTooLarge (IsFirst (pools_by c.args.sig.now))) c.in-Err-ValueTooLarge.field-0-is c.in-Err-ValueTooLarge.ensures.large))
