use Rattle.std.proofs.Common.{rules, ◌∙◌, sym, ap₂}
use Rattle.std.specs.Option.{option_or}
use Rattle.law_types.proofs.LineSteps.{IsPlain, plain_line}
use Rattle.law_types.proofs.check.line_fault.Goals as goal

pub returns-in_default : goal.returns-in_default
returns-in_default c =
    let plain : IsPlain c.args.line.now = search rules in
    c.or.ensures ∙ ap₂ option_or c.setting_fault.ensures c.declared_fault.ensures
    ∙ sym (plain_line c.args.text.now c.args.seen.now c.args.rest.now c.args.line.now plain)
