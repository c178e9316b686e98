use Rattle.std.proofs.Common.{ap, subst, sym}
use Rattle.law_sig.specs.declared.parts.Settings.{Settings}
use Rattle.law_ids.specs.Values.{AreOf}
use Rattle.law_test.specs.Memo.{Gives}
use Rattle.law_testing.specs.Evaluators.{Values}
use Rattle.law_test.proofs.Evaluating.{right_stay, gives_made}
use Rattle.law_test.proofs.evaluator.Evaluator.evaluated.Goals as goal

pub invariant_of-self : goal.invariant_of-self
invariant_of-self c = right_stay c.self.inside.sig.now c.self.inside.bank c.apply_with.new.bank c.self.inside.memo.places.items c.apply_with.ensures.grows c.self.invariant

pub invariant_of-self-2 : goal.invariant_of-self-2
invariant_of-self-2 c = right_stay c.self.inside.sig.now c.self.inside.bank c.apply_with.new.bank c.self.inside.memo.places.items c.apply_with.ensures.grows c.self.invariant

pub returns-clause-gives : goal.returns-clause-gives
returns-clause-gives c =
    subst (λ (v : Values). Gives v.parts c.apply_with.new.bank c.args.sym c.args.ids.now c.in_ok-value.value) c.self.view_is
    (gives_made c.self.inside.sig.now c.self.inside.bank c.apply_with.new.bank c.args.sym c.args.ids.now c.settings.result.now.budget _ c.in_ok-value.value
    (subst (λ (v : Values). AreOf v.bank c.args.ids.now) (sym c.self.view_is) c.requires.held) c.apply_with.ensures.grows
    (ap (λ (s : Settings). s.budget) c.settings.ensures.settings) c.in_ok-value.ensures.id c.in_ok-value.ensures.value)
