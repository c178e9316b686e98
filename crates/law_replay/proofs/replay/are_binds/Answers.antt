use Rattle.std.proofs.Common.{sym, ◌∙◌}
use Rattle.law_chains.proofs.Binding.{passed_binds, binds_pass}
use Rattle.law_replay.proofs.replay.are_binds.Goals as goal

pub returns-then-not-all_fit : goal.returns-then-not-all_fit
returns-then-not-all_fit c = (λ e. cc, λ are. sym (c.if-not-all_fit.true) ∙ c.all_fit.ensures ∙ (binds_pass c.args.sig.now c.args.q.now c.args.binds.now are).fit)

pub returns-then-not-rises : goal.returns-then-not-rises
returns-then-not-rises c = (λ e. cc, λ are. sym (c.if-not-rises.true) ∙ c.rises.ensures ∙ (binds_pass c.args.sig.now c.args.q.now c.args.binds.now are).rise)

pub returns-then-not-is_covered : goal.returns-then-not-is_covered
returns-then-not-is_covered c = (λ e. cc, λ are. sym (c.if-not-is_covered.true) ∙ c.is_covered.ensures ∙ (binds_pass c.args.sig.now c.args.q.now c.args.binds.now are).left)

pub returns : goal.returns
returns c = (
  λ e. passed_binds c.args.sig.now c.args.q.now c.args.binds.now (sym c.all_fit.ensures ∙ c.if-not-all_fit.false) (sym c.rises.ensures ∙ c.if-not-rises.false)
      (sym c.is_covered.ensures ∙ c.if-not-is_covered.false) (sym c.is_covered-2.ensures ∙ e),
  λ are. c.is_covered-2.ensures ∙ (binds_pass c.args.sig.now c.args.q.now c.args.binds.now are).right,
)
