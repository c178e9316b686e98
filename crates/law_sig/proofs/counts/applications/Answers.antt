use Rattle.std.proofs.Common.{◌-◌, length, slice_index_or, refl, ap, ◌∙◌}
use Rattle.law_sig.specs.Signature.{symbol_at}
use Rattle.law_sig.specs.declared.parts.Settings.{Settings}
use Rattle.law_sig.proofs.TermCounts.{applied}
use Rattle.law_sig.proofs.counts.applications.Goals as goal

pub returns : goal.returns
returns c = applied c.args.sig.now c.args.rows.now (length c.args.rows.now) c.weight_of-own.result (length c.args.rows.now - c.weight_of-own.result) c.number_at.result c.args.sort
    c.result_of.result c.args.sym (symbol_at c.args.sig.now c.args.sym) c.args_of.result.now c.as_slice-2.result.now c.result_of.ensures c.if-result_of-sort.false c.args_of.ensures
    (c.weight_of-own.ensures ∙ ap (λ l. slice_index_or l c.args.sym.0 1) (c.as_slice.ensures ∙ ap (λ (s : Settings). s.weights) c.settings.ensures.settings))
    c.if-rows-own.false refl (c.as_slice-2.ensures ∙ c.in_ok-lists.ensures) c.number_at.ensures
