use Rattle.std.proofs.Common.{◌≡◌, subst, sym, ap, ◌∙◌, slice_index_or}
use Rattle.law_schema.specs.Columns.{columns_of}
use Rattle.law_schema.specs.Spreads.{live_counts}
use Rattle.law_schema.proofs.Opening.{fillings_started, numbers_are}
use Rattle.law_schema.proofs.block.fillings_of.Goals as goal

pub returns : goal.returns
returns c = λ t at linked.
    fillings_started c.args.rules.now (columns_of c.args.columns.now) c.args.spreads.now c.args.application.now t c.index-as_slice-application.result c.numbers.inside.items.items c.in_ok-start.field-0
    (subst (λ l. c.index-as_slice-application.result ≡ slice_index_or l c.args.application.now.rule c.index-as_slice-application.result) c.as_slice.ensures c.index-as_slice-application.is) at.1 linked
    (numbers_are (columns_of c.args.columns.now) c.index-as_slice-application.result.args c.as_slice-2.result.now c.args.application.now.walk.row.items c.as_slice-3.result.now c.new-entries.result.items
    c.push_entries.new.found.items c.as_slice-4.result.now c.numbers.inside.items.items c.as_slice-2.ensures c.as_slice-3.ensures.value c.new-entries.ensures.items c.in_ok-push_entries.ensures c.as_slice-4.ensures.value
    (c.numbers.view_is ∙ c.in_ok-numbers.ensures))
    (c.in_ok-start.ensures.choices ∙ c.in_ok-counts.ensures ∙ ap (live_counts c.args.spreads.now) (c.as_slice-5.ensures ∙ sym c.numbers.view_is)) c.in_ok-start.ensures.weight c.in_ok-start.ensures.walk c.in_ok-start.ensures.fresh
