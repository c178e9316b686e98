use Rattle.std.proofs.Common.{◌≡◌, ◌++◌, sym, ap, ◌∙◌, subst}
use Rattle.law_sig.specs.Signature.{symbol_at}
use Rattle.law_agenda.specs.Instances.{ranges_of, range_counts, IsOpen}
use Rattle.law_agenda.specs.Shelves.{sorts_of}
use Rattle.law_agenda.proofs.Seeking.{sorts_are, some_case, none_case}
use Rattle.law_agenda.proofs.Instancing.{is_first, no_first}
use Rattle.law_agenda.proofs.instances.first_over.Goals as goal

pub returns-in-Some : goal.returns-in-Some
returns-in-Some c = λ lives d cs within e open'.
    let same : c.push_ranges.new.found ≡ ranges_of c.args.shelf.now (sorts_of (symbol_at c.args.sig.now c.args.sym)) c.args.row.now =
    c.in_ok-push_ranges.ensures ∙ ap (λ l. l ++ ranges_of c.args.shelf.now c.args_of.result.now c.args.row.now) c.new-ranges.ensures
    ∙ ap (λ l. ranges_of c.args.shelf.now l c.args.row.now) (sym (sorts_are (symbol_at c.args.sig.now c.args.sym) c.args_of.result.now c.args_of.ensures)) in
    is_first c.args.sig.now lives c.args.sym d cs c.push_ranges.new.found e (subst (IsOpen c.args.sig.now lives c.args.sym cs) (sym same) open') c.in_ok-counts.counts c.in-Some.walk
    (c.in_ok-counts.ensures ∙ ap range_counts c.as_slice.ensures) (some_case _ _ c.in_ok-walk.field-0 c.in-Some.walk c.in-Some.is c.in_ok-walk.ensures)

pub returns-in-None : goal.returns-in-None
returns-in-None c = λ lives d cs within e open'.
    let same : c.push_ranges.new.found ≡ ranges_of c.args.shelf.now (sorts_of (symbol_at c.args.sig.now c.args.sym)) c.args.row.now =
    c.in_ok-push_ranges.ensures ∙ ap (λ l. l ++ ranges_of c.args.shelf.now c.args_of.result.now c.args.row.now) c.new-ranges.ensures
    ∙ ap (λ l. ranges_of c.args.shelf.now l c.args.row.now) (sym (sorts_are (symbol_at c.args.sig.now c.args.sym) c.args_of.result.now c.args_of.ensures)) in
    no_first c.args.sig.now lives c.args.sym d cs c.push_ranges.new.found e (subst (IsOpen c.args.sig.now lives c.args.sym cs) (sym same) open') c.in_ok-counts.counts
    (c.in_ok-counts.ensures ∙ ap range_counts c.as_slice.ensures) (none_case _ _ c.in_ok-walk.field-0 c.in-None.is c.in_ok-walk.ensures)
