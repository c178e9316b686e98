use Rattle.std.proofs.Common.{◌≡◌, subst, sym, ap, ◌∙◌, slice_index_or}
use Rattle.law_sig.specs.declared.tree.Tree.TheVariants.{App}
use Rattle.law_bank.specs.Terms.{trees_of}
use Rattle.law_bank.specs.Bank.{AllOf}
use Rattle.law_schema.specs.Columns.{columns_of}
use Rattle.law_schema.specs.Places.{IsAhead}
use Rattle.law_schema.proofs.Making.{picked_held, picked_is, applied_tree}
use Rattle.law_schema.proofs.places.term_ahead.Goals as goal

pub intern-requires-in-App-clause-held : goal.intern-requires-in-App-clause-held
intern-requires-in-App-clause-held c =
    subst (AllOf c.args.bank.now)
    (sym (picked_is (columns_of c.args.columns.now) c.index-as_slice-application.result.args c.as_slice-in-App.result.now c.in-App.application.walk.next.items c.as_slice-in-App-2.result.now
    c.new-entries.result.items c.push_entries.new.found.items c.as_slice-in-App-3.result.now c.in_ok-args-in-App.args.items c.as_slice-in-App-4.result.now
    c.as_slice-in-App.ensures c.as_slice-in-App-2.ensures.value c.new-entries.ensures.items c.in_ok-push_entries-in-App.ensures c.as_slice-in-App-3.ensures.value c.in_ok-args-in-App.ensures
    c.as_slice-in-App-4.ensures.value))
    (picked_held c.args.bank.now (columns_of c.args.columns.now) c.requires.held c.index-as_slice-application.result.args c.in-App.application.walk.next.items)

pub returns-in_ok-made-in-App-clause-tree : goal.returns-in_ok-made-in-App-clause-tree
returns-in_ok-made-in-App-clause-tree c = λ t is.
    c.in_ok-made-in-App.ensures.tree
    ∙ ap (λ l. App c.index-as_slice-application.result.symbol (trees_of l))
    (picked_is (columns_of c.args.columns.now) c.index-as_slice-application.result.args c.as_slice-in-App.result.now c.in-App.application.walk.next.items c.as_slice-in-App-2.result.now
    c.new-entries.result.items c.push_entries.new.found.items c.as_slice-in-App-3.result.now c.in_ok-args-in-App.args.items c.as_slice-in-App-4.result.now
    c.as_slice-in-App.ensures c.as_slice-in-App-2.ensures.value c.new-entries.ensures.items c.in_ok-push_entries-in-App.ensures c.as_slice-in-App-3.ensures.value c.in_ok-args-in-App.ensures
    c.as_slice-in-App-4.ensures.value)
    ∙ applied_tree c.args.rules.now (columns_of c.args.columns.now) c.in-App.application c.in-App.application.walk.next.items t c.index-as_slice-application.result
    (subst (λ l. c.index-as_slice-application.result ≡ slice_index_or l c.in-App.application.rule c.index-as_slice-application.result) c.as_slice.ensures c.index-as_slice-application.is)
    (subst (λ p. IsAhead c.args.rules.now (columns_of c.args.columns.now) p t) c.in-App.is is)
