use Rattle.std.proofs.Common.{◌∙◌, sym, ap, is_some}
use Rattle.law_typing.proofs.TreeOfFacts.{typed_none, typed_unsorted}
use Rattle.law_types.proofs.typing.typed.Goals as goal

pub returns-else-is_some : goal.returns-else-is_some
returns-else-is_some c = typed_unsorted c.args.sig.now c.args.term.now c.in-Some.tree c.settings-settings.ensures.well_formed
    (sym c.in-Some.is ∙ c.in_ok-tree.ensures) (ap is_some (sym c.sort_of.ensures) ∙ sym c.is_some.ensures ∙ c.if-is_some.false)

pub returns-in-None : goal.returns-in-None
returns-in-None c = typed_none c.args.sig.now c.args.term.now c.settings-settings.ensures.well_formed (sym c.in-None.is ∙ c.in_ok-tree.ensures)
