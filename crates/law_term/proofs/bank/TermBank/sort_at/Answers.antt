use Rattle.std.proofs.Common.{◌≡◌, ap, sym, ◌∙◌, subst}
use Rattle.std.specs.Option.{option_copied}
use Rattle.law_bank.specs.Bank.{Terms, sorts_by}
use Rattle.law_sig.specs.declared.tree.SortId.{SortId}
use Rattle.law_term.proofs.Items.{none_index}
use Rattle.law_term.proofs.bank.TermBank.sort_at.Goals as goal

pub returns-in-None : goal.returns-in-None
returns-in-None c = subst (λ (b : Terms). let zero_sort : SortId = record { 0 = 0 } in zero_sort ≡ sorts_by b.sorts c.args.symbol) c.self.view_is
    (none_index c.self.inside.sorts c.args.symbol.0 (record { 0 = 0 }) (sym c.get.ensures.value ∙ ap option_copied c.in-None.is))
