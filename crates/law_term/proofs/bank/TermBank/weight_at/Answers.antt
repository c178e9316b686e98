use Rattle.std.proofs.Common.{◌≡◌, slice_index_or, ap, sym, ◌∙◌, subst}
use Rattle.std.specs.Option.{option_copied}
use Rattle.law_bank.specs.Bank.{Terms}
use Rattle.law_term.proofs.Items.{none_index}
use Rattle.law_term.proofs.bank.TermBank.weight_at.Goals as goal

pub returns-in-None-clause-weight : goal.returns-in-None-clause-weight
returns-in-None-clause-weight c = subst (λ (b : Terms). 1 ≡ slice_index_or b.weights c.args.symbol.0 1) c.self.view_is
    (none_index c.self.inside.weights c.args.symbol.0 1 (sym c.get.ensures.value ∙ ap option_copied c.in-None.is))
