use Rattle.std.proofs.Common.{ap, sym, ◌∙◌}
use Rattle.law_rewriting.specs.Heads.{head_sort}
use Rattle.law_rewriting.proofs.Heads.{head-Var, head-App}
use Rattle.law_bank.specs.Terms.{tree_at}
use Rattle.law_bank.specs.Bank.{sorts_by}
use Rattle.law_term.proofs.bank.TermBank.sort_of.Goals as goal

pub returns-in-Var : goal.returns-in-Var
returns-in-Var c = λ below. let r = sorts_by c.args.self.now.sorts in
    sym (ap (λ h. head_sort r (tree_at h below)) c.in-Var.is ∙ head-Var r _ _)

pub returns-in-Sym : goal.returns-in-Sym
returns-in-Sym c = λ below. let r = sorts_by c.args.self.now.sorts in
    c.sort_at.ensures ∙ sym (ap (λ h. head_sort r (tree_at h below)) c.in-Sym.is ∙ head-App r _ below)
