use Rattle.std.proofs.Common.{ap, sym, ◌∙◌, ◌+◌, map, slice_index_or}
use Rattle.law_sig.specs.Lists.{total}
use Rattle.law_sig.specs.Tests.{weight}
use Rattle.law_laws.proofs.TreeFacts.{weight-Var, weight-App}
use Rattle.law_bank.specs.Terms.{tree_at, trees_of}
use Rattle.law_bank.specs.Bank.{capped}
use Rattle.law_term.proofs.bank.TermBank.weight_of.Goals as goal

pub returns-in-Var : goal.returns-in-Var
returns-in-Var c = λ parts e. ap capped (sym (ap (λ h. weight parts (tree_at h (trees_of c.args.args.now))) c.in-Var.is ∙ weight-Var parts _ _))

pub returns-in-Sym : goal.returns-in-Sym
returns-in-Sym c = λ parts e. let rest = total (map (weight parts) (trees_of c.args.args.now)) in
    c.weight_over.ensures c.args.self.now parts c.requires e
    ∙ ap (λ n. capped (n + rest)) (c.weight_at.ensures.weight ∙ ap (λ ws. slice_index_or ws c.in-Sym.symbol.0 1) (sym e))
    ∙ ap capped (sym (ap (λ h. weight parts (tree_at h (trees_of c.args.args.now))) c.in-Sym.is ∙ weight-App parts c.in-Sym.symbol (trees_of c.args.args.now)))
