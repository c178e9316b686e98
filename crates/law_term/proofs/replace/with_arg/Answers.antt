use Rattle.std.proofs.Common.{◌≡◌, rules, slice_set, subst, sym}
use denote.Bor.{Bor}
use Rattle.law_bank.specs.declared.node.Node.{Node, out-Node}
use Rattle.law_bank.specs.Bank.{AllOf, IsOf}
use Rattle.law_bank.proofs.BankFacts.{here, below}
use Rattle.law_term.proofs.Placing.{fits_set, each_set}
use Rattle.law_term.proofs.replace.with_arg.Goals as goal

pub intern-requires-clause-fits : goal.intern-requires-clause-fits
intern-requires-clause-fits c = fits_set (out-Node c.args.term.now).head (out-Node c.args.term.now).args.now c.as_slice.result.now c.args.number (here c.args.bank.now c.args.term.now c.requires.term).fits c.requires.within

pub intern-requires-clause-held : goal.intern-requires-clause-held
intern-requires-clause-held c =
    let e : c.as_slice.result.now ≡ slice_set (out-Node c.args.term.now).args.now c.args.number c.args.new = search rules in
    subst (AllOf c.args.bank.now) (sym e) (each_set (λ (b : Bor Node). IsOf c.args.bank.now b.now) (out-Node c.args.term.now).args.now c.args.number c.args.new c.requires.new
    (below c.args.bank.now c.args.term.now c.requires.term))
