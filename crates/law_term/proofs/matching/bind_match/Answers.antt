use Rattle.std.proofs.Common.{refl, sym, subst}
use Rattle.law_bank.specs.Terms.{tree_of}
use Rattle.law_bank.specs.Bank.{sorts_by}
use Rattle.law_bank.specs.Bindings.{AllBound, binds_of}
use Rattle.law_bank.proofs.BankFacts.{sort_is}
use Rattle.law_bank.proofs.BindingFacts.{put_held}
use Rattle.law_term.proofs.Turns.{match_known, match_fresh, match_other_sort, is_sorted}
use Rattle.law_term.proofs.matching.bind_match.Goals as goal

pub returns-then-term-sort-clause-next : goal.returns-then-term-sort-clause-next
returns-then-term-sort-clause-next c = match_other_sort (sorts_by c.args.bank.now.sorts) c.args.sort _ c.args.index (tree_of c.args.term.now) (binds_of c.args.bound.now)
    (sort_is c.args.bank.now c.args.term.now c.requires.term) c.if-term-sort.true

pub returns-in-Some-clause-next : goal.returns-in-Some-clause-next
returns-in-Some-clause-next c = match_known c.args.bank.now (sorts_by c.args.bank.now.sorts) c.args.sort c.args.index c.args.bound.now c.in-Some.known c.args.term c.requires.shared
    (c.in-Some.ensures.held c.args.bank.now c.requires.held) c.requires.term c.in-Some.ensures.found _ refl

pub returns-in_ok-bind-in-None-clause-next : goal.returns-in_ok-bind-in-None-clause-next
returns-in_ok-bind-in-None-clause-next c = match_fresh (sorts_by c.args.bank.now.sorts) c.args.sort c.args.index c.args.bound.now c.bind.new.self c.args.term c.in-None.ensures.found
    (is_sorted (sorts_by c.args.bank.now.sorts) (tree_of c.args.term.now) c.args.sort _ (sort_is c.args.bank.now c.args.term.now c.requires.term) c.if-term-sort.false) c.in_ok-bind-in-None.ensures.ok

pub returns-in_ok-bind-in-None-clause-held : goal.returns-in_ok-bind-in-None-clause-held
returns-in_ok-bind-in-None-clause-held c = subst (AllBound c.args.bank.now) (sym c.in_ok-bind-in-None.ensures.ok)
    (put_held (c.args.sort, c.args.index, c.args.term) c.args.bank.now c.requires.term c.args.bound.now c.requires.held)
