use Rattle.std.proofs.Common.{ap, sym, ◌∙◌, subst}
use Rattle.law_sig.specs.declared.tree.SymId.{SymId}
use Rattle.law_bank.specs.Terms.{tree_of}
use Rattle.law_bank.specs.Bank.{sorts_by}
use Rattle.law_bank.specs.Bindings.{AllBound, AreRising, binds_of}
use Rattle.law_bank.proofs.BankFacts.{below}
use Rattle.law_term.specs.Turns.{open_of}
use Rattle.law_term.proofs.Turns.{start_held, pop_held, went_true, went_false, match_start, match_end, pop_smaller, var_top, sym_var, other_symbol, other_count, args_open, args_fewer}
use Rattle.law_term.proofs.matching.matches.Goals as goal

pub loop-a-init : goal.loop-a-init
loop-a-init c = record {
  open_held = start_held c.args.bank.now c.args.pattern c.args.term c.new-left.result.items c.push.new.self.items c.new-left.ensures.items c.in-Ok.ensures.items c.requires.pattern c.requires.term;
  bound_held = subst (AllBound c.args.bank.now) (sym c.new-bound.ensures) tt;
  rising = subst AreRising (sym c.new-bound.ensures) tt;
  is = match_start (sorts_by c.args.bank.now.sorts) c.args.pattern c.args.term c.new-left.result.items c.push.new.self.items c.new-bound.result c.new-left.ensures.items c.in-Ok.ensures.items c.new-bound.ensures;
}

pub bind_match-requires-clause-term : goal.bind_match-requires-clause-term
bind_match-requires-clause-term c = (pop_held _ _ _ _ _ c.loop-a.invariant.open_held c.in-Some.ensures.items).2

pub returns-then-not-went-clause-found : goal.returns-then-not-went-clause-found
returns-then-not-went-clause-found c = went_false (sorts_by c.args.bank.now.sorts) (tree_of c.args.pattern.now) (tree_of c.args.term.now) (open_of c.pop.new.self.items) (binds_of c.bind_match.new.bound) _
    (c.in_ok-went-in-Var-default.ensures.next _ _ _ (var_top _ _ _ _ _ _ _ _ c.loop-a.invariant.is c.in-Some.ensures.items _ _ c.in-Var-default.is-0)) c.if-not-went.true

pub loop-a-smaller-else-not-went : goal.loop-a-smaller-else-not-went
loop-a-smaller-else-not-went c = pop_smaller _ _ _ _ c.in-Some.ensures.items

pub loop-a-preserved-else-not-went : goal.loop-a-preserved-else-not-went
loop-a-preserved-else-not-went c = record {
  open_held = (pop_held _ _ _ _ _ c.loop-a.invariant.open_held c.in-Some.ensures.items).0;
  bound_held = c.in_ok-went-in-Var-default.ensures.held;
  rising = c.in_ok-went-in-Var-default.ensures.rising;
  is = went_true (sorts_by c.args.bank.now.sorts) (tree_of c.args.pattern.now) (tree_of c.args.term.now) (open_of c.pop.new.self.items) (binds_of c.bind_match.new.bound) _
      (c.in_ok-went-in-Var-default.ensures.next _ _ _ (var_top _ _ _ _ _ _ _ _ c.loop-a.invariant.is c.in-Some.ensures.items _ _ c.in-Var-default.is-0)) c.if-not-went.false;
}

pub returns-then-f-g-clause-found : goal.returns-then-f-g-clause-found
returns-then-f-g-clause-found c = other_symbol _ _ _ _ _ _ _ _ c.loop-a.invariant.is c.in-Some.ensures.items _ _ c.in-Sym-Sym.is-0 c.in-Sym-Sym.is-1
    (λ e. c.if-f-g.true (λ i. (e i).0))

pub returns-then-a-b-clause-found : goal.returns-then-a-b-clause-found
returns-then-a-b-clause-found c = other_count _ _ _ _ _ _ _ _ c.loop-a.invariant.is c.in-Some.ensures.items _ _ c.in-Sym-Sym.is-0 c.in-Sym-Sym.is-1 c.if-a-b.true

pub loop-a-smaller : goal.loop-a-smaller
loop-a-smaller c = args_fewer _ _ _ _ _ _ _ _ c.loop-a.invariant.is c.in-Some.ensures.items _ _ c.in-Sym-Sym.is-0 c.in-Sym-Sym.is-1 c.push_args.new.left.items
    c.in_ok-push_args-in-Sym-Sym.ensures.pairs

pub loop-a-preserved : goal.loop-a-preserved
loop-a-preserved c =
    let p = pop_held _ _ _ _ _ c.loop-a.invariant.open_held c.in-Some.ensures.items in
    record {
      open_held = c.in_ok-push_args-in-Sym-Sym.ensures.held _ (below _ _ p.1) (below _ _ p.2) p.0;
      bound_held = c.loop-a.invariant.bound_held;
      rising = c.loop-a.invariant.rising;
      is = args_open _ _ _ _ _ _ _ _ c.loop-a.invariant.is c.in-Some.ensures.items _ _ c.in-Sym-Sym.is-0 c.in-Sym-Sym.is-1 c.push_args.new.left.items
          (ap (λ n. let x : SymId = record { 0 = n } in x) c.if-f-g.false) c.if-a-b.false c.in_ok-push_args-in-Sym-Sym.ensures.pairs;
    }

pub returns-in-Sym-Var-clause-found : goal.returns-in-Sym-Var-clause-found
returns-in-Sym-Var-clause-found c = sym_var _ _ _ _ _ _ _ _ c.loop-a.invariant.is c.in-Some.ensures.items _ _ _ c.in-Sym-Var.is-0 c.in-Sym-Var.is-1

pub returns-clause-found : goal.returns-clause-found
returns-clause-found c =
    match_end (sorts_by c.args.bank.now.sorts) (tree_of c.args.pattern.now) (tree_of c.args.term.now) c.loop-a.left.items c.loop-a.bound
    (sym c.loop-a.left.ok.0 ∙ c.in_default-pop.ensures.cases.0) c.loop-a.invariant.rising c.loop-a.invariant.is
