use Rattle.std.proofs.Common.{ap, ◌∙◌, subst, sym, List}
use denote.Bor.{Bor}
use Rattle.law_bank.specs.declared.node.Node.{Node, out-Node}
use Rattle.law_bank.specs.declared.node.Head.TheVariants.{Sym}
use Rattle.law_bank.specs.Terms.{tree_at, trees_of}
use Rattle.law_bank.specs.Bank.{AllOf}
use Rattle.law_term.specs.Walks.{meaning}
use Rattle.law_term.proofs.Walking.{images_held, changed_var, changed_sym}
use Rattle.law_term.proofs.change.changed_node.Goals as goal

pub intern-requires-clause-held : goal.intern-requires-clause-held
intern-requires-clause-held c = subst (AllOf c.args.bank.now) (sym c.as_slice.ensures.value)
    (images_held c.args.bank.now c.args.done.now.entries c.requires.made (out-Node c.args.term.now).args.now c.in_ok-args-in-Sym.args.items c.in_ok-args-in-Sym.ensures)

pub returns-in_ok-made-in-Var-clause-tree : goal.returns-in_ok-made-in-Var-clause-tree
returns-in_ok-made-in-Var-clause-tree c = λ start of h.
    changed_var (meaning c.args.change) c.args.term.now c.in_ok-made-in-Var.made.now c.in-Var.sort c.in-Var.index c.in-Var.is c.in_ok-made-in-Var.ensures.tree

pub returns-in_ok-made-in-Sym-clause-tree : goal.returns-in_ok-made-in-Sym-clause-tree
returns-in_ok-made-in-Sym-clause-tree c = λ start of h.
    changed_sym start (meaning c.args.change) c.args.term.now c.in_ok-made-in-Sym.made.now c.in-Sym.symbol c.args.done.now.entries c.in_ok-args-in-Sym.args.items c.in-Sym.is
    (c.in_ok-made-in-Sym.ensures.tree ∙ ap (λ (l : List (Bor Node)). tree_at (Sym c.in-Sym.symbol) (trees_of l)) c.as_slice.ensures.value) c.in_ok-args-in-Sym.ensures of h
