use Rattle.std.proofs.Common.{◌+◌, ◌-◌, ◌^◌, ◌≡◌, min, ap, ◌∙◌, arith}
use Rattle.law_sig.specs.declared.tree.Tree.TheVariants.{Var}
use Rattle.law_rewriting.specs.Pairs.{shifted}
use Rattle.law_rewriting.proofs.Variables.{agreeing}
use Rattle.law_bank.specs.Terms.{tree_of}
use Rattle.law_term.specs.declared.change.Change.TheVariants.{Shift}
use Rattle.law_term.specs.Walks.{meaning}
use Rattle.law_term.proofs.bank.TermBank.shift.Goals as goal

pub returns-clause-tree : goal.returns-clause-tree
returns-clause-tree c = c.in_ok-made.ensures.tree ∙ agreeing (meaning (Shift c.args.by)) (shifted c.args.by) (tree_of c.args.term.now)
    (λ s i at. let small = c.requires.small s i at in let e : min (i + c.args.by) (2 ^ 32 - 1) ≡ i + c.args.by = omega arith in ap (Var s) e)
