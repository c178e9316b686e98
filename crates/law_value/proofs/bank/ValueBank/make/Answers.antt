use Rattle.std.proofs.Common.{List, ap, subst, sym, slice_index_or, ◌∙◌}
use Rattle.law_sig.specs.declared.tree.Tree.{Tree}
use Rattle.law_ids.specs.Values.{no_tree}
use Rattle.law_value.specs.Cells.{AreCells}
use Rattle.law_value.proofs.CellFacts.{known_is}
use Rattle.law_value.proofs.bank.ValueBank.make.Goals as goal

pub returns-in-Some-clause-tree : goal.returns-in-Some-clause-tree
returns-in-Some-clause-tree c =
    ap (λ (bank : List Tree). slice_index_or bank c.in-Some.place no_tree) c.self.view_is
    ∙ (known_is c.args.self.now c.self.inside.cells.keys c.args.sym c.args.fields.now c.in-Some.place
    (subst (λ (bank : List Tree). AreCells c.self.inside.cells.keys bank) c.self.view_is c.self.invariant) (sym c.in-Ok.ensures ∙ c.in-Some.is)).1
