use Rattle.std.proofs.Common.{sym, ap, ◌∙◌}
use Rattle.law_sig.specs.declared.tree.Tree.TheVariants.{App}
use Rattle.law_explore.proofs.VectorFacts.{no_args, args_found}
use Rattle.law_explore.proofs.classes.arg_classes.Goals as goal

pub returns-in-Var : goal.returns-in-Var
returns-in-Var c = no_args c.args.table.now c.args.classes.now c.args.term.now c.in-Var.field-0 c.in-Var.field-1 c.new.result c.in-Var.is

pub classes_at-requires : goal.classes_at-requires
classes_at-requires c = c.requires c.in-App.field-0 c.as_slice.result.now (c.in-App.is ∙ ap (App c.in-App.field-0) (sym c.as_slice.ensures))

pub returns-in-App : goal.returns-in-App
returns-in-App c =
    args_found c.args.table.now c.args.classes.now c.args.term.now c.in-App.field-0 c.in-App.args c.as_slice.result.now c.in-App.is c.as_slice.ensures c.classes_at.result c.classes_at.ensures
