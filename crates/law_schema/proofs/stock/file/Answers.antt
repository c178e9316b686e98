use Rattle.law_schema.proofs.Items.{on_ok, on_err}
use Rattle.law_schema.proofs.Making.{filed_is, kept_is}
use Rattle.law_schema.proofs.stock.file.Goals as goal

pub returns-clause-ok : goal.returns-clause-ok
returns-clause-ok c =
    on_ok _ _ c.add.result
    (λ e. filed_is c.args.columns.now.items c.args.sort c.args.weight c.args.entry c.index_mut.result.now c.add.new.column c.requires.sort c.index_mut.ensures.value e) c.add.ensures.ok

pub returns-clause-err : goal.returns-clause-err
returns-clause-err c =
    on_err _ _ c.add.result (λ e. kept_is c.args.columns.now.items c.args.sort.0 c.index_mut.result.now c.add.new.column c.index_mut.ensures.value e) c.add.ensures.err
