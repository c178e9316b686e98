use Rattle.std.proofs.Common.{subst}
use Rattle.law_agenda.specs.Instances.{IsOpened}
use Rattle.law_agenda.proofs.Instancing.{first_var_instance}
use Rattle.law_agenda.proofs.instances.first_instance.Goals as goal

pub returns-in-Var : goal.returns-in-Var
returns-in-Var c = λ lives d opened.
    let (e, open') = subst (λ z. IsOpened c.args.sig.now lives c.args.shelf.now z d) c.in-Var.is opened in
    first_var_instance c.args.sig.now lives c.in-Var.sort d e open' c.vars_at.result c.vars_at.ensures
