use Rattle.std.proofs.Common.{[], unwrap_or, ap, ◌∙◌}
use Rattle.std.proofs.lemmas.Option.{unwrap_or-slice_get}
use Rattle.law_types.proofs.naming.name_of_symbol.Goals as goal

pub returns-in-None : goal.returns-in-None
returns-in-None c = c.new.ensures ∙ ap (λ o. unwrap_or o []) c.in-None.ensures ∙ unwrap_or-slice_get c.args.sig.now.symbol_names c.args.sym.0 []
