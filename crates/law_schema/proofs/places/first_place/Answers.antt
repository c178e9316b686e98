use Rattle.std.proofs.Common.{arith}
use Rattle.law_schema.specs.Columns.{columns_of}
use Rattle.law_schema.proofs.Items.{if_ok}
use Rattle.law_schema.proofs.Seeking.{var_first, no_var_first}
use Rattle.law_schema.proofs.places.first_place.Goals as goal

pub returns-in-Some : goal.returns-in-Some
returns-in-Some c = λ parts schemas are stocked. var_first parts c.args.rules.now schemas (columns_of c.args.columns.now) c.args.from c.in-Some.sort are stocked c.in-Some.ensures

pub returns-in-None : goal.returns-in-None
returns-in-None c =
    if_ok _ _ c.first_app.result
    (λ r go parts schemas are stocked.
    no_var_first parts c.args.rules.now schemas (columns_of c.args.columns.now) c.args.from r are stocked c.in-None.ensures
    (go parts schemas 0 are stocked (omega arith) are.formed.settings.size.0 are.symbols))
    c.first_app.ensures
