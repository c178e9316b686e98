use Rattle.std.proofs.Common.{subst}
use Rattle.law_schema.specs.declared.places.Place.TheVariants as place
use Rattle.law_schema.specs.Columns.{columns_of}
use Rattle.law_schema.specs.Places.{IsStanding}
use Rattle.law_schema.proofs.Seeking.{start_ahead, var_ahead, app_beside, app_ahead}
use Rattle.law_schema.proofs.places.look_ahead.Goals as goal

pub returns-then-look-clause-ahead : goal.returns-then-look-clause-ahead
returns-then-look-clause-ahead c = λ parts schemas o are stocked standing considered.
    app_beside parts c.args.rules.now schemas (columns_of c.args.columns.now) are stocked c.in-App.application c.look.new.self o
    (subst (λ p. IsStanding c.args.rules.now (columns_of c.args.columns.now) p o) c.in-App.is standing) c.look.ensures.choices c.look.ensures.weight c.look.ensures.walk c.if-look.ensures.next

pub returns-in_ok-first_place-in-Start-clause-ahead : goal.returns-in_ok-first_place-in-Start-clause-ahead
returns-in_ok-first_place-in-Start-clause-ahead c = λ parts schemas o are stocked standing considered.
    start_ahead parts c.args.rules.now schemas (columns_of c.args.columns.now) are stocked o c.in_ok-first_place-in-Start.field-0 c.args.place.now c.at_place.result
    (subst (λ p. IsStanding c.args.rules.now (columns_of c.args.columns.now) p o) c.in-Start.is standing) c.at_place.ensures (c.in_ok-first_place-in-Start.ensures parts schemas are stocked)

pub returns-in_ok-first_place-in-Var-clause-ahead : goal.returns-in_ok-first_place-in-Var-clause-ahead
returns-in_ok-first_place-in-Var-clause-ahead c = λ parts schemas o are stocked standing considered.
    var_ahead parts c.args.rules.now schemas (columns_of c.args.columns.now) are stocked c.in-Var.sort c.saturating_add-next.result o c.in_ok-first_place-in-Var.field-0 (place.Var c.in-Var.sort) c.at_place-in-Var.result
    (subst (λ p. IsStanding c.args.rules.now (columns_of c.args.columns.now) p o) c.in-Var.is standing) considered c.saturating_add-next.ensures c.at_place-in-Var.ensures
    (c.in_ok-first_place-in-Var.ensures parts schemas are stocked)

pub returns-in_ok-first_app-in-App-clause-ahead : goal.returns-in_ok-first_app-in-App-clause-ahead
returns-in_ok-first_app-in-App-clause-ahead c = λ parts schemas o are stocked standing considered.
    app_ahead parts c.args.rules.now schemas (columns_of c.args.columns.now) are stocked c.in-App.application c.saturating_add-next-in-App.result o c.in_ok-first_app-in-App.field-0 (place.App (record { weight = c.in-App.application.weight; rule = c.in-App.application.rule; walk = c.look.new.self })) c.at_place-in-App.result
    (subst (λ p. IsStanding c.args.rules.now (columns_of c.args.columns.now) p o) c.in-App.is standing) c.saturating_add-next-in-App.ensures c.if-look.ensures.next c.at_place-in-App.ensures
    (λ m weighs small between. c.in_ok-first_app-in-App.ensures parts schemas m are stocked weighs small between)
