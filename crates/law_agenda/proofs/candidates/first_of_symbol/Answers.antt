use Rattle.std.proofs.Common.{◌≤◌, ◌<◌, sym, ◌∙◌, arith}
use Rattle.law_sig.specs.Signature.{weight_at}
use Rattle.law_listing.proofs.Stepping.{none_too_heavy, none_not_explored}
use Rattle.law_agenda.proofs.Seeking.{started, not_started, some_case, none_case, choices_are}
use Rattle.law_agenda.proofs.candidates.first_of_symbol.Goals as goal

pub returns-then-weight-own : goal.returns-then-weight-own
returns-then-weight-own c = λ spreads stock.
    let e = c.weight_at-own.ensures.weight in
    let h = c.if-weight-own.true in
    let less : c.args.weight < weight_at c.args.universe.now c.args.sym = omega arith in
    none_too_heavy c.args.universe.now spreads c.args.weight c.args.sym less

pub returns-then-not-is_explored : goal.returns-then-not-is_explored
returns-then-not-is_explored c = λ spreads stock.
    none_not_explored c.args.universe.now spreads c.args.weight c.args.sym (sym c.is_explored.ensures ∙ c.if-not-is_explored.true)

pub returns-in-Some : goal.returns-in-Some
returns-in-Some c = λ spreads stock.
    let h = c.if-weight-own.false in
    let heavy : c.weight_at-own.result ≤ c.args.weight = omega arith in
    started c.args.universe.now spreads c.args.shelf.now c.args.weight stock c.args.sym c.in-Some.walk c.in_ok-choices.choices c.weight_at-own.result c.requires
    (sym c.is_explored.ensures ∙ c.if-not-is_explored.false) c.weight_at-own.ensures.weight heavy
    (choices_are c.args.universe.now c.args.shelf.now c.args.sym _ c.in_ok-choices.choices c.args_of.ensures c.in_ok-choices.ensures)
    (some_case _ _ c.in_ok-walk.field-0 c.in-Some.walk c.in-Some.is c.in_ok-walk.ensures)

pub returns-in-None : goal.returns-in-None
returns-in-None c = λ spreads stock.
    let h = c.if-weight-own.false in
    let heavy : c.weight_at-own.result ≤ c.args.weight = omega arith in
    not_started c.args.universe.now spreads c.args.shelf.now c.args.weight stock c.args.sym c.in_ok-choices.choices c.weight_at-own.result c.requires
    (sym c.is_explored.ensures ∙ c.if-not-is_explored.false) c.weight_at-own.ensures.weight heavy
    (choices_are c.args.universe.now c.args.shelf.now c.args.sym _ c.in_ok-choices.choices c.args_of.ensures c.in_ok-choices.ensures)
    (none_case _ _ c.in_ok-walk.field-0 c.in-None.is c.in_ok-walk.ensures)
