use Rattle.std.proofs.Common.{arith}
use Rattle.law_listing.proofs.Stepping.{none_from_here}
use Rattle.law_agenda.proofs.Seeking.{first_from_here, some_case}
use Rattle.law_agenda.proofs.candidates.first_from_symbol.Goals as goal

pub returns-in-Some : goal.returns-in-Some
returns-in-Some c = λ spreads stock.
    first_from_here c.args.universe.now spreads c.args.shelf.now c.args.weight stock c.args.from c.loop-number.number c.in-Some.found c.loop-number.invariant.0 (c.loop-number.invariant.1 spreads stock)
    (some_case _ _ c.in_ok-found.field-0 c.in-Some.found c.in-Some.is (c.in_ok-found.ensures spreads stock))

pub returns : goal.returns
returns c = λ spreads stock.
    let h = c.symbols-number-end.ensures in
    let k = c.loop-number-test.false in
    none_from_here c.args.universe.now spreads c.args.weight stock.formed c.args.from c.loop-number.number (omega arith) (c.loop-number.invariant.1 spreads stock)
