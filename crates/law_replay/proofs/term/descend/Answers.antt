use Rattle.std.proofs.Common.{List, ◌+◌, drop, sym, subst}
use Rattle.law_replay.specs.declared.term.Term.{Term}
use Rattle.law_replay.specs.declared.term.Frame.{Frame}
use Rattle.law_replay.specs.Terms.{meaning, IsOpened, LeadsTo}
use Rattle.law_replay.proofs.Descending.{no_variable, no_argument, down, dropped_number}
use Rattle.law_replay.proofs.term.descend.Goals as goal

pub returns-in_default : goal.returns-in_default
returns-in_default c = no_variable _ _ _ _ _ _ c.loop-number.invariant _ (dropped_number c.args.place.now c.loop-number.number-index c.loop-number-test.true)
    (subst (IsOpened (meaning c.loop-number.here)) c.in_default.is c.in_ok-opened.ensures)

pub returns-then-at-opened : goal.returns-then-at-opened
returns-then-at-opened c = no_argument _ _ _ _ _ _ c.loop-number.invariant _ (dropped_number c.args.place.now c.loop-number.number-index c.loop-number-test.true)
    c.in-Some.opened.head c.in-Some.opened.args (subst (IsOpened (meaning c.loop-number.here)) c.in-Some.is c.in_ok-opened.ensures) c.if-at-opened.true

pub loop-number-preserved : goal.loop-number-preserved
loop-number-preserved c =
    let rest = drop (c.loop-number.number-index + 1) c.args.place.now in
    subst (λ (x : Term). LeadsTo (meaning c.args.term) c.args.place.now c.push.new.self.items rest (meaning x)) c.index-opened-at.is
    (subst (λ (fs : List Frame). LeadsTo (meaning c.args.term) c.args.place.now fs rest (meaning c.index-opened-at.result)) (sym c.in-Ok.ensures.items)
    (down _ _ _ _ _ _ c.loop-number.invariant _ (dropped_number c.args.place.now c.loop-number.number-index c.loop-number-test.true)
    c.in-Some.opened.head c.in-Some.opened.args (subst (IsOpened (meaning c.loop-number.here)) c.in-Some.is c.in_ok-opened.ensures)
    c.index-opened-at.result c.if-at-opened.false c.index-opened-at.is))
