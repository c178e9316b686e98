use Rattle.std.proofs.Common.{subst}
use Rattle.law_term.specs.Tables.{IsCounted, IsNumberPut}
use Rattle.law_term.proofs.Tabling.{placing_on, placing_end}
use Rattle.law_term.proofs.table.places_of.Goals as goal

pub loop-at-preserved : goal.loop-at-preserved
loop-at-preserved c = placing_on c.args.variables.now c.loop-at.at c.loop-at.counts.entries c.loop-at.places.entries _ c.loop-at-test.true c.loop-at.invariant
    c.in_ok-number.number c.count.new.counts.entries c.put.new.places.entries
    (subst (λ k. IsCounted k c.in_ok-number.number c.loop-at.counts.entries c.count.new.counts.entries) c.from.ensures c.in_ok-number.ensures)
    (subst (λ k. IsNumberPut k c.in_ok-number.number c.loop-at.places.entries c.put.new.places.entries) c.key_of.ensures.key c.in_ok-put.ensures) c.key_of.ensures.small

pub returns : goal.returns
returns c = placing_end c.args.variables.now c.loop-at.at c.loop-at.counts.entries c.loop-at.places.entries c.loop-at-test.false c.loop-at.invariant
