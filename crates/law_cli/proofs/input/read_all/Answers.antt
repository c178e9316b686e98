use Rattle.std.proofs.Common.{rules, arith, refl, sym, ◌∙◌, [], ◌+◌, ◌++◌, take, drop, subst}
use Rattle.std.proofs.lemmas.List.{length-take, take-append-le}
use Rattle.law_cli.proofs.LeftFacts.{Consumes-none}
use Rattle.law_cli.specs.Commands.{most_bytes}
use Rattle.law_cli.specs.Reading.{StandsFor}
use Rattle.law_cli.proofs.TopFacts.{gave_at_most, gave_too_many, one_more, went}
use Rattle.law_cli.proofs.input.read_all.Goals as goal

pub loop-got-init : goal.loop-got-init
loop-got-init g c = record { bytes = []; consumed = Consumes-none _; counted = refl; short = omega arith; stands = c.requires; steady = refl }

pub returns-then-is_err-clause-asked : goal.returns-then-is_err-clause-asked
returns-then-is_err-clause-asked g c =
    gave_at_most _ _ _ c.loop-got.invariant.bytes c.pull.new.buf c.in-Ok.got _ (most_bytes c.args.asked + 1) c.loop-got.invariant.consumed c.in-Ok.ensures.bytes.0 c.loop-got.invariant.counted
    (omega (arith, c.in-Ok.ensures.bound, c.pull.auto.buf, c.loop-got.invariant.short, length-take c.min-room.result c.loop-got.buffer, c.most_bytes-most.ensures))

pub returns-then-count-most-clause-long : goal.returns-then-count-most-clause-long
returns-then-count-most-clause-long g c = λ _.
    gave_too_many _ _ _ c.loop-got.invariant.bytes c.pull.new.buf c.in-Ok.got _ (most_bytes c.args.asked) c.loop-got.invariant.consumed c.in-Ok.ensures.bytes.0 c.loop-got.invariant.counted
    c.in-Ok.ensures.bound.0
    (omega (arith, c.in-Ok.ensures.bound, c.pull.auto.buf, c.loop-got.invariant.short, length-take c.min-room.result c.loop-got.buffer, c.most_bytes-most.ensures))

pub returns-then-count-most-clause-asked : goal.returns-then-count-most-clause-asked
returns-then-count-most-clause-asked g c =
    gave_at_most _ _ _ c.loop-got.invariant.bytes c.pull.new.buf c.in-Ok.got _ (most_bytes c.args.asked + 1) c.loop-got.invariant.consumed c.in-Ok.ensures.bytes.0 c.loop-got.invariant.counted
    (omega (arith, c.in-Ok.ensures.bound, c.pull.auto.buf, c.loop-got.invariant.short, length-take c.min-room.result c.loop-got.buffer, c.most_bytes-most.ensures))

pub loop-got-preserved : goal.loop-got-preserved
loop-got-preserved g c =
    one_more c.args.asked _ _ _ c.loop-got.pieces c.take.new.self c.loop-got.count c.in-Ok.got _ _ _ (take c.in-Ok.got c.pull.new.buf) c.loop-got.invariant c.in-Ok.ensures.bytes.0
    (omega (arith, length-take c.in-Ok.got c.pull.new.buf, c.in-Ok.ensures.bound)) (omega (arith, c.if-count-most.false, c.most_bytes-most.ensures))
    (λ command text stands. subst (λ p. StandsFor command c.take.new.self (text ++ p))
    (take-append-le c.in-Ok.got c.pull.new.buf (drop c.min-room.result c.loop-got.buffer) c.in-Ok.ensures.bound.0)
    (went c.take.result _ c.take.ensures (sym c.is_err.ensures.value ∙ c.if-is_err.false) command text stands)) (search rules)
