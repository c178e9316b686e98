use Rattle.std.proofs.Common.{◌≡◌, length, ap, ◌∙◌, arith}
use Rattle.law_listing.specs.Listing.{level, levels_to}
use Rattle.law_explore.proofs.Levels.{level_first, level_next}
use Rattle.law_explore.proofs.schemas.levels.Goals as goal

pub level-requires : goal.level-requires
level-requires c = let e = ap length c.as_slice.ensures in omega arith

pub loop-made-init : goal.loop-made-init
loop-made-init c = level_first c.args.sig.now c.new-levels.result c.push.new.self c.new.result c.new-levels.ensures c.new.ensures c.in_ok-push.ensures.ok

pub loop-made-preserved : goal.loop-made-preserved
loop-made-preserved c =
    level_next c.args.sig.now c.loop-made._made c.loop-made.levels c.push-in-loop-made.new.self c.in_ok-next.next c.loop-made.invariant.0 c.loop-made.invariant.1
    c.in_ok-push-2.ensures.ok (c.in_ok-next.ensures ∙ ap (λ x. level c.args.sig.now x (length x)) c.as_slice.ensures)

pub returns : goal.returns
returns c = let e : c.loop-made._made ≡ c.args.size = omega arith in c.loop-made.invariant.0 ∙ ap (levels_to c.args.sig.now) e
