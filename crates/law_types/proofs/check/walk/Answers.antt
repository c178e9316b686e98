use Rattle.std.proofs.Common.{◌∙◌, sym, refl, length}
use Rattle.std.proofs.lemmas.Option.{slice_get_read}
use Rattle.law_types.proofs.LineSteps.{line_found}
use Rattle.law_types.proofs.check.walk.Goals as goal

pub returns-in-Some : goal.returns-in-Some
returns-in-Some c =
    let lines = c.args.lines.now in
    sym c.loop-at.invariant ∙ line_found c.args.text.now c.loop-at.seen lines c.loop-at.at c.index-lines-at.result c.lines_behind-rest.result.now c.in-Some.kind
    (slice_get_read lines (length lines) c.loop-at.at c.index-lines-at.result refl c.loop-at-test.true c.index-lines-at.is)
    c.lines_behind-rest.ensures (sym c.in_ok-fault.ensures ∙ c.in-Some.is)
