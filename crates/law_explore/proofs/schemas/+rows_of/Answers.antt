use Rattle.std.proofs.Common.{◌≡◌, [], ◌-◌, sym, ap, ◌∙◌}
use Rattle.std.proofs.lemmas.List.{nil_from_length}
use Rattle.law_listing.specs.Rows.{crossed, rows_of}
use Rattle.law_listing.specs.Listing.{of_weight}
use Rattle.law_explore.proofs.Levels.{crossed_none, nothing_more}
use Rattle.law_explore.proofs.schemas.+rows_of.Goals as goal

pub loop-lighter-preserved-then-len-eq0 : goal.loop-lighter-preserved-then-len-eq0
loop-lighter-preserved-then-len-eq0 t c =
    let items = of_weight c.args.sig.now c.args.levels.now in
    let none : c.in_ok-below.below ≡ [] = nil_from_length c.in_ok-below.below (sym c.len.ensures ∙ c.if-len-eq0.true) in
    nothing_more c.loop-lighter.lighter (λ k. crossed (items k c.in-Some.first.now) (rows_of items c.in-Some.rest.now (c.args.weight - k))) c.loop-lighter.found
    c.loop-lighter.invariant
    (ap (crossed (items c.loop-lighter.lighter c.in-Some.first.now)) (sym c.in_ok-below.ensures ∙ none) ∙ crossed_none (items c.loop-lighter.lighter c.in-Some.first.now))
