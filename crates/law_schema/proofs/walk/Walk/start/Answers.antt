use Rattle.std.proofs.Common.{inl, inr, ap, length, ◌∙◌, subst, subst₂}
use Rattle.law_listing.specs.Picks.{AreFits, AreAllFits}
use Rattle.law_schema.proofs.Walking.{IsSought, walk_started}
use Rattle.law_schema.proofs.walk.Walk.start.Goals as goal
use Rattle.law_schema.proofs.walk.Walk.start.Goals.{then-found, else-found}

pub returns-clause-walk : goal.returns-clause-walk
returns-clause-walk c =
    walk_started c.args.choices c.in_ok-fits.fits c.args.weight c.if-found.result c.in_ok-row.row c.in_ok-next.next c.set_first-found.result c.set_first-found.new.row
    (subst (λ l. AreAllFits l c.in_ok-fits.fits) c.as_slice.ensures c.in_ok-fits.ensures) (c.in_ok-row.ensures ∙ c.len.ensures) (c.set_first-found.auto.row ∙ c.as_mut_slice.ensures.len)
    (c.set_first-found.auto.row ∙ ap length c.as_mut_slice.ensures.value ∙ c.in_ok-next.ensures ∙ c.len-2.ensures)
    (elim c.if-found.branch [ then-found w ↦ inl (w.if-found.true, w.result-is) | else-found w ↦ inr (w.if-found.false, w.result-is) ])
    (subst₂ (λ l f. AreFits l f → IsSought l c.args.weight c.set_first-found.result c.set_first-found.new.row) c.as_slice-2.ensures c.as_slice-3.ensures c.set_first-found.ensures)
