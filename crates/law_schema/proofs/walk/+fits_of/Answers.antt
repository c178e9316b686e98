use Rattle.std.proofs.Common.{◌<◌, ◌∷◌, ◌++◌, [], length, slice_index_or, subst, sym, ◌∙◌, ap, arith}
use Rattle.law_listing.specs.Picks.{AreAllFits}
use Rattle.law_listing.proofs.PickFacts.{more_fits, sums_of, any_default}
use Rattle.law_schema.proofs.walk.+fits_of.Goals as goal

pub returns : goal.returns
returns t c =
    let long = c.in_ok-fits.ensures.long in
    let within : length c.in-Some.rest.now < length c.in_ok-fits.fits = omega arith in
    subst (AreAllFits c.args.choices.now) (sym c.in_ok-push-2.ensures.ok)
    (subst (λ l. AreAllFits l (c.in_ok-fits.fits ++ c.in_ok-more.more ∷ [])) (sym c.in-Some.ensures.cases.0)
    (more_fits c.in-Some.first.now c.in-Some.rest.now c.in_ok-fits.fits c.in_ok-more.more c.in_ok-fits.ensures
    (sums_of _ _ _ _ c.in_ok-more.more c.as_slice-2.ensures
    (c.as_slice-3.ensures ∙ c.index-as_slice-rest.is ∙ ap (λ l. slice_index_or l (length c.in-Some.rest.now) c.index-as_slice-rest.result) c.as_slice.ensures
    ∙ any_default c.in_ok-fits.fits (length c.in-Some.rest.now) c.index-as_slice-rest.result [] within)
    c.in_ok-more.ensures)))
