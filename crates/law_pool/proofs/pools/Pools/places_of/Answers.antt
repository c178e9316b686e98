use Rattle.std.proofs.Common.{◌<◌, length, subst, sym, slice_index_or}
use Rattle.law_pool.specs.Kept.{IsPlaces}
use Rattle.law_pool.proofs.KeptFacts.{within_kept, places_kept}
use Rattle.law_pool.proofs.pools.Pools.places_of.Goals as goal

pub bounds-as_slice-sort : goal.bounds-as_slice-sort
bounds-as_slice-sort c = subst (λ l. c.args.sort.0 < length l) (sym c.as_slice.ensures)
    (within_kept c.self.inside.places c.self.inside.values c.args.self.now c.args.sort.0 c.self.view_is c.requires)

pub returns : goal.returns
returns c = subst (λ l. IsPlaces c.args.self.now c.args.sort.0 (slice_index_or l c.args.sort.0 (record { vars = 0; width = 0; step = 0 }))) (sym c.as_slice.ensures)
    (places_kept c.self.inside.places c.self.inside.assignments c.self.inside.values c.args.self.now c.args.sort.0 (record { vars = 0; width = 0; step = 0 }) c.self.invariant c.self.view_is
    (within_kept c.self.inside.places c.self.inside.values c.args.self.now c.args.sort.0 c.self.view_is c.requires))
