-- Going in order, piece by piece, and how far that leads.
use Rattle.std.proofs.Common.{◌≡◌, List, [], ◌∷◌, ◌++◌, sym, refl, ◌∙◌, append_assoc, append-nil}
use Rattle.law_valid.specs.Stated.{stated}
use Rattle.law_valid.specs.Order.{Progress, Decision, spread, killed, live, moved, after, after_all, AreExpected, GoInOrder, spread_in, schema_in, live_in}

-- one piece after another

pub expected_on : (p : Progress) (ds more : List Decision) → AreExpected p ds → AreExpected (after_all p ds) more → AreExpected p (ds ++ more)
expected_on p [] more h later = later
expected_on p (x ∷ ds) more h later = (h.0, expected_on (after p x) ds more h.1 later)

pub expected_first : (p : Progress) (ds more : List Decision) → AreExpected p (ds ++ more) → AreExpected p ds
expected_first p [] more h = tt
expected_first p (x ∷ ds) more h = (h.0, expected_first (after p x) ds more h.1)

pub expected_then : (p : Progress) (ds more : List Decision) → AreExpected p (ds ++ more) → AreExpected (after_all p ds) more
expected_then p [] more h = h
expected_then p (x ∷ ds) more h = expected_then (after p x) ds more h.1

pub after_both : (p : Progress) (ds more : List Decision) → after_all p (ds ++ more) ≡ after_all (after_all p ds) more
after_both p [] more = refl
after_both p (x ∷ ds) more = after_both (after p x) ds more

pub go_on : (p : Progress) (ds more : List Decision) → AreExpected p ds → GoInOrder (after_all p ds) more → GoInOrder p (ds ++ more)
go_on p [] more h later = later
go_on p (x ∷ ds) more h later = let g = go_on (after p x) ds more h.1 later in record { each = (h.0, g.each); ends = g.ends }

pub go_then : (p : Progress) (ds more : List Decision) → GoInOrder p (ds ++ more) → GoInOrder (after_all p ds) more
go_then p [] more g = g
go_then p (x ∷ ds) more g = go_then (after p x) ds more (record { each = g.each.1; ends = g.ends })

-- how far: what was stated before, and what these state

pub after_parts : (p : Progress) (ds : List Decision) → (after_all p ds).parts ≡ p.parts
after_parts p [] = refl
after_parts p (spread c ∷ ds) = after_parts (after p (spread c)) ds
after_parts p (killed c ∷ ds) = after_parts (after p (killed c)) ds
after_parts p (live t ∷ ds) = after_parts (after p (live t)) ds
after_parts p (moved t ∷ ds) = after_parts (after p (moved t)) ds

pub after_spreads : (p : Progress) (ds : List Decision) → (after_all p ds).spreads ≡ p.spreads ++ stated spread_in ds
after_spreads p [] = sym (append-nil p.spreads)
after_spreads p (spread c ∷ ds) = after_spreads (after p (spread c)) ds ∙ append_assoc p.spreads (c ∷ []) (stated spread_in ds)
after_spreads p (killed c ∷ ds) = after_spreads (after p (killed c)) ds
after_spreads p (live t ∷ ds) = after_spreads (after p (live t)) ds
after_spreads p (moved t ∷ ds) = after_spreads (after p (moved t)) ds

pub after_schemas : (p : Progress) (ds : List Decision) → (after_all p ds).schemas ≡ p.schemas ++ stated schema_in ds
after_schemas p [] = sym (append-nil p.schemas)
after_schemas p (spread c ∷ ds) = after_schemas (after p (spread c)) ds ∙ append_assoc p.schemas (c ∷ []) (stated schema_in ds)
after_schemas p (killed c ∷ ds) = after_schemas (after p (killed c)) ds ∙ append_assoc p.schemas (c ∷ []) (stated schema_in ds)
after_schemas p (live t ∷ ds) = after_schemas (after p (live t)) ds
after_schemas p (moved t ∷ ds) = after_schemas (after p (moved t)) ds

pub after_lives : (p : Progress) (ds : List Decision) → (after_all p ds).lives ≡ p.lives ++ stated live_in ds
after_lives p [] = sym (append-nil p.lives)
after_lives p (spread c ∷ ds) = after_lives (after p (spread c)) ds
after_lives p (killed c ∷ ds) = after_lives (after p (killed c)) ds
after_lives p (live t ∷ ds) = after_lives (after p (live t)) ds ∙ append_assoc p.lives (t ∷ []) (stated live_in ds)
after_lives p (moved t ∷ ds) = after_lives (after p (moved t)) ds
