use Rattle.std.proofs.Common.{length}
use Rattle.law_schema.proofs.walk.+fits_of.Given as goal

abbrev pub decreases-fits_of : goal.decreases-fits_of
decreases-fits_of l = length l.choices.now
