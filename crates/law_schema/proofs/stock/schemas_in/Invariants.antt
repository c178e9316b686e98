use Rattle.std.proofs.Common.{◌≡◌, take}
use Rattle.law_schema.specs.Columns.{schemas_in}
use Rattle.law_schema.proofs.stock.schemas_in.Given as goal

abbrev pub invariant-loop-entry : goal.invariant-loop-entry
invariant-loop-entry l = l.schemas.items ≡ schemas_in (take l.entry-index l.entries)
