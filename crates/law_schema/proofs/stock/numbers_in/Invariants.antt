use Rattle.std.proofs.Common.{◌≡◌, take}
use Rattle.law_schema.specs.Columns.{numbers_in}
use Rattle.law_schema.proofs.stock.numbers_in.Given as goal

abbrev pub invariant-loop-entry : goal.invariant-loop-entry
invariant-loop-entry l = l.numbers ≡ numbers_in (take l.entry-index l.entries)
