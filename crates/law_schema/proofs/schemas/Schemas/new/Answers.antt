use Rattle.std.proofs.Common.{refl}
use Rattle.law_schema.proofs.Calls.{new_sound}
use Rattle.law_schema.proofs.schemas.Schemas.new.Goals as goal

pub invariant_of-result : goal.invariant_of-result
invariant_of-result c = new_sound _ c.args.sig.now c.in_ok-rules.ensures c.in_ok-columns.ensures c.new.ensures.items refl refl refl refl
