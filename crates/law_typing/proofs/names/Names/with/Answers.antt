use Rattle.std.proofs.Common.{rules, arith, ap}
use Rattle.std.proofs.lemmas.Grind.{common_steps}
use Rattle.law_typing.proofs.NameTable.{still_found, found_new}
use Rattle.law_typing.proofs.names.Names.with.Goals as goal
use Rattle.law_typing.proofs.names.Names.with.Goals.{then-not-known+in_ok-copy_bytes+in_ok-note, else-not-known}

pub invariant_of-result : goal.invariant_of-result
invariant_of-result c = (
  grind (arith, common_steps),
  elim c.if-not-known.branch [
    | then-not-known+in_ok-copy_bytes+in_ok-note w ↦ found_new c.self-2.inside.list c.self-2.inside.places.entries c.args.name.now w.in_ok-copy_bytes.field-0 c.len-place.result
        c.push.new.self c.if-not-known.places.entries (search rules) (search rules) c.self-2.invariant.1 (search rules) (search rules)
    | else-not-known w ↦ still_found c.self-2.inside.list c.self-2.inside.places.entries c.args.name.now c.push.new.self c.if-not-known.places.entries
        (search rules) c.self-2.invariant.1 (search rules) (ap (λ p. p.entries) w.places-is)
  ],
)
