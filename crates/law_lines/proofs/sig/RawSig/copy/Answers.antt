use Rattle.std.proofs.Common.{◌≡◌, subst, sym, arith}
use Rattle.std.proofs.lemmas.Grind.{common_steps}
use Rattle.law_lines.specs.Signature.{IsRawSig}
use Rattle.law_lines.proofs.sig.RawSig.copy.Goals as goal

pub invariant_of-result : goal.invariant_of-result
invariant_of-result c =
    let e : c.loop-line.lines ≡ c.lines-line-items.result.now = grind (arith, common_steps) in
    subst IsRawSig (sym e) c.lines-line-items.ensures.signature
