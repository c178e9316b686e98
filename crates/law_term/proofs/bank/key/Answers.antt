use Rattle.std.proofs.Common.{◌++◌, ap, ◌∙◌}
use Rattle.law_bank.specs.Terms.{ids_of}
use Rattle.law_term.proofs.Interning.{key_more}
use Rattle.law_term.proofs.bank.key.Goals as goal

pub loop-arg-init : goal.loop-arg-init
loop-arg-init c = ap (λ l. l ++ ids_of c.args.args.now) c.in_ok-numbers.ensures ∙ key_more c.args.head (ids_of c.args.args.now)
