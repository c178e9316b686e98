use Rattle.law_term.proofs.ReadFacts.{all_written}
use Rattle.law_term.proofs.written.+written.Goals as goal

pub returns-after-loop-arg : goal.returns-after-loop-arg
returns-after-loop-arg t c = all_written c.args.term.now c.in-Sym.symbol c.loop-arg.args c.loop-arg.arg-index c.in-Sym.is c.loop-arg-test.false c.loop-arg.invariant
