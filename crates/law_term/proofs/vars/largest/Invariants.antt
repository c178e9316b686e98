use Rattle.std.proofs.Common.{◌<◌, length}
use Rattle.law_term.proofs.vars.largest.Given as goal

abbrev pub invariant-loop-at : goal.invariant-loop-at
invariant-loop-at l = 0 < length l.args → l.most < length l.args
