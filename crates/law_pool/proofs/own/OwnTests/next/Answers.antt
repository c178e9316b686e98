use Rattle.std.proofs.Common.{sym, subst}
use Rattle.law_own.specs.Own.{IsNextOwn}
use Rattle.law_pool.proofs.Turning.{next_own}
use Rattle.law_pool.proofs.own.OwnTests.next.Goals as goal

pub returns : goal.returns
returns c parts vars is own = subst (IsNextOwn parts vars c.args.test) (sym c.turn.ensures) (next_own parts vars c.args.self.now is c.args.test own)
