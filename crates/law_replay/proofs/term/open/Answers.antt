use Rattle.std.proofs.Common.{sym, subst}
use Rattle.law_sig.specs.declared.tree.Tree.{Tree}
use Rattle.law_replay.specs.Terms.{IsOpened}
use Rattle.law_replay.proofs.Meanings.{means-Under}
use Rattle.law_replay.proofs.term.open.Goals as goal

pub returns-in_ok-found-in-Under : goal.returns-in_ok-found-in-Under
returns-in_ok-found-in-Under c = subst (λ (t : Tree). IsOpened t c.in_ok-found-in-Under.found) (sym (means-Under _ _ _ c.in-Under.is)) c.in_ok-found-in-Under.ensures
