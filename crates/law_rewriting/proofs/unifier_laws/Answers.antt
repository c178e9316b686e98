-- Each law is proved by a lemma.
use Rattle.law_rewriting.proofs.Unifiers.{unifiers_renamed}
use Rattle.law_rewriting.proofs.Solving.{unifiers_exist}
use Rattle.law_rewriting.proofs.Matches.{match_done}
use Rattle.law_rewriting.proofs.SameBinds.{has_bind_same, open_same, unifier_same, open_sole, same_binds, added_last, rising_sole}
use Rattle.law_rewriting.proofs.KboFalling.{kbo_falls}
use Rattle.law_rewriting.proofs.unifier_laws.Goals as goal

pub returns : goal.returns
returns c = let a = match_done in let b = has_bind_same in let d = open_same in let e = unifier_same in let f = open_sole in let g = same_binds in let h = added_last in let i = rising_sole in record { exist = unifiers_exist; renamed = unifiers_renamed; falls = kbo_falls }
