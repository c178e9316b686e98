-- One evaluator after another.
use Rattle.std.proofs.Common.{◌≡◌, List, refl, sym, subst, ◌∙◌}
use Rattle.law_sig.specs.declared.tree.Tree.{Tree}
use Rattle.law_sig.specs.declared.parts.SigParts.{SigParts}
use Rattle.law_ids.specs.Table.{PoolTable}
use Rattle.law_ids.proofs.Reading.{grows_not, grows_on}
use Rattle.law_testing.specs.Values.{ArePools}
use Rattle.law_testing.specs.Evaluators.{Values, AreReady, Extends}
use Rattle.law_testing.proofs.Testing.{pools_stay}

pub extends_not : (a : Values) → Extends a a
extends_not a = record { own = refl; grows = grows_not a.bank }

pub extends_on : (a b c : Values) → Extends a b → Extends b c → Extends a c
extends_on a b c g h = record { own = h.own ∙ g.own; grows = grows_on a.bank b.bank c.bank g.grows h.grows }

-- one that has just been made
pub ready_new : (parts : SigParts) (bank : List Tree) (values : Values) (table : PoolTable) → values ≡ record { parts = parts; bank = bank } → ArePools parts bank table → AreReady parts values table
ready_new parts bank values table e pools = subst (λ v. AreReady parts v table) (sym e) (record { own = refl; pools = pools })

pub ready_stays : (parts : SigParts) (old new : Values) (table : PoolTable) → Extends old new → AreReady parts old table → AreReady parts new table
ready_stays parts old new table e r = record { own = e.own ∙ r.own; pools = pools_stay parts old.bank new.bank table e.grows r.pools }
