use Rattle.std.proofs.Common.{ap}
use Rattle.std.proofs.lemmas.Bool.{eqb-true, eq-eqb}
use Rattle.law_ids.specs.declared.ids.ValueId.{ValueId}
use Rattle.law_ids.specs.Values.{tree_of}
use Rattle.law_value.proofs.bank.ValueBank.same.Goals as goal

pub returns-clause-trees : goal.returns-clause-trees
returns-clause-trees c = λ bank shared a b. (
  (λ e. ap (λ n. let v : ValueId = record { 0 = n } in tree_of bank v) (eqb-true c.args.a.0 c.args.b.0 e)),
  (λ e. eq-eqb c.args.a.0 c.args.b.0 (ap (λ (v : ValueId). v.0) (shared c.args.a c.args.b a b e))),
)
