-- Steps one after another.
use Rattle.std.proofs.Common.{◌+◌, List, [], sym, subst, arith, append-nil}
use Rattle.law_sig.specs.declared.tree.Tree.{Tree}
use Rattle.law_sig.specs.declared.parts.SigParts.{SigParts}
use Rattle.law_ids.specs.Values.{Grows}
use Rattle.law_ids.proofs.Reading.{grows_on}
use Rattle.law_eval.specs.Work.{Ids}
use Rattle.law_eval.specs.Runs.{State, Ends, Steps, Stuck, seen}
use Rattle.law_eval.specs.Took.{IsSound, IsRun, Took}

stays : (parts : SigParts) (s : State) → Steps parts s s
stays parts s = record {
  spent = 0;
  pays = omega arith;
  on = λ v c e. (c, e, omega arith);
  back = λ v g e. subst (λ k. Ends parts s v k) (omega arith) e;
}

then_steps : (parts : SigParts) (r s t : State) → Steps parts r s → Steps parts s t → Steps parts r t
then_steps parts r s t a b = record {
  spent = a.spent + b.spent;
  pays = omega (arith, a.pays, b.pays);
  on = λ v c e. let x = a.on v c e in let y = b.on v x.0 x.1 in (y.0, y.1, omega (arith, x.2, y.2));
  back = λ v g e. subst (λ k. Ends parts r v k) (omega arith) (a.back v (g + b.spent) (b.back v g e));
}

-- nothing was done yet
pub begun : (parts : SigParts) (bank : List Tree) (ids : Ids) → IsSound bank ids → IsRun parts bank ids bank ids
begun parts bank ids sound = record { steps = stays parts (seen bank ids); sound = sound; grows = ([], sym (append-nil bank)) }

-- one step more
pub run_on : (parts : SigParts) (bank bank' bank'' : List Tree) (r s t : Ids) → IsRun parts bank r bank' s → Took parts bank' bank'' s t → Grows bank' bank'' → IsRun parts bank r bank'' t
run_on parts bank bank' bank'' r s t run took grows = record {
  steps = then_steps parts (seen bank r) (seen bank' s) (seen bank'' t) run.steps took.steps;
  sound = took.sound;
  grows = grows_on bank bank' bank'' run.grows grows;
}

-- what was begun is stuck where what it led to is
pub run_stuck : (parts : SigParts) (bank bank' : List Tree) (r s : Ids) → IsRun parts bank r bank' s → Stuck parts (seen bank' s) → Stuck parts (seen bank r)
run_stuck parts bank bank' r s run stuck v c e =
    let x = run.steps.on v c e in
    let less = stuck v x.0 x.1 in
    omega (arith, x.2, run.steps.pays, less)
