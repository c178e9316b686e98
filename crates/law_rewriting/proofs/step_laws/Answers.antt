-- Each law is proved by a lemma.
use Rattle.law_sig.specs.declared.tree.Tree.TheVariants.{Var, App}
use Rattle.law_rewriting.proofs.OneStep.{one_ordered_step, one_normal_form}
use Rattle.law_rewriting.proofs.Smaller.{step_falls, form_falls}
use Rattle.law_rewriting.proofs.Composing.{ordered_in_argument, ordered_at_root, normal_at_root, at_root_alone, var_at_root}
use Rattle.law_rewriting.proofs.step_laws.Goals as goal

pub returns : goal.returns
returns c = record {
  one = one_ordered_step;
  form = λ parts rules steps others s t u h k. one_normal_form parts rules h k;
  falls = λ parts rules. record { step = step_falls parts rules; form = λ steps s t h. form_falls parts rules h };
  composed = λ parts rules. record {
    argument = ordered_in_argument parts rules;
    root = λ f args step t normal h. ordered_at_root parts rules (App f args) (at_root_alone parts rules f args normal) step t h;
    normal = λ f args normal h. normal_at_root parts rules (App f args) (at_root_alone parts rules f args normal) h;
    variable_root = λ sort index step t h. ordered_at_root parts rules (Var sort index) (var_at_root parts rules sort index) step t h;
    variable_normal = λ sort index h. normal_at_root parts rules (Var sort index) (var_at_root parts rules sort index) h;
  };
}
