-- What is considered and what is an instance depends on spread schemas and live terms that stand before it, and on no other.
use Rattle.std.proofs.Common.{◌<◌, ◌≤◌, ◌⊎◌, inl, inr, List, ◌++◌, subst, arith}
use Rattle.law_sig.specs.Lists.{In, Each}
use Rattle.law_sig.specs.Tests.{weight}
use Rattle.law_sig.specs.declared.tree.Tree.{Tree}
use Rattle.law_sig.specs.declared.tree.Tree.TheVariants.{App, outs-Var, outs-App}
use Rattle.law_sig.specs.declared.tree.Tree.TheViews.{out-Tree}
use Rattle.law_sig.specs.declared.parts.SigParts.{SigParts}
use Rattle.law_laws.specs.Orders.{WeighsSomething}
use Rattle.law_laws.proofs.TreeFacts.{tree_cases}
use Rattle.law_laws.proofs.ListFacts.{in_none, in_split, each_of, of_each, each_map}
use Rattle.law_laws.proofs.Orders.{IsUpto, before_weight}
use Rattle.law_laws.proofs.Universe.{arg_weight}
use Rattle.law_sig.specs.Schemas.{IsConsidered, IsInstance, arguments_of}
use Rattle.law_sig.specs.Schemas.IsConsidered.{variable, application}

module _ (parts : SigParts) where
  pub considered_more : (spreads others : List Tree) (c : Tree) → ((a : Tree) → In a spreads → In a others) → IsConsidered parts spreads c → IsConsidered parts others c
  considered_more spreads others c to (variable sort declared some) = variable sort declared some
  considered_more spreads others c to (application f cs sort explored each sorted small) = application f cs sort explored (each_map _ _ to cs each) sorted small

  pub instance_more : (c : Tree) (lives others : List Tree) (t : Tree) → ((a : Tree) → In a lives → In a others) → IsInstance parts lives c t → IsInstance parts others c t
  instance_more c lives others t to is = record { sort = is.sort; bounded = is.bounded; schema = is.schema; args = each_map _ _ to (arguments_of (out-Tree t)) is.args }

  upto_weight : (s t : Tree) → IsUpto parts s t → weight parts s ≤ weight parts t
  upto_weight s t (inl same) = subst (λ x. weight parts s ≤ weight parts x) same (omega arith)
  upto_weight s t (inr h) = before_weight parts s t h

  module _ (weighs : WeighsSomething parts) where
    -- what is as early as a term is none of its arguments
    no_argument : (t a : Tree) → weight parts a < weight parts t → IsUpto parts t a → ⊥
    no_argument t a less upto = let h = upto_weight t a upto in omega arith

    -- so what is among more is among the rest
    early : (t : Tree) (known late : List Tree) → Each (IsUpto parts t) late → (a : Tree) → weight parts a < weight parts t → In a (known ++ late) → In a known
    early t known late after a less at = by (in_split known late at)
      where
        by : In a known ⊎ In a late → In a known
        by (inl h) = h
        by (inr h) = absurd (no_argument t a less (of_each (IsUpto parts t) h after))

    pub considered_fewer : (spreads late : List Tree) (c : Tree) → Each (IsUpto parts c) late → IsConsidered parts (spreads ++ late) c → IsConsidered parts spreads c
    considered_fewer spreads late c after (variable sort declared some) = variable sort declared some
    considered_fewer spreads late c after (application f cs sort explored each sorted small) = application f cs sort explored
        (each_of (λ a. In a spreads) cs (λ a at. early (App f cs) spreads late after a (arg_weight parts weighs f cs a at) (of_each (λ a. In a (spreads ++ late)) at each))) sorted small

    arg_lighter : (t a : Tree) → In a (arguments_of (out-Tree t)) → weight parts a < weight parts t
    arg_lighter = tree_cases (λ t. (a : Tree) → In a (arguments_of (out-Tree t)) → weight parts a < weight parts t)
        (λ s i a at. in_none (subst (λ x. In a (arguments_of x)) (outs-Var s i) at))
        (λ f args a at. arg_weight parts weighs f args a (subst (λ x. In a (arguments_of x)) (outs-App f args) at))

    pub instance_fewer : (c : Tree) (lives late : List Tree) (t : Tree) → Each (IsUpto parts t) late → IsInstance parts (lives ++ late) c t → IsInstance parts lives c t
    instance_fewer c lives late t after is = record {
      sort = is.sort;
      bounded = is.bounded;
      schema = is.schema;
      args = each_of (λ a. In a lives) (arguments_of (out-Tree t))
          (λ a at. early t lives late after a (arg_lighter t a at) (of_each (λ a. In a (lives ++ late)) at is.args));
    }
