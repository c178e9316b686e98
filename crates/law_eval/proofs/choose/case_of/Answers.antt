use Rattle.std.proofs.Common.{◌≡◌, ℕ, List, Option, Some, None, slice_get, option_and_then, position, sym, ap, ◌∙◌}
use Rattle.std.specs.List.{position_from}
use Rattle.std.proofs.lemmas.Iterator.Adapters.{position_from-zero}
use Rattle.law_sig.specs.Trees.{same_symbol}
use Rattle.law_sig.specs.declared.tree.SymId.{SymId}
use Rattle.law_sig.specs.declared.tree.Body.{Body}
use Rattle.law_eval.proofs.choose.case_of.Goals as goal

-- the case at the place where the constructor was found
case_at : (cases : List Body) (head : SymId) (cons all : List SymId) (found place : Option ℕ) → found ≡ place → found ≡ position (same_symbol head) cons → cons ≡ all
    → option_and_then (λ at. slice_get cases at) place ≡ option_and_then (λ at. slice_get cases at) (position_from (same_symbol head) 0 all)
case_at cases head cons all found place e is same = ap (option_and_then (λ at. slice_get cases at))
    (sym e ∙ is ∙ position_from-zero (same_symbol head) cons ∙ ap (position_from (same_symbol head) 0) same)

pub returns-in_default : goal.returns-in_default
returns-in_default c = case_at c.args.fun.now.cases c.args.head _ _ _ None c.in_default.is c.place_of.ensures c.constructors.ensures

pub returns : goal.returns
returns c = c.get.ensures.value ∙ case_at c.args.fun.now.cases c.args.head _ _ _ (Some c.in-Some.at) c.in-Some.is c.place_of.ensures c.constructors.ensures
