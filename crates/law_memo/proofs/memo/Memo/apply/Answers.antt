use Rattle.std.proofs.Common.{List, subst, sym, rules}
use Rattle.law_ids.specs.declared.ids.ValueId.{ValueId}
use Rattle.law_memo.specs.declared.memo.Known.{Known}
use Rattle.law_memo.specs.Right.{IsRight}
use Rattle.law_memo.proofs.RightFacts.{all_stay, hit, hit_over, is_right}
use Rattle.law_memo.proofs.memo.Memo.apply.Goals as goal

pub returns-then-known-budget-clause-over : goal.returns-then-known-budget-clause-over
returns-then-known-budget-clause-over c = λ _.
    hit_over c.args.sig.now c.args.bank.now c.args.sym c.in_ok-from_slice.field-0.items c.args.args.now c.in-Some.known c.args.budget c.in_ok-from_slice.ensures.items
    (c.in-Some.ensures.found c.args.sig.now c.args.bank.now c.requires.right) (search rules)

pub returns-in-Some-clause-id : goal.returns-in-Some-clause-id
returns-in-Some-clause-id c = (c.in-Some.ensures.found c.args.sig.now c.args.bank.now c.requires.right).value_held

pub returns-in-Some-clause-value : goal.returns-in-Some-clause-value
returns-in-Some-clause-value c =
    hit c.args.sig.now c.args.bank.now c.args.sym c.in_ok-from_slice.field-0.items c.args.args.now c.in-Some.known c.args.budget c.in_ok-from_slice.ensures.items
    (c.in-Some.ensures.found c.args.sig.now c.args.bank.now c.requires.right) (search rules)

pub returns-clause-right : goal.returns-clause-right
returns-clause-right c =
    let known : Known = record { value = c.in_ok-value.value; cost = c.in_ok-value.cost } in
    c.keep.ensures.right c.args.sig.now c.apply.new.bank
    (all_stay c.known.new.self.entries c.args.sig.now c.args.bank.now c.apply.new.bank c.apply.ensures.grows
    (c.known.ensures.right c.args.sig.now c.args.bank.now c.requires.right))
    (subst (λ (ids : List ValueId). IsRight c.args.sig.now c.apply.new.bank c.args.sym ids known) (sym c.in_ok-from_slice.ensures.items)
    (is_right c.args.sig.now c.args.bank.now c.apply.new.bank c.args.sym c.args.args.now known c.args.budget c.apply.ensures.grows c.requires.held c.in_ok-value.ensures.id c.in_ok-value.ensures.value))
