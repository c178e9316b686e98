use Rattle.std.proofs.Common.{◌≡◌, length, Less, Equal, Greater, sym, ap, ap₂, ◌∙◌, rules, arith}
use Rattle.std.specs.Ordering.{ordering_then}
use Rattle.std.specs.Cmp.Lexicographic.{slice_cmp}
use Rattle.law_sig.specs.Order.{compare_k}
use Rattle.law_sig.specs.declared.tree.Tree.TheVariants.{App}
use Rattle.law_sig.specs.declared.tree.Tree.TheViews.{the_lemmas}
use Rattle.law_chains.proofs.Comparing.{by_weight, var_var, var_app, app_var, app_app, one_pair, no_pair, fewer, item_light, other_light}
use Rattle.law_replay.proofs.terms.+compare.Goals as goal

pub returns-in-Less : goal.returns-in-Less
returns-in-Less t c = sym (by_weight c.args.sig.now _ _ _ _ Less c.requires.left c.requires.right c.weight.ensures c.weight-2.ensures c.in-Less.ensures)

pub returns-in-Greater : goal.returns-in-Greater
returns-in-Greater t c = sym (by_weight c.args.sig.now _ _ _ _ Greater c.requires.left c.requires.right c.weight.ensures c.weight-2.ensures c.in-Greater.ensures)

pub returns-in-Less-cmp : goal.returns-in-Less-cmp
returns-in-Less-cmp t c = sym (by_weight c.args.sig.now _ _ _ _ Equal c.requires.left c.requires.right c.weight.ensures c.weight-2.ensures c.in-Equal.ensures
    ∙ app_app c.args.sig.now _ _ _ _ _ _ Less c.in-App-App.is-0 c.in-App-App.is-1 c.in-Less-cmp.ensures)

pub returns-in-Greater-cmp : goal.returns-in-Greater-cmp
returns-in-Greater-cmp t c = sym (by_weight c.args.sig.now _ _ _ _ Equal c.requires.left c.requires.right c.weight.ensures c.weight-2.ensures c.in-Equal.ensures
    ∙ app_app c.args.sig.now _ _ _ _ _ _ Greater c.in-App-App.is-0 c.in-App-App.is-1 c.in-Greater-cmp.ensures)

pub loop-at-init : goal.loop-at-init
loop-at-init t c = ap (λ l. slice_cmp (compare_k c.args.sig.now) l c.in-App-App.other_args) c.as_slice-arg-items.ensures
    ∙ sym (by_weight c.args.sig.now _ _ _ _ Equal c.requires.left c.requires.right c.weight.ensures c.weight-2.ensures c.in-Equal.ensures
    ∙ app_app c.args.sig.now _ _ _ _ _ _ Equal c.in-App-App.is-0 c.in-App-App.is-1 c.in-Equal-cmp.ensures)

pub returns-in_default : goal.returns-in_default
returns-in_default t c = sym (no_pair c.args.sig.now _ _ _ _ c.loop-at-test.true c.arg-item.is c.in_default.ensures.value) ∙ c.loop-at.invariant

pub compare-requires : goal.compare-requires
compare-requires t c = (
  search (rules, the_lemmas),
  (
    item_light c.args.sig.now _ _ _ _ _ c.requires.left (c.in-App-App.is-0 ∙ ap (App _) (sym c.as_slice-arg-items.ensures)) c.loop-at-test.true c.arg-item.is,
    other_light c.args.sig.now _ _ _ _ _ c.requires.right c.in-App-App.is-1 c.in-Some.ensures.value,
  ),
)

pub returns-in-Less-compare : goal.returns-in-Less-compare
returns-in-Less-compare t c = sym (one_pair c.args.sig.now _ _ _ _ _ Less c.loop-at-test.true c.arg-item.is c.in-Some.ensures.value c.in-Less-compare.ensures) ∙ c.loop-at.invariant

pub returns-in-Greater-compare : goal.returns-in-Greater-compare
returns-in-Greater-compare t c = sym (one_pair c.args.sig.now _ _ _ _ _ Greater c.loop-at-test.true c.arg-item.is c.in-Some.ensures.value c.in-Greater-compare.ensures) ∙ c.loop-at.invariant

pub loop-at-preserved : goal.loop-at-preserved
loop-at-preserved t c = sym (one_pair c.args.sig.now _ _ _ _ _ Equal c.loop-at-test.true c.arg-item.is c.in-Some.ensures.value c.in-Equal-compare.ensures) ∙ c.loop-at.invariant

pub returns-then-len : goal.returns-then-len
returns-then-len t c =
    let long : length c.as_slice-arg-items.result.now ≡ length c.in-App-App.args = ap length c.as_slice-arg-items.ensures in
    sym (fewer c.args.sig.now _ _ _ c.loop-at-test.false (omega (arith, c.loop-at.auto.at-end, c.len.ensures, c.len-in-App-App.ensures, c.if-len.true, long))) ∙ c.loop-at.invariant

pub returns-in-Var-Var : goal.returns-in-Var-Var
returns-in-Var-Var t c = c.then.ensures ∙ ap₂ ordering_then c.cmp-in-Var-Var.ensures c.cmp-in-Var-Var-2.ensures
    ∙ sym (by_weight c.args.sig.now _ _ _ _ Equal c.requires.left c.requires.right c.weight.ensures c.weight-2.ensures c.in-Equal.ensures
    ∙ var_var c.args.sig.now _ _ _ _ _ _ c.in-Var-Var.is-0 c.in-Var-Var.is-1)

pub returns-in-Var-App : goal.returns-in-Var-App
returns-in-Var-App t c = sym (by_weight c.args.sig.now _ _ _ _ Equal c.requires.left c.requires.right c.weight.ensures c.weight-2.ensures c.in-Equal.ensures
    ∙ var_app c.args.sig.now _ _ _ _ _ _ c.in-Var-App.is-0 c.in-Var-App.is-1)

pub returns-in-App-Var : goal.returns-in-App-Var
returns-in-App-Var t c = sym (by_weight c.args.sig.now _ _ _ _ Equal c.requires.left c.requires.right c.weight.ensures c.weight-2.ensures c.in-Equal.ensures
    ∙ app_var c.args.sig.now _ _ _ _ _ _ c.in-App-Var.is-0 c.in-App-Var.is-1)
