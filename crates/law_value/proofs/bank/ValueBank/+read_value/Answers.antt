use Rattle.std.proofs.Common.{◌≡◌, ◌<◌, ◌^◌, length, sym, ap, ◌∙◌, arith, rules}
use Rattle.law_sig.specs.declared.tree.Tree.TheVariants.{App}
use Rattle.law_sig.specs.declared.tree.Tree.TheViews.{the_lemmas}
use Rattle.law_ids.specs.Values.{tree_of, trees_of}
use Rattle.law_ids.proofs.BankFacts.{take_all, length_map}
use Rattle.law_value.proofs.ReadFacts.{plain_few, plain_at, read_next}
use Rattle.law_ids.proofs.Reading.{grows_on}
use Rattle.law_value.proofs.bank.ValueBank.+read_value.Goals as goal

pub read_value-requires : goal.read_value-requires
read_value-requires t c = (
  search (rules, the_lemmas),
  plain_at c.args.tree.now c.in-App.sym c.as_slice-arg-items.result.now c.loop-arg.arg-index c.arg-item.result
      (c.in-App.is ∙ ap (App c.in-App.sym) (sym c.as_slice-arg-items.ensures)) c.requires c.loop-arg-test.true c.arg-item.is,
)

pub returns-in_err-field-in-App-clause-grows : goal.returns-in_err-field-in-App-clause-grows
returns-in_err-field-in-App-clause-grows t c = grows_on c.args.self.now c.loop-arg.self c.read_value.new.self c.loop-arg.invariant.grows c.read_value.ensures.grows

pub loop-arg-preserved : goal.loop-arg-preserved
loop-arg-preserved t c =
    read_next c.args.self.now c.loop-arg.self c.read_value.new.self c.loop-arg.fields.items c.push.new.self.items c.as_slice-arg-items.result.now c.loop-arg.arg-index
    c.in_ok-field-in-App.field c.arg-item.result c.loop-arg.invariant c.loop-arg-test.true c.arg-item.is c.read_value.ensures.grows
    c.in_ok-field-in-App.ensures.id c.in_ok-field-in-App.ensures.tree c.read_value.ensures.shared c.in-Ok.ensures.items

pub make-requires-clause-few : goal.make-requires-clause-few
make-requires-clause-few t c =
    let few : length c.in-App.args < 2 ^ 32 = plain_few c.args.tree.now c.in-App.sym c.in-App.args c.in-App.is c.requires in
    let all : trees_of c.loop-arg.self c.loop-arg.fields.items ≡ c.in-App.args =
    c.loop-arg.invariant.trees ∙ take_all c.as_slice-arg-items.result.now c.loop-arg.arg-index c.loop-arg-test.false ∙ c.as_slice-arg-items.ensures in
    let count : length c.as_slice.result.now ≡ length c.in-App.args =
    ap length c.as_slice.ensures.value ∙ sym (length_map (tree_of c.loop-arg.self) c.loop-arg.fields.items) ∙ ap length all in
    omega arith
