use Rattle.std.proofs.Common.{IsTrue, take, sym, subst, ◌+◌, []}
use Rattle.law_ids.specs.Values.{IsOf, tree_of, is_plain}
use Rattle.law_ids.proofs.Reading.{Reads, reads_none, reads_more, grows_on, id_keeps, take_next, each_at}
use Rattle.law_pool.proofs.given.read_values.Goals as goal

pub read_value-requires : goal.read_value-requires
read_value-requires c = each_at (λ t. IsTrue (is_plain t)) c.args.values.now c.loop-value.value-index c.value-item.result c.requires c.loop-value-test.true c.value-item.is

pub returns-in_err-read_value-clause-grows : goal.returns-in_err-read_value-clause-grows
returns-in_err-read_value-clause-grows c = grows_on c.args.bank.now c.loop-value.bank c.read_value.new.self c.loop-value.invariant.grows c.read_value.ensures.grows

pub loop-value-init : goal.loop-value-init
loop-value-init c = subst (λ l. Reads IsOf tree_of c.args.bank.now c.args.bank.now l []) (sym c.new-ids.ensures) (reads_none IsOf tree_of c.args.bank.now)

pub loop-value-preserved : goal.loop-value-preserved
loop-value-preserved c =
    reads_more IsOf tree_of id_keeps c.args.bank.now c.loop-value.bank c.read_value.new.self c.loop-value.ids c.push.new.self
    (take c.loop-value.value-index c.args.values.now) (take (c.loop-value.value-index + 1) c.args.values.now) c.in_ok-read_value.field-0 c.value-item.result
    c.loop-value.invariant c.read_value.ensures.grows c.in_ok-read_value.ensures.id c.in_ok-read_value.ensures.tree c.in_ok-push.ensures.ok
    (take_next c.args.values.now c.loop-value.value-index c.value-item.result c.loop-value-test.true c.value-item.is)
