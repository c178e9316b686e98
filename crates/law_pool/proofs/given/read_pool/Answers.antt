use Rattle.std.proofs.Common.{IsTrue, take, sym, subst, ◌∙◌, ◌+◌, []}
use Rattle.law_sig.specs.Lists.{Each}
use Rattle.law_ids.specs.Values.{AreOf, trees_of, is_plain}
use Rattle.law_ids.proofs.Reading.{Reads, reads_none, reads_more, grows_on, ids_keep, take_next, each_at}
use Rattle.law_pool.proofs.given.read_pool.Goals as goal

pub read_values-requires : goal.read_values-requires
read_values-requires c = subst (Each (λ t. IsTrue (is_plain t))) (sym c.as_slice.ensures)
    (each_at (Each (λ t. IsTrue (is_plain t))) c.args.pool.now c.loop-values.values-index c.values-item.result c.requires c.loop-values-test.true c.values-item.is)

pub returns-in_err-read_values-clause-grows : goal.returns-in_err-read_values-clause-grows
returns-in_err-read_values-clause-grows c = grows_on c.args.bank.now c.loop-values.bank c.read_values.new.bank c.loop-values.invariant.grows c.read_values.ensures.grows

pub loop-values-init : goal.loop-values-init
loop-values-init c = subst (λ l. Reads AreOf trees_of c.args.bank.now c.args.bank.now l []) (sym c.new-sorts.ensures) (reads_none AreOf trees_of c.args.bank.now)

pub loop-values-preserved : goal.loop-values-preserved
loop-values-preserved c =
    reads_more AreOf trees_of ids_keep c.args.bank.now c.loop-values.bank c.read_values.new.bank c.loop-values.sorts c.push.new.self
    (take c.loop-values.values-index c.args.pool.now) (take (c.loop-values.values-index + 1) c.args.pool.now) c.in_ok-read_values.field-0 c.values-item.result
    c.loop-values.invariant c.read_values.ensures.grows c.in_ok-read_values.ensures.held (c.in_ok-read_values.ensures.values ∙ c.as_slice.ensures) c.in_ok-push.ensures.ok
    (take_next c.args.pool.now c.loop-values.values-index c.values-item.result c.loop-values-test.true c.values-item.is)
