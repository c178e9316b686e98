use Rattle.std.proofs.Common.{◌≡◌, ◌+◌, map, take, IsTrue, IfOk, Result, Ok, Err, sym, ap, subst, ◌∙◌, arith}
use Rattle.law_sig.specs.Lists.{Each}
use Rattle.law_sig.specs.declared.parts.Settings.{Settings}
use Rattle.law_sig.specs.declared.parts.PoolRule.TheVariants as rule
use Rattle.law_ids.specs.Values.{AreOf, trees_of, is_plain}
use Rattle.law_ids.proofs.BankFacts.{take_all}
use Rattle.law_ids.specs.Table.{pools_of, given_in, PoolTable}
use Rattle.law_ids.proofs.Reading.{reads_more, sorts_keep, take_next, each_at}
use Rattle.law_ids.proofs.GivenFacts.{given_readable, ids_shape, ids_count}
use Rattle.law_pool.proofs.given.given_pools.Goals as goal

pub read_pool-requires : goal.read_pool-requires
read_pool-requires c =
    let readable = given_readable c.args.sig.now (rule.Given c.in-Given.given) c.settings.ensures.well_formed (sym c.in-Given.is ∙ ap (λ (s : Settings). s.pools) c.settings.ensures.settings) in
    subst (Each (Each (λ t. IsTrue (is_plain t)))) (sym c.as_slice.ensures)
    (each_at (Each (Each (λ t. IsTrue (is_plain t)))) c.as_slice-pool-items.result.now c.loop-pool.pool-index c.pool-item.result
    (subst (Each (Each (Each (λ t. IsTrue (is_plain t))))) (sym c.as_slice-pool-items.ensures) readable.plain) c.loop-pool-test.true c.pool-item.is)

pub loop-pool-preserved : goal.loop-pool-preserved
loop-pool-preserved c =
    reads_more (λ b xs. Each (AreOf b) xs) (λ b xs. map (trees_of b) xs) sorts_keep c.args.bank.now c.loop-pool.bank c.read_pool.new.bank c.loop-pool.pools c.push.new.self
    (take c.loop-pool.pool-index c.as_slice-pool-items.result.now) (take (c.loop-pool.pool-index + 1) c.as_slice-pool-items.result.now) c.in_ok-read_pool.field-0 c.pool-item.result
    c.loop-pool.invariant c.read_pool.ensures.grows c.in_ok-read_pool.ensures.held (c.in_ok-read_pool.ensures.values ∙ c.as_slice.ensures) c.in_ok-push.ensures.ok
    (take_next c.as_slice-pool-items.result.now c.loop-pool.pool-index c.pool-item.result c.loop-pool-test.true c.pool-item.is)

pub build-requires-clause-shape : goal.build-requires-clause-shape
build-requires-clause-shape c =
    let readable = given_readable c.args.sig.now (rule.Given c.in-Given.given) c.settings.ensures.well_formed (sym c.in-Given.is ∙ ap (λ (s : Settings). s.pools) c.settings.ensures.settings) in
    let done : pools_of c.loop-pool.bank c.loop-pool.pools ≡ c.in-Given.given =
    c.loop-pool.invariant.means ∙ take_all c.as_slice-pool-items.result.now c.loop-pool.pool-index c.loop-pool-test.false ∙ c.as_slice-pool-items.ensures in
    ids_shape c.args.sig.now.settings.width c.loop-pool.bank c.loop-pool.pools c.in-Given.given done readable.shape

pub build-requires-clause-pools : goal.build-requires-clause-pools
build-requires-clause-pools c =
    let readable = given_readable c.args.sig.now (rule.Given c.in-Given.given) c.settings.ensures.well_formed (sym c.in-Given.is ∙ ap (λ (s : Settings). s.pools) c.settings.ensures.settings) in
    let done : pools_of c.loop-pool.bank c.loop-pool.pools ≡ c.in-Given.given =
    c.loop-pool.invariant.means ∙ take_all c.as_slice-pool-items.result.now c.loop-pool.pool-index c.loop-pool-test.false ∙ c.as_slice-pool-items.ensures in
    omega (arith, ids_count c.loop-pool.bank c.loop-pool.pools c.in-Given.given done, readable.few)

if_ok : {A E : Type 0} (r : Result A E) (P Q : A → Type 0) → ((x : A) → P x → Q x) → IfOk r P → IfOk r Q
if_ok (Ok x) P Q f h = f x h
if_ok (Err e) P Q f h = tt

pub returns-clause-values : goal.returns-clause-values
returns-clause-values c =
    let done : pools_of c.loop-pool.bank c.loop-pool.pools ≡ c.in-Given.given =
    c.loop-pool.invariant.means ∙ take_all c.as_slice-pool-items.result.now c.loop-pool.pool-index c.loop-pool-test.false ∙ c.as_slice-pool-items.ensures in
    let rule_is : given_in c.args.sig.now.settings.pools ≡ c.in-Given.given = ap given_in (sym (ap (λ (s : Settings). s.pools) c.settings.ensures.settings) ∙ c.in-Given.is) in
    if_ok c.build.result _ _ (λ (pools : PoolTable) h. ap (pools_of c.loop-pool.bank) h.1 ∙ done ∙ sym rule_is) c.build.ensures
