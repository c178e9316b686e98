use Rattle.std.proofs.Common.{◌≡◌, ◌+◌, ◌≤◌, suc, length, subst, arith}
use Rattle.std.specs.Option.{MatchOption}
use Rattle.law_schema.specs.Columns.{columns_of}
use Rattle.law_schema.specs.Places.{NoRows, IsStarted}
use Rattle.law_schema.proofs.Items.{read_at}
use Rattle.law_schema.proofs.Seeking.{HasComeTo, come_on, found_at, none_on}
use Rattle.law_schema.proofs.places.first_row.Goals as goal

pub returns-in-Some : goal.returns-in-Some
returns-in-Some c = λ parts schemas n are stocked small between.
    let read = read_at c.args.rules.now.symbols c.as_slice-symbols.result.now c.loop-rule.rule c.index-symbols-rule.result c.as_slice-symbols.ensures c.loop-rule-test.true c.index-symbols-rule.is in
    found_at parts c.args.rules.now schemas (columns_of c.args.columns.now) c.args.weight n c.loop-rule.rule c.index-symbols-rule.result c.in-Some.walk are stocked small read
    (subst (λ o. MatchOption o (NoRows c.index-symbols-rule.result (columns_of c.args.columns.now) c.args.weight) (IsStarted c.index-symbols-rule.result (columns_of c.args.columns.now) c.args.weight)) c.in-Some.is c.in_ok-walk.ensures)
    (c.loop-rule.invariant parts schemas n are stocked small between)

pub loop-rule-preserved : goal.loop-rule-preserved
loop-rule-preserved c = λ parts schemas n are stocked small between.
    let read = read_at c.args.rules.now.symbols c.as_slice-symbols.result.now c.loop-rule.rule c.index-symbols-rule.result c.as_slice-symbols.ensures c.loop-rule-test.true c.index-symbols-rule.is in
    let more : suc c.loop-rule.rule ≡ c.loop-rule.rule + 1 = omega arith in
    subst (HasComeTo parts c.args.rules.now.symbols schemas c.args.weight n) more
    (come_on parts c.args.rules.now schemas (columns_of c.args.columns.now) c.args.weight n c.loop-rule.rule c.index-symbols-rule.result are stocked small read
    (subst (λ o. MatchOption o (NoRows c.index-symbols-rule.result (columns_of c.args.columns.now) c.args.weight) (IsStarted c.index-symbols-rule.result (columns_of c.args.columns.now) c.args.weight)) c.in_default.is c.in_ok-walk.ensures)
    (c.loop-rule.invariant parts schemas n are stocked small between))

pub returns : goal.returns
returns c = λ parts schemas n are stocked small between.
    none_on parts c.args.rules.now schemas c.args.weight n c.loop-rule.rule are (subst (λ l. length l ≤ c.loop-rule.rule) c.as_slice-symbols.ensures c.loop-rule-test.false)
    (c.loop-rule.invariant parts schemas n are stocked small between)
