use Rattle.std.proofs.Common.{◌≤◌, sym, subst, arith}
use Rattle.law_schema.specs.Columns.{columns_of}
use Rattle.law_schema.specs.Places.{FirstRow}
use Rattle.law_schema.proofs.Seeking.{left_on, first_left, none_left_at_all}
use Rattle.law_schema.proofs.places.first_app.Goals as goal

pub returns-in-Some : goal.returns-in-Some
returns-in-Some c = λ parts schemas n are stocked weighs small between.
    let (at_small, m, rest, left) = c.loop-place.invariant.1 parts schemas n are stocked weighs (subst (λ s. c.args.weight ≤ s) (sym are.size) small) between in
    first_left parts c.args.rules.now schemas (columns_of c.args.columns.now) c.args.weight n c.loop-place.at m c.in-Some.place left
    (subst (FirstRow parts c.args.rules.now (columns_of c.args.columns.now) schemas c.loop-place.at m) c.in-Some.is (c.in_ok-place.ensures parts schemas m are stocked at_small rest))

pub returns-then-at-rules : goal.returns-then-at-rules
returns-then-at-rules c = λ parts schemas n are stocked weighs small between.
    let (at_small, m, rest, left) = c.loop-place.invariant.1 parts schemas n are stocked weighs (subst (λ s. c.args.weight ≤ s) (sym are.size) small) between in
    let upto = c.loop-place.invariant.0 in
    none_left_at_all parts schemas c.args.weight n c.loop-place.at m (omega arith) (subst (λ s. s ≤ c.loop-place.at) are.size c.if-at-rules.true)
    (subst (FirstRow parts c.args.rules.now (columns_of c.args.columns.now) schemas c.loop-place.at m) c.in_default.is (c.in_ok-place.ensures parts schemas m are stocked at_small rest)) left

pub loop-place-preserved : goal.loop-place-preserved
loop-place-preserved c =
    let upto = c.loop-place.invariant.0 in
    let less = c.if-at-rules.false in (
      omega arith,
      λ parts schemas n are stocked weighs small between.
          let (at_small, m, rest, left) = c.loop-place.invariant.1 parts schemas n are stocked weighs small between in (
            omega arith,
            0,
            are.symbols,
            left_on parts schemas c.args.weight n c.loop-place.at m (omega arith)
                (subst (FirstRow parts c.args.rules.now (columns_of c.args.columns.now) schemas c.loop-place.at m) c.in_default.is (c.in_ok-place.ensures parts schemas m are stocked at_small rest)) left,
          ),
    )
