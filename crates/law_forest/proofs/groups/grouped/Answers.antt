use Rattle.std.proofs.Common.{rules, subst, ◌<◌, ◌^◌, length, arith}
use Rattle.std.proofs.lemmas.List.{take_all}
use Rattle.indexmap.specs.IndexMap.{get}
use Rattle.law_checking.specs.Planted.{AreGroups, same_number}
use Rattle.law_checking.proofs.Numbering.{get_below, groups_kept, groups_more, place_is, place_none}
use Rattle.law_forest.proofs.groups.grouped.Goals as goal

pub loop-at-preserved-in_default : goal.loop-at-preserved-in_default
loop-at-preserved-in_default c =
    groups_kept c.args.spreads.now c.args.lives.now c.loop-at.at c.index-lives-at.result c.in_ok-schema.schema (get same_number c.loop-at.groups) c.loop-at-test.true c.index-lives-at.is
    c.in_ok-schema.ensures
    (place_none c.in_ok-table.table c.args.spreads.now c.in_ok-schema.schema c.in_ok-place.field-0 c.in_ok-table.ensures c.in_default.is c.in_ok-place.ensures) c.loop-at.invariant

pub overflow_add-place : goal.overflow_add-place
overflow_add-place c =
    let less = get_below c.args.spreads.now c.in-Some.place c.in_ok-schema.schema
    (place_is c.in_ok-table.table c.args.spreads.now c.in_ok-schema.schema c.in_ok-place.field-0 c.in-Some.place c.in_ok-table.ensures c.in-Some.is c.in_ok-place.ensures) in
    let fits : length c.args.spreads.now < 2 ^ 64 = search rules in
    omega (arith, less, fits)

pub loop-at-preserved : goal.loop-at-preserved
loop-at-preserved c =
    groups_more c.args.spreads.now c.args.lives.now c.requires c.loop-at.at c.index-lives-at.result c.in_ok-schema.schema c.in-Some.place (get same_number c.loop-at.groups)
    (get same_number c.add.new.groups) c.loop-at-test.true c.index-lives-at.is c.in_ok-schema.ensures
    (place_is c.in_ok-table.table c.args.spreads.now c.in_ok-schema.schema c.in_ok-place.field-0 c.in-Some.place c.in_ok-table.ensures c.in-Some.is c.in_ok-place.ensures)
    c.in_ok-add.ensures c.loop-at.invariant

pub returns : goal.returns
returns c = subst (λ l. AreGroups c.args.spreads.now l (get same_number c.loop-at.groups)) (take_all c.loop-at.at c.args.lives.now c.loop-at-test.false) c.loop-at.invariant
