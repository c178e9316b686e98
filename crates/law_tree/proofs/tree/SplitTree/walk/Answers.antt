use Rattle.std.proofs.Common.{◌+◌, arith}
use Rattle.law_sig.specs.Lists.In.{here as first}
use Rattle.law_tree.specs.Looking.Reaches.{here, down}
use Rattle.law_tree.proofs.Comparing.{meaning_after, may_after, passed, on_error}
use Rattle.law_tree.proofs.Placing.{way_stays, test_on_way, more_meant}
use Rattle.law_tree.proofs.Standing.{child_within}
use Rattle.law_tree.proofs.tree.SplitTree.walk.Goals as goal

pub value-requires : goal.value-requires
value-requires g c =
    c.loop-number.invariant.may_item _
    (test_on_way (g.A.Ask.means c.loop-number.ask) (g.met.A.Ask.one_value c.loop-number.ask) c.args.item c.args.self.now
    (more_meant (g.A.Ask.means c.args.ask.now) (g.A.Ask.means c.loop-number.ask) c.loop-number.invariant.meaning_stays c.args.self.now c.requires.tree) c.made.ensures.nodes
    c.loop-number.at c.loop-number.invariant.reached.0 c.in-Split.test c.loop-number.invariant.reached.1 c.in-Split.ensures)

pub loop-number-smaller : goal.loop-number-smaller
loop-number-smaller g c =
    let h = c.in-Some.ensures in
    let a = c.made.ensures.nodes.later c.loop-number.at c.in-Some.next c.in_ok-value-in-Split.value h in
    let b = child_within c.args.self.now.nodes c.loop-number.at c.in-Some.next c.in_ok-value-in-Split.value h in
    omega arith

pub loop-number-preserved : goal.loop-number-preserved
loop-number-preserved g c =
    let h = c.in-Some.ensures in
    record {
      within = child_within c.args.self.now.nodes c.loop-number.at c.in-Some.next c.in_ok-value-in-Split.value h;
      may_item = λ t at. c.value.ensures.may_stays _ _ (c.loop-number.invariant.may_item t at);
      reached =
          let n = c.loop-number.invariant.reached.0 in (
            n + 1,
            down c.loop-number.at c.in-Some.next c.in-Split.test n c.in_ok-value-in-Split.value
                (way_stays (g.A.Ask.means c.loop-number.ask) (g.A.Ask.means c.value.new.self) c.value.ensures.meaning_stays c.args.item c.args.self.now.nodes c.loop-number.at n c.loop-number.invariant.reached.1)
                c.in-Split.ensures c.in_ok-value-in-Split.ensures.value h,
            omega (arith, c.loop-number.invariant.reached.2, c.value.ensures.asked),
          );
      counted = omega (arith, c.loop-number.invariant.counted, c.value.ensures.counted);
      may_stays = may_after _ _ _ c.loop-number.invariant.may_stays c.value.ensures.may_stays;
      meaning_stays = meaning_after _ _ _ c.loop-number.invariant.meaning_stays c.value.ensures.meaning_stays;
      telling_stays = λ ts x. c.value.ensures.telling_stays ts (c.loop-number.invariant.telling_stays ts x);
      faults = omega (arith, c.loop-number.invariant.faults, c.value.ensures.faults);
    }

pub loop-number-init : goal.loop-number-init
loop-number-init g c = record {
  within = c.requires.some;
  may_item = c.requires.may_item;
  reached = (0, here, omega arith);
  counted = omega arith;
  may_stays = λ i t h. h;
  meaning_stays = λ i t v h. h;
  telling_stays = λ ts h. h;
  faults = omega arith;
}

pub returns-in-Leaf-clause-end : goal.returns-in-Leaf-clause-end
returns-in-Leaf-clause-end g c =
    (record { splits = c.loop-number.invariant.reached.0; way = c.loop-number.invariant.reached.1; leaf = c.in-Leaf.ensures }, c.loop-number.invariant.reached.2)

pub returns-in_err-value-in-Split-clause-asked : goal.returns-in_err-value-in-Split-clause-asked
returns-in_err-value-in-Split-clause-asked g c =
    on_error _ _ _ c.from_residual.ensures.1 (record {
      place = c.loop-number.at;
      splits = c.loop-number.invariant.reached.0;
      way = way_stays (g.A.Ask.means c.loop-number.ask) (g.A.Ask.means c.value.new.self) c.value.ensures.meaning_stays c.args.item c.args.self.now.nodes c.loop-number.at c.loop-number.invariant.reached.0 c.loop-number.invariant.reached.1;
      test = c.in-Split.test;
      split = c.in-Split.ensures;
      few = omega (arith, c.loop-number.invariant.reached.2, c.value.ensures.asked);
    })

pub returns-in_err-value-in-Split-clause-fault : goal.returns-in_err-value-in-Split-clause-fault
returns-in_err-value-in-Split-clause-fault g c =
    passed _ _ _ c.from_residual.ensures.1 (record {
      item = c.args.item;
      is_item = first;
      test = c.in-Split.test;
      is_test = test_on_way (g.A.Ask.means c.loop-number.ask) (g.met.A.Ask.one_value c.loop-number.ask) c.args.item c.args.self.now
          (more_meant (g.A.Ask.means c.args.ask.now) (g.A.Ask.means c.loop-number.ask) c.loop-number.invariant.meaning_stays c.args.self.now c.requires.tree) c.made.ensures.nodes
          c.loop-number.at c.loop-number.invariant.reached.0 c.in-Split.test c.loop-number.invariant.reached.1 c.in-Split.ensures;
      holds = c.in_err-value-in-Split.ensures.fault;
    })

pub returns-in_default-clause-end : goal.returns-in_default-clause-end
returns-in_default-clause-end g c = (
  record {
    splits = c.loop-number.invariant.reached.0;
    way = way_stays (g.A.Ask.means c.loop-number.ask) (g.A.Ask.means c.value.new.self) c.value.ensures.meaning_stays c.args.item c.args.self.now.nodes c.loop-number.at c.loop-number.invariant.reached.0 c.loop-number.invariant.reached.1;
    test = c.in-Split.test;
    split = c.in-Split.ensures;
    has = c.in_ok-value-in-Split.ensures.value;
    nowhere = c.in_default.ensures;
  },
  omega (arith, c.loop-number.invariant.reached.2, c.value.ensures.asked),
)
