use Rattle.law_explore.proofs.ListedFacts.{AreListed, slice_long, slice_within, slice_laws}
use Rattle.law_explore.proofs.listed.laws_of.Goals as goal

pub equations-requires-clause-long : goal.equations-requires-clause-long
equations-requires-clause-long c =
    let made : AreListed c.args.tester.now.sig.now c.classes_of.new.evaluator.bank c.in_ok-terms.terms c.in_ok-classes.classes.items c.in_ok-firsts.firsts.items = record {
      universe = c.in_ok-terms.ensures;
      shared = c.shared.ensures;
      are = c.in_ok-classes.ensures.classes;
      are_firsts = c.in_ok-firsts.ensures;
    } in
    slice_long c.args.tester.now.sig.now c.classes_of.new.evaluator.bank c.in_ok-terms.terms c.in_ok-classes.classes.items c.in_ok-firsts.firsts.items made c.as_slice.result.now c.as_slice-2.result.now c.as_slice.ensures c.as_slice-2.ensures.value

pub equations-requires-clause-within : goal.equations-requires-clause-within
equations-requires-clause-within c =
    let made : AreListed c.args.tester.now.sig.now c.classes_of.new.evaluator.bank c.in_ok-terms.terms c.in_ok-classes.classes.items c.in_ok-firsts.firsts.items = record {
      universe = c.in_ok-terms.ensures;
      shared = c.shared.ensures;
      are = c.in_ok-classes.ensures.classes;
      are_firsts = c.in_ok-firsts.ensures;
    } in
    slice_within c.args.tester.now.sig.now c.classes_of.new.evaluator.bank c.in_ok-terms.terms c.in_ok-classes.classes.items c.in_ok-firsts.firsts.items made c.as_slice.result.now c.as_slice-2.result.now c.as_slice.ensures c.as_slice-2.ensures.value

pub returns-clause-laws : goal.returns-clause-laws
returns-clause-laws c =
    let made : AreListed c.args.tester.now.sig.now c.classes_of.new.evaluator.bank c.in_ok-terms.terms c.in_ok-classes.classes.items c.in_ok-firsts.firsts.items = record {
      universe = c.in_ok-terms.ensures;
      shared = c.shared.ensures;
      are = c.in_ok-classes.ensures.classes;
      are_firsts = c.in_ok-firsts.ensures;
    } in
    slice_laws c.args.tester.now.sig.now c.classes_of.new.evaluator.bank c.in_ok-terms.terms c.in_ok-classes.classes.items c.in_ok-firsts.firsts.items made c.as_slice.result.now c.as_slice-2.result.now
    c.in_ok-equations.field-0 c.as_slice.ensures c.as_slice-2.ensures.value c.in_ok-equations.ensures
