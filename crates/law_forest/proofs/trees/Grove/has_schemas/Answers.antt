use Rattle.law_draws.specs.Draws.{pools_by}
use Rattle.law_checking.proofs.Treeing.{schemas_are}
use Rattle.law_forest.proofs.trees.Grove.has_schemas.Goals as goal

pub returns : goal.returns
returns c =
    schemas_are c.args.self.now.tester.sig.now (pools_by c.args.self.now.tester.sig.now) c.args.self.now.spreads.now c.args.sort c.args.lines.now c.as_slice.result.now c.in_ok-given.given
    c.as_slice-2.result.now c.in_ok-wanted.wanted c.as_slice-3.result.now c.in_ok-tests.tests c.as_slice.ensures c.in_ok-given.ensures c.as_slice-2.ensures c.in_ok-wanted.ensures
    c.as_slice-3.ensures c.in_ok-tests.ensures (c.in_ok-are_once.ensures.0 c.if-not-branch.false) (c.all_rising.ensures.0 c.if-not-all_rising.false) c.are_flat.result
    (c.are_flat.ensures c.requires.bank.0 c.requires.bank.1)
