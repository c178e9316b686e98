use Rattle.std.proofs.Common.{◌%◌}
use Rattle.law_test.proofs.Evaluating.{right_set}
use Rattle.law_test.proofs.memo.Memo.keep.Goals as goal

pub returns : goal.returns
returns c = λ parts bank right is.
    right_set parts bank c.grow.new.self.places.items (c.scattered.result % c.len-count.result) c.args.known (c.grow.ensures parts bank right) is
