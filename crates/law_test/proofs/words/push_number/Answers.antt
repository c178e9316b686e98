use Rattle.std.proofs.Common.{arith}
use Rattle.law_test.proofs.WordFacts.{byte_pushed}
use Rattle.law_test.proofs.words.push_number.Goals as goal

pub loop-rest-preserved : goal.loop-rest-preserved
loop-rest-preserved c = byte_pushed c.loop-rest.made.items c.push_byte.new.made.items _ c.loop-rest.rest _ c.loop-rest-test.true (omega arith) c.in_ok-push_byte.ensures c.loop-rest.invariant
