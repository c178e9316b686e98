use Rattle.std.proofs.Common.{◌∙◌}
use Rattle.indexmap.specs.IndexMap.{get}
use Rattle.law_test.specs.Words.{same_items}
use Rattle.law_test.proofs.TableFacts.{pushed}
use Rattle.law_test.proofs.table.TermTable.push.Goals as goal

pub invariant_of-self-in-Ok-insert : goal.invariant_of-self-in-Ok-insert
invariant_of-self-in-Ok-insert c =
    pushed c.self.inside.terms.items c.push.new.self.items (get same_items c.self.inside.places) (get same_items c.insert.new.self) c.self.invariant c.args.term c.in_ok-word.word
    c.in_ok-word.ensures c.len-at.result (c.len-at.ensures ∙ c.self.inside.terms.ok.0) c.in-Ok-insert.ensures.updates.0 c.in-Ok.ensures.items
