use Rattle.std.proofs.Common.{ap, subst}
use Rattle.std.specs.Option.{option_copied}
use Rattle.indexmap.specs.IndexMap.{get}
use Rattle.law_test.specs.Words.{same_items, FindsTerms}
use Rattle.law_test.proofs.TableFacts.{found_at, found_none}
use Rattle.law_test.proofs.table.TermTable.find.Goals as goal

pub returns-in-Some : goal.returns-in-Some
returns-in-Some c =
    found_at c.args.self.now (get same_items c.self.inside.places) (subst (λ ts. FindsTerms ts (get same_items c.self.inside.places)) c.self.view_is c.self.invariant) c.in_ok-word.word c.args.term.now c.in_ok-word.ensures
    (option_copied c.get.result) c.get.ensures.value c.in-Some.place.now (ap option_copied c.in-Some.is)

pub returns : goal.returns
returns c =
    found_none c.args.self.now (get same_items c.self.inside.places) (subst (λ ts. FindsTerms ts (get same_items c.self.inside.places)) c.self.view_is c.self.invariant) c.in_ok-word.word c.args.term.now c.in_ok-word.ensures
    (option_copied c.get.result) c.get.ensures.value (ap option_copied c.in-None.is)
