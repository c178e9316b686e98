use Rattle.std.proofs.Common.{◌∙◌}
use Rattle.law_sig.specs.Tests.{assignments}
use Rattle.law_sig.specs.Counts.{term_count}
use Rattle.law_draws.specs.Draws.{pools_by}
use Rattle.law_testing.proofs.EvaluatorFacts.{ready_new, ready_stays}
use Rattle.law_explore.specs.Refusals.{HasBrokenBackground, HasLackingTerm, IsRefusal}
use Rattle.law_explore.proofs.Breaking.{handed_on}
use Rattle.law_explore.proofs.RefusalFacts.{limit_kept, refused_background, refused_term}
use Rattle.law_explore.proofs.ListedFacts.{law_list_is}
use Rattle.law_explore.proofs.listed.by_numbers.Goals as goal

pub returns-in_err-check_background-clause-refused : goal.returns-in_err-check_background-clause-refused
returns-in_err-check_background-clause-refused c =
    let few = limit_kept 4096 (assignments c.args.sig.now) c.in-Some.field-0 c.assignments.result c.assignments.ensures c.in-Some.is in
    let short = limit_kept c.args.terms (term_count c.args.sig.now) c.in-Some-2.field-0 c.in_ok-terms_up_to.field-0 c.in_ok-terms_up_to.ensures c.in-Some-2.is in
    handed_on c.args.sig.now (HasBrokenBackground c.args.sig.now (pools_by c.args.sig.now)) (IsRefusal c.args.sig.now c.args.terms) c.from_residual-in_err-check_background.result _
    (refused_background c.args.sig.now c.args.terms few short c.in_ok-pools.ensures.small) c.from_residual-in_err-check_background.ensures.1 c.in_err-check_background.ensures.breaks

pub check_background-requires : goal.check_background-requires
check_background-requires c = ready_new c.args.sig.now c.small_pools.new.bank c.new-evaluator.result c.in_ok-pools.pools c.new-evaluator.ensures c.in_ok-pools.ensures.pools

pub laws_of-requires : goal.laws_of-requires
laws_of-requires c = ready_stays c.args.sig.now c.new-evaluator.result c.check_background.new.evaluator c.in_ok-pools.pools c.check_background.ensures.extends
    (ready_new c.args.sig.now c.small_pools.new.bank c.new-evaluator.result c.in_ok-pools.pools c.new-evaluator.ensures c.in_ok-pools.ensures.pools)

pub returns-in_err-laws-clause-refused : goal.returns-in_err-laws-clause-refused
returns-in_err-laws-clause-refused c =
    let few = limit_kept 4096 (assignments c.args.sig.now) c.in-Some.field-0 c.assignments.result c.assignments.ensures c.in-Some.is in
    let short = limit_kept c.args.terms (term_count c.args.sig.now) c.in-Some-2.field-0 c.in_ok-terms_up_to.field-0 c.in_ok-terms_up_to.ensures c.in-Some-2.is in
    handed_on c.args.sig.now (HasLackingTerm c.args.sig.now (pools_by c.args.sig.now)) (IsRefusal c.args.sig.now c.args.terms) c.from_residual-in_err-laws.result _
    (refused_term c.args.sig.now c.args.terms few short c.in_ok-pools.ensures.small c.in_ok-check_background.ensures.holds) c.from_residual-in_err-laws.ensures.1 c.in_err-laws.ensures.lacks

pub returns-clause-listed : goal.returns-clause-listed
returns-clause-listed c =
    let few = limit_kept 4096 (assignments c.args.sig.now) c.in-Some.field-0 c.assignments.result c.assignments.ensures c.in-Some.is in
    let short = limit_kept c.args.terms (term_count c.args.sig.now) c.in-Some-2.field-0 c.in_ok-terms_up_to.field-0 c.in_ok-terms_up_to.ensures c.in-Some-2.is in
    law_list_is c.args.sig.now c.args.terms c.in_ok-written.written c.in_ok-laws.laws few short c.in_ok-pools.ensures.small c.in_ok-check_background.ensures.holds
    c.in_ok-laws.ensures.laws (c.in_ok-written.ensures ∙ c.in_ok-pools.ensures.pools.are)
