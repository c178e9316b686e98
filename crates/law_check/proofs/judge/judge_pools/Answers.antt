use Rattle.std.proofs.Common.{◌∙◌, sym, subst}
use Rattle.std.specs.List.{AllByRecursion}
use Rattle.law_cert_text.specs.Certificates.{IsTree}
use Rattle.law_testing.proofs.EvaluatorFacts.{ready_new, ready_stays}
use Rattle.law_checking.specs.Steps.{AnswersAll}
use Rattle.law_checking.proofs.CertFacts.{pools_exact, other_pools, background_fault, all_answered}
use Rattle.law_check.proofs.judge.judge_pools.Goals as goal

pub returns-then-not-same : goal.returns-then-not-same
returns-then-not-same c = other_pools c.args.sig.now c.args.cert.now c.in_ok-same.same c.in_ok-values.values
    (pools_exact c.args.sig.now c.args.cert.now c.in_ok-names.names c.as_slice-written.result.now c.as_slice.result.now c.in_ok-values.values c.in_ok-same.same
    c.in_ok-names.ensures c.as_slice-written.ensures c.as_slice.ensures c.in_ok-same.ensures) c.if-not-same.true (c.in_ok-values.ensures ∙ c.requires.pools.are)

pub returns-then-not-is_yes : goal.returns-then-not-is_yes
returns-then-not-is_yes c = background_fault c.args.sig.now c.args.cert.now ((pools_exact c.args.sig.now c.args.cert.now c.in_ok-names.names c.as_slice-written.result.now c.as_slice.result.now c.in_ok-values.values c.in_ok-same.same
    c.in_ok-names.ensures c.as_slice-written.ensures c.as_slice.ensures c.in_ok-same.ensures).0 c.if-not-same.false ∙ (c.in_ok-values.ensures ∙ c.requires.pools.are)) c.in_ok-answer.answer c.in_ok-answer.ensures.answer
    (λ e. let h = c.is_yes.ensures.1 e in let k = c.if-not-is_yes.true in cc)

pub background-requires : goal.background-requires
background-requires c = ready_new c.args.sig.now c.args.bank c.new-evaluator.result c.args.pools.now c.new-evaluator.ensures c.requires.pools

pub judge_entries-requires-clause-pools : goal.judge_entries-requires-clause-pools
judge_entries-requires-clause-pools c = ready_stays c.args.sig.now c.new-evaluator.result c.background.new.evaluator c.args.pools.now c.background.ensures.extends
    (ready_new c.args.sig.now c.args.bank c.new-evaluator.result c.args.pools.now c.new-evaluator.ensures c.requires.pools)

pub returns : goal.returns
returns c = all_answered c.args.sig.now c.args.cert.now ((pools_exact c.args.sig.now c.args.cert.now c.in_ok-names.names c.as_slice-written.result.now c.as_slice.result.now c.in_ok-values.values c.in_ok-same.same
    c.in_ok-names.ensures c.as_slice-written.ensures c.as_slice.ensures c.in_ok-same.ensures).0 c.if-not-same.false ∙ (c.in_ok-values.ensures ∙ c.requires.pools.are)) c.in_ok-answer.answer c.in_ok-found.found c.in_ok-answer.ensures.answer
    (c.is_yes.ensures.0 c.if-not-is_yes.false) (subst (λ l. AnswersAll c.args.sig.now l c.args.cert.now.trees c.in_ok-found.found) c.as_slice-entries.ensures
    (subst (λ l. AnswersAll c.args.sig.now c.as_slice-entries.result.now l c.in_ok-found.found) c.as_slice-trees.ensures c.in_ok-found.ensures))

pub judge_entries-requires-clause-trees : goal.judge_entries-requires-clause-trees
judge_entries-requires-clause-trees c = subst (AllByRecursion IsTree) (sym c.as_slice-trees.ensures) c.requires.text.trees
