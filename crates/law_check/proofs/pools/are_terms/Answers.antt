use Rattle.std.proofs.Common.{◌<◌, ◌∙◌, length, map, refl, sym, ap, subst, Some}
use Rattle.std.proofs.lemmas.Option.{slice_get_read}
use Rattle.law_named.specs.Named.{term_named}
use Rattle.law_checking.proofs.SameLists.{get_map, same_on}
use Rattle.law_check.proofs.pools.are_terms.Goals as goal

pub loop-at-preserved : goal.loop-at-preserved
loop-at-preserved c = same_on (map (term_named c.args.names.now) c.args.written.now) c.args.terms.now c.loop-at.at c.in_ok-term.term c.index-terms-at.result
    (get_map (term_named c.args.names.now) c.args.written.now c.loop-at.at c.index-written-at.result
    (slice_get_read c.args.written.now (length c.args.written.now) c.loop-at.at c.index-written-at.result refl c.loop-at-test.true c.index-written-at.is) ∙ ap Some (sym c.in_ok-term.ensures))
    (slice_get_read c.args.terms.now (length c.args.terms.now) c.loop-at.at c.index-terms-at.result refl (subst (λ n. c.loop-at.at < n) c.if-written-terms.false c.loop-at-test.true) c.index-terms-at.is)
    (c.is_same.ensures.0 c.if-not-is_same.false) c.loop-at.invariant
