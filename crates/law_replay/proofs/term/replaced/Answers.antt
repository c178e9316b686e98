use Rattle.std.proofs.Common.{List, true≢false, refl, sym, ap, ◌∙◌, subst}
use Rattle.law_replay.specs.declared.term.Frame.{Frame}
use Rattle.law_replay.specs.declared.term.Term.TheVariants.{Under}
use Rattle.law_replay.specs.Terms.{meaning, wrapped, IsReached}
use Rattle.law_replay.proofs.Descending.{put_back, not_there}
use Rattle.law_replay.proofs.term.replaced.Goals as goal

pub returns-then-not-matches : goal.returns-then-not-matches
returns-then-not-matches c = not_there _ _ _ _ c.in-Some.path.frames.items _ (subst (IsReached (meaning c.args.term) c.args.place.now) c.in-Some.is c.in_ok-path.ensures)
    (λ e. true≢false (sym (c.matches.ensures.1 e) ∙ c.if-not-matches.true))

pub returns : goal.returns
returns c = put_back _ _ _ _ c.in-Some.path.frames.items _ _ c.args.to c.args.binds (subst (IsReached (meaning c.args.term) c.args.place.now) c.in-Some.is c.in_ok-path.ensures)
    (c.matches.ensures.0 c.if-not-matches.false) refl
    (c.in_ok-made.ensures ∙ ap (λ (fs : List Frame). wrapped fs (meaning (Under c.args.to c.args.binds))) c.as_slice.ensures.value)
