use Rattle.std.proofs.Common.{ap, sym, ◌∙◌, subst₂, [], ◌∷◌, ◌++◌}
use Rattle.std.specs.Option.{option_copied}
use Rattle.law_term.specs.declared.walk.Visit.{Visit}
use Rattle.law_term.specs.declared.walk.Visit.TheVariants as visit
use Rattle.law_term.specs.Walks.{meaning, IsWalking}
use Rattle.law_term.proofs.Walking.{walk_start, walk_entered, fewer_entered, top_ready, walk_left, fewer_left, end_tree, end_held, change_stays, walk_ended}
use Rattle.law_term.proofs.change.changed.Goals as goal

pub loop-visit-init : goal.loop-visit-init
loop-visit-init c = subst₂ (IsWalking c.args.bank.now c.args.bank.now (meaning c.args.change) c.args.term.now)
    (sym c.new-done.ensures.empty) (sym (c.in-Ok.ensures.items ∙ ap (λ l. l ++ visit.Enter c.args.term ∷ []) c.new-visits.ensures.items))
    (walk_start c.args.bank.now (meaning c.args.change) c.args.term c.requires.term)

pub loop-visit-smaller-in-Continue-1 : goal.loop-visit-smaller-in-Continue-1
loop-visit-smaller-in-Continue-1 c = fewer_entered c.args.bank.now c.loop-visit.done.entries c.loop-visit.visits.items c.pop.new.self.items c.in-Enter.node
    c.loop-visit.invariant.visited c.loop-visit.invariant.ready (c.in-Some.ensures.items ∙ ap (λ (v : Visit). c.pop.new.self.items ++ v ∷ []) c.in-Enter.is) c.enter.new.visits.items c.in_ok-enter-in-Enter.ensures

pub loop-visit-preserved-in-Continue-1 : goal.loop-visit-preserved-in-Continue-1
loop-visit-preserved-in-Continue-1 c = walk_entered c.args.bank.now c.loop-visit.bank (meaning c.args.change) c.args.term.now c.loop-visit.done.entries c.loop-visit.visits.items c.pop.new.self.items c.in-Enter.node
    c.loop-visit.invariant (c.in-Some.ensures.items ∙ ap (λ (v : Visit). c.pop.new.self.items ++ v ∷ []) c.in-Enter.is) c.enter.new.visits.items c.in_ok-enter-in-Enter.ensures

pub leave-requires-clause-change : goal.leave-requires-clause-change
leave-requires-clause-change c = change_stays c.args.bank.now c.loop-visit.bank c.args.change c.loop-visit.invariant.grows c.requires.change

pub leave-requires-clause-ready : goal.leave-requires-clause-ready
leave-requires-clause-ready c = top_ready c.args.bank.now c.loop-visit.done.entries c.loop-visit.visits.items c.pop.new.self.items c.in-Leave.node
    c.loop-visit.invariant.visited c.loop-visit.invariant.ready (c.in-Some.ensures.items ∙ ap (λ (v : Visit). c.pop.new.self.items ++ v ∷ []) c.in-Leave.is)

pub loop-visit-smaller : goal.loop-visit-smaller
loop-visit-smaller c = fewer_left c.args.bank.now c.loop-visit.done.entries c.loop-visit.visits.items c.pop.new.self.items c.in-Leave.node
    c.loop-visit.invariant.visited c.loop-visit.invariant.ready (c.in-Some.ensures.items ∙ ap (λ (v : Visit). c.pop.new.self.items ++ v ∷ []) c.in-Leave.is)

pub loop-visit-preserved : goal.loop-visit-preserved
loop-visit-preserved c = walk_left c.args.bank.now c.loop-visit.bank (meaning c.args.change) c.args.term.now c.loop-visit.done.entries c.loop-visit.visits.items c.pop.new.self.items c.in-Leave.node
    c.loop-visit.invariant (c.in-Some.ensures.items ∙ ap (λ (v : Visit). c.pop.new.self.items ++ v ∷ []) c.in-Leave.is)
    c.leave.new.bank c.leave.new.done.entries c.in_ok-leave-in-Leave.ensures.grows c.in_ok-leave-in-Leave.ensures.left

pub returns-clause-tree : goal.returns-clause-tree
returns-clause-tree c = end_tree c.args.bank.now c.loop-visit.bank (meaning c.args.change) c.args.term.now c.loop-visit.done.entries
    (walk_ended _ _ _ _ _ c.loop-visit.visits.items c.loop-visit.invariant (sym c.loop-visit.visits.ok.0 ∙ c.in_default-pop.ensures.cases.0)) c.in-Some-get.made.now (sym c.get.ensures.value ∙ ap option_copied c.in-Some-get.is) c.requires.term

pub returns-clause-held : goal.returns-clause-held
returns-clause-held c = end_held c.args.bank.now c.loop-visit.bank (meaning c.args.change) c.args.term.now c.loop-visit.done.entries
    (walk_ended _ _ _ _ _ c.loop-visit.visits.items c.loop-visit.invariant (sym c.loop-visit.visits.ok.0 ∙ c.in_default-pop.ensures.cases.0)) c.in-Some-get.made.now (sym c.get.ensures.value ∙ ap option_copied c.in-Some-get.is)
