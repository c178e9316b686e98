use Rattle.law_schema.proofs.Calls.{has_block, stay_known, none_kept, gives_known, instance_known}
use Rattle.law_schema.proofs.schemas.Schemas.next_instance.Goals as goal

pub next_in-requires-clause-block : goal.next_in-requires-clause-block
next_in-requires-clause-block c = has_block c.self.inside c.self.invariant c.args.self.now c.self.view_is c.requires.spread c.as_slice.result.now c.as_slice.ensures.value

pub invariant_of-self : goal.invariant_of-self
invariant_of-self c =
    stay_known c.self.inside c.self.invariant c.args.self.now c.self.view_is c.requires.spread c.as_slice.result.now c.as_slice.ensures.value c.next_in.new.block c.in_err-found.ensures.err

pub invariant_of-self-in_default : goal.invariant_of-self-in_default
invariant_of-self-in_default c =
    stay_known c.self.inside c.self.invariant c.args.self.now c.self.view_is c.requires.spread c.as_slice.result.now c.as_slice.ensures.value c.next_in.new.block
    (none_kept c.as_slice.result.now c.self.inside.block c.next_in.new.block c.in_ok-found.found c.in_default.is c.in_ok-found.ensures.some)

pub returns-in_default-clause-next : goal.returns-in_default-clause-next
returns-in_default-clause-next c =
    gives_known c.self.inside c.self.invariant c.args.self.now c.self.view_is c.requires.spread c.as_slice.result.now c.as_slice.ensures.value c.in_ok-found.found _ c.in_default.is c.in_ok-found.ensures.next

pub invariant_of-self-2 : goal.invariant_of-self-2
invariant_of-self-2 c =
    instance_known c.self.inside c.self.invariant c.args.self.now c.self.view_is c.requires.spread c.as_slice.result.now c.as_slice.ensures.value c.next_in.new.block c.in_ok-found.found c.in-Some.term c.in-Some.is
    c.in_ok-found.ensures.next c.in_ok-found.ensures.some

pub returns-clause-next : goal.returns-clause-next
returns-clause-next c =
    gives_known c.self.inside c.self.invariant c.args.self.now c.self.view_is c.requires.spread c.as_slice.result.now c.as_slice.ensures.value c.in_ok-found.found _ c.in-Some.is c.in_ok-found.ensures.next
