use Rattle.law_schema.proofs.Coming.{beside_first, at_first, none_next, is_ahead, filed_known, next_known, gives_next}
use Rattle.law_schema.proofs.schemas.Schemas.next.Goals as goal

pub term_ahead-requires-clause-ahead : goal.term_ahead-requires-clause-ahead
term_ahead-requires-clause-ahead c = is_ahead c.self.inside c.self.invariant c.as_slice-columns.result.now c.look_ahead.new.place (beside_first c.self.inside c.self.invariant c.as_slice-columns.result.now c.as_slice-columns.ensures.value c.look_ahead.new.place c.in_ok-look_ahead.field-0 c.in-Beside.is c.in_ok-look_ahead.ensures.ahead)

pub term_ahead-requires-clause-held : goal.term_ahead-requires-clause-held
term_ahead-requires-clause-held c = filed_known c.self.inside c.self.invariant c.args.self.now c.self.view_is c.as_slice-columns.result.now c.as_slice-columns.ensures.value c.args.bank.now c.requires.held

pub go-requires : goal.go-requires
go-requires c = is_ahead c.self.inside c.self.invariant c.as_slice-columns.result.now c.look_ahead.new.place (beside_first c.self.inside c.self.invariant c.as_slice-columns.result.now c.as_slice-columns.ensures.value c.look_ahead.new.place c.in_ok-look_ahead.field-0 c.in-Beside.is c.in_ok-look_ahead.ensures.ahead)

pub invariant_of-self-in-Beside : goal.invariant_of-self-in-Beside
invariant_of-self-in-Beside c =
    next_known c.self.inside c.self.invariant c.as_slice-columns.result.now c.as_slice-columns.ensures.value c.look_ahead.new.place (beside_first c.self.inside c.self.invariant c.as_slice-columns.result.now c.as_slice-columns.ensures.value c.look_ahead.new.place c.in_ok-look_ahead.field-0 c.in-Beside.is c.in_ok-look_ahead.ensures.ahead) c.go.new.place c.in_ok-term-in-Beside.term
    c.in_ok-term-in-Beside.ensures.tree c.go.ensures

pub term_ahead-requires-in-At-clause-ahead : goal.term_ahead-requires-in-At-clause-ahead
term_ahead-requires-in-At-clause-ahead c = is_ahead c.self.inside c.self.invariant c.as_slice-columns.result.now c.in-At.place (at_first c.self.inside c.self.invariant c.as_slice-columns.result.now c.as_slice-columns.ensures.value c.look_ahead.new.place c.in_ok-look_ahead.field-0 c.in-At.place c.in-At.is c.in_ok-look_ahead.ensures.ahead)

pub term_ahead-requires-in-At-clause-held : goal.term_ahead-requires-in-At-clause-held
term_ahead-requires-in-At-clause-held c = filed_known c.self.inside c.self.invariant c.args.self.now c.self.view_is c.as_slice-columns.result.now c.as_slice-columns.ensures.value c.args.bank.now c.requires.held

pub go-requires-in-At : goal.go-requires-in-At
go-requires-in-At c = is_ahead c.self.inside c.self.invariant c.as_slice-columns.result.now c.in-At.place (at_first c.self.inside c.self.invariant c.as_slice-columns.result.now c.as_slice-columns.ensures.value c.look_ahead.new.place c.in_ok-look_ahead.field-0 c.in-At.place c.in-At.is c.in_ok-look_ahead.ensures.ahead)

pub invariant_of-self-in-At : goal.invariant_of-self-in-At
invariant_of-self-in-At c =
    next_known c.self.inside c.self.invariant c.as_slice-columns.result.now c.as_slice-columns.ensures.value c.in-At.place (at_first c.self.inside c.self.invariant c.as_slice-columns.result.now c.as_slice-columns.ensures.value c.look_ahead.new.place c.in_ok-look_ahead.field-0 c.in-At.place c.in-At.is c.in_ok-look_ahead.ensures.ahead) c.go-in-At.new.place c.in_ok-term-in-At.term
    c.in_ok-term-in-At.ensures.tree c.go-in-At.ensures

pub returns-in-Spent-clause-next : goal.returns-in-Spent-clause-next
returns-in-Spent-clause-next c = none_next c.self.inside c.self.invariant c.as_slice-columns.result.now c.as_slice-columns.ensures.value c.look_ahead.new.place c.in_ok-look_ahead.field-0 c.in-Spent.is c.in_ok-look_ahead.ensures.ahead c.args.self.now c.self.view_is

pub returns-in_ok-term-in-Beside-clause-next : goal.returns-in_ok-term-in-Beside-clause-next
returns-in_ok-term-in-Beside-clause-next c = gives_next c.self.inside c.args.self.now c.self.view_is c.as_slice-columns.result.now c.look_ahead.new.place (beside_first c.self.inside c.self.invariant c.as_slice-columns.result.now c.as_slice-columns.ensures.value c.look_ahead.new.place c.in_ok-look_ahead.field-0 c.in-Beside.is c.in_ok-look_ahead.ensures.ahead) c.in_ok-term-in-Beside.term c.in_ok-term-in-Beside.ensures.tree

pub returns-in_ok-term-in-At-clause-next : goal.returns-in_ok-term-in-At-clause-next
returns-in_ok-term-in-At-clause-next c = gives_next c.self.inside c.args.self.now c.self.view_is c.as_slice-columns.result.now c.in-At.place (at_first c.self.inside c.self.invariant c.as_slice-columns.result.now c.as_slice-columns.ensures.value c.look_ahead.new.place c.in_ok-look_ahead.field-0 c.in-At.place c.in-At.is c.in_ok-look_ahead.ensures.ahead) c.in_ok-term-in-At.term c.in_ok-term-in-At.ensures.tree
