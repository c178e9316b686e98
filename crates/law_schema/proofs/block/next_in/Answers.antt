use Rattle.std.proofs.Common.{subst}
use Rattle.law_schema.specs.Blocks.{IsBlock}
use Rattle.law_schema.proofs.Filling.{gives_variable, gives_application, fillings_on}
use Rattle.law_schema.proofs.block.next_in.Goals as goal

pub returns-in_ok-found-in-Vars-clause-next : goal.returns-in_ok-found-in-Vars-clause-next
returns-in_ok-found-in-Vars-clause-next c = λ parts rules t o are housed is.
    gives_variable parts rules c.args.spreads.now t o c.in-Vars.variables c.next_variable.new.variables c.in_ok-found-in-Vars.found are housed (subst (IsBlock rules c.args.spreads.now t o) c.in-Vars.is is)
    c.in_ok-found-in-Vars.ensures.some

pub returns-in_ok-found-in-Apps-clause-next : goal.returns-in_ok-found-in-Apps-clause-next
returns-in_ok-found-in-Apps-clause-next c = λ parts rules t o are housed is.
    gives_application parts rules c.args.spreads.now t o c.in-Apps.fillings c.next_application.new.fillings c.in_ok-found-in-Apps.found are housed (subst (IsBlock rules c.args.spreads.now t o) c.in-Apps.is is)
    c.in_ok-found-in-Apps.ensures.some

pub returns-in_ok-found-in-Apps-clause-some : goal.returns-in_ok-found-in-Apps-clause-some
returns-in_ok-found-in-Apps-clause-some c = λ rules t o is.
    fillings_on c.args.spreads.now t o c.in-Apps.fillings c.next_application.new.fillings c.in_ok-found-in-Apps.found (subst (IsBlock rules c.args.spreads.now t o) c.in-Apps.is is) c.in_ok-found-in-Apps.ensures.kept
    c.in_ok-found-in-Apps.ensures.some
