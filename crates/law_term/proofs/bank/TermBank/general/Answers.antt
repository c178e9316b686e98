use Rattle.law_bank.specs.Terms.{tree_of}
use Rattle.law_term.proofs.Numbering.{general_is}
use Rattle.law_term.proofs.bank.TermBank.general.Goals as goal

pub returns-clause-general : goal.returns-clause-general
returns-clause-general c = general_is c.args.vars.now c.in_ok-used.used.items c.numbered.new.used.items c.in_ok-used.ensures.1 (tree_of c.args.schema.now) c.in_ok-found.found
    c.numbered.ensures.used c.in_ok-found.ensures.next
