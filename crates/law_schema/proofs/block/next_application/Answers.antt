use Rattle.std.proofs.Common.{refl, subst, sym}
use Rattle.law_bank.specs.Bank.{AllOf}
use Rattle.law_schema.proofs.Housing.{row_held}
use Rattle.law_schema.proofs.Making.{lives_are}
use Rattle.law_schema.proofs.block.next_application.Goals as goal

pub intern-requires-clause-held : goal.intern-requires-clause-held
intern-requires-clause-held c =
    subst (AllOf c.args.bank.now)
    (sym (lives_are c.args.spreads.now c.as_slice.result.now c.as_slice.result.now c.as_slice-2.result.now c.as_slice-2.result.now c.new-args.result.items c.push_lives.new.found.items c.as_slice-3.result.now
    refl refl c.new-args.ensures.items c.in_ok-push_lives.ensures c.as_slice-3.ensures.value))
    (row_held c.args.bank.now c.args.spreads.now c.as_slice.result.now c.as_slice-2.result.now c.requires.held)
