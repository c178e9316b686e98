use Rattle.law_acceptance.proofs.memos.one_and_zero.Goals as goal

pub returns-in_err-one : goal.returns-in_err-one
returns-in_err-one c = c.laws.ensures.stays c.args.sig.now c.make.new.self c.make-2.new.self c.make-2.ensures.grows
    (c.laws.ensures.stays c.args.sig.now c.args.bank.now c.make.new.self c.make.ensures.grows c.requires)

pub apply-requires-clause-right : goal.apply-requires-clause-right
apply-requires-clause-right c = c.laws.ensures.stays c.args.sig.now c.make.new.self c.make-2.new.self c.make-2.ensures.grows
    (c.laws.ensures.stays c.args.sig.now c.args.bank.now c.make.new.self c.make.ensures.grows c.requires)
