use Rattle.std.proofs.Common.{◌∙◌, ap}
use Rattle.law_checking.specs.Verdicts.{counted}
use Rattle.law_checking.proofs.CertFacts.{yes_told, no_told, over_told}
use Rattle.law_check.proofs.check.told.Goals as goal

pub returns-in-Yes-clause-verdict : goal.returns-in-Yes-clause-verdict
returns-in-Yes-clause-verdict c = (yes_told c.certificate_laws.ensures.spelled c.args.cert.now c.args.sig.now c.requires.text c.requires.typed c.args.answer c.requires.judged c.certificate_laws.ensures.exact c.certificate_laws.ensures.covers c.counted.result c.in-Yes.is (c.counted.ensures ∙ ap counted c.as_slice.ensures)).0

pub returns-in-Yes-clause-exact : goal.returns-in-Yes-clause-exact
returns-in-Yes-clause-exact c = (yes_told c.certificate_laws.ensures.spelled c.args.cert.now c.args.sig.now c.requires.text c.requires.typed c.args.answer c.requires.judged c.certificate_laws.ensures.exact c.certificate_laws.ensures.covers c.counted.result c.in-Yes.is (c.counted.ensures ∙ ap counted c.as_slice.ensures)).1

pub returns-in-Yes-clause-covers : goal.returns-in-Yes-clause-covers
returns-in-Yes-clause-covers c = (yes_told c.certificate_laws.ensures.spelled c.args.cert.now c.args.sig.now c.requires.text c.requires.typed c.args.answer c.requires.judged c.certificate_laws.ensures.exact c.certificate_laws.ensures.covers c.counted.result c.in-Yes.is (c.counted.ensures ∙ ap counted c.as_slice.ensures)).2

pub returns-in-No-clause-verdict : goal.returns-in-No-clause-verdict
returns-in-No-clause-verdict c = (no_told c.certificate_laws.ensures.spelled c.args.cert.now c.args.sig.now c.requires.text c.requires.typed c.args.answer c.requires.judged c.certificate_laws.ensures.exact c.certificate_laws.ensures.one c.in-No.rule c.in-No.entry c.in-No.is).0

pub returns-in-No-clause-exact : goal.returns-in-No-clause-exact
returns-in-No-clause-exact c = (no_told c.certificate_laws.ensures.spelled c.args.cert.now c.args.sig.now c.requires.text c.requires.typed c.args.answer c.requires.judged c.certificate_laws.ensures.exact c.certificate_laws.ensures.one c.in-No.rule c.in-No.entry c.in-No.is).1

pub returns-in-Ok-clause-over : goal.returns-in-Ok-clause-over
returns-in-Ok-clause-over c = over_told c.certificate_laws.ensures.spelled c.args.cert.now c.args.sig.now c.requires.text c.requires.typed c.args.answer c.requires.judged c.certificate_laws.ensures.exact c.certificate_laws.ensures.one c.in-Over.entry c.in-Over.test c.in-Over.term c.in-Ok.term c.in-Over.is c.in-Ok.ensures
