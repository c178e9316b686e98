use Rattle.law_faultless.proofs.laws.typing_laws.Goals as goal
use Rattle.law_faultless.proofs.OneSignature.{one_signature}
use Rattle.law_faultless.proofs.TextBack.{back}
use Rattle.law_typing.proofs.TreeOfFacts.{found_again, typed_of_raw_term}

pub returns-clause-one : goal.returns-clause-one
returns-clause-one c = one_signature

pub returns-clause-faultless : goal.returns-clause-faultless
returns-clause-faultless c = back

pub returns-clause-named : goal.returns-clause-named
returns-clause-named c parts tree formed sorted = found_again parts formed tree sorted

pub returns-clause-back : goal.returns-clause-back
returns-clause-back c = typed_of_raw_term
