use Rattle.law_cert_text.proofs.FirstFaults.{one_first_fault}
use Rattle.law_cert_text.proofs.NoneSpelled.{refused_is_none}
use Rattle.law_cert_text.proofs.laws.refused_texts_are_none.Goals as goal

pub returns : goal.returns
returns c = record { none = refused_is_none; fault = one_first_fault }
