use Rattle.law_places.proofs.FirstFaults.{one_fault_law, refused_law}
use Rattle.law_places.proofs.TextReads.{one_term_fault}
use Rattle.law_places.proofs.laws.refused_texts_are_none.Goals as goal

pub returns : goal.returns
returns c = record { none = refused_law; one = one_fault_law; term = one_term_fault }
