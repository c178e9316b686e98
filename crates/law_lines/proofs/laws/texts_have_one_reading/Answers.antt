use Rattle.law_lines.proofs.OneTerm.{one_term_law}
use Rattle.law_lines.proofs.Whole.{one_text_law}
use Rattle.law_lines.proofs.laws.texts_have_one_reading.Goals as goal

pub returns : goal.returns
returns c = record { text = one_text_law; term = one_term_law }
