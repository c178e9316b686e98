use Rattle.law_cert_text.proofs.OneCert.{one_cert, one_list}
use Rattle.law_cert_text.proofs.OneCertLine.{one_cert_line}
use Rattle.law_cert_text.proofs.laws.texts_have_one_reading.Goals as goal

pub returns : goal.returns
returns c = record { cert = one_cert; list = one_list; line = one_cert_line }
