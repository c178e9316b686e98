use Rattle.std.proofs.Common.{refl}
use Rattle.law_cert_text.proofs.Refusals.{closed_stops}
use Rattle.law_cert.proofs.reader.CertReader.turn.Goals as goal

pub returns : goal.returns
returns c = closed_stops c.answer.result c.args.self.now c.close.new.self 10 refl c.answer.ensures.answer c.requires c.close.ensures.fed c.close.ensures.refused
