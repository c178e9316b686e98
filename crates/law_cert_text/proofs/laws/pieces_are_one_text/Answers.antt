use Rattle.law_cert_text.proofs.Joined.{ends_as_one, fed_reads, one_text}
use Rattle.law_cert_text.proofs.laws.pieces_are_one_text.Goals as goal

pub returns : goal.returns
returns c = record { joined = one_text; fed = fed_reads; ended = ends_as_one }
