use Rattle.std.proofs.Common.{subst}
use Rattle.law_cert_text.specs.Readers.{IsStopped}
use Rattle.law_cert_text.proofs.Joined.{stopped}
use Rattle.law_cli.proofs.pieces.hear.Goals as goal

pub returns-in-Err-Form : goal.returns-in-Err-Form
returns-in-Err-Form c = λ text heard. stopped c.args.reader.now c.feed.new.self text c.args.piece.now c.in-Err-Form.field-0-0 heard
    (subst (IsStopped c.args.reader.now c.feed.new.self c.args.piece.now) c.in-Err-Form.field-0-is c.in-Err-Form.ensures.ok)
