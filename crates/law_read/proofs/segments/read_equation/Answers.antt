use Rattle.std.proofs.Common.{rules}
use Rattle.law_places.proofs.SegmentTexts.{no_equation}
use Rattle.law_read.proofs.segments.read_equation.Goals as goal

pub returns-in-Err-Form : goal.returns-in-Err-Form
returns-in-Err-Form c = no_equation c.args.bytes.now c.in-Err-Form.field-0-0 (search rules)
