use Rattle.law_typing.proofs.TextSound.{sound}
use Rattle.law_typing.proofs.laws.faultless_lines_state.Goals as goal

pub returns : goal.returns
returns c = sound
