use Rattle.law_lines.proofs.AgainLines.{line_on}
use Rattle.law_lines.proofs.CleanLines.{line_read_law}
use Rattle.law_places.proofs.LinesFound.{read_law}
use Rattle.law_places.proofs.laws.spelled_lines_are_read.Goals as goal

pub returns : goal.returns
returns c = record { walked = line_on; read = line_read_law; spelled = read_law }
