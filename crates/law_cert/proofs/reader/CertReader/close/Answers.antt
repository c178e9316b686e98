use Rattle.std.proofs.Common.{rules}
use Rattle.law_cert.proofs.PhaseFacts.{err_to, none_to, some_to}
use Rattle.law_cert.proofs.reader.CertReader.close.Goals.{in-Err, in-Ok-None, in-Ok-Some}
use Rattle.law_cert.proofs.reader.CertReader.close.Goals as goal

pub returns-clause-refused : goal.returns-clause-refused
returns-clause-refused c = elim c.match-with.branch [
  | in-Ok-Some w ↦ some_to c.args.self.now _ w.in-Ok-Some.phase c.self.inside.phase c.self.inside.unfinished (search rules) (search rules)
  | in-Ok-None w ↦ none_to c.args.self.now _ c.self.inside.phase c.self.inside.count c.saturating_add-number.result c.self.inside.unfinished c.self.inside.unfinished c.self.view_is (search rules) c.self.invariant c.requires (search rules) (search rules) (search rules)
  | in-Err w ↦ err_to c.args.self.now _ (search rules)
]
