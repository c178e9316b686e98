use Rattle.std.proofs.Common.{rules}
use Rattle.law_cert_text.proofs.DraftFacts.{with_ok}
use Rattle.law_cert.proofs.draft.with_line.Goals as goal

pub returns-in-Pools-clause-more : goal.returns-in-Pools-clause-more
returns-in-Pools-clause-more c = with_ok c.pooled.result c.args.draft c.args.line c.requires.draft c.requires.line (search rules)

pub returns-in-Entries-clause-more : goal.returns-in-Entries-clause-more
returns-in-Entries-clause-more c = with_ok c.entered.result c.args.draft c.args.line c.requires.draft c.requires.line (search rules)

pub returns-in-Trees-clause-more : goal.returns-in-Trees-clause-more
returns-in-Trees-clause-more c = with_ok c.grown.result c.args.draft c.args.line c.requires.draft c.requires.line (search rules)
