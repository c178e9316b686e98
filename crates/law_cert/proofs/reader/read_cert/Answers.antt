use Rattle.law_cert_text.specs.Readers.{RefusedBy}
use Rattle.law_cert_text.proofs.Refusals.{feed_refused, passed_err}
use Rattle.law_cert.proofs.reader.read_cert.Goals as goal

pub returns-in_err-feed-clause-err : goal.returns-in_err-feed-clause-err
returns-in_err-feed-clause-err c = passed_err c.from_residual.result _ (RefusedBy c.args.text.now) c.from_residual.ensures.1
    (feed_refused _ c.new-reader.result c.feed.new.self c.args.text.now c.new-reader.ensures.lines c.new-reader.ensures.unfinished c.new-reader.ensures.open c.in_err-feed.ensures.ok)
