use Rattle.std.proofs.Common.{rules, IfOk, IfErr, subst, sym, arith}
use Rattle.law_cert_text.specs.declared.error.CertErr.TheVariants as error
use Rattle.law_cert_text.specs.Readers.{IsOpen, IsWhole, NotWhole}
use Rattle.law_cert.proofs.PhaseFacts.{finish_err, finish_ok, finish_open}
use Rattle.law_cert.proofs.reader.CertReader.finish.Goals as goal

pub returns-then-len-eq0 : goal.returns-then-len-eq0
returns-then-len-eq0 c = record {
  ok = subst (λ heard. IfOk c.finish.result (IsWhole heard)) c.self.view_is (finish_ok c.finish.result c.self.inside.phase c.self.inside.unfinished (search rules) c.finish.ensures.ok);
  err = subst (λ heard. IfErr c.finish.result (NotWhole heard)) c.self.view_is
      (finish_err c.finish.result c.self.inside.phase c.self.inside.count _ c.self.inside.unfinished c.self.invariant (search rules) c.finish.ensures.err);
}

pub returns-in-Ok-clause-err : goal.returns-in-Ok-clause-err
returns-in-Ok-clause-err c =
    subst (λ heard. NotWhole heard (error.Form c.saturating_add-line.result)) c.self.view_is
    (finish_open c.self.inside.phase c.self.inside.count c.saturating_add-line.result c.self.inside.unfinished c.self.invariant (search rules) (λ e. omega arith) (subst IsOpen (sym c.self.view_is) c.in-Ok.ensures.answer))
