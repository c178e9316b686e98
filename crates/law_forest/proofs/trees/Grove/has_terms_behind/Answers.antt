use Rattle.std.proofs.Common.{◌↔◌, IsTrue, IfOk, subst, sym, ap, ◌∙◌}
use Rattle.law_sig.specs.Lists.{Each}
use Rattle.law_draws.specs.Draws.{pools_by}
use Rattle.law_cert_text.specs.declared.cert.TreeLine.TheVariants.{Class}
use Rattle.law_checking.specs.Lines.{held_at}
use Rattle.law_checking.specs.Planted.{AreTermsOf}
use Rattle.law_forest.proofs.trees.Grove.has_terms_behind.Goals as goal

pub returns-in-Class : goal.returns-in-Class
returns-in-Class c =
    subst (λ l. IfOk c.has_terms_at.result (λ found. IsTrue found ↔ Each (AreTermsOf c.args.self.now.tester.sig.now (pools_by c.args.self.now.tester.sig.now) c.args.self.now.spreads.now
    c.args.self.now.lives.now) (held_at l c.args.rest.now))) (ap Class c.as_slice.ensures ∙ sym c.in-Class.is) c.has_terms_at.ensures
