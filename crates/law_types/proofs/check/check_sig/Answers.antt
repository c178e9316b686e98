use Rattle.std.proofs.Common.{◌≡◌, None, sym, ap, subst, ◌∙◌}
use Rattle.law_typing.specs.LineFaults.{first_fault, faults_from, nothing_seen}
use Rattle.law_typing.specs.Typed.{StatesNothing}
use Rattle.law_typing.specs.LineFaults.{TellsFault}
use Rattle.law_faultless.proofs.TextBack.{tells_first, tells_nothing}
use Rattle.law_types.proofs.check.check_sig.Goals as goal

pub returns-in-Err-clause-first : goal.returns-in-Err-clause-first
returns-in-Err-clause-first c =
    tells_first c.args.raw.now c.in_ok-prepared.prepared.text
    (subst (λ l. c.in_ok-prepared.prepared.text ≡ Rattle.law_typing.specs.Declarations.whole l) c.lines-lines.ensures.same c.in_ok-prepared.ensures.text) c.in-Err.e
    (subst (λ l. TellsFault {A = Unit {0}} (Rattle.std.proofs.Common.Err c.in-Err.e) (faults_from c.in_ok-prepared.prepared.text nothing_seen 1 l)) c.lines-lines.ensures.same c.in-Err.ensures)

pub returns-in-Err-clause-nothing : goal.returns-in-Err-clause-nothing
returns-in-Err-clause-nothing c =
    subst (λ l. StatesNothing l c.in-Err.e) c.lines-lines.ensures.same
    (tells_nothing c.lines-lines.result.now c.in_ok-prepared.prepared.text c.in_ok-prepared.ensures.text c.in-Err.e c.in-Err.ensures)

pub returns-in-Ok-clause-first : goal.returns-in-Ok-clause-first
returns-in-Ok-clause-first c =
    ap first_fault (sym c.lines-lines.ensures.same)
    ∙ sym (ap (λ t. faults_from t nothing_seen 1 c.lines-lines.result.now) c.in_ok-prepared.ensures.text) ∙ c.in_default.ensures
