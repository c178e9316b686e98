use Rattle.std.proofs.Common.{◌≡◌, ◌∷◌, ◌++◌, [], take, drop, sym, ap, ◌∙◌, arith}
use Rattle.law_sig.specs.declared.tree.Tree.TheVariants.{App}
use Rattle.law_ids.specs.Tops.{tops}
use Rattle.law_ids.proofs.Tops.{pushed}
use Rattle.law_ids.proofs.BankFacts.{take_next}
use Rattle.law_value.proofs.WriteFacts.{next_item}
use Rattle.law_value.proofs.bank.join.Goals as goal

pub loop-at-preserved : goal.loop-at-preserved
loop-at-preserved c =
    let old = tops (λ t. t) c.args.done.now.items in
    let found = next_item old c.loop-at._at c.in-Some.field (tops (λ t. t) c.pop.new.self.items) (sym c.loop-at.invariant.1 ∙ pushed (λ t. t) _ _ _ c.in-Some.ensures.items) in
    (c.in_ok-push.ensures.ok ∙ ap (λ l. l ++ c.in-Some.field ∷ []) c.loop-at.invariant.0 ∙ sym (take_next old c.loop-at._at c.in-Some.field found.0), sym found.1)

pub returns : goal.returns
returns c =
    let old = tops (λ t. t) c.args.done.now.items in
    let all : c.loop-at._at ≡ c.args.count = omega arith in
    pushed (λ t. t) _ _ _ c.in-Ok.ensures.items ∙ ap (λ l. App c.args.sym l ∷ tops (λ t. t) c.loop-at.done.items) c.loop-at.invariant.0
    ∙ ap (λ l. App c.args.sym (take c.loop-at._at old) ∷ l) c.loop-at.invariant.1 ∙ ap (λ n. App c.args.sym (take n old) ∷ drop n old) all
