use Rattle.std.proofs.Common.{List, ℕ, ◌++◌, ◌∷◌, [], ◌∙◌, sym, ap₂}
use Rattle.law_sig.specs.declared.tree.SymId.{SymId}
use Rattle.law_draws.proofs.First.{first_more}
use Rattle.law_gen.proofs.choices.no_choices.Goals as goal

abbrev none : ℕ → List SymId
none n = []

pub loop-preserved : goal.loop-preserved
loop-preserved c = c.in_ok-push.ensures.ok ∙ ap₂ (λ l x. l ++ x ∷ []) c.loop.invariant c.new.ensures ∙ sym (first_more c.loop.counter none)
