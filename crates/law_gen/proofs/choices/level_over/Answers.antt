use Rattle.std.proofs.Common.{List, ℕ, suc, ◌++◌, ◌∷◌, [], ◌∙◌, sym, ap₂}
use Rattle.law_sig.specs.declared.tree.SymId.{SymId}
use Rattle.law_sig.specs.declared.parts.SigParts.{SigParts}
use Rattle.law_draws.specs.Draws.{choices}
use Rattle.law_draws.proofs.First.{first_more}
use Rattle.law_gen.proofs.choices.level_over.Goals as goal

abbrev level : SigParts → ℕ → ℕ → List SymId
level parts height n = choices parts height (record { 0 = n })

pub loop-sort-preserved : goal.loop-sort-preserved
loop-sort-preserved c height is =
    c.in_ok-push.ensures.ok ∙ ap₂ (λ l x. l ++ x ∷ []) (c.loop-sort.invariant height is) (c.in_ok-choices_over.ensures height is)
    ∙ sym (first_more c.loop-sort.sort (level c.args.sig.now (suc height)))
