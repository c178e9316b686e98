use Rattle.std.proofs.Common.{ℕ, get_or, arith, nat_lt, false, ap, ◌≡◌, ◌∙◌}
use Rattle.std.specs.Option.{unwrap_or}
use Rattle.std.proofs.lemmas.Option.{unwrap_or-slice_get}
use Rattle.law_sig.specs.declared.parts.Settings.{Settings}
use Rattle.law_agenda.proofs.universe.is_variable.Goals as goal

-- nothing is below 0
never_below : (n m : ℕ) → 0 ≡ m → false ≡ nat_lt n m
never_below n m e = grind arith

pub returns-in-None : goal.returns-in-None
returns-in-None c =
    never_below c.args.index _ (ap (λ o. unwrap_or o 0) c.in-None.ensures.value ∙ unwrap_or-slice_get c.settings.result.now.vars c.args.sort.0 0
    ∙ ap (λ (s : Settings). get_or s.vars c.args.sort.0 0) c.settings.ensures.settings)
