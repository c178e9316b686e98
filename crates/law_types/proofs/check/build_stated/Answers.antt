use Rattle.std.proofs.Common.{sym, ap, subst, ◌∙◌}
use Rattle.law_sig.specs.WellFormed.{IsWellFormed}
use Rattle.law_typing.specs.Stated.{stated}
use Rattle.law_typing.specs.Typed.{IsTypedAs}
use Rattle.law_typing.proofs.TextSound.{sound}
use Rattle.law_types.proofs.check.build_stated.Goals as goal

pub build-requires : goal.build-requires
build-requires c =
    let lines = c.args.lines.now in
    subst IsWellFormed (sym (c.in_ok-parts.ensures ∙ ap (λ t. stated t lines) c.requires.text)) (sound lines c.requires.raw c.requires.passed).well_formed

pub returns : goal.returns
returns c =
    let lines = c.args.lines.now in
    subst (IsTypedAs lines) (sym (c.in_ok-build.ensures ∙ c.in_ok-parts.ensures ∙ ap (λ t. stated t lines) c.requires.text)) (sound lines c.requires.raw c.requires.passed)
