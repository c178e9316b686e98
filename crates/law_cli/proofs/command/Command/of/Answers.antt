use Rattle.std.proofs.Common.{◌≡◌, ◌∷◌, [], length, map, string_bytes, arith, sym, ap, ◌∙◌}
use Rattle.law_cli.proofs.Answered.{named_words}
use Rattle.law_cli.proofs.TopFacts.{one_item}
use Rattle.law_cli.proofs.command.Command.of.Goals as goal

pub returns-in-len1 : goal.returns-in-len1
returns-in-len1 c =
    let one : length c.args.words.now ≡ 1 = omega (arith, c.in-len1.len_at_least, c.in-len1.len_below) in
    named_words c.named.result _ c.as_bytes.result.now (ap (map string_bytes) (one_item c.args.words.now c.word-item.result one c.word-item.is) ∙ ap (λ w. w ∷ []) (sym c.as_bytes.ensures.value)) c.named.ensures
