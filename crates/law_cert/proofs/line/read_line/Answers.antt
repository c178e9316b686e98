use Rattle.std.proofs.Common.{◌++◌, ap, sym, ◌∙◌}
use Rattle.law_cert_text.proofs.TailFacts.{key_is, no_key, whole_ok}
use Rattle.law_cert.proofs.line.read_line.Goals as goal

pub tail-requires : goal.tail-requires
tail-requires c =
    c.first_word.ensures.text ∙ ap (λ l. l ++ c.first_word.result.1.now) (key_is c.first_word.result.0.now c.in-Some.key (sym c.in-Some.ensures))

pub returns-in-None : goal.returns-in-None
returns-in-None c = no_key c.args.bytes.now c.first_word.result.0.now c.first_word.result.1.now c.first_word.ensures (sym c.in-None.ensures)

pub returns-in-Some : goal.returns-in-Some
returns-in-Some c =
    whole_ok c.tail.result c.args.bytes.now c.first_word.result.0.now c.first_word.result.1.now c.in-Some.key c.first_word.ensures (sym c.in-Some.ensures) c.tail.ensures
