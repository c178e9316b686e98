use Rattle.std.proofs.Common.{◌∙◌, ap, take, drop, arith}
use Rattle.law_lines.proofs.FirstPieces.{first_word}
use Rattle.law_text.proofs.split.first_piece.Goals as goal

pub returns-else-first-eq41 : goal.returns-else-first-eq41
returns-else-first-eq41 c =
    let bs = c.args.bytes.now in
    let n = c.word_len.ensures.length in
    first_word bs c.split_at.result.0.now c.split_at.result.1.now (omega arith) c.if-first-eq32.false c.if-first-eq40.false c.if-first-eq41.false
    (c.split_at.ensures.front ∙ ap (λ k. take k bs) n) (c.split_at.ensures.back ∙ ap (λ k. drop k bs) n)
