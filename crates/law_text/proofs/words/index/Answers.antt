use Rattle.std.proofs.Common.{◌^◌, arith, sym, ◌∙◌}
use Rattle.std.proofs.lemmas.Fmt.{decimal_injective}
use Rattle.law_lines.proofs.Numbers.{number_found}
use Rattle.law_text.proofs.words.index.Goals as goal

pub returns-in_default-clause-none : goal.returns-in_default-clause-none
returns-in_default-clause-none c =
    let f = number_found (2 ^ 63) c.in-Some.value c.args.word.now (omega arith) (sym c.in-Some.ensures.value) in
    λ e n small is. let same = decimal_injective c.in-Some.value n (omega arith) (omega arith) (sym f.1 ∙ is) in omega arith
