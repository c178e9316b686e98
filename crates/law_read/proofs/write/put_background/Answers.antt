use Rattle.std.proofs.Common.{rules, codes}
use Rattle.law_lines.specs.Spelling.{term_words}
use Rattle.law_lines.proofs.Spaced.{equation_put}
use Rattle.law_read.proofs.write.put_background.Goals as goal

pub returns : goal.returns
returns c =
    equation_put c.put_words-2.result c.args.out.now (codes "background") c.push_slice.new.self c.put_words.new.out c.put_word.new.out c.put_words-2.new.out
    (term_words c.args.left.now) (term_words c.args.right.now) (search rules) (search rules) (search rules) (search rules)
