-- Single steps of the walk.
use Rattle.std.proofs.Common.{◌≡◌, ℕ, true, false, ◌&&◌, List, [], ◌∷◌, Some, None, refl, ap, ◌∙◌}
use Rattle.law_lines.specs.Pieces.{Piece, pieces}
use Rattle.law_lines.specs.Pieces.Piece.{space, opening, closing}
use Rattle.law_lines.specs.declared.error.ReadKind.TheVariants as k
use Rattle.law_lines.specs.declared.want.Bounds.{Bounds}
use Rattle.law_lines.specs.declared.want.Bounds.TheVariants.{Kept}
use Rattle.law_lines.specs.declared.want.Want.{Want}
use Rattle.law_lines.specs.declared.want.Want.TheVariants as w
use Rattle.law_lines.specs.Walk.{walk, walk_in, takes, moved, kind_at, may_end, ends, end_fault, step, is_word_want}

pub stuck_end : (nodes : ℕ) (want : Want) (left : List ℕ) → may_end want ≡ false → left ≡ [] → (rest : List Want) → walk nodes (want ∷ rest) (pieces left) ≡ Some k.Missing
unfolding walk_in
stuck_end nodes want left no_end e rest = ap (λ l. walk nodes (want ∷ rest) (pieces l)) e ∙ ap (λ b. end_fault (b && ends rest)) no_end

pub stuck : (nodes : ℕ) (want : Want) (old new : List ℕ) (piece : Piece) → pieces old ≡ piece ∷ pieces new → takes Kept nodes want piece ≡ false
    → (rest : List Want) → walk nodes (want ∷ rest) (pieces old) ≡ Some (kind_at nodes want piece)
unfolding walk_in
stuck nodes want old new piece e t rest =
    ap (λ ps. walk nodes (want ∷ rest) ps) e
    ∙ ap (λ b. step b (kind_at nodes want piece) (walk (moved nodes want rest piece).nodes (moved nodes want rest piece).wants (pieces new))) t

pub goes_on : (nodes : ℕ) (want : Want) (old new : List ℕ) (piece : Piece) → pieces old ≡ piece ∷ pieces new → takes Kept nodes want piece ≡ true
    → (rest : List Want) → walk nodes (want ∷ rest) (pieces old) ≡ walk (moved nodes want rest piece).nodes (moved nodes want rest piece).wants (pieces new)
unfolding walk_in
goes_on nodes want old new piece e t rest =
    ap (λ ps. walk nodes (want ∷ rest) ps) e
    ∙ ap (λ b. step b (kind_at nodes want piece) (walk (moved nodes want rest piece).nodes (moved nodes want rest piece).wants (pieces new))) t

pub past_end : (nodes : ℕ) (old new : List ℕ) (piece : Piece) → pieces old ≡ piece ∷ pieces new → walk nodes [] (pieces old) ≡ Some k.Word
unfolding walk_in
past_end nodes old new piece e = ap (λ ps. walk nodes [] ps) e

-- what the end of the line says, whatever is wanted
pub walk_nil : (bounds : Bounds) (nodes : ℕ) (wants : List Want) → walk_in bounds nodes wants [] ≡ end_fault (ends wants)
unfolding walk_in
walk_nil bounds nodes [] = refl
walk_nil bounds nodes (want ∷ wants) = refl

pub at_end : (nodes : ℕ) (left : List ℕ) → left ≡ [] → walk nodes [] (pieces left) ≡ None
unfolding walk_in
at_end nodes left e = ap (λ l. walk nodes [] (pieces l)) e

pub ruleset steps = (stuck_end, stuck, goes_on, past_end, at_end)

-- a space or a bracket isn't taken where a word alone may come, nor the end
pub no_space : (nodes : ℕ) (want : Want) → is_word_want want ≡ true → takes Kept nodes want space ≡ true → ⊥
no_space nodes (w.Key stage) h t = absurd cc
no_space nodes w.Version h t = absurd cc
no_space nodes w.Pools h t = absurd cc
no_space nodes w.Gap h t = absurd cc
no_space nodes (w.Fixed mark) h t = absurd cc
no_space nodes w.Number h t = absurd cc
no_space nodes w.Name h t = absurd cc
no_space nodes w.Head h t = absurd cc
no_space nodes (w.Root place ending) h t = absurd cc
no_space nodes (w.Row row depth count ending) h t = absurd cc
no_space nodes (w.Item row depth count ending) h t = absurd cc

pub no_opening : (nodes : ℕ) (want : Want) → is_word_want want ≡ true → takes Kept nodes want opening ≡ true → ⊥
no_opening nodes (w.Item row depth count ending) h t = absurd cc
no_opening nodes want h t = absurd cc

pub no_closing : (nodes : ℕ) (want : Want) → is_word_want want ≡ true → takes Kept nodes want closing ≡ true → ⊥
no_closing nodes (w.Row row depth count ending) h t = absurd cc
no_closing nodes want h t = absurd cc

pub no_end : (want : Want) → is_word_want want ≡ true → may_end want ≡ true → ⊥
no_end (w.Row row depth count ending) h t = absurd cc
no_end want h t = absurd cc

pub ruleset words = (no_space, no_opening, no_closing, no_end)
