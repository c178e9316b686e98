-- The table of low sorts: at the start, and one symbol after another.
use Rattle.std.proofs.Common.{◌≡◌, ℕ, zero, suc, ◌+◌, ◌<◌, ◌≤◌, List, [], length, take, replicate, get_or, Bool, false, refl, sym, ap, subst, ◌∙◌}
use Rattle.std.specs.List.{list_any}
use Rattle.std.proofs.lemmas.List.{take_all}
use Rattle.law_sig.specs.WellFormed.{makes_from}
use Rattle.law_sig.specs.declared.tree.SortId.{SortId}
use Rattle.law_sig.specs.declared.parts.Sym.{Sym}
use Rattle.law_typing.specs.Declarations.{is_low}
use Rattle.law_types.specs.Heights.{AreLow, AreMarked}
use Rattle.law_typing.specs.declared.whole.Whole.{Whole}
use Rattle.law_typing.proofs.LowFacts.{low_next, unknown_low}

-- what has no symbols to look at yet
replicate_false : (n k : ℕ) → get_or (replicate n false) k false ≡ false
replicate_false zero k = refl
replicate_false (suc n) zero = refl
replicate_false (suc n) (suc k) = replicate_false n k

replicate_length : (n : ℕ) → length (replicate n false) ≡ n
replicate_length zero = refl
replicate_length (suc n) = ap suc (replicate_length n)

pub starts_marked : (text : Whole) (height : ℕ) → AreMarked text height [] (replicate (length text.sorts) false)
starts_marked text height = record { one_each = replicate_length (length text.sorts); each = λ sort within. replicate_false (length text.sorts) sort.0 }

pub starts_low : (text : Whole) → AreLow text 0 (replicate (length text.sorts) false)
unfolding is_low
starts_low text = record { one_each = replicate_length (length text.sorts); each = λ sort within. replicate_false (length text.sorts) sort.0 }

-- when all symbols were looked at
pub ends_low : (text : Whole) (height : ℕ) (lows : List Bool) → AreMarked text height text.symbols lows → AreLow text (height + 1) lows
ends_low text height lows m = record { one_each = m.one_each; each = λ sort within. m.each sort within ∙ sym (low_next text height sort within) }

pub end_low : (text : Whole) (height : ℕ) (lows : List Bool) (symbols : List Sym) (at : ℕ) → length symbols ≤ at → symbols ≡ text.symbols
    → AreMarked text height (take at symbols) lows → AreLow text (height + 1) lows
end_low text height lows symbols at end is m =
    ends_low text height lows (subst (λ l. AreMarked text height l lows) (take_all at symbols end ∙ is) m)

pub ruleset height_facts = (starts_marked, starts_low, end_low, unknown_low)
