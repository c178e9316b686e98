-- The first argument of some bytes.
use Rattle.std.specs.Prelude.{ℕ, zero, suc, Bool, true, false, ◌==◌, List, [], ◌∷◌}

-- A space or a closing bracket outside of brackets ends it.
abbrev pub word_by : Bool → Bool → Bool → ℕ → ℕ → List ℕ → List ℕ → List ℕ → List ℕ
word_by true closes space level b deeper higher same = b ∷ deeper
word_by false true space zero b deeper higher same = []
word_by false true space (suc level) b deeper higher same = b ∷ higher
word_by false false true zero b deeper higher same = []
word_by false false true (suc level) b deeper higher same = b ∷ same
word_by false false false level b deeper higher same = b ∷ same

abbrev pub above : ℕ → ℕ
above zero = zero
above (suc level) = level

unfoldable pub word_at : ℕ → List ℕ → List ℕ
word_at level [] = []
word_at level (b ∷ bs) = word_by (b == 40) (b == 41) (b == 32) level b (word_at (suc level) bs) (word_at (above level) bs) (word_at level bs)
