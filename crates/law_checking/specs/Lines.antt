-- The lines of trees, read from left to right.
use Rattle.std.specs.Prelude.{ℕ, zero, suc, ◌+◌, ◌<◌, List, [], ◌∷◌, ◌++◌, map, Bool, true, false, if◌then◌else◌}
use Rattle.law_sig.specs.Trees.{joined}
use Rattle.law_sig.specs.declared.tree.Tree.{Tree}
use Rattle.law_cert_text.specs.declared.cert.TreeLine.{TreeLine}
use Rattle.law_cert_text.specs.declared.cert.TreeLine.TheVariants.{Split, Class, Leaf}
use Rattle.law_valid.specs.declared.rule.Rule.TheVariants as r
use Rattle.law_valid.specs.Judged.{Judging}
use Rattle.law_checking.specs.declared.part.Part.{Part}
use Rattle.law_checking.specs.declared.part.Part.TheVariants.{Schemas, Leaves, Tests}

-- how many trees stand below a line
abbrev pub arity : TreeLine → ℕ
arity (Split test count) = count
arity (Class numbers) = 1
arity (Leaf number) = 0

-- a split has a child
abbrev pub HasKid : TreeLine → Type 0
HasKid (Split test count) = 0 < count
HasKid line = Unit {0}

-- the lines of the first so many trees, and the lines behind them
abbrev pub taken : ℕ → List TreeLine → List TreeLine
taken zero lines = []
taken (suc n) [] = []
taken (suc n) (line ∷ lines) = line ∷ taken (n + arity line) lines

abbrev pub behind : ℕ → List TreeLine → List TreeLine
behind zero lines = lines
behind (suc n) [] = []
behind (suc n) (line ∷ lines) = behind (n + arity line) lines

-- the numbers that a part of a line has: the schemas of a class, the term of a leaf, the test of a split
abbrev pub part_of : Part → TreeLine → List ℕ
part_of Schemas (Class numbers) = numbers
part_of Leaves (Leaf number) = number ∷ []
part_of Tests (Split test count) = test ∷ []
part_of part line = []

abbrev pub parts_of : Part → List TreeLine → List ℕ
parts_of part lines = joined (map (part_of part) lines)

-- the numbers in each of the first so many trees
abbrev pub kids_of : Part → ℕ → List TreeLine → List (List ℕ)
kids_of part zero lines = []
kids_of part (suc n) [] = []
kids_of part (suc n) (line ∷ lines) = parts_of part (taken 1 (line ∷ lines)) ∷ kids_of part n (behind 1 (line ∷ lines))

-- whether the first line that isn't a split is a class: a split before it stands above classes
abbrev pub is_upper : List TreeLine → Bool
is_upper [] = false
is_upper (Split test count ∷ lines) = is_upper lines
is_upper (Class numbers ∷ lines) = true
is_upper (Leaf number ∷ lines) = false

-- what is said of each line with those behind it, one line after another
abbrev pub along : {A : Type 0} → (TreeLine → List TreeLine → List A) → List TreeLine → List A
along f [] = []
along f (line ∷ lines) = f line lines ++ along f lines

-- the tests of the splits above classes
abbrev pub upper_at : TreeLine → List TreeLine → List ℕ
upper_at (Split test count) lines = if is_upper lines then test ∷ [] else []
upper_at line lines = []

abbrev pub upper_tests : List TreeLine → List ℕ
upper_tests = along upper_at

-- a class: its schemas, and the numbers and the tests in the tree behind it
pub record Held : Type 0 where
  pub schemas : List ℕ
  pub leaves : List ℕ
  pub tests : List ℕ

abbrev pub held_at : TreeLine → List TreeLine → List Held
held_at (Class numbers) lines = record { schemas = numbers; leaves = parts_of Leaves (taken 1 lines); tests = parts_of Tests (taken 1 lines) } ∷ []
held_at line lines = []

abbrev pub held_in : List TreeLine → List Held
held_in = along held_at

-- a split, as it is judged by its level
abbrev pub judging : List Tree → List Tree → ℕ → ℕ → List TreeLine → Bool → Judging
judging spreads lives test count lines true = record { rule = r.V8; terms = spreads; cut = record { test = test; kids = kids_of Schemas count lines } }
judging spreads lives test count lines false = record { rule = r.V9; terms = lives; cut = record { test = test; kids = kids_of Leaves count lines } }

abbrev pub judging_at : List Tree → List Tree → TreeLine → List TreeLine → List Judging
judging_at spreads lives (Split test count) lines = judging spreads lives test count lines (is_upper lines) ∷ []
judging_at spreads lives line lines = []

abbrev pub judgings : List Tree → List Tree → List TreeLine → List Judging
judgings spreads lives = along (judging_at spreads lives)
