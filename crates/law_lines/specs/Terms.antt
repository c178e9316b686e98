-- Which written terms the grammar spells.
use Rattle.std.specs.Prelude.{ℕ, ◌+◌, ◌^◌, Bool, true, false, ◌&&◌, nat_lt, nat_le, List, [], ◌∷◌, length, sum, IsTrue}
use Rattle.std.specs.List.{list_all}
use Rattle.law_lines.specs.Words.{is_word_of_letters}
use Rattle.law_lines.specs.declared.want.Bounds.{Bounds}
use Rattle.law_lines.specs.declared.want.Bounds.TheVariants.{Kept, Free}
use Rattle.law_lines.specs.declared.want.Place.{Place}
use Rattle.law_lines.specs.declared.want.Place.TheVariants.{Equation, Body}
use Rattle.law_lines.specs.declared.raw.RawHead.{RawHead}
use Rattle.law_lines.specs.declared.raw.RawHead.TheVariants.{Name, Var, Param, Field}
use Rattle.law_lines.specs.declared.raw.RawTerm.{RawTerm}
use Rattle.law_lines.specs.declared.raw.RawTerm.TheOpen.{RawTerm-F}
use Rattle.law_lines.specs.declared.raw.RawTerm.TheFolds.{fold-RawTerm}

-- The bounds on what a text may hold are: 32 bytes of a name, 8 arguments of a symbol, 4,096 nodes
-- of a written term, and 256 levels of its depth. `Free` is the grammar without them.
abbrev pub within : Bounds → ℕ → ℕ → Bool
within Kept most n = nat_le n most
within Free most n = true

-- a letter, then letters, digits and `_`, no longer than the bound
abbrev pub is_name_in : Bounds → List ℕ → Bool
is_name_in bounds word = is_word_of_letters word && within bounds 32 (length word)

-- Names stand everywhere. A variable stands in equations alone, a parameter and a field in bodies
-- alone, and none of these has arguments.
abbrev pub head_fits : Bounds → Place → RawHead → Bool → Bool
head_fits bounds place (Name name) alone = is_name_in bounds name
head_fits bounds Equation (Var sort index) true = is_name_in bounds sort && nat_lt index (2 ^ 32)
head_fits bounds Body (Param number) true = nat_lt number (2 ^ 32)
head_fits bounds Body (Field number) true = nat_lt number (2 ^ 32)
head_fits bounds place head alone = false

abbrev pub is_empty : {A : Type 0} → List A → Bool
is_empty [] = true
is_empty (x ∷ xs) = false

-- whether each node fits, by its head and the number of its arguments
abbrev pub node_fits : Bounds → Place → RawTerm-F Bool → Bool
node_fits bounds place term =
    head_fits bounds place term.head (is_empty term.args) && (within bounds 8 (length term.args) && list_all (λ fits. fits) term.args)

abbrev pub nodes_fit : Bounds → Place → RawTerm → Bool
nodes_fit bounds place = fold-RawTerm Bool (node_fits bounds place)

abbrev pub node_count : RawTerm → ℕ
node_count = fold-RawTerm ℕ (λ term. 1 + sum term.args)

abbrev pub larger : Bool → ℕ → ℕ → ℕ
larger true m n = n
larger false m n = m

abbrev pub largest : List ℕ → ℕ
largest [] = 0
largest (n ∷ ns) = larger (nat_le n (largest ns)) n (largest ns)

abbrev pub depth : RawTerm → ℕ
depth = fold-RawTerm ℕ (λ term. 1 + largest term.args)

-- The grammar spells the term: each node fits, and the whole keeps the bounds on nodes and depth.
pub record IsTerm (bounds : Bounds) (place : Place) (term : RawTerm) : Type 0 where
  pub nodes : IsTrue (nodes_fit bounds place term)
  pub size : IsTrue (within bounds 4096 (node_count term))
  pub deep : IsTrue (within bounds 256 (depth term))
