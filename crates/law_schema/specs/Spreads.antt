-- Spread schemas with their live terms, by number.
use Rattle.std.specs.Prelude.{◌≡◌, ℕ, List, [], ◌∷◌, ◌++◌, length, map, Option, Some, None, slice_get}
use Rattle.std.specs.List.{flat_map}
use denote.Bor.{Bor}
use Rattle.law_sig.specs.declared.tree.Tree.{Tree}
use Rattle.law_bank.specs.declared.node.Node.{Node}
use Rattle.law_bank.specs.Terms.{trees_of}
use Rattle.law_listing.specs.declared.pick.Pick.{Pick}
use Rattle.law_schema.specs.declared.stock.Spread.{Spread}
use Rattle.law_schema.specs.Columns.{present}

-- the schemas, and all live terms, in order
abbrev pub schema_terms : List Spread → List (Bor Node)
schema_terms spreads = map (λ (s : Spread). s.schema) spreads

abbrev pub live_terms : List Spread → List (Bor Node)
live_terms spreads = flat_map (λ (s : Spread). s.lives) spreads

abbrev pub schema_trees : List Spread → List Tree
schema_trees spreads = trees_of (schema_terms spreads)

abbrev pub live_trees : List Spread → List Tree
live_trees spreads = trees_of (live_terms spreads)

-- the live terms of the schema with a number
abbrev pub lives_in : Option Spread → List (Bor Node)
lives_in None = []
lives_in (Some spread) = spread.lives

abbrev pub lives_at : List Spread → ℕ → List (Bor Node)
lives_at spreads number = lives_in (slice_get spreads number)

-- what a row picks from those of the schemas with these numbers
abbrev pub live_row : List Spread → List ℕ → List Pick → List (Bor Node)
live_row spreads [] row = []
live_row spreads (n ∷ numbers) [] = []
live_row spreads (n ∷ numbers) (p ∷ row) = present (slice_get (lives_at spreads n) p.at) ++ live_row spreads numbers row

-- their trees, and how many there are
abbrev pub live_lists : List Spread → List ℕ → List (List Tree)
live_lists spreads numbers = map (λ n. trees_of (lives_at spreads n)) numbers

abbrev pub live_counts : List Spread → List ℕ → List (List ℕ)
live_counts spreads numbers = map (λ n. length (lives_at spreads n) ∷ []) numbers

-- one list for each, all of one weight
abbrev pub alone : List (List Tree) → List (List (List Tree))
alone lists = map (λ l. l ∷ []) lists

-- the schemas with these numbers
abbrev pub AreNumbered : List Tree → List ℕ → List Tree → Type 0
AreNumbered schemas [] [] = Unit {0}
AreNumbered schemas [] (c ∷ cs) = ⊥
AreNumbered schemas (n ∷ numbers) [] = ⊥
AreNumbered schemas (n ∷ numbers) (c ∷ cs) = (slice_get schemas n ≡ Some c) × AreNumbered schemas numbers cs
