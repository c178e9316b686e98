-- The pools of a seed: which value the words of the generator choose, in which order.
use Rattle.std.specs.Prelude.{ℕ, zero, suc, ◌%◌, List, [], ◌∷◌, length, Bool, true, false, Option, Some, None, slice_index_or}
use Rattle.std.specs.List.{list_all, filter}
use Rattle.rand_pcg.specs.Lcg.{Lcg, started, increment_of}
use Rattle.rand_pcg.specs.Pcg.{pcg32, multiplier_64}
use Rattle.law_sig.specs.Signature.{symbol_at, args_of, constructors, width_at}
use Rattle.law_sig.specs.WellFormed.{is_within_height}
use Rattle.law_sig.specs.Tests.{first_of, Pools}
use Rattle.law_sig.specs.declared.tree.SortId.{SortId}
use Rattle.law_sig.specs.declared.tree.SymId.{SymId}
use Rattle.law_sig.specs.declared.tree.Tree.{Tree}
use Rattle.law_sig.specs.declared.tree.Tree.TheVariants.{App}
use Rattle.law_sig.specs.declared.parts.Sym.{Sym}
use Rattle.law_sig.specs.declared.parts.PoolRule.{PoolRule}
use Rattle.law_sig.specs.declared.parts.PoolRule.TheVariants as rule
use Rattle.law_sig.specs.declared.parts.SigParts.{SigParts}

-- the sorts of a symbol's fields
abbrev pub sorts_in : Option Sym → List SortId
sorts_in None = []
sorts_in (Some symbol) = args_of symbol

-- whether a constructor has a value of at most 1 more than this height: whether each of its fields has one of at most this
abbrev pub fits_over : SigParts → ℕ → SymId → Bool
fits_over parts height f = list_all (is_within_height parts height) (sorts_in (symbol_at parts f))

-- the constructors of a sort whose least height is at most this number, in order of number
abbrev pub choices : SigParts → ℕ → SortId → List SymId
choices parts zero sort = []
choices parts (suc n) sort = filter (fits_over parts n) (constructors parts sort)

-- what stands where there is no constructor to choose, which is never asked
abbrev pub no_symbol : SymId
no_symbol = record { 0 = 0 }

-- the constructor that a word chooses
abbrev pub chosen : List SymId → ℕ → SymId
chosen among word = slice_index_or among (word % length among) no_symbol

-- what was drawn, and the generator after it
pub record Drawn (A : Type 0) : Type 0 where
  pub made : A
  pub after : Lcg

-- one for each item from left to right, each drawn from the generator that the one before it left
abbrev pub in_turn : {A B : Type 0} → (A → Lcg → Drawn B) → List A → Lcg → Drawn (List B)
in_turn draw [] g = record { made = []; after = g }
in_turn draw (x ∷ xs) g =
    let first = draw x g in
    let others = in_turn draw xs first.after in
    record { made = first.made ∷ others.made; after = others.after }

-- a value of a sort with a height left: one word is taken, also where there is only one choice, and chooses the
-- constructor; then its fields are drawn, each with one less
abbrev pub value_drawn : SigParts → ℕ → SortId → Lcg → Drawn Tree
value_drawn parts zero sort g = record { made = App no_symbol []; after = g }
value_drawn parts (suc n) sort g =
    let (word, after) = pcg32 g in
    let f = chosen (choices parts (suc n) sort) word in
    let fields = in_turn (value_drawn parts n) (sorts_in (symbol_at parts f)) after in
    record { made = App f fields.made; after = fields.after }

-- the values of a sort in a pool, one for each place
abbrev pub values_drawn : SigParts → ℕ → SortId → Lcg → Drawn (List Tree)
values_drawn parts height sort = in_turn (value_drawn parts height) (first_of (width_at parts sort) (λ place. sort))

abbrev pub sorts_of : SigParts → List SortId
sorts_of parts = first_of (length parts.sort_names) (λ n. record { 0 = n })

-- a pool: the values of each sort, in order
abbrev pub pool_drawn : SigParts → ℕ → Lcg → Drawn (List (List Tree))
pool_drawn parts height = in_turn (values_drawn parts height) (sorts_of parts)

-- one pool after the other
abbrev pub pools_drawn : SigParts → ℕ → ℕ → Lcg → Drawn Pools
pools_drawn parts height count = in_turn (λ (number : ℕ). pool_drawn parts height) (first_of count (λ number. number))

-- the generator of a seed
abbrev pub generator_of : ℕ → Lcg
generator_of seed = started 64 multiplier_64 seed (increment_of 64 0)

-- the pools of a signature's seed, and whether it has one
abbrev pub is_seeded : PoolRule → Bool
is_seeded (rule.Given values) = false
is_seeded (rule.Seeded seed height count) = true

abbrev pub seeded_by : SigParts → PoolRule → Pools
seeded_by parts (rule.Given values) = []
seeded_by parts (rule.Seeded seed height count) = (pools_drawn parts height count (generator_of seed)).made

abbrev pub seeded_pools : SigParts → Pools
seeded_pools parts = seeded_by parts parts.settings.pools

-- the pools of a signature: those that it gives, or those of its seed
abbrev pub pools_from : SigParts → PoolRule → Pools
pools_from parts (rule.Given values) = values
pools_from parts (rule.Seeded seed height count) = seeded_by parts (rule.Seeded seed height count)

abbrev pub pools_by : SigParts → Pools
pools_by parts = pools_from parts parts.settings.pools
