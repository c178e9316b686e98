-- Terms of a bank for variables.
use Rattle.std.specs.Prelude.{ℕ, ◌+◌, List, [], ◌∷◌, map, Bool, ◌&&◌, ◌||◌, nat_lt, if◌then◌else◌}
use denote.Bor.{Bor}
use Rattle.law_sig.specs.Lists.{Each, Rising}
use Rattle.law_sig.specs.Trees.{same_sort, Subst}
use Rattle.law_sig.specs.Chains.{StandsBefore, is_bound, bound_in}
use Rattle.law_sig.specs.declared.tree.SortId.{SortId}
use Rattle.law_sig.specs.declared.chain.Bind.{Bind}
use Rattle.law_bank.specs.declared.node.Node.{Node}
use Rattle.law_bank.specs.Terms.{tree_of}
use Rattle.law_bank.specs.Bank.{Terms, IsOf}

-- a variable, by its sort and its index, and the term that is put for it
abbrev pub Binding : Type 0
Binding = SortId × ℕ × Bor Node

abbrev pub bind_of : Binding → Bind
bind_of b = record { sort = b.0; index = b.1; term = tree_of b.2.now }

abbrev pub binds_of : List Binding → List Bind
binds_of bindings = map bind_of bindings

-- the terms are of the bank
abbrev pub AllBound : Terms → List Binding → Type 0
AllBound bank bindings = Each (λ (b : Binding). IsOf bank b.2.now) bindings

-- the substitution that they are; a variable that isn't bound stands for itself
abbrev pub subst_of : List Binding → Subst
subst_of bindings = bound_in (binds_of bindings)

-- the variables stand in order, by sort and then index
abbrev pub AreRising : List Binding → Type 0
AreRising bindings = Rising StandsBefore (binds_of bindings)

-- whether a variable stands before another one
abbrev pub comes_before : SortId → ℕ → SortId → ℕ → Bool
comes_before s i u j = nat_lt s.0 u.0 || (same_sort s u && nat_lt i j)

-- how many bindings stand before the place of a variable
abbrev pub before_count : SortId → ℕ → List Binding → ℕ
before_count s i [] = 0
before_count s i (x ∷ xs) = if comes_before x.0 x.1 s i then 1 + before_count s i xs else 0

-- the bindings with one more, at its place; or in the place of the one that its variable had
abbrev pub with_binding : Binding → List Binding → List Binding
with_binding b [] = b ∷ []
with_binding b (x ∷ xs) =
    if is_bound b.0 b.1 (bind_of x) then b ∷ xs else (if comes_before x.0 x.1 b.0 b.1 then x ∷ with_binding b xs else b ∷ x ∷ xs)
