-- The laws of enumeration in the order of exploring.
use Rattle.std.specs.Prelude.{◌≡◌, ◌↔◌, ◌⊎◌, ℕ, ◌-◌, ◌≤◌, List, [], ◌∷◌, ◌++◌, map, Some, IsTrue}
use Rattle.law_sig.specs.Lists.{Each, In, AreDistinct}
use Rattle.law_sig.specs.Trees.{schema_of}
use Rattle.law_sig.specs.Signature.{is_declared_sort, symbol_at, args_of, weight_at}
use Rattle.law_sig.specs.Tests.{weight, is_explored, InU}
use Rattle.law_sig.specs.Order.{IsBefore}
use Rattle.law_sig.specs.Expected.{IsFirstAbove, IsSpent}
use Rattle.law_sig.specs.Schemas.{AreExactly, IsConsidered, IsInstance}
use Rattle.law_sig.specs.WellFormed.{IsWellFormed}
use Rattle.law_sig.specs.declared.tree.SortId.{SortId}
use Rattle.law_sig.specs.declared.tree.SymId.{SymId}
use Rattle.law_sig.specs.declared.tree.Tree.{Tree}
use Rattle.law_sig.specs.declared.tree.Tree.TheVariants.{Var, App}
use Rattle.law_sig.specs.declared.parts.Sym.{Sym}
use Rattle.law_sig.specs.declared.parts.SigParts.{SigParts}
use Rattle.law_listing.specs.Rows.{choices, Lex}
use Rattle.law_listing.specs.Picks.{IsLower, IsRow}
use Rattle.law_listing.specs.Choices.{counts_of, weighing, IsTermOf}
use Rattle.law_listing.specs.Stages.{Here}
use Rattle.law_listing.specs.Columns.{AreColumns, IsOpenOver}
use Rattle.law_listing.specs.Listing.{over_each, considered, variables_of, listing}

-- As lists

-- over the spread schemas by weight and sort, the list of a weight has exactly the considered ones
abbrev pub ConsideredAreListed : Type 0
ConsideredAreListed = (parts : SigParts) (spreads : List Tree) (bound w : ℕ) (items : ℕ → SortId → List Tree) → IsWellFormed parts → Each (λ c. schema_of c ≡ c) spreads
    → AreColumns parts (λ c. In c spreads) bound items → w ≤ bound → w ≤ parts.settings.size
    → AreExactly parts (λ t. IsConsidered parts spreads t × (weight parts t ≡ w)) (considered parts items w)

-- over the live terms of each argument, the choices have exactly the instances of an application
abbrev pub InstancesAreListed : Type 0
InstancesAreListed = (parts : SigParts) (lives : List Tree) (f : SymId) (cs : List Tree) (lists : List (List Tree)) → IsOpenOver parts (λ a. In a lives) f cs lists
    → AreExactly parts (IsInstance parts lives (App f cs)) (over_each f (choices lists))

-- and a sort's variables those of its first one
abbrev pub VariablesAreListed : Type 0
VariablesAreListed = (parts : SigParts) (lives : List Tree) (sort : SortId) → IsTrue (is_declared_sort parts sort) → 1 ≤ parts.settings.size
    → AreExactly parts (IsInstance parts lives (Var sort 0)) (variables_of parts sort)

-- where all is spread and all is live, there is exactly the universe
abbrev pub UniverseIsListed : Type 0
UniverseIsListed = (parts : SigParts) → IsWellFormed parts → AreExactly parts (λ t. (sort : SortId) × InU parts sort t) (listing parts parts.settings.size)

-- By rows of numbers

-- what comes first and next of some things, and that there is none, is told by the same of others that stand for them
pub record AreToldBy {A B : Type 0} (R : A → A → Type 0) (S : B → B → Type 0) (P : A → Type 0) (Q : B → Type 0) (Of : A → B → Type 0) : Type 0 where
  pub stands : (a : A) (x : B) → P a → Of a x → Q x
  pub none : IsSpent R P [] → IsSpent S Q []
  pub first : (a : A) (x : B) → Of a x → IsFirstAbove R P [] a → IsFirstAbove S Q [] x
  pub last : (a : A) (x : B) → P a → Of a x → IsSpent R P (a ∷ []) → IsSpent S Q (x ∷ [])
  pub next : (a b : A) (x y : B) → P a → Of a x → Of b y → IsFirstAbove R P (a ∷ []) b → IsFirstAbove S Q (x ∷ []) y

-- the considered applications of a symbol, of one weight
abbrev pub RowsTellSchemas : Type 0
RowsTellSchemas = (parts : SigParts) (spreads : List Tree) (bound w : ℕ) (columns : SortId → List (List Tree)) (f : SymId) (symbol : Sym) → IsWellFormed parts
    → Each (λ c. schema_of c ≡ c) spreads → AreColumns parts (λ c. In c spreads) bound (λ k s. weighing k (columns s)) → w ≤ bound → w ≤ parts.settings.size
    → symbol_at parts f ≡ Some symbol → IsTrue (is_explored parts f) → weight_at parts f ≤ w
    → AreToldBy (Lex IsLower) (IsBefore parts) (IsRow (counts_of (map columns (args_of symbol))) (w - weight_at parts f)) (Here parts (IsConsidered parts spreads) w 1 f.0)
    (IsTermOf (map columns (args_of symbol)) f)

-- the instances of an application
abbrev pub RowsTellInstances : Type 0
RowsTellInstances = (parts : SigParts) (lives : List Tree) (f : SymId) (cs : List Tree) (lists : List (List Tree)) → IsOpenOver parts (λ a. In a lives) f cs lists
    → AreToldBy (Lex IsLower) (IsBefore parts) (IsRow (counts_of (map (λ l. l ∷ []) lists)) 0) (IsInstance parts lives (App f cs)) (IsTermOf (map (λ l. l ∷ []) lists) f)

-- In the words of what is expected

-- in a list of exactly the terms with a property, none stands twice, each is expected behind those before it, and behind all of them
-- none is
pub record IsExpectedBy (parts : SigParts) (P : Tree → Type 0) : Type 0 where
  pub once : (ts : List Tree) → AreExactly parts P ts → AreDistinct ts
  pub next : (before : List Tree) (t : Tree) (after : List Tree) → AreExactly parts P (before ++ t ∷ after) → IsFirstAbove (IsBefore parts) P before t
  pub none : (ts : List Tree) → AreExactly parts P ts → IsSpent (IsBefore parts) P ts

-- what is spread later than a schema, or is it, doesn't matter to whether it is considered
abbrev pub LaterSpreadsDontMatter : Type 0
LaterSpreadsDontMatter = (parts : SigParts) → IsWellFormed parts → (known late : List Tree) (c : Tree) → Each (λ d. (c ≡ d) ⊎ IsBefore parts c d) late
    → IsConsidered parts (known ++ late) c ↔ IsConsidered parts known c

-- and what is live later than an instance, or is it, doesn't matter to whether it is one
abbrev pub LaterLivesDontMatter : Type 0
LaterLivesDontMatter = (parts : SigParts) → IsWellFormed parts → (c : Tree) (known late : List Tree) (t : Tree) → Each (λ d. (t ≡ d) ⊎ IsBefore parts t d) late
    → IsInstance parts (known ++ late) c t ↔ IsInstance parts known c t
